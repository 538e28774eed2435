use Rattle.std.proofs.Common.{◌≡◌, ◌≤◌, ◌+◌, ◌*◌, ◌∙◌, ℕ, List, length, sym, ap, subst, arith}
use Rattle.std.specs.Prelude.{All}
use Rattle.std.proofs.lemmas.List.Sorted.{All-permutation}
use Rattle.tdb_base.specs.History.{Vector}
use Rattle.std.proofs.lemmas.List.Sorted.{IsPermutation-map}
use Rattle.std.specs.List.Sorted.{IsPermutation, IsSorted}
use Rattle.trace_csv.specs.Vectors.{vector_at, vectors_of}
use Rattle.treedb.specs.Listing.{form_order}
use Rattle.treedb.proofs.OrderLemmas.{sorted-keys}
use Rattle.treedb.specs.ReadBack.{vectors}
use Rattle.treedb.proofs.ReadBackLemmas.{range-there}
use Rattle.treedb.proofs.distinct.ReadBack.fill.Goals as goal

pub returns : goal.returns
returns g c =
    let before = c.add_all.new.self in
    let after = c.sort.new.self in
    let told = c.sort.ensures in
    let items : after.flat.items ≡ before.flat.items = (λ i. (told.flat i).items) in
    let n = length before.order.items in
    let room : n * before.slots ≤ length before.flat.items =
    (let same : n * before.slots ≡ (n + 0) * before.slots = ap (λ (x : ℕ). x * before.slots) (omega arith) in omega (arith, same, c.add_all.ensures.room.flat)) in
    let counted = subst (λ (xs : List ℕ). All (λ number. (number + 1) * before.slots ≤ length before.flat.items) xs) (sym c.add_all.ensures.counted)
    (range-there before.slots (length before.flat.items) n room) in
    let moved = All-permutation (λ (number : ℕ). (number + 1) * before.slots ≤ length before.flat.items) before.order.items after.order.items told.permutation counted in
    let same : vectors_of before.slots before.flat.items after.order.items ≡ vectors after = λ i. vectors_of (sym told.slots i) (sym items i) after.order.items in
    record {
      are_there = record {
        least = omega (arith, told.slots, c.add_all.ensures.slots, c.requires.room.slots_are, c.requires.room.range.0);
        there = subst (λ (s : ℕ). All (λ number. (number + 1) * s ≤ length after.flat.items) after.order.items) (sym told.slots)
            (subst (λ (xs : List ℕ). All (λ number. (number + 1) * before.slots ≤ length xs) after.order.items) (sym items) moved);
      };
      slots_are = told.slots ∙ c.add_all.ensures.slots ∙ c.requires.room.slots_are;
      read = vectors before;
      names = c.add_all.ensures.names;
      moved = subst (λ (x : List Vector). IsPermutation (vectors before) x) same
          (IsPermutation-map (vector_at before.slots before.flat.items) before.order.items after.order.items told.permutation);
      order = subst (λ (x : List Vector). IsSorted (form_order c.args.form) x) same
          (sorted-keys (form_order c.args.form) (vector_at before.slots before.flat.items) after.order.items told.sorted);
    }
