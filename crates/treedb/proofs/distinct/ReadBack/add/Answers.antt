use Rattle.std.proofs.Common.{◌≡◌, ◌≤◌, ◌+◌, ◌*◌, ◌++◌, ◌∷◌, [], ℕ, List, length, take, drop, refl, sym, ap, ◌∙◌, subst, arith}
use Rattle.std.proofs.lemmas.List.{with_items_is}
use Rattle.std.specs.List.{range_with_len}
use Rattle.trace_csv.specs.Vectors.{vectors_of}
use Rattle.treedb.proofs.ReadBackLemmas.{counted-push, room-there, vectors-push, written-length}
use Rattle.treedb.proofs.distinct.ReadBack.add.Goals as goal

pub returns-clause-room : goal.returns-clause-room
returns-clause-room g c =
    let back = c.args.self.now in
    let written = c.read_at.ensures.written in
    let flat = c.deref_mut.ensures.value in
    let n : c.len-number.result ≡ length back.order.items = omega (arith, c.len-number.ensures) in
    let inside = room-there c.len-number.result (length back.order.items) back.slots (length back.flat.items) n c.requires.room.flat in
    let long = subst (λ (x : List ℕ). c.len-number.result * back.slots + back.slots ≤ length x) (sym flat) inside in
    let same : length c.read_at.new.flat ≡ length back.flat.items = ap (λ (x : List ℕ). length x) written.3
    ∙ written-length (c.len-number.result * back.slots) back.slots c.deref_mut.result.now written.0 long written.1 ∙ ap (λ (x : List ℕ). length x) flat in
    record {
      slots = refl;
      flat = ap (λ (x : List ℕ). length x) (with_items_is back.flat c.read_at.new.flat (omega (arith, same))) ∙ same;
      order = omega (arith, c.in-Ok.ensures.capacity);
    }

pub returns-clause-counted : goal.returns-clause-counted
returns-clause-counted g c =
    let order = c.args.self.now.order.items in
    let n : c.len-number.result ≡ length order = omega (arith, c.len-number.ensures) in
    subst (λ (x : List ℕ). x ≡ range_with_len 0 (length x)) (sym c.in-Ok.ensures.items) (counted-push order c.len-number.result c.requires.counted n)

pub returns-clause-vector : goal.returns-clause-vector
returns-clause-vector g c =
    let back = c.args.self.now in
    let written = c.read_at.ensures.written in
    let flat = c.deref_mut.ensures.value in
    let number = c.len-number.result in
    let n : number ≡ length back.order.items = omega (arith, c.len-number.ensures) in
    let long = room-there number (length back.order.items) back.slots (length back.flat.items) n c.requires.room.flat in
    let inside : number * back.slots ≤ length back.flat.items = omega (arith, long) in
    let spread = subst (λ (x : List ℕ). number * back.slots + back.slots ≤ length x) (sym flat) long in
    let same : length c.read_at.new.flat ≡ length back.flat.items = ap (λ (x : List ℕ). length x) written.3
    ∙ written-length (number * back.slots) back.slots c.deref_mut.result.now written.0 spread written.1 ∙ ap (λ (x : List ℕ). length x) flat in (
      written.0,
      written.2,
      ap (λ (x : List ℕ). vectors_of back.slots x c.push.new.self.items) (with_items_is back.flat c.read_at.new.flat (omega (arith, same)))
          ∙ (λ i. vectors_of back.slots (written.3 i) (c.in-Ok.ensures.items i))
          ∙ ap (λ (x : List ℕ). vectors_of back.slots (take (number * back.slots) x ++ (written.0 ++ drop (number * back.slots + back.slots) x)) (back.order.items ++ number ∷ [])) flat
          ∙ vectors-push back.slots number (number * back.slots) back.flat.items back.order.items written.0 (drop (number * back.slots + back.slots) back.flat.items) c.requires.counted n refl inside written.1,
    )
