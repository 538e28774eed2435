use Rattle.std.proofs.Common.{arith, refl, subst, ap, ◌≡◌, ◌+◌, ◌*◌, ◌^◌, ◌<◌, ℕ}
use Rattle.packed_word.specs.Word.{pair_of}
use Rattle.packed_word.proofs.Parts.{pair_below}
use Rattle.tree_shape.specs.Tree.{Has}
use Rattle.pair_rule.specs.Calls.{Called, IsSomeRoot}
use Rattle.pair_rule.specs.Paths.{root_buckets, Blocked}
use Rattle.pair_rule.specs.Rest.{AtRest, view}
use Rattle.pair_rule.proofs.Calling.{called_entry}
use Rattle.pair_rule.proofs.Widths.{layout_of, part_below}
use Rattle.pair_nodes.specs.Probe.{IsNodeWord, pair_of_word}
use Rattle.root_plain.specs.Plain.{plain}
use Rattle.root_plain.proofs.put.put_root.Goals as goal

pub pack-word-requires : goal.pack-word-requires
pack-word-requires g c =
    let is = c.table-table.ensures.store in
    let store = c.args.nodes.now in record {
      layout = layout_of _ store refl is;
      left = part_below _ store refl is c.args.left c.requires.left;
      right = part_below _ store refl is c.args.right c.requires.right;
    }

pub walk_path-requires : goal.walk_path-requires
walk_path-requires g c =
    let e = c.table-table.ensures in
    let store = c.args.nodes.now in
    let about = store.about in
    let width = e.store.width_is in
    let number = c.pack-word.ensures.number in
    let wide : pair_of about.width c.args.left c.args.right ≡ pair_of g.row.W c.args.left c.args.right = ap (λ (w : ℕ). pair_of w c.args.left c.args.right) width in
    let same : pair_of about.width c.args.left c.args.right ≡ pair_of_word c.pack-word.result = omega (arith, number, wide) in
    let small = pair_below about.width c.args.left c.args.right c.requires.left c.requires.right in
    let word : IsNodeWord about c.pack-word.result = record { whole = omega (arith, number); is_pair = subst (λ (x : ℕ). x < 2 ^ (2 * about.width)) same small } in
    rw e.table (omega arith, (omega arith, (e.store, (c.requires.rest, (word, subst (λ (x : ℕ). IsSomeRoot about (view c.args.pass.now).known x) same c.requires.stands)))))

same_pair : (P : ℕ → Type 0) (width wide left right word : ℕ) → wide ≡ width → word ≡ 9223372036854775808 + pair_of width left right → P (pair_of_word word) → P (pair_of wide left right)
same_pair P width wide left right word same is p =
    let e : pair_of wide left right ≡ pair_of width left right = ap (λ (w : ℕ). pair_of w left right) same in
    let one : pair_of_word word ≡ pair_of wide left right = omega (arith, is, e) in
    subst P one p

pub returns-in-Some-clause-put : goal.returns-in-Some-clause-put
returns-in-Some-clause-put g c =
    let e = c.table-table.ensures in
    let a = c.in-Some.found in
    let p = c.args.pass.now in
    let q = c.walk_path.new.pass in
    let rest = subst (λ t. AtRest plain t q) e.table c.in-Some.ensures.rest in
    let number = c.pack-word.ensures.number in
    record {
      rest = rest;
      entry = called_entry plain c.args.nodes.now p q a.1 a.0 _ c.requires.rest rest
          (same_pair (λ x. Called plain a.1 a.0 x (view p) (view q)) g.row.W _ c.args.left c.args.right c.pack-word.result e.store.width_is number c.in-Some.ensures.outcome);
      root = same_pair (λ x. Has (a.0, x) (view q).root.roots) g.row.W _ c.args.left c.args.right c.pack-word.result e.store.width_is number c.in-Some.ensures.outcome.root;
      buffers = c.in-Some.ensures.buffers;
    }

pub returns-in-None-clause-refused : goal.returns-in-None-clause-refused
returns-in-None-clause-refused g c =
    let e = c.table-table.ensures in
    let q = c.walk_path.new.pass in record {
      rest = subst (λ t. AtRest plain t q) e.table c.in-None.ensures.rest;
      no_call = c.in-None.ensures.outcome.caught;
      full = same_pair (λ x. Blocked (root_buckets c.args.nodes.now.about) (view q).root.roots x) g.row.W _ c.args.left c.args.right c.pack-word.result e.store.width_is c.pack-word.ensures.number
          (rw (← e.table) c.in-None.ensures.outcome.passed);
      buffers = c.in-None.ensures.buffers;
    }
