use Rattle.std.proofs.Common.{rules, ◌≡◌, ◌∙◌, ◌-◌, length, drop, arith}
use Rattle.std.proofs.lemmas.List.{length-take, length-drop}
use Rattle.std.proofs.lemmas.Slice.{drop-put_mid}
use Rattle.tree_store.proofs.TakenOver.{taken}
use Rattle.tree_store.proofs.marked.copy_inner.Goals as goal

pub returns : goal.returns
returns c =
    let e = c.copy_from_slice.ensures in
    let r = c.requires in
    let k = c.args.slots in
    let part = c.copy_from_slice.new.self in
    let size : length part ≡ k - 2 = e.len ∙ (length-take (k - 2) (drop 2 c.args.next.now) ∙ (let l = length-drop 2 c.args.next.now in omega (arith, l, r.next, r.slots))) in
    record {
      long = search rules;
      slots_stay = drop-put_mid 2 (k - 2) c.args.next.now part k (omega (arith, r.slots)) (omega (arith, r.next, r.slots)) size;
      inner = taken k c.args.next.now c.args.last.now part r.slots r.next r.last size e.after;
    }
