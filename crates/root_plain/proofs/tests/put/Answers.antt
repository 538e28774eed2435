use Rattle.std.proofs.Common.{◌≡◌, ◌<◌, ◌^◌, ℕ, refl, rules, subst, sym}
use Rattle.pair_rule.specs.Rest.{view}
use Rattle.pair_nodes.proofs.PassLaws.{call_named}
use Rattle.root_plain.specs.Plain.{plain}
use Rattle.root_plain.proofs.TwoSlots.{two_slots}
use Rattle.root_plain.proofs.tests.put.Goals as goal

wide : {width : ℕ} → width ≡ 16 → (n : ℕ) → n < 2 ^ 16 → n < 2 ^ width
wide is n below = subst (λ (w : ℕ). n < 2 ^ w) (sym is) below

pub put_root-requires : goal.put_root-requires
put_root-requires g c =
    let about = c.args.store.now.about in
    let left = wide c.requires.width c.args.left c.requires.parts.0 in
    let right = wide c.requires.width c.args.right c.requires.parts.1 in
    (search rules, (search rules, (c.requires.rest, (left, (right, two_slots about about.width c.args.left c.args.right (view c.args.pass.now).known refl c.requires.slots right)))))

pub returns-in-Ok-clause-named : goal.returns-in-Ok-clause-named
returns-in-Ok-clause-named g c =
    let about = c.args.store.now.about in
    let right = wide c.requires.width c.args.right c.requires.parts.1 in
    let some = two_slots about about.width c.args.left c.args.right (view c.args.pass.now).known refl c.requires.slots right in
    let k = c.in-Ok.ensures.put.entry some.0 some.1 some.2 in
    (some.0, call_named plain _ _ some.0 c.in-Ok.found.0 (view c.args.pass.now) (view c.put_root.new.pass) k)
