use Rattle.std.proofs.Common.{◌≡◌, ◌<◌, ◌^◌, ℕ, rules, refl, subst, sym}
use Rattle.pair_rule.specs.Rest.{view}
use Rattle.pair_nodes.proofs.PassLaws.{call_named}
use Rattle.root_plain.specs.Plain.{plain}
use Rattle.root_plain.proofs.TwoSlots.{two_slots}
use Rattle.measure.proofs.Named.{stays_named}
use Rattle.measure.proofs.flags.put_pair.Goals as goal

wide : {width : ℕ} → width ≡ 28 → (n : ℕ) → n < 2 ^ 28 → n < 2 ^ width
wide is n below = subst (λ (w : ℕ). n < 2 ^ w) (sym is) below

pub put_root-requires : goal.put_root-requires
put_root-requires c =
    let about = c.args.roots.now.about in
    let right = wide c.requires.width c.args.right c.requires.parts.1 in
    (search rules, (search rules, (c.requires.rest, (wide c.requires.width c.args.left c.requires.parts.0, (right, two_slots about about.width _ _ (view c.args.pass.now).known refl c.requires.slots right)))))

pub returns-in-Ok-clause-named : goal.returns-in-Ok-clause-named
returns-in-Ok-clause-named c =
    let about = c.args.roots.now.about in
    let some = two_slots about about.width c.args.left c.args.right (view c.args.pass.now).known refl c.requires.slots (wide c.requires.width c.args.right c.requires.parts.1) in
    (some.0, call_named plain _ _ some.0 c.in-Ok.found.0 (view c.args.pass.now) (view c.put_root.new.pass) (c.in-Ok.ensures.put.entry some.0 some.1 some.2))

pub returns-in-Ok-clause-stay : goal.returns-in-Ok-clause-stay
returns-in-Ok-clause-stay c =
    let about = c.args.roots.now.about in
    let some = two_slots about about.width c.args.left c.args.right (view c.args.pass.now).known refl c.requires.slots (wide c.requires.width c.args.right c.requires.parts.1) in
    stays_named plain _ c.args.pass.now c.put_root.new.pass (c.in-Ok.ensures.put.entry some.0 some.1 some.2)

pub returns-in-Err-clause-stay : goal.returns-in-Err-clause-stay
returns-in-Err-clause-stay c = stays_named plain _ c.args.pass.now c.put_root.new.pass c.in-Err.ensures.refused.no_call
