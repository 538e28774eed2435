use Rattle.std.proofs.Common.{◌<◌, ◌^◌, ℕ, rules, refl, subst, sym}
use Rattle.pair_rule.specs.Rest.{view}
use Rattle.root_plain.proofs.TwoSlots.{two_slots}
use Rattle.measure.proofs.calls.CompactCallsRootCalls.put.Goals as goal

pub put_root-requires : goal.put_root-requires
put_root-requires g c =
    let about = c.args.self.now.nodes.now.about in
    let wide : (n : ℕ) → n < 2 ^ 28 → n < 2 ^ about.width = λ n. subst (λ (w : ℕ). n < 2 ^ w) (sym c.requires.width) in
    let right = wide c.args.right c.requires.parts.1 in
    (search rules, (search rules, (c.requires.rest, (wide c.args.left c.requires.parts.0, (right, two_slots about about.width _ _ (view c.args.pass.now).known refl c.requires.slots right)))))
