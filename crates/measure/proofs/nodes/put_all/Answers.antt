use Rattle.std.proofs.Common.{◌<◌, ◌^◌, ℕ, rules, subst, sym}
use Rattle.measure.proofs.nodes.put_all.Goals as goal

pub find_or_put-requires : goal.find_or_put-requires
find_or_put-requires c =
    let left : (n : ℕ) → n < 2 ^ 28 → n < 2 ^ c.args.nodes.now.about.width = λ n. subst (λ (w : ℕ). n < 2 ^ w) (sym c.requires.width) in
    (search rules, (c.loop-number.invariant, (left _ (search rules), left _ (search rules))))
