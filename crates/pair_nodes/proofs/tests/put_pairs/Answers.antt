use Rattle.std.proofs.Common.{◌≤◌, ◌^◌, ℕ, arith, rules, subst, sym}
use Rattle.pair_nodes.proofs.tests.put_pairs.Goals as goal

pub find_or_put-requires : goal.find_or_put-requires
find_or_put-requires g c =
    let wide : 12 ≤ 2 ^ c.args.nodes.now.about.width = subst (λ (w : ℕ). 12 ≤ 2 ^ w) (sym c.requires.width) c.requires.wide in
    (search rules, (c.loop-turn.invariant, (omega (arith, wide), search (rules, wide))))
