use Rattle.std.proofs.Common.{◌≤◌, ◌^◌, ◌-◌, arith}
use Rattle.std.proofs.Math.Pow.{pow_mono}
use Rattle.region_root.proofs.words.count_regions.Goals as goal

pub returns-clause-small : goal.returns-clause-small
returns-clause-small c =
    let few : c.args.sizes.now.roots - c.args.sizes.now.region ≤ 18 = let r = c.requires in omega (arith, r) in
    let most : 2 ^ (c.args.sizes.now.roots - c.args.sizes.now.region) ≤ 2 ^ 18 = pow_mono few in
    omega (arith, most)
