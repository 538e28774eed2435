use Rattle.std.proofs.Common.{◌≤◌, ◌^◌, arith}
use Rattle.std.proofs.Math.Pow.{pow_mono}
use Rattle.region_root.proofs.words.first_word.Goals as goal

pub returns-clause-small : goal.returns-clause-small
returns-clause-small c =
    let most : 2 ^ c.args.nodes ≤ 2 ^ 25 = pow_mono c.requires in
    omega (arith, most)
