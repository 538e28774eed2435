use Rattle.std.proofs.Common.{◌∙◌, ◌*◌}
use Rattle.mix_hash.specs.Hash.{scaled}
use Rattle.mix_hash.proofs.Hashing.{narrowed}
use Rattle.mix_hash.proofs.scale.Goals as goal

pub returns : goal.returns
unfolding scaled
returns g c = c.low_bits.ensures ∙ narrowed g.row.W (c.args.x * c.args.multiplier) c.requires.1
