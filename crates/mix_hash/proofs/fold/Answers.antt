use Rattle.std.proofs.Common.{refl}
use Rattle.mix_hash.specs.Hash.{folded}
use Rattle.mix_hash.proofs.fold.Goals as goal

pub returns : goal.returns
unfolding folded
returns g c = refl
