use Rattle.packed_word.proofs.Flags.{set_here, set_elsewhere, cleared_here, cleared_elsewhere}
use Rattle.packed_word.proofs.laws.bits_change_alone.Goals as goal

pub returns-clause-sets : goal.returns-clause-sets
returns-clause-sets c = λ n k i. (set_here n k, set_elsewhere n k i)

pub returns-clause-clears : goal.returns-clause-clears
returns-clause-clears c = λ n k i. (cleared_here n k, cleared_elsewhere n k i)
