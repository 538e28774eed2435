use Rattle.packed_word.proofs.Flags.{sets_flag, clears_flag}
use Rattle.packed_word.proofs.laws.flags_change_alone.Goals as goal

pub returns-clause-sets : goal.returns-clause-sets
returns-clause-sets c = sets_flag

pub returns-clause-clears : goal.returns-clause-clears
returns-clause-clears c = clears_flag
