use Rattle.packed_word.proofs.Numbers.{has_parts, parts_make, sets_flag_of, clears_flag_of}
use Rattle.packed_word.proofs.Parts.{kept_pair}
use Rattle.packed_word.proofs.laws.words_are_numbers.Goals as goal

pub returns-clause-parts : goal.returns-clause-parts
returns-clause-parts c = has_parts

pub returns-clause-sets : goal.returns-clause-sets
returns-clause-sets c = sets_flag_of

pub returns-clause-clears : goal.returns-clause-clears
returns-clause-clears c = clears_flag_of

pub returns-clause-whole : goal.returns-clause-whole
returns-clause-whole c = parts_make

pub returns-clause-pair : goal.returns-clause-pair
returns-clause-pair c = kept_pair
