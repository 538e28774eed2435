use Rattle.packed_word.proofs.FieldBits.{field_below, field_bit}
use Rattle.packed_word.proofs.laws.field_is_its_bits.Goals as goal

pub returns-clause-fits : goal.returns-clause-fits
returns-clause-fits c = field_below

pub returns-clause-bits : goal.returns-clause-bits
returns-clause-bits c = field_bit
