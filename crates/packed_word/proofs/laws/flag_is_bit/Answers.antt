use Rattle.packed_word.proofs.Flags.{flag_bit}
use Rattle.packed_word.proofs.laws.flag_is_bit.Goals as goal

pub returns : goal.returns
returns c = λ width flags b word. flag_bit width flags b word
