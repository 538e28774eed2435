use Rattle.std.proofs.Common.{◌-◌, ◌%◌, ◌/◌, arith}
use Rattle.packed_word.proofs.FieldBits.{get_within, get_across}
use Rattle.packed_word.proofs.fields.Bits.get.Goals as goal

pub returns-then-offset-width-le64 : goal.returns-then-offset-width-le64
returns-then-offset-width-le64 c = rw c.ones.ensures (get_within c.args.words.now c.args.at c.args.width c.if-offset-width-le64.true)

pub returns-else-offset-width-le64 : goal.returns-else-offset-width-le64
returns-else-offset-width-le64 c =
    rw c.ones-else-offset-width-le64.ensures (get_across c.args.words.now c.args.at c.args.width (64 - c.args.at % 64) (omega arith) (omega arith) (omega arith) (omega arith) (omega (arith, c.type_inv.words (c.args.at / 64))))
