use Rattle.std.proofs.Common.{◌-◌, ◌^◌, ap, ◌∙◌, arith}
use Rattle.std.proofs.lemmas.Nat.Bits.{ones_shr}
use Rattle.packed_word.proofs.words.ones.Goals as goal

pub returns : goal.returns
returns c = ones_shr 64 (64 - c.args.width) (omega arith) ∙ ap (λ n. 2 ^ n - 1) (omega arith)
