use Rattle.std.proofs.Common.{arith, sym, length}
use Rattle.std.proofs.lemmas.Bool.{eq-eqb, ne_eqb}
use Rattle.std.proofs.lemmas.List.Sums.{prefix_len_is}
use Rattle.trace_csv.specs.Fields.{is_space}
use Rattle.trace_csv.proofs.field.leading_spaces.Goals as goal

pub returns-then-byte-ne32-clause-count : goal.returns-then-byte-ne32-clause-count
returns-then-byte-ne32-clause-count c =
    sym (prefix_len_is is_space c.args.text.now c.loop-i.i 0 (omega arith) (λ k h. eq-eqb _ _ (c.loop-i.invariant k h)) (λ h. ne_eqb _ _ c.if-byte-ne32.true))

pub returns-clause-count : goal.returns-clause-count
returns-clause-count c =
    sym (prefix_len_is is_space c.args.text.now (length c.args.text.now) 0 (omega arith) (λ k h. eq-eqb _ _ (c.loop-i.invariant k (omega arith))) (λ h. absurd (omega arith)))
