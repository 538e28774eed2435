use Rattle.std.proofs.Common.{subst, sym, arith}
use Rattle.cleary_core.specs.Cells.{Small}
use Rattle.cleary_core.specs.declared.cells.Cell.{Cell}
use Rattle.cleary_core.proofs.Packing.{unpacked_as, unpacked_small}
use Rattle.cleary_core.proofs.cells.unpack.Goals as goal

pub returns-clause-value : goal.returns-clause-value
returns-clause-value c = unpacked_as c.args.sizes.now c.args.word (omega arith)

pub returns-clause-small : goal.returns-clause-small
returns-clause-small c = subst (λ (x : Cell). Small c.args.sizes.now x) (sym (unpacked_as c.args.sizes.now c.args.word (omega arith))) (unpacked_small c.args.sizes.now c.args.word c.requires.small)
