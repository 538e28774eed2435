use Rattle.std.proofs.Common.{arith}
use Rattle.work_run.proofs.DrawingLines.{blocks_cover, few_blocks}
use Rattle.work_run.proofs.block_lines.block_count.Goals as goal

pub returns-clause-blocks : goal.returns-clause-blocks
returns-clause-blocks c = blocks_cover c.args.lines c.args.block c.requires.numbers

pub returns-clause-range : goal.returns-clause-range
returns-clause-range c = (omega arith, few_blocks c.args.lines c.args.block c.requires.numbers)
