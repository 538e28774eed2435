use Rattle.std.proofs.Common.{arith}
use Rattle.cleary_core.proofs.Packing.{cell_inside}
use Rattle.cleary_core.proofs.Splicing.{Wrote, wrote}
use Rattle.cleary_core.proofs.Reaching.{bits_within}
use Rattle.cleary_core.proofs.writing.write_cell.Goals as goal
use Rattle.cleary_core.proofs.writing.write_cell.Goals.{After-write_bits}

pub write_bits-requires-clause-bits : goal.write_bits-requires-clause-bits
write_bits-requires-clause-bits g c = let few = c.requires.region.few in (omega arith, omega (arith, few))

pub write_bits-requires-clause-inside : goal.write_bits-requires-clause-inside
write_bits-requires-clause-inside g c = cell_inside c.args.sizes.now c.args.i c.start_of-at.result c.requires.region c.requires.inside c.start_of-at.ensures.value

put : (g : _) (c : After-write_bits g) → Wrote c.args.sizes.now (g.A.WriteWords.words c.args.access.now) (g.A.WriteWords.words c.write_bits.new.access) c.args.i c.args.cell
put g c = wrote c.args.sizes.now (g.A.WriteWords.words c.args.access.now) (g.A.WriteWords.words c.write_bits.new.access) c.args.i c.start_of-at.result c.pack-number.result c.args.cell
    c.requires.small c.start_of-at.ensures.value c.pack-number.ensures.value c.write_bits.ensures.put

pub returns-clause-here : goal.returns-clause-here
returns-clause-here g c = (put g c).here

pub returns-clause-others : goal.returns-clause-others
returns-clause-others g c = (put g c).others

pub returns-clause-near : goal.returns-clause-near
returns-clause-near g c = bits_within (g.A.ReadWords.reached c.args.access.now) (g.A.ReadWords.reached c.write_bits.new.access) c.args.sizes.now c.args.i c.start_of-at.result _ _
    c.start_of-at.ensures.value (omega arith) (omega arith) c.write_bits.ensures.near
