use Rattle.std.proofs.Common.{arith}
use Rattle.cleary_core.specs.Cells.{cell_at, carried}
use Rattle.std.specs.Prelude.{true}
use Rattle.cleary_core.proofs.Packing.{cell_inside}
use Rattle.cleary_core.proofs.Splicing.{Wrote, marked}
use Rattle.cleary_core.proofs.Reaching.{bits_within}
use Rattle.cleary_core.proofs.writing.mark_home.Goals as goal
use Rattle.cleary_core.proofs.writing.mark_home.Goals.{After-write_bits}

pub write_bits-requires-clause-inside : goal.write_bits-requires-clause-inside
write_bits-requires-clause-inside g c =
    let inside = cell_inside c.args.sizes.now c.args.home (c.start_of-at.result) c.requires.region c.requires.inside c.start_of-at.ensures.value in omega (arith, inside)

put : (g : _) (c : After-write_bits g) → Wrote c.args.sizes.now (g.A.WriteWords.words c.args.access.now) (g.A.WriteWords.words c.write_bits.new.access) c.args.home (carried true (cell_at c.args.sizes.now (g.A.WriteWords.words c.args.access.now) c.args.home))
put g c = marked c.args.sizes.now (g.A.WriteWords.words c.args.access.now) (g.A.WriteWords.words c.write_bits.new.access) c.args.home (c.start_of-at.result) c.start_of-at.ensures.value c.write_bits.ensures.put

pub returns-clause-here : goal.returns-clause-here
returns-clause-here g c = (put g c).here

pub returns-clause-others : goal.returns-clause-others
returns-clause-others g c = (put g c).others

pub returns-clause-near : goal.returns-clause-near
returns-clause-near g c = bits_within (g.A.ReadWords.reached c.args.access.now) (g.A.ReadWords.reached c.write_bits.new.access) c.args.sizes.now c.args.home (c.start_of-at.result) _ _
    c.start_of-at.ensures.value (omega arith) (omega arith) c.write_bits.ensures.near
