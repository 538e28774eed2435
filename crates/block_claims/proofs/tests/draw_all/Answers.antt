use Rattle.std.proofs.Common.{arith}
use Rattle.block_claims.proofs.Drawn.{draws_one_more, draws_at_most}
use Rattle.block_claims.proofs.tests.draw_all.Goals as goal

pub loop-turn-preserved : goal.loop-turn-preserved
loop-turn-preserved c =
    let told = c.in-Some.ensures in
    draws_one_more c.args.claims.now c.loop-turn._turn c.in-Some.block c.loop-turn.drawer c.draw.new.drawer c.loop-turn.invariant told.of
    told.below told.greater told.gained

pub unreachable-requires : goal.unreachable-requires
unreachable-requires c =
    omega (arith, draws_at_most c.args.claims.now c.loop-turn._turn c.loop-turn.drawer c.loop-turn.invariant, c.requires.blocks, c.loop-turn-test.false)
