use Rattle.block_claims.specs.Laws.{HasDrawn}
use Rattle.block_claims.proofs.tests.draw_all.Given as goal

abbrev pub invariant-loop-turn : goal.invariant-loop-turn
invariant-loop-turn l = HasDrawn l.claims l._turn l.drawer
