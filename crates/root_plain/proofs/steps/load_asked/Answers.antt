use Rattle.root_plain.proofs.steps.load_asked.Goals as goal

pub load-requires : goal.load-requires
load-requires g c = rw (← c.requires.wanted) (c.requires.seat.0, c.requires.seat.1, c.requires.rule)

pub returns-clause-sought : goal.returns-clause-sought
returns-clause-sought g c = rw c.requires.wanted c.load.ensures.2
