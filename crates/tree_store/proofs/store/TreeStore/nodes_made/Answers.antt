use Rattle.tree_store.proofs.store.TreeStore.nodes_made.Goals as goal

pub returns-clause-all : goal.returns-clause-all
returns-clause-all g c = λ whole. (c.requires.rest.seat.sound.whole whole).made
