use Rattle.std.proofs.Common.{◌∙◌}
use Rattle.pair_rule.specs.Rest.{view}
use Rattle.tree_store.proofs.Census.{names_all}
use Rattle.tree_store.proofs.store.TreeStore.names_made.Goals as goal

pub returns-clause-all : goal.returns-clause-all
returns-clause-all g c = λ whole. c.requires.rest.names_count ∙ names_all (view c.args.pass.now).numbers (view c.args.pass.now).seen (c.requires.rest.seat.sound.whole whole).callers
