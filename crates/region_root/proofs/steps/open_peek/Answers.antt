use Rattle.std.proofs.Common.{refl, sym, ap, ◌∙◌, ℕ}
use Rattle.pair_rule.specs.Rest.{view}
use Rattle.region_root.specs.Plays.{peeking, reading}
use Rattle.region_root.proofs.Working.{lock_here}
use Rattle.region_root.proofs.Resting.{peek_allowed, holds_none, rests_root}
use Rattle.region_root.proofs.steps.open_peek.Goals as goal

pub load_wanted-requires-clause-rule : goal.load_wanted-requires-clause-rule
load_wanted-requires-clause-rule g c =
    peek_allowed g.row.W g.row.F c.args.table.now c.args.pass.now c.requires.rest c.shared.result.now.key.about _ c.args.region c.lock_word-word.result c.args.pair c.shared.ensures.key (sym c.lock_word-word.ensures.place) c.requires.region

pub returns-clause-view : goal.returns-clause-view
returns-clause-view g c =
    c.load_wanted.ensures.told.1 ∙ ap (λ (k : ℕ). peeking (reading k c.args.pair c.load_wanted.result) (view c.args.pass.now)) (lock_here g.row.W g.row.F c.args.table.now c.args.pass.now c.args.region c.lock_word-word.result c.requires.rest c.lock_word-word.ensures.place)

pub returns-clause-rest : goal.returns-clause-rest
returns-clause-rest g c =
    rests_root g.row.W g.row.F c.args.table.now c.args.pass.now _ _ c.requires.rest c.load_wanted.ensures.seat.0 c.load_wanted.ensures.told.0 c.load_wanted.ensures.told.1 (holds_none g.row.W g.row.F c.args.table.now c.args.pass.now c.requires.rest) refl
