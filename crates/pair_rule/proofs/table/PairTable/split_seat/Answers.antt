use Rattle.std.proofs.Common.{arith, ap, sym, ◌∙◌}
use Rattle.pair_rule.proofs.Passes.{splits}
use Rattle.pair_rule.proofs.Rests.{rests_left, rests_right}
use Rattle.pair_rule.proofs.table.PairTable.split_seat.Goals as goal

pub split_seat-requires : goal.split_seat-requires
split_seat-requires g c =
    let about = c.shared-shared.result.now.key.about in
    let store = c.shared-shared.ensures.store in
    let part = g.R.RootPart.part in (
      c.requires.table_is ∙ sym c.shared-shared.ensures.table,
      (let words = ap (λ t. t.words) c.shared-shared.ensures.table in omega (arith, words, store.words_are)),
      splits _ about part.roots (g.R.RootPart.holds about) part.split (g.met.R.RootPart.roots_split about) (g.met.R.RootPart.keeps_split about)
          c.args.seat.now.id c.args.seat.now.me.0 c.requires.live,
    )

pub returns-clause-rest : goal.returns-clause-rest
returns-clause-rest g c = let e = c.split_seat.ensures in
    rests_left g.R.RootPart.part _ g.met.R.RootPart.sound_parent c.args.seat.now _ c.requires e.0 e.2

pub returns-clause-new_rest : goal.returns-clause-new_rest
returns-clause-new_rest g c = let e = c.split_seat.ensures in
    rests_right g.R.RootPart.part _ g.met.R.RootPart.sound_child g.met.R.RootPart.roots_split c.args.seat.now _ c.requires e.3 e.4
