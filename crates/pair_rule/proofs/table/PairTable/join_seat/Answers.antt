use Rattle.std.proofs.Common.{arith, refl, sym, ap, ◌∙◌}
use Rattle.pair_rule.proofs.Passes.{joins}
use Rattle.pair_rule.proofs.Steps.{after_joins}
use Rattle.pair_rule.proofs.Rests.{told_joined, taken_joined, view_joined, rests_joined}
use Rattle.pair_rule.proofs.table.PairTable.join_seat.Goals as goal

pub join_seat-requires : goal.join_seat-requires
join_seat-requires g c =
    let about = c.shared-shared.result.now.key.about in
    let store = c.shared-shared.ensures.store in
    let part = g.R.RootPart.part in (
      c.requires.seat.table_is ∙ sym c.shared-shared.ensures.table,
      c.requires.other.table_is ∙ sym c.shared-shared.ensures.table,
      c.requires.other.bare,
      (let words = ap (λ t. t.words) c.shared-shared.ensures.table in omega (arith, words, store.words_are)),
      joins _ about part.roots (g.R.RootPart.holds about) part.join g.R.RootPart.spent (g.met.R.RootPart.roots_join about) (g.met.R.RootPart.roots_either about) (g.met.R.RootPart.roots_spent about)
          (g.met.R.RootPart.keeps_join about) c.args.seat.now.id c.args.other.id c.args.seat.now.me.0 c.args.other.me.0 c.requires.seat.live c.requires.seat.idle c.requires.other.idle,
    )

pub load-requires : goal.load-requires
load-requires g c =
    let shared = c.shared-shared.result.now in
    let about = shared.key.about in
    let store = c.shared-shared.ensures.store in
    let e = c.join_seat.ensures in (
      e.0 ∙ (c.requires.seat.table_is ∙ sym c.shared-shared.ensures.table),
      (let words = ap (λ t. t.words) c.shared-shared.ensures.table in omega (arith, words, store.words_are)),
      after_joins _ about g.R.RootPart.part (g.R.RootPart.holds about) (g.met.R.RootPart.sounds about) (g.met.R.RootPart.houses about) (g.met.R.RootPart.keeps about)
          shared.table_id.slots c.join_seat.new.seat.id c.join_seat.new.seat.me 0 refl (ap (λ m. m.0.live) e.2 ∙ c.requires.seat.live),
    )

pub returns-clause-rest : goal.returns-clause-rest
returns-clause-rest g c =
    rests_joined g.R.RootPart.part _ c.args.seat.now c.join_seat.new.seat c.args.other c.load.new.seat c.requires.seat
    c.join_seat.ensures.0 c.join_seat.ensures.2 c.load.ensures.0 _ c.load.ensures.2

pub returns-clause-view : goal.returns-clause-view
returns-clause-view g c =
    view_joined g.R.RootPart.part c.args.self.now c.args.seat.now c.join_seat.new.seat c.args.other c.load.new.seat c.join_seat.ensures.2 _ c.load.ensures.2

pub returns-clause-taken : goal.returns-clause-taken
returns-clause-taken g c =
    let part = g.R.RootPart.part in
    let b = told_joined part c.args.seat.now.me.0 c.args.other.me.0 c.args.seat.now.me.1 c.join_seat.new.seat.me c.load.new.seat.me c.join_seat.ensures.2 _ c.load.ensures.2 in
    let is = view_joined part c.args.self.now c.args.seat.now c.join_seat.new.seat c.args.other c.load.new.seat c.join_seat.ensures.2 _ c.load.ensures.2 in
    (taken_joined part c.args.seat.now.me.0 c.args.other.me.0 c.load.new.seat.me.0 (g.met.R.RootPart.roots_join c.args.seat.now.me.0.about)
    (c.requires.other.about_is ∙ sym c.requires.seat.about_is) is b).0

pub returns-clause-other_taken : goal.returns-clause-other_taken
returns-clause-other_taken g c =
    let part = g.R.RootPart.part in
    let b = told_joined part c.args.seat.now.me.0 c.args.other.me.0 c.args.seat.now.me.1 c.join_seat.new.seat.me c.load.new.seat.me c.join_seat.ensures.2 _ c.load.ensures.2 in
    let is = view_joined part c.args.self.now c.args.seat.now c.join_seat.new.seat c.args.other c.load.new.seat c.join_seat.ensures.2 _ c.load.ensures.2 in
    (taken_joined part c.args.seat.now.me.0 c.args.other.me.0 c.load.new.seat.me.0 (g.met.R.RootPart.roots_join c.args.seat.now.me.0.about)
    (c.requires.other.about_is ∙ sym c.requires.seat.about_is) is b).1
