use Rattle.std.proofs.Common.{◌≡◌, ◌||◌, [], List, Some, sym, ap, subst, ◌∙◌, arith}
use Rattle.std.proofs.lemmas.List.{nil_from_length}
use Rattle.std.proofs.lemmas.List.Elements.{All-pop}
use Rattle.block_claims.specs.Drawers.{Drawing, BelongsTo}
use Rattle.block_claims.proofs.Moves.{joins, loads, two_of}
use Rattle.block_claims.proofs.Gathering.{Gathering, gathering_more, gathered}
use Rattle.block_claims.proofs.claims.Claims.gather.Goals as goal

pub join_seat-requires : goal.join_seat-requires
join_seat-requires c =
    let pool = c.args.self.now in
    let g = c.loop-drawer.invariant in
    let e = c.into_seat.ensures in
    let table = c.shared-shared.ensures.table in
    let other = All-pop (BelongsTo pool) c.loop-drawer.left.items c.pop-in-loop-drawer.new.self.items (Some c.in-Some-pop.drawer) c.in-Some-pop.ensures.items g.rest in (
      g.seat_is.table_is ∙ sym table,
      e.table ∙ (other.1.table_is ∙ sym table),
      e.no_slots,
      omega (arith, two_of c.args.self.now c.shared-shared.result.now.table_id table c.shared-shared.ensures.pool),
      joins c.shared-shared.result.now.key c.loop-drawer.seat.id c.into_seat.result.id c.loop-drawer.seat.me.0 c.into_seat.result.me.0 g.stands,
    )

pub loop-drawer-preserved : goal.loop-drawer-preserved
loop-drawer-preserved c =
    let e = c.join_seat.ensures in
    let o = c.into_seat.ensures in
    subst (Gathering c.args.self.now c.args.drawers.items c.pop-in-loop-drawer.new.self.items c.join_seat.new.seat)
    (ap (λ t. c.loop-drawer.ended || t) (sym c.has_ended-ended-in-Some-pop.ensures))
    (gathering_more c.args.self.now c.args.drawers.items c.loop-drawer.left.items c.pop-in-loop-drawer.new.self.items c.in-Some-pop.drawer
    c.loop-drawer.seat c.into_seat.result c.join_seat.new.seat c.loop-drawer.ended
    c.loop-drawer.invariant c.in-Some-pop.ensures.items
    record { table_is = o.table; share_is = o.share; one = o.one; no_slots = o.no_slots }
    e.0 e.2)

pub load-requires : goal.load-requires
load-requires c =
    let g = c.loop-drawer.invariant in
    let table = c.shared-shared.ensures.table in (
      g.seat_is.table_is ∙ sym table,
      omega (arith, two_of c.args.self.now c.shared-shared.result.now.table_id table c.shared-shared.ensures.pool),
      rw c.shared-shared.ensures.key (loads c.args.self.now.totals c.shared-shared.result.now.table_id.slots c.loop-drawer.seat.id c.loop-drawer.seat.me g.seat_is.totals_are),
    )

pub returns-clause-each_once : goal.returns-clause-each_once
returns-clause-each_once c =
    let pool = c.args.self.now in
    let none : c.loop-drawer.left.items ≡ [] = nil_from_length c.loop-drawer.left.items (omega (arith, c.loop-drawer.left.ok, c.in_default-pop.ensures.cases.0)) in
    let g = subst (λ (l : List Drawing). Gathering pool c.args.drawers.items l c.loop-drawer.seat c.loop-drawer.ended) none c.loop-drawer.invariant in
    gathered pool c.args.drawers.items c.loop-drawer.seat c.load.new.seat.me c.loop-drawer.ended g (omega (arith, c.requires.all, c.args.drawers.ok)) c.load.ensures.2
