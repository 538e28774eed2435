use Rattle.std.proofs.Common.{arith, true, false, refl, ap, subst}
use Rattle.mix_hash.specs.declared.Place.{Place}
use Rattle.region_root.specs.Plays.{reading}
use Rattle.region_root.specs.Told.{FindsRoot}
use Rattle.region_root.proofs.Peeking.{first_changed, first_looked, changed, looked_changed, looked, seen, absent}
use Rattle.region_root.proofs.peek.peek_pair.Goals as goal

pub returns-then-not-is_believable-clause-told : goal.returns-then-not-is_believable-clause-told
returns-then-not-is_believable-clause-told g c =
    first_changed g.row.W g.row.F c.args.table.now c.args.pass.now c.open_peek-first.new.pass c.root_place-at.result.region c.args.pair c.open_peek-first.result c.open_peek-first.ensures.rest c.open_peek-first.ensures.view c.open_peek-first.ensures.others
    (c.is_believable.ensures.no c.if-not-is_believable.true)

pub look_for-found-requires : goal.look_for-found-requires
look_for-found-requires g c =
    (omega arith, (omega arith, ((c.requires.packed, c.root_place-at.ensures.same), (c.root_place-at.ensures.region, (c.open_peek-first.ensures.rest, (reading c.root_place-at.result.region c.args.pair c.open_peek-first.result, ap (λ v. v.root.reader) c.open_peek-first.ensures.view, refl))))))

pub close_peek-requires : goal.close_peek-requires
close_peek-requires g c =
    let q = reading c.root_place-at.result.region c.args.pair c.open_peek-first.result in
    let on = c.look_for-found.ensures.reads.view_is q (ap (λ v. v.root.reader) c.open_peek-first.ensures.view) in
    (omega arith, (omega arith, (c.look_for-found.ensures.reads.rest c.open_peek-first.ensures.rest, ((record q { loads = on.0 }, ap (λ v. v.root.reader) on.1, refl), c.root_place-at.ensures.region))))

pub returns-then-close_peek-first-clause-told : goal.returns-then-close_peek-first-clause-told
returns-then-close_peek-first-clause-told g c =
    changed g.row.W g.row.F c.args.table.now c.root_place-at.ensures.store c.args.pair c.args.pass.now c.open_peek-first.new.pass c.look_for-found.new.pass c.close_peek.new.pass c.root_place-at.result.region c.open_peek-first.result c.close_peek.result c.requires.rest
    (ap (λ (p : Place). p.region) c.root_place-at.ensures.same) c.open_peek-first.ensures.view c.open_peek-first.ensures.others c.look_for-found.ensures.reads c.close_peek.ensures.rest c.close_peek.ensures.told c.close_peek.ensures.others c.if-close_peek-first.true

pub returns-then-not-is_believable-clause-looked : goal.returns-then-not-is_believable-clause-looked
returns-then-not-is_believable-clause-looked g c =
    first_looked c.args.table.now.about c.args.pass.now c.open_peek-first.new.pass c.root_place-at.result.region c.args.pair c.open_peek-first.result (ap (λ (p : Place). p.region) c.root_place-at.ensures.same) c.open_peek-first.ensures.view
    (c.is_believable.ensures.no c.if-not-is_believable.true)

pub returns-then-close_peek-first-clause-looked : goal.returns-then-close_peek-first-clause-looked
returns-then-close_peek-first-clause-looked g c =
    looked_changed g.row.W g.row.F c.args.table.now c.root_place-at.ensures.store c.args.pair c.args.pass.now c.open_peek-first.new.pass c.look_for-found.new.pass c.close_peek.new.pass c.root_place-at.result.region c.open_peek-first.result c.close_peek.result c.requires.rest
    (ap (λ (p : Place). p.region) c.root_place-at.ensures.same) c.open_peek-first.ensures.view c.open_peek-first.ensures.others c.look_for-found.ensures.reads c.close_peek.ensures.rest c.close_peek.ensures.told c.close_peek.ensures.others
    c.if-close_peek-first.true

pub returns-then-found-clause-looked : goal.returns-then-found-clause-looked
returns-then-found-clause-looked g c =
    let b = c.is_believable.ensures.yes c.if-not-is_believable.false in
    looked g.row.W g.row.F c.args.table.now c.root_place-at.ensures.store c.args.pair c.args.pass.now c.open_peek-first.new.pass c.look_for-found.new.pass c.close_peek.new.pass c.root_place-at.result.region c.open_peek-first.result c.close_peek.result c.requires.rest
    (ap (λ (p : Place). p.region) c.root_place-at.ensures.same) c.open_peek-first.ensures.view c.open_peek-first.ensures.others c.look_for-found.ensures.reads c.close_peek.ensures.rest c.close_peek.ensures.told c.close_peek.ensures.others
    c.if-close_peek-first.false b.0 b.1 true (subst (FindsRoot c.args.table.now.about c.args.pair c.look_for-found.new.pass) c.if-found.true c.look_for-found.ensures.finds)

pub returns-else-found-clause-looked : goal.returns-else-found-clause-looked
returns-else-found-clause-looked g c =
    let b = c.is_believable.ensures.yes c.if-not-is_believable.false in
    looked g.row.W g.row.F c.args.table.now c.root_place-at.ensures.store c.args.pair c.args.pass.now c.open_peek-first.new.pass c.look_for-found.new.pass c.close_peek.new.pass c.root_place-at.result.region c.open_peek-first.result c.close_peek.result c.requires.rest
    (ap (λ (p : Place). p.region) c.root_place-at.ensures.same) c.open_peek-first.ensures.view c.open_peek-first.ensures.others c.look_for-found.ensures.reads c.close_peek.ensures.rest c.close_peek.ensures.told c.close_peek.ensures.others
    c.if-close_peek-first.false b.0 b.1 false (subst (FindsRoot c.args.table.now.about c.args.pair c.look_for-found.new.pass) c.if-found.false c.look_for-found.ensures.finds)

pub returns-then-found-clause-told : goal.returns-then-found-clause-told
returns-then-found-clause-told g c =
    let b = c.is_believable.ensures.yes c.if-not-is_believable.false in (
      seen g.row.W g.row.F c.args.table.now c.root_place-at.ensures.store c.args.pair c.args.pass.now c.open_peek-first.new.pass c.look_for-found.new.pass c.close_peek.new.pass c.root_place-at.result.region c.open_peek-first.result c.close_peek.result c.requires.rest
          (ap (λ (p : Place). p.region) c.root_place-at.ensures.same) c.open_peek-first.ensures.view c.open_peek-first.ensures.others c.look_for-found.ensures.reads c.close_peek.ensures.rest c.close_peek.ensures.told c.close_peek.ensures.others
          c.if-close_peek-first.false b.0 b.1 (subst (FindsRoot c.args.table.now.about c.args.pair c.look_for-found.new.pass) c.if-found.true c.look_for-found.ensures.finds),
      refl,
    )

pub returns-else-found-clause-told : goal.returns-else-found-clause-told
returns-else-found-clause-told g c =
    let b = c.is_believable.ensures.yes c.if-not-is_believable.false in
    absent g.row.W g.row.F c.args.table.now c.root_place-at.ensures.store c.args.pair c.args.pass.now c.open_peek-first.new.pass c.look_for-found.new.pass c.close_peek.new.pass c.root_place-at.result.region c.open_peek-first.result c.close_peek.result c.requires.rest
    (ap (λ (p : Place). p.region) c.root_place-at.ensures.same) c.open_peek-first.ensures.view c.open_peek-first.ensures.others c.look_for-found.ensures.reads c.close_peek.ensures.rest c.close_peek.ensures.told c.close_peek.ensures.others
    c.if-close_peek-first.false b.0 b.1 (subst (FindsRoot c.args.table.now.about c.args.pair c.look_for-found.new.pass) c.if-found.false c.look_for-found.ensures.finds)
