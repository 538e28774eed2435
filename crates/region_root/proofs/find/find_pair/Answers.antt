use Rattle.std.proofs.Common.{arith, ap, ◌≡◌, [], true, false, Bool}
use Rattle.std.specs.Prelude.{MatchBool}
use Rattle.pair_rule.specs.Rest.{view}
use Rattle.pair_rule.specs.Calls.{Called, IsNoName}
use Rattle.pair_rule.specs.Plays.{Caught}
use Rattle.mix_hash.specs.declared.Place.{Place}
use Rattle.region_root.specs.Compact.{compact}
use Rattle.region_root.specs.Told.{FindTold}
use Rattle.region_root.proofs.Outcomes.{locked_once, all_buffers, told_first, found_by, missed_by}
use Rattle.region_root.proofs.find.find_pair.Goals as goal

pub find_locked-requires : goal.find_locked-requires
find_locked-requires g c =
    let l = c.lock_region-lock.ensures in
    (omega arith, (omega arith, ((c.requires.packed, c.root_place-at.ensures.same), (l.hold, l.work, l.region_is, l.lock_is, l.keeps))))

pub returns-clause-locked : goal.returns-clause-locked
returns-clause-locked g c =
    locked_once g.row.W g.row.F c.args.table.now c.root_place-at.ensures.store c.args.pass.now c.lock_region-lock.new.pass c.find_locked.new.pass c.root_place-at.result.region c.lock_region-lock.result c.requires.rest c.lock_region-lock.ensures c.find_locked.ensures.rest c.find_locked.ensures.buffers c.find_locked.ensures.root

pub returns-clause-found : goal.returns-clause-found
returns-clause-found g c = by c.find_locked.result (c.find_locked.ensures.told c.lock_region-lock.ensures.hold c.lock_region-lock.ensures.work.held)
  where
    by : (b : Bool) → FindTold c.args.pair b c.lock_region-lock.ensures.hold (view c.lock_region-lock.new.pass) (view c.find_locked.new.pass)
        → MatchBool b (Called (compact g.row.W g.row.F) false c.args.pair c.args.pair (view c.args.pass.now) (view c.find_locked.new.pass)) (Caught (compact g.row.W g.row.F) [] (view c.args.pass.now) (view c.find_locked.new.pass) × IsNoName c.args.pair (view c.find_locked.new.pass).seen)
    by true told = (found_by g.row.W g.row.F c.args.table.now c.root_place-at.ensures.store c.args.pass.now c.find_locked.new.pass c.requires.rest c.find_locked.ensures.rest
        (all_buffers g.row.W g.row.F c.args.table.now c.root_place-at.ensures.store c.args.pass.now c.lock_region-lock.new.pass c.find_locked.new.pass c.root_place-at.result.region c.lock_region-lock.result c.requires.rest c.lock_region-lock.ensures c.find_locked.ensures.rest c.find_locked.ensures.buffers)
        c.root_place-at.result.region c.args.pair c.lock_region-lock.ensures.hold.base
        (told_first g.row.W g.row.F c.args.table.now c.root_place-at.ensures.store c.args.pass.now c.lock_region-lock.new.pass c.find_locked.new.pass c.root_place-at.result.region c.lock_region-lock.result c.requires.rest c.lock_region-lock.ensures c.find_locked.ensures.rest c.find_locked.ensures.buffers _ _ told)).0
    by false told = let k = missed_by g.row.W g.row.F c.args.table.now c.root_place-at.ensures.store c.args.pass.now c.find_locked.new.pass c.requires.rest c.find_locked.ensures.rest
        (all_buffers g.row.W g.row.F c.args.table.now c.root_place-at.ensures.store c.args.pass.now c.lock_region-lock.new.pass c.find_locked.new.pass c.root_place-at.result.region c.lock_region-lock.result c.requires.rest c.lock_region-lock.ensures c.find_locked.ensures.rest c.find_locked.ensures.buffers)
        c.root_place-at.result.region c.args.pair c.lock_region-lock.ensures.hold.base (ap (λ (p : Place). p.region) c.root_place-at.ensures.same) told.0
        (told_first g.row.W g.row.F c.args.table.now c.root_place-at.ensures.store c.args.pass.now c.lock_region-lock.new.pass c.find_locked.new.pass c.root_place-at.result.region c.lock_region-lock.result c.requires.rest c.lock_region-lock.ensures c.find_locked.ensures.rest c.find_locked.ensures.buffers _ _ told.1) in (k.0, k.1)

pub returns-clause-others : goal.returns-clause-others
returns-clause-others g c = by c.find_locked.result (c.find_locked.ensures.told c.lock_region-lock.ensures.hold c.lock_region-lock.ensures.work.held)
  where
    by : (b : Bool) → FindTold c.args.pair b c.lock_region-lock.ensures.hold (view c.lock_region-lock.new.pass) (view c.find_locked.new.pass) → c.find_locked.new.pass ≡ record c.args.pass.now { seat = c.find_locked.new.pass.seat }
    by true told = (found_by g.row.W g.row.F c.args.table.now c.root_place-at.ensures.store c.args.pass.now c.find_locked.new.pass c.requires.rest c.find_locked.ensures.rest
        (all_buffers g.row.W g.row.F c.args.table.now c.root_place-at.ensures.store c.args.pass.now c.lock_region-lock.new.pass c.find_locked.new.pass c.root_place-at.result.region c.lock_region-lock.result c.requires.rest c.lock_region-lock.ensures c.find_locked.ensures.rest c.find_locked.ensures.buffers)
        c.root_place-at.result.region c.args.pair c.lock_region-lock.ensures.hold.base
        (told_first g.row.W g.row.F c.args.table.now c.root_place-at.ensures.store c.args.pass.now c.lock_region-lock.new.pass c.find_locked.new.pass c.root_place-at.result.region c.lock_region-lock.result c.requires.rest c.lock_region-lock.ensures c.find_locked.ensures.rest c.find_locked.ensures.buffers _ _ told)).1
    by false told = (missed_by g.row.W g.row.F c.args.table.now c.root_place-at.ensures.store c.args.pass.now c.find_locked.new.pass c.requires.rest c.find_locked.ensures.rest
        (all_buffers g.row.W g.row.F c.args.table.now c.root_place-at.ensures.store c.args.pass.now c.lock_region-lock.new.pass c.find_locked.new.pass c.root_place-at.result.region c.lock_region-lock.result c.requires.rest c.lock_region-lock.ensures c.find_locked.ensures.rest c.find_locked.ensures.buffers)
        c.root_place-at.result.region c.args.pair c.lock_region-lock.ensures.hold.base (ap (λ (p : Place). p.region) c.root_place-at.ensures.same) told.0
        (told_first g.row.W g.row.F c.args.table.now c.root_place-at.ensures.store c.args.pass.now c.lock_region-lock.new.pass c.find_locked.new.pass c.root_place-at.result.region c.lock_region-lock.result c.requires.rest c.lock_region-lock.ensures c.find_locked.ensures.rest c.find_locked.ensures.buffers _ _ told.1)).2
