use Rattle.std.proofs.Common.{arith, sym, ap, subst, Result, Ok, Err, Bool}
use Rattle.std.specs.Prelude.{IfOk, OnErr}
use Rattle.pair_rule.specs.declared.full.RootsFull.{RootsFull}
use Rattle.pair_rule.specs.Rest.{view}
use Rattle.pair_rule.specs.Calls.{IsSomeRoot}
use Rattle.mix_hash.specs.declared.Place.{Place}
use Rattle.pair_nodes.specs.Roots.{RootPut, RootRefused}
use Rattle.region_root.specs.Compact.{compact}
use Rattle.region_root.specs.Told.{PutTold}
use Rattle.region_root.proofs.Outcomes.{locked_once, root_put, root_refused}
use Rattle.region_root.proofs.put.put_pair.Goals as goal

pub put_locked-requires : goal.put_locked-requires
put_locked-requires g c =
    let l = c.lock_region-lock.ensures in
    let stands = subst (λ v. IsSomeRoot c.args.table.now.about v.known c.args.pair) (sym l.view_is) c.requires.stands in
    (omega arith, (omega arith, ((c.requires.packed, c.root_place-at.ensures.same), (stands, (l.hold, l.work, l.region_is, l.lock_is, l.keeps)))))

pub returns-clause-locked : goal.returns-clause-locked
returns-clause-locked g c =
    locked_once g.row.W g.row.F c.args.table.now c.root_place-at.ensures.store c.args.pass.now c.lock_region-lock.new.pass c.put_locked.new.pass c.root_place-at.result.region c.lock_region-lock.result c.requires.rest c.lock_region-lock.ensures c.put_locked.ensures.rest c.put_locked.ensures.buffers c.put_locked.ensures.root

pub returns-clause-put : goal.returns-clause-put
returns-clause-put g c = by c.put_locked.result (c.put_locked.ensures.told c.lock_region-lock.ensures.hold c.lock_region-lock.ensures.work.held)
  where
    by : (r : Result Bool RootsFull) → PutTold c.args.table.now.about c.args.pair r c.lock_region-lock.ensures.hold (view c.lock_region-lock.new.pass) (view c.put_locked.new.pass)
        → IfOk r (λ fresh. RootPut (compact g.row.W g.row.F) c.args.table.now c.args.pair c.args.pair fresh c.args.pass.now c.put_locked.new.pass)
    by (Ok fresh) told = root_put g.row.W g.row.F c.args.table.now c.root_place-at.ensures.store c.args.pass.now c.lock_region-lock.new.pass c.put_locked.new.pass c.root_place-at.result.region c.lock_region-lock.result c.requires.rest c.lock_region-lock.ensures c.put_locked.ensures.rest c.put_locked.ensures.buffers c.args.pair _ fresh told
    by (Err e) told = tt

pub returns-clause-refused : goal.returns-clause-refused
returns-clause-refused g c = by c.put_locked.result (c.put_locked.ensures.told c.lock_region-lock.ensures.hold c.lock_region-lock.ensures.work.held)
  where
    by : (r : Result Bool RootsFull) → PutTold c.args.table.now.about c.args.pair r c.lock_region-lock.ensures.hold (view c.lock_region-lock.new.pass) (view c.put_locked.new.pass)
        → OnErr r (RootRefused (compact g.row.W g.row.F) c.args.table.now c.args.pair c.args.pass.now c.put_locked.new.pass)
    by (Ok fresh) told = tt
    by (Err e) told = root_refused g.row.W g.row.F c.args.table.now c.root_place-at.ensures.store c.args.pass.now c.lock_region-lock.new.pass c.put_locked.new.pass c.root_place-at.result.region c.lock_region-lock.result c.requires.rest c.lock_region-lock.ensures c.put_locked.ensures.rest c.put_locked.ensures.buffers c.args.pair
        (ap (λ (p : Place). p.region) c.root_place-at.ensures.same) told
