use Rattle.std.proofs.Common.{arith, refl, sym, ap, subst, ℕ}
use Rattle.mix_hash.specs.declared.Place.{Place}
use Rattle.packed_word.specs.Word.{IsLayout}
use Rattle.pair_rule.proofs.Widths.{layout_of}
use Rattle.region_root.specs.Told.{HasFlag, act_on}
use Rattle.region_root.proofs.Outcomes.{acted, flag_old, id_packed}
use Rattle.region_root.proofs.flag.act_on_flags.Goals as goal

pub root_place-at-requires : goal.root_place-at-requires
root_place-at-requires g c =
    (omega arith, (omega arith, id_packed g.row.W g.row.F c.args.table.now c.args.pass.now c.requires.rest c.requires.named.0 c.args.id c.requires.named.1))

pub act_locked-requires : goal.act_locked-requires
act_locked-requires g c =
    let store = c.args.table.now in
    let is = c.root_place-at.ensures.store in
    let packed = id_packed g.row.W g.row.F store c.args.pass.now c.requires.rest c.requires.named.0 c.args.id c.requires.named.1 in
    let layout : IsLayout g.row.W g.row.F = layout_of _ store refl is in
    let l = c.lock_region-lock.ensures in
    let region = ap (λ (p : Place). p.region) (sym c.root_place-at.ensures.same) in
    let bit = subst (λ (n : ℕ). HasFlag n c.args.doing) is.flags_are c.requires.bit in
    (omega arith, (omega arith, ((packed, c.root_place-at.ensures.same), (bit, ((is.flags_are, let most = layout.3 in omega (arith, most)), (l.hold, l.work, l.region_is, l.lock_is, l.keeps, l.names c.requires.named.0 c.args.id c.requires.named.1 region))))))

pub returns : goal.returns
returns g c =
    let store = c.args.table.now in
    let is = c.root_place-at.ensures.store in
    let k = c.act_locked.ensures in
    let l = c.lock_region-lock.ensures in
    let act = act_on c.args.doing c.act_locked.result in
    acted g.row.W g.row.F store is c.args.pass.now c.lock_region-lock.new.pass c.act_locked.new.pass c.root_place-at.result.region c.lock_region-lock.result c.requires.rest l k.rest k.buffers k.root c.args.id l.hold.base act (flag_old c.args.doing c.act_locked.result) (k.told l.hold l.work.held)
