use Rattle.std.proofs.Common.{arith, sym, ap, ◌∙◌, ◌≡◌, ◌<◌, ◌^◌, subst, true≢false, false, Some, ℕ}
use Rattle.tree_shape.specs.Tree.{Has}
use Rattle.mix_hash.specs.declared.Place.{Place}
use Rattle.tdb_base.specs.Acts.{act_of}
use Rattle.tdb_base.specs.History.{Act, is_fresh}
use Rattle.region_root.specs.declared.root.Regions.{Regions}
use Rattle.pair_rule.specs.declared.pass.PassOf.{PassOf}
use Rattle.pair_rule.specs.Rest.{view}
use Rattle.region_root.specs.Maps.{Acts}
use Rattle.region_root.specs.Plays.{Told}
use Rattle.region_root.specs.Told.{act_on, map_after}
use Rattle.region_root.specs.Work.{AtWork, held_words}
use Rattle.region_root.proofs.Outcomes.{told_back, flag_old}
use Rattle.region_root.proofs.flag.act_locked.Goals as goal

pub turn-after-requires-clause-flags : goal.turn-after-requires-clause-flags
turn-after-requires-clause-flags g c =
    let w = c.requires.work in
    let f = c.root_flags-flags.ensures.flags w.0 w.1.held w.5.0 w.5.1 in
    let small : c.root_flags-flags.result < 2 ^ c.args.table.now.about.flags = subst (λ (n : ℕ). n < 2 ^ c.args.table.now.about.flags) (sym f.0) f.1 in
    (c.requires.width.1, subst (λ (n : ℕ). c.root_flags-flags.result < 2 ^ n) c.requires.width.0 small)

pub unlock-requires : goal.unlock-requires
unlock-requires g c =
    let w = c.requires.work in
    let same = c.root_flags-flags.ensures.same in
    let f = c.root_flags-flags.ensures.flags w.0 w.1.held w.5.0 w.5.1 in
    let work = subst (λ (p : PassOf Regions). AtWork g.row.W g.row.F c.args.table.now w.0 p) (sym same) w.1 in
    let has = subst (λ (k : ℕ). Has (c.args.pair, k) w.0.base) (sym f.0) w.5.1 in
    let next = map_after c.args.pair c.turn-after.result.after w.0.base in
    let keeps = c.write_flags.ensures.keeps w.0 work.held in
    let told = subst (λ (a : Act). Acts g.row.F c.args.pair a w.0.base next) (sym c.turn-after.ensures.act) (c.turn-after.ensures.acts c.args.pair w.0.base has) in
    let acts = subst (λ (n : ℕ). Acts n c.args.pair (act_of c.turn-after.result.act) w.0.base next) (sym c.requires.width.0) told in
    let old : is_fresh (act_of c.turn-after.result.act) ≡ false = ap is_fresh c.turn-after.ensures.act ∙ flag_old c.args.doing c.root_flags-flags.result in
    let region = ap (λ (p : Place). p.region) (sym c.requires.root.1) ∙ sym w.2 in
    (omega arith, (omega arith, (record w.0 { copy = held_words c.write_flags.new.pass }, next, c.write_flags.ensures.rewrites.work w.0 work, w.2, w.3, keeps, (region, c.requires.root.0, acts, (λ new. absurd (true≢false (sym new ∙ old)))))))

pub returns-clause-told : goal.returns-clause-told
returns-clause-told g c = λ h held.
    let same = c.root_flags-flags.ensures.same in
    let v = view c.root_flags-flags.new.pass in
    let held_too = ap (λ (p : PassOf Regions). (view p).root.held) same ∙ held in
    let is = c.write_flags.ensures.rewrites.view_is h held_too in
    let told = c.unlock.ensures.told (record h { copy = held_words c.write_flags.new.pass }) (ap (λ u. u.root.held) is) in
    let back = told_back v _ _ v.busy _ _ _ _ is told in
    let acted = subst (λ (a : Act). Told h.region h.base (Some (c.args.pair, a)) v (view c.unlock.new.pass)) c.turn-after.ensures.act back in
    subst (λ (p : PassOf Regions). Told h.region h.base (Some (c.args.pair, act_on c.args.doing c.root_flags-flags.result)) (view p) (view c.unlock.new.pass)) same acted
