use Rattle.std.proofs.Common.{arith, ◌≡◌, ◌+◌, ◌-◌, ◌<◌, sym, subst, ap, refl, ◌∙◌, ℕ, add-zero, length}
use Rattle.tree_shape.specs.Tree.{Has}
use Rattle.pair_rule.specs.declared.sizes.About.{About}
use Rattle.pair_rule.specs.Paths.{node_buckets, size}
use Rattle.pair_rule.specs.View.{Grown}
use Rattle.pair_rule.proofs.Steps.{begins}
use Rattle.pair_nodes.proofs.Views.{buckets_small, rests_step, shown_grown}
use Rattle.pair_nodes.proofs.steps.begin.Goals as goal

pub overflow_add-at : goal.overflow_add-at
overflow_add-at g c = let small = buckets_small (node_buckets c.args.table.now.about) c.requires.rest.seat.is_about.range.most_nodes in omega arith

pub load-requires : goal.load-requires
load-requires g c =
    let t = c.shared-shared.result.now in
    let about = t.key.about in
    let e = c.shared-shared.ensures in
    let key = e.key in
    let words = ap (λ z. z.words) e.table in
    let inside = subst (λ (a : About). c.args.at < size (node_buckets a)) (sym key) c.requires.inside in
    let about_is = c.requires.rest.seat.about_is ∙ sym key in (
      c.requires.rest.seat.table_is ∙ sym e.table,
      omega (arith, words, e.store.words_are),
      begins _ about g.R.RootPart.part (g.R.RootPart.holds about) (g.met.R.RootPart.sounds about) (g.met.R.RootPart.houses about) (g.met.R.RootPart.keeps about) t.table_id.slots
          c.args.pass.now.seat.id c.args.pass.now.seat.me c.args.at (c.args.at + 1) (omega arith) inside c.requires.rest.seat.live about_is c.requires.rest.seat.no_olds,
    )

pub returns-clause-rest : goal.returns-clause-rest
returns-clause-rest g c =
    let v = c.args.pass.now.seat.me.0 in
    let e = c.load.ensures in
    let tells = e.2 in
    let grown : Grown v c.load.new.seat.me.0 = subst (λ u. Grown v u) (sym tells.0) (shown_grown v.about ((c.args.at + 1) - 1) c.load.result _ _ v tells.1.word) in
    rests_step g.R.RootPart.part _ c.args.pass.now _ 0 c.requires.rest e.0 tells.1.slots_stay grown (ap (λ u. u.olds) tells.0) tells.1.sound (ap (λ u. length u.made) tells.0 ∙ sym (add-zero _)) refl refl refl refl (sym (add-zero _)) refl

pub returns-clause-free : goal.returns-clause-free
returns-clause-free g c = let d : (c.args.at + 1) - 1 ≡ c.args.at = omega arith in
    λ z x h. c.load.ensures.2.1.free z x (subst (λ (i : ℕ). Has (i, x) c.args.pass.now.seat.me.0.known) (sym d) h)
