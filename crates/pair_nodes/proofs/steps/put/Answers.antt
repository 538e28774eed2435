use Rattle.std.proofs.Common.{arith, ◌≡◌, ◌+◌, ◌-◌, ◌<◌, sym, subst, ap, refl, ◌∙◌, ℕ, add-zero, length}
use Rattle.tree_shape.specs.Tree.{Has}
use Rattle.pair_rule.specs.declared.sizes.About.{About}
use Rattle.pair_rule.specs.Paths.{node_buckets, size, bucket, reach, IsPair, Passed, Listed}
use Rattle.pair_rule.specs.View.{Grown}
use Rattle.pair_rule.proofs.Steps.{puts}
use Rattle.pair_rule.proofs.Rests.{few_nodes}
use Rattle.pair_nodes.specs.Probe.{pair_of_word}
use Rattle.pair_nodes.proofs.Views.{buckets_small, rests_step, shown_grown, published_grown}
use Rattle.pair_nodes.proofs.steps.put.Goals as goal

pub overflow_add-at : goal.overflow_add-at
overflow_add-at g c = let small = buckets_small (node_buckets c.args.table.now.about) c.requires.rest.seat.is_about.range.most_nodes in omega arith

pub compare_exchange-found-requires : goal.compare_exchange-found-requires
compare_exchange-found-requires g c =
    let t = c.shared-shared.result.now in
    let about = t.key.about in
    let e = c.shared-shared.ensures in
    let key = e.key in
    let words = ap (λ z. z.words) e.table in
    let v = c.args.pass.now.seat.me.0 in
    let pair = pair_of_word c.args.word in
    let r = c.requires in
    let step = r.passed.0 in
    let inside = subst (λ (a : About). c.args.at < size (node_buckets a)) (sym key) r.inside in
    let about_is = r.rest.seat.about_is ∙ sym key in
    let is_pair = subst (λ (a : About). IsPair (node_buckets a) pair) (sym key) r.pair.1 in
    let near = subst (λ (a : About). step < reach (node_buckets a)) (sym key) r.passed.1 in
    let lies = subst (λ (a : About). bucket (node_buckets a) pair step ≡ c.args.at) (sym key) r.passed.2 in
    let passed = subst (λ (a : About). Passed (node_buckets a) (Listed v.known) pair step) about_is r.passed.3 in (
      r.rest.seat.table_is ∙ sym e.table,
      omega (arith, words, e.store.words_are),
      puts _ about g.R.RootPart.part (g.R.RootPart.holds about) (g.met.R.RootPart.sounds about) (g.met.R.RootPart.houses about) (g.met.R.RootPart.keeps about) t.table_id.slots
          c.args.pass.now.seat.id c.args.pass.now.seat.me c.args.at (c.args.at + 1) pair step c.args.word (omega arith) inside r.rest.seat.live about_is r.rest.seat.no_olds r.probing r.pair.0 is_pair near lies passed,
    )

pub overflow_add-pass : goal.overflow_add-pass
overflow_add-pass g c =
    let few = few_nodes g.R.RootPart.part c.args.table.now c.args.pass.now c.requires.rest in
    omega arith

pub returns-then-found-eq0-clause-rest : goal.returns-then-found-eq0-clause-rest
returns-then-found-eq0-clause-rest g c =
    let v = c.args.pass.now.seat.me.0 in
    let e = c.compare_exchange-found.ensures in
    let tells = e.2 in
    let won = tells.1 c.if-found-eq0.true in
    let grown : Grown v c.compare_exchange-found.new.seat.me.0 = subst (λ u. Grown v u) (sym won) (published_grown _ _ v) in
    rests_step g.R.RootPart.part _ c.args.pass.now _ 1 c.requires.rest e.0 tells.3.slots_stay grown (ap (λ u. u.olds) won) tells.3.sound (ap (λ u. length u.made) won ∙ (omega arith)) refl refl refl refl refl refl

pub returns-else-found-eq0-clause-rest : goal.returns-else-found-eq0-clause-rest
returns-else-found-eq0-clause-rest g c =
    let v = c.args.pass.now.seat.me.0 in
    let e = c.compare_exchange-found.ensures in
    let tells = e.2 in
    let lost = tells.2 c.if-found-eq0.false in
    let grown : Grown v c.compare_exchange-found.new.seat.me.0 = subst (λ u. Grown v u) (sym lost) (shown_grown v.about ((c.args.at + 1) - 1) c.compare_exchange-found.result v.probes v.probing v tells.3.word) in
    rests_step g.R.RootPart.part _ c.args.pass.now _ 0 c.requires.rest e.0 tells.3.slots_stay grown (ap (λ u. u.olds) lost) tells.3.sound (ap (λ u. length u.made) lost ∙ sym (add-zero _)) refl refl refl refl (sym (add-zero _)) refl

pub returns-then-found-eq0-clause-free : goal.returns-then-found-eq0-clause-free
returns-then-found-eq0-clause-free g c = let d : (c.args.at + 1) - 1 ≡ c.args.at = omega arith in
    λ z x h. c.compare_exchange-found.ensures.2.3.free z x (subst (λ (i : ℕ). Has (i, x) c.args.pass.now.seat.me.0.known) (sym d) h)
