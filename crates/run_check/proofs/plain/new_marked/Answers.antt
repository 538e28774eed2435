use Rattle.std.proofs.Common.{◌≡◌, ◌<◌, ℕ, subst, arith, ⊎_elim}
use Rattle.std.proofs.lemmas.Option.{slice_get_within}
use Rattle.tdb_base.specs.declared.reply.Reply.TheVariants as r
use Rattle.tdb_base.proofs.ListLemmas.{before-or-last}
use Rattle.run_check.specs.Plain.{HasMark}
use Rattle.run_check.specs.Reached.{Line}
use Rattle.run_check.proofs.plain.new_marked.Goals as goal

pub loop-m-preserved : goal.loop-m-preserved
loop-m-preserved c = λ k id few line marked.
    ⊎_elim (λ (less : k < c.loop-m.m). c.loop-m.invariant k id less line marked)
    (λ (last : k ≡ c.loop-m.m).
    (let there = subst (λ (n : ℕ). Line c.args.trace.now c.args.replies.now n c.args.vector.now (r.New id)) last line in
    let yes = c.is_marked_new.ensures.1 (id, there, subst (HasMark c.args.marks.now) last marked) in cc (yes, c.if-is_marked_new.false)))
    (before-or-last k c.loop-m.m few)

pub returns : goal.returns
returns c = (
  λ t. cc t,
  λ it. absurd (let inside = slice_get_within c.args.trace.now it.0 c.args.vector.now it.2.0 in c.loop-m.invariant it.0 it.1 (omega (arith, inside)) it.2 it.3),
)
