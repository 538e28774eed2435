use Rattle.std.proofs.Common.{◌≡◌, ◌<◌, ℕ, subst, arith, ⊎_elim}
use Rattle.std.proofs.lemmas.Option.{slice_get_within}
use Rattle.tdb_base.specs.History.{Vector}
use Rattle.tdb_base.specs.declared.reply.Reply.TheVariants as r
use Rattle.tdb_base.proofs.ListLemmas.{before-or-last}
use Rattle.run_check.specs.Reached.{Line}
use Rattle.run_check.proofs.PlainLemmas.{one-vector}
use Rattle.run_check.proofs.plain.is_full_named.Goals as goal

pub loop-k-preserved : goal.loop-k-preserved
loop-k-preserved c = λ k id v few here line.
    ⊎_elim (λ (less : k < c.loop-k.k). c.loop-k.invariant k id v less here line)
    (λ (last : k ≡ c.loop-k.k).
    (let same = one-vector c.args.trace.now c.args.i v c.line.result.now here c.line.ensures in
    let there = subst (λ (n : ℕ). Line c.args.trace.now c.args.replies.now n c.line.result.now (r.New id)) last
    (subst (λ (u : Vector). Line c.args.trace.now c.args.replies.now k u (r.New id)) same line) in
    let yes = c.is_new_of.ensures.1 (id, there) in cc (yes, c.if-is_new_of.false)))
    (before-or-last k c.loop-k.k few)

pub returns : goal.returns
returns c = (
  λ t. cc t,
  λ it. absurd (let inside = slice_get_within c.args.trace.now it.named it.vector it.there.0 in c.loop-k.invariant it.named it.id it.vector (omega (arith, inside)) it.here.0 it.there),
)
