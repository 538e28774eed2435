use Rattle.std.proofs.Common.{◌≡◌, ◌<◌, subst, arith, ⊎_elim}
use Rattle.std.proofs.lemmas.Option.{slice_get_within}
use Rattle.tdb_base.proofs.ListLemmas.{before-or-last}
use Rattle.run_check.specs.Sentences.{IsSecond, IsTwice}
use Rattle.run_check.proofs.PlainLemmas.{first-none}
use Rattle.run_check.proofs.plain.first_twice.Goals as goal

pub loop-second-preserved : goal.loop-second-preserved
loop-second-preserved c = λ k few it.
    ⊎_elim (λ (less : k < c.loop-second.second). c.loop-second.invariant k less it)
    (λ (last : k ≡ c.loop-second.second).
    (let here = subst (IsSecond c.args.trace.now c.args.replies.now) last it in
    first-none (IsTwice c.args.trace.now c.args.replies.now c.loop-second.second) c.partner.result c.in_default.not-Some c.partner.ensures.first here.0 here.1))
    (before-or-last k c.loop-second.second few)

pub returns-clause-first : goal.returns-clause-first
returns-clause-first c = λ n it. (let inside = slice_get_within c.args.trace.now n it.1.other it.1.there.0 in c.loop-second.invariant n (omega (arith, inside)) it)
