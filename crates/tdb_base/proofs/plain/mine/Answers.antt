use Rattle.std.proofs.Common.{◌/◌, ◌%◌, sym, ap, ◌∙◌, ℕ, List, ◌++◌, ◌∷◌, []}
use Rattle.std.specs.Prelude.{if◌then◌else◌, ◌==◌}
use Rattle.tdb_base.proofs.DistinctLemmas.{mine-more}
use Rattle.tdb_base.proofs.plain.mine.Goals as goal

pub loop-i-preserved : goal.loop-i-preserved
loop-i-preserved c =
    c.in_ok-push_own.ensures
    ∙ ap (λ (t : List ℕ). t ++ (if c.loop-i.i / c.args.block % c.args.workers == c.args.worker then c.loop-i.i ∷ [] else [])) c.loop-i.invariant
    ∙ sym (mine-more c.loop-i.i c.args.workers c.args.block c.args.worker)
