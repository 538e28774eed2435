-- Workers with a pass each, which was split from one pass in turn.
use Rattle.std.specs.Prelude.{◌≡◌, ◌<◌, ◌≤◌, ℕ, List, [], length, slice_index_or, vec_capacity}
use Rattle.pair_rule.specs.declared.view.View.{View}
use Rattle.pair_rule.specs.declared.pass.PassOf.{PassOf}
use Rattle.pair_rule.specs.Rest.{AtRest, view}
use Rattle.pair_rule.specs.Part.{Store, Part}
use Rattle.pair_rule.specs.Callers.{after_splits, IsSplitPass}
use Rattle.work_run.specs.declared.worker.Worker.{Worker}

module _ {T : Type 0} (part : Part T) (store : Store) where
  -- the worker has not begun: its pass was split from one with this view, it has its lines from this, and
  -- there is room for the answers to them
  pub record IsSplitWorker {S A : Type 0} (left : S → ℕ) (begins : ℕ → S → Type 0) (before : View T)
      (number : ℕ) (worker : Worker T S A) : Type 0 where
    pub number_is : worker.number ≡ number
    pub split : IsSplitPass part store before worker.pass
    pub begins_so : begins number worker.lines
    pub none_yet : worker.answers.items ≡ []
    pub room : left worker.lines ≤ vec_capacity worker.answers

  -- these workers have not begun, with passes that were split from one pass in turn
  pub record AreSplitWorkers {S A : Type 0} (left : S → ℕ) (begins : ℕ → S → Type 0) (base now : PassOf T)
      (all_workers : List (Worker T S A)) : Type 0 where
    pub rest : AtRest part store now
    pub pass_is : now ≡ record base { seat = now.seat }
    pub view_is : view now ≡ after_splits (length all_workers) (view base)
    pub each : (j : ℕ) (d : Worker T S A) → j < length all_workers
        → IsSplitWorker left begins (after_splits j (view base)) j (slice_index_or all_workers j d)
