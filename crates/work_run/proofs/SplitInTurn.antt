-- Workers are split one after the other.
use Rattle.std.proofs.Common.{◌≡◌, ◌∙◌, ℕ, suc, List, [], ◌∷◌, ◌++◌, length, refl, sym, ap, subst, arith, length-append}
use Rattle.pair_rule.specs.declared.view.View.{View}
use Rattle.pair_rule.specs.declared.pass.PassOf.{PassOf}
use Rattle.pair_rule.specs.Part.{Store, Part}
use Rattle.pair_rule.specs.View.{parent_view}
use Rattle.pair_rule.specs.Rest.{AtRest, view}
use Rattle.pair_rule.specs.Callers.{after_splits}
use Rattle.pair_rule.proofs.Elements.{each_push}
use Rattle.work_run.specs.declared.worker.Worker.{Worker}
use Rattle.work_run.specs.Workers.{IsSplitWorker, AreSplitWorkers}

module _ {T S A : Type 0} (part : Part T) (store : Store) (left : S → ℕ) (begins : ℕ → S → Type 0) where
  pub split_none : (p : PassOf T) (none : List (Worker T S A)) → none ≡ [] → AtRest part store p → AreSplitWorkers part store left begins p p none
  split_none p none empty rests = record {
    rest = rests;
    pass_is = refl;
    view_is = ap (λ (ws : List (Worker T S A)). after_splits (length ws) (view p)) (sym empty);
    each = λ j d lt. (let zero : length none ≡ 0 = ap (λ (ws : List (Worker T S A)). length ws) empty in absurd (omega (arith, lt, zero)));
  }

  pub split_more : (base old new : PassOf T) (all_workers : List (Worker T S A)) (worker : Worker T S A) → AreSplitWorkers part store left begins base old all_workers → AtRest part store new
      → view new ≡ parent_view (view old) → new ≡ record old { seat = new.seat } → IsSplitWorker part store left begins (view old) (length all_workers) worker
      → AreSplitWorkers part store left begins base new (all_workers ++ worker ∷ [])
  split_more base old new all_workers worker h rests is same one = record {
    rest = rests;
    pass_is = same ∙ (λ i. record (h.pass_is i) { seat = new.seat });
    view_is = is ∙ (ap (λ (v : View T). parent_view v) h.view_is ∙ ap (λ (n : ℕ). after_splits n (view base)) (let long : suc (length all_workers) ≡ length (all_workers ++ worker ∷ []) = omega (arith, length-append all_workers (worker ∷ [])) in long));
    each = each_push (λ j w. IsSplitWorker part store left begins (after_splits j (view base)) j w) all_workers worker h.each
        (subst (λ (v : View T). IsSplitWorker part store left begins v (length all_workers) worker) h.view_is one);
  }
