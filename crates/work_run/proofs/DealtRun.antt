-- A run of workers to whom the lines are dealt out.
use Rattle.std.proofs.Common.{◌≡◌, ◌<◌, ◌≤◌, ◌/◌, ℕ, List, length, get_or, map, sym, ap, ◌∙◌, subst, arith}
use Rattle.std.specs.Prelude.{All}
use Rattle.std.proofs.lemmas.Nat.{mod_below}
use Rattle.tdb_base.specs.History.{Vector}
use Rattle.tdb_base.specs.Lines.{mine, picked}
use Rattle.tdb_base.proofs.PickLemmas.{mine_below}
use Rattle.pair_rule.specs.declared.pass.PassOf.{PassOf}
use Rattle.pair_rule.specs.Part.{Store, Part}
use Rattle.pair_nodes.specs.Roots.{Refusals}
use Rattle.work_run.specs.declared.worker.Worker.{Worker}
use Rattle.work_run.specs.Dealing.{IsDealt}
use Rattle.tdb_base.specs.Lines.{owned, dealt_to}
use Rattle.work_run.specs.Ran.{HasRunTask}
use Rattle.work_run.specs.Telling.{Telling}
use Rattle.work_run.specs.ToCome.{dealt_lines}
use Rattle.work_run.specs.Work.{CanWork, HasTakenLines, HasWorked}
use Rattle.pair_rule.specs.Callers.{AreJoined}
use Rattle.work_run.specs.Workers.{AreSplitWorkers}
use Rattle.work_run.proofs.Running.{can_work, answers_each, runs}
use Rattle.work_run.proofs.TakenLines.{dealt_worked}

-- the numbers of a run are in their ranges
pub is_dealt : (lines n workers block : ℕ) → n ≡ lines → lines ≤ 4294967296 → (1 ≤ workers) × (workers ≤ 64) → (1 ≤ block) × (block ≤ 65536) → IsDealt n workers block
is_dealt lines n workers block same few crowd size = record {
  few_lines = omega (arith, same, few);
  some_workers = crowd.0;
  few_workers = crowd.1;
  some_block = size.0;
  small_block = size.1;
}

pub dealt_to_one : (workers block i : ℕ) → 1 ≤ workers → dealt_to workers block i < workers
dealt_to_one workers block i some = mod_below (i / block) workers some

module _ {T A : Type 0} (part : Part T) (store : Store) (telling : Telling A) (trace : List Vector) (n workers block : ℕ) (same : n ≡ length trace) (base now : PassOf T) (all_workers after : List (Worker T (List ℕ) A))
    (split : AreSplitWorkers part store dealt_lines.left (λ j lines. lines ≡ mine n workers block j) base now all_workers) where
  -- they can begin
  pub dealt_can_work : All (CanWork part store dealt_lines (length trace)) all_workers
  dealt_can_work = can_work part store dealt_lines (λ j lines. lines ≡ mine n workers block j) base now all_workers (length trace) split
      (λ j s h. subst (λ (m : ℕ). All (λ i. i < m) s) same (subst (λ (xs : List ℕ). All (λ i. i < n) xs) (sym h) (mine_below n workers block j)))

  module _ (worked : (j : ℕ) (d : Worker T (List ℕ) A) → j < length all_workers → HasWorked part store dealt_lines telling trace (get_or all_workers j d) (get_or after j d)) (all_after : length after ≡ length all_workers) where
    took : (j : ℕ) (d : Worker T (List ℕ) A) → j < length all_workers → HasTakenLines part store dealt_lines telling trace (owned (length trace) (dealt_to workers block) j) (get_or all_workers j d) (get_or after j d)
    took j d lt = dealt_worked part store telling trace (owned (length trace) (dealt_to workers block) j) (get_or all_workers j d) (get_or after j d)
        ((split.each j d lt).begins_so ∙ ap (λ (m : ℕ). mine m workers block j) same) (worked j d lt)

    -- each answered its lines
    pub dealt_answered : (seen : List (Worker T (List ℕ) A)) (m : ℕ) → seen ≡ after → m ≡ length trace
        → (j : ℕ) (d : Worker T (List ℕ) A) → j < length seen → length (get_or seen j d).answers.items ≡ length (owned m (dealt_to workers block) j)
    dealt_answered seen m is long =
        subst (λ (k : ℕ). (j : ℕ) (d : Worker T (List ℕ) A) → j < length seen → length (get_or seen j d).answers.items ≡ length (owned k (dealt_to workers block) j)) (sym long)
        (subst (λ (x : List (Worker T (List ℕ) A)). (j : ℕ) (d : Worker T (List ℕ) A) → j < length x → length (get_or x j d).answers.items ≡ length (owned (length trace) (dealt_to workers block) j)) (sym is)
        (answers_each part store dealt_lines telling trace (dealt_to workers block) all_workers after took all_after))

    -- and all of them together ran
    pub dealt_run : Refusals part → (new : PassOf T) (answers : List A) (seen : List (Worker T (List ℕ) A)) (m : ℕ) → seen ≡ after → m ≡ length trace → 1 ≤ workers → length all_workers ≡ workers → length answers ≡ m
        → ((j : ℕ) (d : Worker T (List ℕ) A) → j < length seen → picked answers (owned m (dealt_to workers block) j) ≡ (get_or seen j d).answers.items)
        → AreJoined part store now new (map (λ (w : Worker T (List ℕ) A). w.pass) after)
        → HasRunTask telling part store.about trace answers workers block base new
    dealt_run refusals new answers seen m is long some all_split each placed joint =
        let owner = dealt_to workers block in
        let counted = subst (λ (k : ℕ). (j : ℕ) (d : Worker T (List ℕ) A) → j < length seen → picked answers (owned k owner j) ≡ (get_or seen j d).answers.items) long placed in
        let here = subst (λ (x : List (Worker T (List ℕ) A)). (j : ℕ) (d : Worker T (List ℕ) A) → j < length x → picked answers (owned (length trace) owner j) ≡ (get_or x j d).answers.items) is counted in
        runs part refusals store dealt_lines telling (λ j lines. lines ≡ mine n workers block j) base now new trace answers owner workers (λ i lt. dealt_to_one workers block i some)
        all_workers after split all_split took all_after (each ∙ long) here joint
