-- The lines that are dealt to a worker, as it takes them.
use Rattle.std.proofs.Common.{◌≡◌, ◌<◌, ℕ, List, [], ◌∷◌, ◌++◌, length, Some, None, refl, sym, ap, ◌∙◌, subst, arith, append-nil}
use Rattle.std.specs.Prelude.{All}
use Rattle.std.proofs.lemmas.List.Elements.{All-head, All-tail}
use Rattle.tdb_base.specs.History.{Vector}
use Rattle.pair_rule.specs.Part.{Store, Part}
use Rattle.work_run.specs.declared.worker.Worker.{Worker}
use Rattle.work_run.specs.Giving.{Asked}
use Rattle.work_run.specs.Telling.{Telling}
use Rattle.work_run.specs.ToCome.{dealt_lines}
use Rattle.work_run.specs.Work.{HasTakenLines, HasWorked}

-- no line is left
pub asked_none : (old : List ℕ) → old ≡ [] → Asked dealt_lines None old old
asked_none old none = record { given = refl; over = λ e. none; fewer = tt; inside = λ lines all. (all, tt) }

-- one was taken
pub asked_one : (old new : List ℕ) (i : ℕ) → old ≡ i ∷ new → Asked dealt_lines (Some i) old new
asked_one old new i one = record {
  given = one;
  over = λ e. cc e;
  fewer = (let longer = ap (λ (xs : List ℕ). length xs) one in omega (arith, longer));
  inside = λ lines all. (let here = subst (λ (xs : List ℕ). All (λ j. j < lines) xs) one all in
      (All-tail (λ (j : ℕ). j < lines) i new here, All-head (λ (j : ℕ). j < lines) i new here));
}

-- a worker that began with its lines and has no more took them
pub took_all : (old lines new own : List ℕ) → old ≡ own → dealt_lines.gives old lines new → dealt_lines.is_over new → lines ≡ own
took_all old lines new own begins given over =
    sym (append-nil lines) ∙ (ap (λ (xs : List ℕ). lines ++ xs) (sym over) ∙ (sym given ∙ begins))

pub dealt_worked : {T A : Type 0} (part : Part T) (store : Store) (telling : Telling A) (trace : List Vector) (own : List ℕ) (old new : Worker T (List ℕ) A) → old.lines ≡ own
    → HasWorked part store dealt_lines telling trace old new → HasTakenLines part store dealt_lines telling trace own old new
dealt_worked part store telling trace own old new begins h =
    subst (λ (lines : List ℕ). HasTakenLines part store dealt_lines telling trace lines old new) (took_all old.lines h.lines new.lines own begins h.taken.given h.over) h.taken
