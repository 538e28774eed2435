-- A worker before and after it works through its lines.
use Rattle.std.specs.Prelude.{◌≡◌, ◌≤◌, ℕ, List, [], All, map, vec_capacity}
use Rattle.tdb_base.specs.History.{Vector}
use Rattle.tdb_base.specs.Lines.{picked}
use Rattle.pair_rule.specs.Part.{Store, Part}
use Rattle.pair_rule.specs.Rest.{AtRest}
use Rattle.work_run.specs.declared.worker.Worker.{Worker}
use Rattle.work_run.specs.Giving.{Giving}
use Rattle.work_run.specs.Inserted.{Inserted}
use Rattle.work_run.specs.Telling.{Telling, told_entries}

module _ {T S A : Type 0} (part : Part T) (store : Store) (giving : Giving S) where
  -- it is between two calls, has answered no line, and has room for the answers to those that are to come,
  -- which are lines of the trace
  pub record CanWork (lines : ℕ) (worker : Worker T S A) : Type 0 where
    pub rest : AtRest part store worker.pass
    pub none_yet : worker.answers.items ≡ []
    pub room : giving.left worker.lines ≤ vec_capacity worker.answers
    pub inside : giving.within lines worker.lines

  -- it took these lines, inserted them in this order, and kept the answers
  pub record HasTakenLines (telling : Telling A) (trace : List Vector) (lines : List ℕ)
      (old new : Worker T S A) : Type 0 where
    pub number : new.number ≡ old.number
    pub given : giving.gives old.lines lines new.lines
    pub inserted : Inserted part store (picked trace lines) (map telling.reply new.answers.items)
        (λ caller. told_entries telling caller (picked trace lines) new.answers.items) old.pass new.pass
    pub proper : All telling.proper new.answers.items

  -- and there are no more for it
  pub record HasWorked (telling : Telling A) (trace : List Vector) (old new : Worker T S A) : Type 0 where
    pub lines : List ℕ
    pub taken : HasTakenLines telling trace lines old new
    pub over : giving.is_over new.lines
