-- When the replies and the marks of a trace's lines form one history, and what a run of marks leaves.
use Rattle.std.specs.Prelude.{◌≡◌, ◌&&◌, ◌<◌, ℕ, false, List, [], Bool, Some, flat_map, length}
use Rattle.std.specs.Prelude.{count_by, slice_index_or}
use Rattle.std.specs.List.{range_with_len, zip}
use Rattle.tdb_base.specs.Agrees.{AgreesOver, entries_of_insertion}
use Rattle.tdb_base.specs.History.{Vector, History, name_of, same}
use Rattle.tdb_base.specs.Lines.{mine, named}
use Rattle.tdb_base.specs.Renamed.{position_of, renamed}
use Rattle.tdb_base.specs.Replies.{is_new}
use Rattle.tdb_base.specs.declared.reply.Reply.{Reply}
use Rattle.pair_rule.specs.declared.sizes.About.{About}
use Rattle.pair_rule.specs.declared.pass.PassOf.{PassOf}
use Rattle.pair_rule.specs.Part.{Part}
use Rattle.trace_csv.specs.OneReport.{AreMarks}
use Rattle.work_run.specs.Ran.{HasRunOver}
use Rattle.work_run.specs.Telling.{then_set}

-- whether the flag of a line's vector was clear when it was set
abbrev pub is_first : List Bool → ℕ → Bool
is_first firsts i = slice_index_or firsts i false

-- the entries that a caller makes by inserting the line with this number and then setting its flag: the one
-- that its reply tells of, and right after it the one that set the flag; none if the reply is full
abbrev pub entries_of_mark : ℕ → List Vector → List Reply → List Bool → ℕ → ℕ → History
entries_of_mark flag trace replies firsts caller i =
    flat_map (then_set flag (is_first firsts i)) (entries_of_insertion trace replies caller i)

-- the lines are dealt out to the workers in blocks of `block` lines, inserted, and marked with the flag, and
-- nobody else called after the earlier history
pub record AgreesMarked (flag_count : ℕ) (trace : List Vector) (replies : List Reply) (firsts : List Bool)
    (workers block flag : ℕ) (earlier later : History) (callers : List ℕ) : Type 0 where
  pub over : AgreesOver flag_count (mine (length trace) workers block)
      (entries_of_mark flag trace replies firsts) trace replies workers earlier later callers
  pub marks : AreMarks replies firsts

-- what a run of marks leaves of the pass that it was made with
pub record HasRunMarked {T : Type 0} (part : Part T) (about : About) (trace : List Vector)
    (replies : List Reply) (firsts : List Bool) (workers block flag : ℕ) (old new : PassOf T) : Type 0 where
  pub ran : HasRunOver (mine (length trace) workers block) (entries_of_mark flag trace replies firsts)
      part about trace replies workers old new
  pub marks : AreMarks replies firsts

-- so many lines are the first to be marked as there are names
abbrev pub CountsMarks : List Bool → History → Type 0
CountsMarks firsts h = count_by (λ first. first) firsts ≡ length (named h)

-- of the lines of a vector that has a name one is the first to be marked, and no second
abbrev pub EachMarkedOnce : List Vector → List Bool → History → Type 0
EachMarkedOnce trace firsts h = (v : Vector) (id : ℕ) → name_of h v ≡ Some id
    → count_by (λ line. line.1 && same line.0 v) (zip trace firsts) ≡ 1

-- as many lines are marked first as are answered new
abbrev pub AsManyFirstAsNew : List Reply → List Bool → Type 0
AsManyFirstAsNew replies firsts = count_by (λ first. first) firsts ≡ count_by is_new replies

-- what the marks of a run tell
pub record MarksTell (trace : List Vector) (replies : List Reply) (firsts : List Bool) (h : History)
    : Type 0 where
  pub names : CountsMarks firsts h
  pub once : EachMarkedOnce trace firsts h
  pub new : AsManyFirstAsNew replies firsts

-- where a history begins with the run
abbrev pub MarksAreCounted : Type 0
MarksAreCounted =
    (flag_count : ℕ) (trace : List Vector) (replies : List Reply) (firsts : List Bool)
    (workers block flag : ℕ) (h : History) (callers : List ℕ) → 0 < workers
    → AgreesMarked flag_count trace replies firsts workers block flag [] h callers
    → MarksTell trace replies firsts h

-- and its callers may be told under the numbers of the workers
abbrev pub MarkersMayBeRenumbered : Type 0
MarkersMayBeRenumbered =
    (flag_count : ℕ) (trace : List Vector) (replies : List Reply) (firsts : List Bool)
    (workers block flag : ℕ) (h : History) (callers : List ℕ)
    → AgreesMarked flag_count trace replies firsts workers block flag [] h callers
    → AgreesMarked flag_count trace replies firsts workers block flag [] (renamed (position_of callers) h)
    (range_with_len 0 workers)
