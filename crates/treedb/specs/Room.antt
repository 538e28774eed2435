-- Tables that have room for all lines of a trace, so that none is answered full.
use Rattle.std.specs.Prelude.{◌≡◌, ◌≤◌, ◌*◌, ◌^◌, ℕ, true, List, Option, Some, None, All, length, ⊤}
use Rattle.tdb_base.specs.History.{Vector}
use Rattle.trace_csv.specs.Input.{limit}
use Rattle.trace_csv.specs.declared.form.Form.{Form}
use Rattle.trace_csv.specs.declared.form.Form.TheVariants.{Unsigned, Signed}
use Rattle.command_line.specs.Sizes.{AreTableSizes, node_need}
use Rattle.command_line.specs.declared.outcome.Choice.{Choice}
use Rattle.command_line.specs.declared.outcome.Mode.{Mode}
use Rattle.command_line.specs.declared.outcome.Mode.TheVariants.{Plain, Compact}
use Rattle.command_line.specs.declared.table.TableSizes.{TableSizes}
use Rattle.treedb.specs.Lines.{IsTraceFor, is_reader}

-- a table of 2 ^ size buckets has one for each of so many pairs, and a probe may walk them all, 8 a line
pub record HasBuckets (pairs size probe : ℕ) : Type 0 where
  pub enough : pairs ≤ 2 ^ size
  pub all_walked : 2 ^ size ≤ 8 * probe

-- a plain root table has a bucket for each of so many roots, and a compact one as many cells in each region
abbrev pub HasRootRoom : Mode → TableSizes → ℕ → Type 0
HasRootRoom Plain s lines = HasBuckets lines s.roots s.probe
HasRootRoom Compact s lines = lines ≤ 2 ^ s.region

-- tables of these sizes have room for all nodes and roots of so many lines
pub record HaveRoom (mode : Mode) (slots lines : ℕ) (s : TableSizes) : Type 0 where
  pub nodes : HasBuckets (node_need slots lines) s.nodes s.probe
  pub roots : HasRootRoom mode s lines

-- so have those of a choice for these lines
abbrev pub HasRoomFor : Choice → List Vector → Type 0
HasRoomFor c trace = (slots : ℕ) (s : TableSizes) → 2 ≤ slots → All (λ v. length v ≡ slots) trace
    → AreTableSizes c slots (length trace) s → HaveRoom c.mode slots (length trace) s

-- the sizes of plain tables are left out, a slot has 28 bits or 31, and probes walk whole tables
pub record HasAutomaticSizes (c : Choice) : Type 0 where
  pub plain : c.mode ≡ Plain
  pub wide : 28 ≤ c.profile
  pub nodes : c.nodes ≡ None
  pub roots : c.roots ≡ None
  pub probe : c.probe ≡ 4194304

-- the lines have at most 2 ^ 25 inner nodes together, which unsigned lines always have
abbrev pub HasFewNodes : Form → List Vector → Type 0
HasFewNodes (Unsigned width) trace = ⊤
HasFewNodes Signed trace =
    (slots : ℕ) → All (λ v. length v ≡ slots) trace → node_need slots (length trace) ≤ 2 ^ 25

-- a valid input of a choice that inserts lines, within the limit, writes these, or they are drawn
pub record IsTraceWithin (c : Choice) (told : Option (List ℕ)) (trace : List Vector) : Type 0 where
  pub lines : IsTraceFor c told c.job trace
  pub within : is_reader c.job ≡ true → (bytes : List ℕ) × (told ≡ Some bytes) × (length bytes ≤ limit)
