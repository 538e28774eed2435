-- What stands in a store at the end of a run.
use Rattle.std.specs.Prelude.{◌≡◌, ◌+◌, ◌*◌, ◌/◌, ◌-◌, ◌≤◌, ◌↔◌, ℕ, Bool, true, false, List, Option, Some, None}
use Rattle.std.specs.Prelude.{All, length, slice_get, count_by, ⊤}
use Rattle.std.specs.List.{list_any}
use Rattle.tree_shape.specs.Tree.{Has}
use Rattle.tdb_base.specs.History.{Vector, History, name_of}
use Rattle.tdb_base.specs.Replies.{is_new, is_full}
use Rattle.tdb_base.specs.declared.reply.Reply.{Reply}
use Rattle.pair_rule.specs.Laws.{IsAbout}
use Rattle.pair_rule.specs.Numbers.{NoRepeats}
use Rattle.pair_rule.specs.Part.{Part}
use Rattle.pair_rule.specs.Rest.{Housed}
use Rattle.pair_rule.specs.declared.sizes.About.{About}
use Rattle.tree_store.specs.Vectors.{IsInTree}
use Rattle.work_run.specs.Full.{Barred, AreOfVectors}
use Rattle.trace_csv.specs.declared.form.Form.{Form}
use Rattle.trace_csv.specs.declared.form.Form.TheVariants.{Unsigned, Signed}
use Rattle.trace_csv.specs.declared.report.Stats.{Stats}
use Rattle.command_line.specs.Sizes.{AreTableSizes}
use Rattle.command_line.specs.declared.outcome.Choice.{Choice}
use Rattle.command_line.specs.declared.table.TableSizes.{TableSizes}
use Rattle.command_line.specs.Rules.{flag_count}
use Rattle.treedb.specs.Lines.{form_of}
use Rattle.treedb.specs.Room.{HaveRoom}

-- what the tables of a choice are about, for these lines: the profile, the lines' slots, and the sizes that
-- the words give or the least that suffice
pub record IsAboutChoice {T : Type 0} (part : Part T) (c : Choice) (trace : List Vector)
    (about : About) : Type 0 where
  pub is_about : IsAbout part.sized part.count about
  pub width : about.width ≡ c.profile
  pub flags : about.flags ≡ flag_count c.profile
  pub slots : All (λ v. length v ≡ about.slots) trace
  pub sizes : TableSizes
  pub are_sizes : AreTableSizes c about.slots (length trace) sizes
  pub nodes : about.sizes.nodes ≡ sizes.nodes
  pub roots : about.sizes.roots ≡ sizes.roots
  pub region : about.sizes.region ≡ sizes.region
  pub probe : about.sizes.probe ≡ sizes.probe

-- the bytes of the numbers that some slots keep, by the bytes of the slots: half of them where a number is two
abbrev pub raw_in : Form → ℕ → ℕ
raw_in (Unsigned width) bytes = bytes
raw_in Signed bytes = bytes / 2

-- the counts of a store with these nodes: the nodes' indexes, each once, and the bytes of nodes and names and
-- of the named vectors
pub record Counts {T : Type 0} (form : Form) (part : Part T) (about : About) (lines : ℕ)
    (nodes : List (ℕ × ℕ)) (replies : List Reply) (stats : Stats) : Type 0 where
  pub indexes : List ℕ
  pub once : NoRepeats indexes
  pub all : (index : ℕ) → Has index indexes ↔ ((pair : ℕ) × Has (index, pair) nodes)
  pub nodes_are : stats.nodes ≡ length indexes
  pub few : stats.nodes ≤ (about.slots - 2) * lines
  pub stored : stats.stored ≡ 8 * stats.nodes + part.bytes about (count_by is_new replies)
  pub raw : stats.raw ≡ raw_in form (4 * about.slots * count_by is_new replies)

-- the counts are told exactly where they are asked for
abbrev pub AreTold : Bool → Option Stats → (Stats → Type 0) → Type 0
AreTold true (Some stats) Are = Are stats
AreTold true None Are = ⊥
AreTold false (Some stats) Are = ⊥
AreTold false None Are = ⊤

-- each node is in the tree of a named vector
abbrev pub NodesAreNamed : About → List (ℕ × ℕ) → History → Type 0
NodesAreNamed about nodes h = (index pair : ℕ) → Has (index, pair) nodes
    → (v : Vector) × (id : ℕ) × (name_of h v ≡ Some id) × IsInTree about nodes v index

-- the store at the end of a run: its nodes and roots house the history, its nodes come of the lines, and a
-- line is full only where a pair of its tree has no place, and none where the tables have room for all
pub record InStore {T : Type 0} (part : Part T) (c : Choice) (trace : List Vector) (replies : List Reply)
    (h : History) (stats : Option Stats) : Type 0 where
  pub about : About
  pub nodes : List (ℕ × ℕ)
  pub roots : List (ℕ × ℕ)
  pub about_is : IsAboutChoice part c trace about
  pub housed : Housed about (part.house about) nodes roots h
  pub filled : AreOfVectors about nodes trace
  pub barred : (i : ℕ) (v : Vector) (reply : Reply) → slice_get trace i ≡ Some v
      → slice_get replies i ≡ Some reply → Barred part about nodes roots v reply
  pub never_full : HaveRoom c.mode about.slots (length trace) about_is.sizes
      → list_any is_full replies ≡ false
  pub named : list_any is_full replies ≡ false → NodesAreNamed about nodes h
  pub counts : AreTold c.stats stats (Counts (form_of c) part about (length trace) nodes replies)
