-- A store of a choice is made for the lines of a trace, and filled with them.
use Rattle.std.specs.Prelude.{◌≡◌, ◌≤◌, ◌^◌, ℕ, List, Option, All, length}
use Rattle.tdb_base.specs.History.{Vector, History}
use Rattle.tdb_base.specs.Lines.{owned}
use Rattle.tdb_base.specs.declared.reply.Reply.{Reply}
use Rattle.tdb_base.specs.declared.reply.Reply.TheVariants as r
use Rattle.pair_rule.specs.declared.pass.PassOf.{PassOf}
use Rattle.pair_rule.specs.declared.sizes.About.{About}
use Rattle.pair_rule.specs.declared.sizes.Sizes.{Sizes}
use Rattle.pair_rule.specs.Part.{Part, Store}
use Rattle.pair_rule.specs.Rest.{AtRest, Whole, view}
use Rattle.pair_rule.specs.View.{newcomer}
use Rattle.root_plain.specs.Plain.{RootsFit}
use Rattle.region_root.specs.Layout.{CellsFit, RegionFits}
use Rattle.tree_store.specs.Ranges.{NodesFit, ProbeFits, IsFirstOut}
use Rattle.tree_store.specs.Vectors.{IsVector}
use Rattle.work_run.specs.Enough.{NeverAnswered}
use Rattle.work_run.specs.Ran.{HasRunOver}
use Rattle.trace_csv.specs.declared.report.Stats.{Stats}
use Rattle.command_line.specs.Sizes.{AreTableSizes}
use Rattle.command_line.specs.declared.outcome.Choice.{Choice}
use Rattle.command_line.specs.declared.outcome.Mode.TheVariants.{Compact}
use Rattle.command_line.specs.declared.table.TableSizes.{TableSizes}
use Rattle.treedb.specs.ReadBack.{AwaitsLines, IfPrinted}
use Rattle.treedb.specs.Room.{HasRootRoom}
use Rattle.treedb.specs.Run.{IsOfMode}
use Rattle.treedb.specs.Sharing.{IsTreated, line_entries, owner_of, treated}
use Rattle.treedb.specs.Stored.{IsAboutChoice, InStore}
use Rattle.treedb.specs.declared.distinct.ReadBack.{ReadBack}
use Rattle.treedb.specs.declared.insertion.LineReplies.{LineReplies}

-- the sizes of a store are those of a choice, for so many lines of so many slots
pub record AreSizesOf (c : Choice) (slots lines : ℕ) (store : Sizes) : Type 0 where
  pub sizes : TableSizes
  pub are_sizes : AreTableSizes c slots lines sizes
  pub nodes : store.nodes ≡ sizes.nodes
  pub roots : store.roots ≡ sizes.roots
  pub region : store.region ≡ sizes.region
  pub probe : store.probe ≡ sizes.probe

-- they are in the ranges of the choice's mode
pub record FitMode (c : Choice) (sizes : Sizes) : Type 0 where
  pub nodes : NodesFit c.profile sizes
  pub roots : RootsFit sizes
  pub cells : c.mode ≡ Compact → CellsFit c.profile sizes
  pub regions : c.mode ≡ Compact → RegionFits sizes
  pub probe : ProbeFits sizes

-- the root table is one of the choice's mode: it takes the mode's sizes, and a store over it is what the mode
-- keeps
pub record IsPartFor {T : Type 0} (part : Part T) (c : Choice) : Type 0 where
  pub takes : (sizes : Sizes) → FitMode c sizes → (n : ℕ) → IsFirstOut part c.profile sizes n → ⊥
  pub kept : (trace : List Vector) (replies : List Reply) (h : History) (stats : Option Stats)
      → InStore part c trace replies h stats → IsOfMode c.mode c trace replies h stats

-- a new store of a choice, its first pass, and room for vectors where the job prints them: all that the lines
-- of a trace need
pub record AwaitsTrace {T : Type 0} (part : Part T) (c : Choice) (trace : List Vector) (store : Store)
    (pass : PassOf T) (room : Option ReadBack) : Type 0 where
  pub about_is : IsAboutChoice part c trace store.about
  pub unknown : T
  pub begins : view pass ≡ newcomer unknown store.about
  pub whole : Whole (view pass)
  pub rest : AtRest part store pass
  pub fit : All (IsVector store.about) trace
  pub few : length trace ≤ 2 ^ 32
  pub room_is : IfPrinted c.job room (AwaitsLines store.about.slots (length trace))

-- the workers inserted the lines of a trace, which are treated as the choice says, with these replies
pub record HasInserted {T : Type 0} (part : Part T) (c : Choice) (about : About) (trace : List Vector)
    (old new : PassOf T) (made : LineReplies) : Type 0 where
  pub shared : IsTreated c (length trace) made.replies.items (treated made)
  pub ran : HasRunOver (owned (length trace) (owner_of c (treated made)))
      (line_entries c (treated made) trace made.replies.items)
      part about trace made.replies.items c.workers old new

-- these are the replies to the lines of a trace, which were inserted into a new store of a choice, and this
-- is its pass then
pub record AreInserted {T : Type 0} (part : Part T) (c : Choice) (trace : List Vector) (made : LineReplies)
    (store : Store) (last : PassOf T) : Type 0 where
  pub about_is : IsAboutChoice part c trace store.about
  pub first : PassOf T
  pub unknown : T
  pub begins : view first ≡ newcomer unknown store.about
  pub whole : Whole (view first)
  pub enough_roots : HasRootRoom c.mode about_is.sizes (length trace)
      → NeverAnswered made.replies.items r.FullRoots
  pub done : HasInserted part c store.about trace first last made
