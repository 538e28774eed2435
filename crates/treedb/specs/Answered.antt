-- What the lines of a trace are answered.
use Rattle.std.specs.Prelude.{◌≡◌, ◌+◌, ◌*◌, List, length}
use Rattle.std.specs.List.{range_with_len}
use Rattle.tdb_base.specs.History.{Vector, History}
use Rattle.pair_rule.specs.Part.{Part}
use Rattle.pair_rule.specs.Rest.{names_of_callers}
use Rattle.pair_rule.specs.declared.view.View.{View}
use Rattle.pair_rule.specs.declared.sizes.About.{About}
use Rattle.trace_csv.specs.declared.form.Form.{Form}
use Rattle.trace_csv.specs.declared.report.Stats.{Stats}
use Rattle.command_line.specs.declared.outcome.Choice.{Choice}
use Rattle.treedb.specs.declared.fill.Answered.{Answered}
use Rattle.treedb.specs.ReadBack.{IfPrinted, IsOfLines, IsReadBack}
use Rattle.treedb.specs.Lines.{form_of}
use Rattle.treedb.specs.Run.{IsOfMode}
use Rattle.treedb.specs.Stored.{raw_in}
use Rattle.treedb.specs.Sharing.{AgreesTreated, IsTreated, treated}

-- the counts that a pass tells
pub record CountsOf {T : Type 0} (form : Form) (part : Part T) (about : About) (v : View T) (stats : Stats)
    : Type 0 where
  pub nodes : stats.nodes ≡ length v.made
  pub stored : stats.stored ≡ 8 * length v.made + part.bytes about (names_of_callers v.numbers v.seen)
  pub raw : stats.raw ≡ raw_in form (4 * about.slots * names_of_callers v.numbers v.seen)

-- the replies to the lines form one history of workers who are numbered from 0, what the mode keeps stands
-- behind them, and where the job prints vectors the named ones were read back, which are some of the lines
pub record AreAnswered (c : Choice) (trace : List Vector) (answered : Answered) : Type 0 where
  pub history : History
  pub shared : IsTreated c (length trace) answered.inserted.replies.items (treated answered.inserted)
  pub agrees : AgreesTreated c (treated answered.inserted) trace answered.inserted.replies.items history
      (range_with_len 0 c.workers)
  pub of_mode : IsOfMode c.mode c trace answered.inserted.replies.items history answered.stats
  pub vectors : IfPrinted c.job answered.vectors (IsReadBack (form_of c) history)
  pub of_lines : IfPrinted c.job answered.vectors (IsOfLines trace)
