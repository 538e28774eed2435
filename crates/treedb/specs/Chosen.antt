-- What the words choose.
use Rattle.std.specs.Prelude.{◌≡◌, ◌⊎◌, Bool, true, false, List, Option, Some, None}
use Rattle.std.specs.Prelude.{if◌then◌else◌, option_and_then}
use Rattle.clap.specs.Words.{Text}
use Rattle.command_line.specs.Choose.{chosen}
use Rattle.command_line.specs.Rules.{is_compact}
use Rattle.command_line.specs.declared.outcome.Job.{Job}
use Rattle.command_line.specs.declared.outcome.Job.TheVariants.{Insert, Distinct, Bench, Check, Mark}
use Rattle.command_line.specs.declared.outcome.Choice.{Choice}
use Rattle.treedb.specs.declared.ended.Ended.{Ended}
use Rattle.treedb.specs.declared.ended.Ended.TheVariants as e

abbrev pub is_check : Job → Bool
is_check Insert = false
is_check Distinct = false
is_check Bench = false
is_check Check = true
is_check Mark = false

-- the choice, if it is one of plain mode
abbrev pub if_plain : Choice → Option Choice
if_plain c = if is_compact c.mode then None else Some c

-- the choice of some words, if it is one of plain mode
abbrev pub chosen_plain : List Text → Option Choice
chosen_plain words = option_and_then if_plain (chosen words)

-- how a run ends whose words choose nothing
abbrev pub EndsUnchosen : Option Choice → Ended → Type 0
EndsUnchosen choice ended = ((ended ≡ e.Usage) × (choice ≡ None)) ⊎ (ended ≡ e.NoMemory)
