-- What the words choose.
use Rattle.std.specs.Prelude.{ℕ, Bool, false, List, [], ◌∷◌, Option, Some, None, codes, if◌then◌else◌}
use Rattle.std.specs.Str.{bytes_eq}
use Rattle.std.specs.Option.{option_map_or}
use Rattle.std.specs.Str.Parse.{digits_value, without_leading_plus}
use Rattle.clap.specs.ValueTests.{is_unsigned_in}
use Rattle.clap.specs.Words.{Kinds, Text, fault_of, first_of, matches_of}
use Rattle.command_line.specs.Command.{simple_command}
use Rattle.command_line.specs.Rules.{keeps_rules}
use Rattle.command_line.specs.declared.outcome.Job.{Job}
use Rattle.command_line.specs.declared.outcome.Job.TheVariants.{Insert, Distinct, Bench, Check, Mark}
use Rattle.command_line.specs.declared.outcome.Mode.{Mode}
use Rattle.command_line.specs.declared.outcome.Mode.TheVariants.{Plain, Compact}
use Rattle.command_line.specs.declared.outcome.Choice.{Choice}
use Rattle.command_line.specs.declared.reading.TaskWords.{TaskWords}
use Rattle.command_line.specs.declared.reading.WorkerWords.{WorkerWords}
use Rattle.command_line.specs.declared.reading.TableWords.{TableWords}
use Rattle.command_line.specs.declared.reading.BenchWords.{BenchWords}

-- ---- the words, as the command has them

-- the command's faults with the words: none where it takes them
unfoldable pub faults : List Text → Kinds
faults words = fault_of simple_command words

-- a value for each name
abbrev pub Values : Type 0
Values = Text → Option Text

-- the value that the words give a name, or the name's default
unfoldable pub value_of : List Text → Values
value_of words name = first_of name (matches_of simple_command words)

-- ---- single values

-- what f makes of the value, where there is one
abbrev pub given : {A B : Type 0} → Option A → (A → Option B) → Option B
given None f = None
given (Some x) f = f x

abbrev pub job_named : Text → Option Job
job_named t =
    if bytes_eq t (codes "insert") then Some Insert
    else (if bytes_eq t (codes "distinct") then Some Distinct
    else (if bytes_eq t (codes "bench") then Some Bench
    else (if bytes_eq t (codes "check") then Some Check
    else (if bytes_eq t (codes "mark") then Some Mark else None))))

abbrev pub mode_named : Text → Option Mode
mode_named t =
    if bytes_eq t (codes "plain") then Some Plain
    else (if bytes_eq t (codes "compact") then Some Compact else None)

-- the width of a slot
abbrev pub profile_named : Text → Option ℕ
profile_named t =
    if bytes_eq t (codes "16") then Some 16
    else (if bytes_eq t (codes "28") then Some 28
    else (if bytes_eq t (codes "31") then Some 31 else None))

-- the number from low to high that the text writes
unfoldable pub number_in : ℕ → ℕ → Text → Option ℕ
number_in low high t =
    if is_unsigned_in low high t then Some (digits_value 10 (without_leading_plus t)) else None

-- a size may be left out
abbrev pub size_in : ℕ → ℕ → Option Text → Option (Option ℕ)
size_in low high None = Some None
size_in low high (Some t) = given (number_in low high t) (λ n. Some (Some n))

-- a flag_rule that is given has the value `true`
abbrev pub is_given : Option Text → Bool
is_given o = option_map_or (λ t. bytes_eq t (codes "true")) o false

-- ---- all values

abbrev pub task_of : Values → Option TaskWords
task_of values =
    given (given (values (codes "job")) job_named) (λ job.
    given (given (values (codes "mode")) mode_named) (λ mode.
    given (given (values (codes "profile")) profile_named) (λ profile.
    Some (record {
      job = job;
      mode = mode;
      profile = profile;
      signed = is_given (values (codes "signed"));
      stats = is_given (values (codes "stats"));
    }))))

abbrev pub workers_of : Values → Option WorkerWords
workers_of values =
    given (given (values (codes "workers")) (number_in 1 64)) (λ workers.
    given (given (values (codes "block")) (number_in 1 65536)) (λ block.
    given (given (values (codes "flag")) (number_in 0 7)) (λ flag.
    Some (record {
      workers = workers;
      block = block;
      claims = is_given (values (codes "claims"));
      flag = flag;
    }))))

abbrev pub tables_of : Values → Option TableWords
tables_of values =
    given (size_in 3 25 (values (codes "nodes"))) (λ nodes.
    given (size_in 3 24 (values (codes "roots"))) (λ roots.
    given (size_in 6 12 (values (codes "region"))) (λ region.
    given (given (values (codes "probe")) (number_in 1 4194304)) (λ probe.
    Some (record { nodes = nodes; roots = roots; region = region; probe = probe })))))

abbrev pub bench_of : Values → Option BenchWords
bench_of values =
    given (given (values (codes "lines")) (number_in 1 4194304)) (λ lines.
    given (given (values (codes "slots")) (number_in 2 1024)) (λ slots.
    given (given (values (codes "values")) (number_in 1 65536)) (λ count.
    given (given (values (codes "seed")) (number_in 0 18446744073709551615)) (λ seed.
    Some (record { lines = lines; slots = slots; values = count; seed = seed })))))

abbrev pub choice_with : TaskWords → WorkerWords → TableWords → BenchWords → Choice
choice_with task workers tables bench = record {
  job = task.job;
  mode = task.mode;
  profile = task.profile;
  signed = task.signed;
  workers = workers.workers;
  block = workers.block;
  claims = workers.claims;
  flag = workers.flag;
  nodes = tables.nodes;
  roots = tables.roots;
  region = tables.region;
  probe = tables.probe;
  stats = task.stats;
  lines = bench.lines;
  slots = bench.slots;
  values = bench.values;
  seed = bench.seed;
}

unfoldable pub choice_of : Values → Option Choice
choice_of values =
    given (task_of values) (λ task.
    given (workers_of values) (λ workers.
    given (tables_of values) (λ tables.
    given (bench_of values) (λ bench. Some (choice_with task workers tables bench)))))

-- ---- the whole

-- the value, if there are no faults
abbrev pub if_empty : {A B : Type 0} → List A → Option B → Option B
if_empty [] value = value
if_empty (fault ∷ faults) value = None

-- the choice, if it keeps the rules
abbrev pub kept : Choice → Option Choice
kept c = if keeps_rules c then Some c else None

-- the choice of the words, none where the command doesn't take them, a value is none of its texts, or a rule
-- is broken
unfoldable pub chosen : List Text → Option Choice
chosen words = if_empty (faults words) (given (choice_of (value_of words)) kept)
