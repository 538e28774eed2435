-- The simple command that the words are read by: a table of its words, without help and version.
use Rattle.std.specs.Prelude.{ℕ, true, List, [], ◌∷◌, ◌++◌, Some, codes, fold}
use Rattle.clap.specs.Words.{App, Rule, Text, new_app, new_rule, with_rule}
use Rattle.clap.specs.declared.builder.action.ArgAction.TheVariants.{Set, SetTrue}
use Rattle.clap.specs.declared.builder.value_parser.ValueParser.TheVariants as vp

-- a required word with no name
abbrev pub required_word : Text → Rule
required_word id = record (new_rule id) { required = true; action = Some Set }

-- `--name`
abbrev pub flag_rule : Text → Rule
flag_rule name = record (new_rule name) { long = Some name; action = Some SetTrue }

-- `--name TEXT`, with the text that stands for it where it isn't given
abbrev pub text_option : Text → Text → Rule
text_option name default =
    record (new_rule name) { long = Some name; action = Some Set; defaults = default ∷ [] }

-- `--name NUMBER`, with a number from low to high
abbrev pub size_option : Text → ℕ → ℕ → Rule
size_option name low high =
    record (new_rule name) { long = Some name; action = Some Set; parser = Some (vp.Unsigned low high) }

-- the same, with the text that stands for it where it isn't given
abbrev pub number_option : Text → ℕ → ℕ → Text → Rule
number_option name low high default = record (size_option name low high) { defaults = default ∷ [] }

-- how the numbers are read, and what is reported
abbrev pub task_flags : List Rule
task_flags = flag_rule (codes "signed") ∷ flag_rule (codes "stats") ∷ []

-- what is to be done and reported
abbrev pub task_words : List Rule
task_words =
    required_word (codes "job")
    ∷ text_option (codes "mode") (codes "plain")
    ∷ text_option (codes "profile") (codes "28")
    ∷ task_flags

-- how the lines are shared out, and how they are marked
abbrev pub worker_words : List Rule
worker_words =
    number_option (codes "workers") 1 64 (codes "1")
    ∷ number_option (codes "block") 1 65536 (codes "64")
    ∷ flag_rule (codes "claims")
    ∷ number_option (codes "flag") 0 7 (codes "0")
    ∷ []

-- the tables, and how far a path goes in them
abbrev pub table_words : List Rule
table_words =
    size_option (codes "nodes") 3 25
    ∷ size_option (codes "roots") 3 24
    ∷ size_option (codes "region") 6 12
    ∷ number_option (codes "probe") 1 4194304 (codes "4194304")
    ∷ []

-- the trace that `bench` generates
abbrev pub bench_words : List Rule
bench_words =
    number_option (codes "lines") 1 4194304 (codes "1000")
    ∷ number_option (codes "slots") 2 1024 (codes "8")
    ∷ number_option (codes "values") 1 65536 (codes "4")
    ∷ number_option (codes "seed") 0 18446744073709551615 (codes "1")
    ∷ []

-- the command with no words, help or version
abbrev pub bare : App
bare = record (new_app (codes "treedb")) {
  top = record (new_app (codes "treedb")).top { disable_help_flag = true; disable_version_flag = true };
}

abbrev pub simple_command : App
simple_command = fold with_rule bare (task_words ++ (worker_words ++ (table_words ++ bench_words)))
