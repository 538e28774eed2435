-- The values that `clap` found.
use Rattle.std.specs.Prelude.{Option}
use Rattle.clap.specs.Words.{Text, first_value, found_of}
use Rattle.clap.specs.declared.parser.matches.ArgMatches.{ArgMatches}

-- the first value of a name
unfoldable pub value_in : ArgMatches → Text → Option Text
value_in matches name = first_value (found_of matches) name
