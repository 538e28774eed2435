-- The five further rules of the words.
use Rattle.std.specs.Prelude.{◌&&◌, ◌*◌, ◌==◌, ℕ, Bool, true, false, Option, if◌then◌else◌, nat_le, nat_lt}
use Rattle.std.specs.Option.{option_map_or}
use Rattle.command_line.specs.declared.outcome.Job.{Job}
use Rattle.command_line.specs.declared.outcome.Job.TheVariants.{Insert, Distinct, Bench, Check, Mark}
use Rattle.command_line.specs.declared.outcome.Mode.{Mode}
use Rattle.command_line.specs.declared.outcome.Mode.TheVariants.{Plain, Compact}
use Rattle.command_line.specs.declared.outcome.Choice.{Choice}

abbrev pub is_compact : Mode → Bool
is_compact Plain = false
is_compact Compact = true

abbrev pub is_bench : Job → Bool
is_bench Insert = false
is_bench Distinct = false
is_bench Bench = true
is_bench Check = false
is_bench Mark = false

abbrev pub is_mark : Job → Bool
is_mark Insert = false
is_mark Distinct = false
is_mark Bench = false
is_mark Check = false
is_mark Mark = true

-- how many flags a vector has, by the bits of its slots
abbrev pub flag_count : ℕ → ℕ
flag_count width = if width == 16 then 8 else (if width == 28 then 7 else 1)

-- a size that is left out is at most anything
abbrev pub is_at_most : Option ℕ → ℕ → Bool
is_at_most size limit = option_map_or (λ n. nat_le n limit) size true

-- a node's index fits the profile's width
abbrev pub nodes_fit_profile : Choice → Bool
nodes_fit_profile c = is_at_most c.nodes c.profile

-- the root table is at least as large as the least region
abbrev pub roots_hold_a_region : Choice → Bool
roots_hold_a_region c = option_map_or (λ roots. nat_le 6 roots) c.roots true

-- where both are given, a region is no larger than the root table
abbrev pub region_fits_roots : Choice → Bool
region_fits_roots c = option_map_or (λ roots. is_at_most c.region roots) c.roots true

-- a generated trace has at most 2 ^ 25 values
abbrev pub trace_is_small : Choice → Bool
trace_is_small c = nat_le (c.lines * c.slots) 33554432

-- the flag is one of those that the profile has
abbrev pub flag_fits_profile : Choice → Bool
flag_fits_profile c = nat_lt c.flag (flag_count c.profile)

abbrev pub mode_allows : Choice → Bool
mode_allows c = if is_compact c.mode then roots_hold_a_region c && region_fits_roots c else true

abbrev pub job_allows : Choice → Bool
job_allows c =
    if is_bench c.job then trace_is_small c else (if is_mark c.job then flag_fits_profile c else true)

unfoldable pub keeps_rules : Choice → Bool
keeps_rules c = nodes_fit_profile c && (mode_allows c && job_allows c)
