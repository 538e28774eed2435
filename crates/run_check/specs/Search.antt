-- What a search through all lists of calls that the replies to a trace's lines tell of finds.
use Rattle.std.specs.Prelude.{◌≡◌, ◌≤◌, ◌<◌, ℕ, List, [], ◌++◌, Option, length, map}
use Rattle.std.specs.List.{range_with_len}
use Rattle.tdb_base.specs.Agrees.{Agrees, entry_of_line}
use Rattle.tdb_base.specs.History.{Vector, Entry, History}
use Rattle.tdb_base.specs.declared.reply.Reply.{Reply}
use Rattle.run_check.specs.Reached.{owner}
use Rattle.run_check.specs.declared.plain.search.Dealt.{Dealt}

-- so many more calls at most make a history of these that has the replies
pub record GoesOn (trace : List Vector) (replies : List Reply) (workers block : ℕ) (h : History) (left : ℕ)
    : Type 0 where
  pub more : History
  pub few : length more ≤ left
  pub agrees : Agrees 0 trace replies workers block [] (h ++ more) (range_with_len 0 workers)

-- the vectors of a trace as the search has it
abbrev pub vectors : Dealt → List Vector
vectors d = map (λ v. v.items) d.trace.now

-- each line has a reply, and workers, who have their numbers as callers, and blocks are there
pub record IsFit (d : Dealt) : Type 0 where
  pub one_each : length d.replies.now ≡ length d.trace.now
  pub callers : d.callers.now ≡ range_with_len 0 d.workers
  pub some : 0 < d.workers
  pub block : 0 < d.block

abbrev pub AgreesIn : Dealt → History → Type 0
AgreesIn d h = Agrees 0 (vectors d) d.replies.now d.workers d.block [] h (range_with_len 0 d.workers)

abbrev pub GoesOnIn : Dealt → History → ℕ → Type 0
GoesOnIn d h left = GoesOn (vectors d) d.replies.now d.workers d.block h left

-- the call that the reply to a line tells of, by the worker whose line it is
abbrev pub line_call : Dealt → ℕ → Option Entry
line_call d i = entry_of_line (owner d.workers d.block i) (vectors d) d.replies.now i
