use Rattle.std.proofs.Common.{◌≡◌, ◌-◌, ◌*◌, ◌++◌, vec_len}
use Rattle.trace_csv.specs.Pieces.{pieces}
use Rattle.trace_csv.specs.Walk.{lines_after, walk}
use Rattle.trace_csv.proofs.walk.generate.Given as goal

abbrev pub invariant-loop-turn : goal.invariant-loop-turn
invariant-loop-turn l = record {
  each : vec_len l.line ≡ l.slots;
  size : vec_len l.numbers ≡ l._turn * l.slots;
  drawn : walk l.lines l.slots l.values l.fn.seed ≡ pieces l.slots l._turn l.numbers.items ++ lines_after l.slots l.values (l.lines - l._turn) l.random l.line.items;
}
