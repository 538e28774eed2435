use Rattle.std.proofs.Common.{◌≡◌, ◌≤◌, ◌+◌, ◌-◌, ◌++◌, ℕ, List, take, Ok, vec_len, vec_capacity}
use Rattle.csv.specs.Records.{fields_of}
use Rattle.trace_csv.specs.Trace.{each_from}
use Rattle.trace_csv.specs.Words.{slots_in, spread, word_of}
use Rattle.trace_csv.proofs.read.add_line.Given as goal

abbrev pub invariant-loop-i : goal.invariant-loop-i
invariant-loop-i l = record {
  words : List ℕ;
  items : l.numbers.items ≡ l.initial.numbers.items ++ spread l.form words;
  so_far : each_from (word_of l.form l.number) 1 (take l.i (fields_of l.row)) ≡ Ok words;
  room : vec_len l.numbers + (slots_in l.form l.fields - slots_in l.form l.i) ≤ vec_capacity l.numbers;
}
