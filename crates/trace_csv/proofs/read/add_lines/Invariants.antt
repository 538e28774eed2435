use Rattle.std.proofs.Common.{◌≡◌, ◌+◌, ◌++◌, ◌∷◌, ℕ, List, length}
use Rattle.csv.specs.Records.{fields_of}
use Rattle.trace_csv.specs.Rows.{IsReading, rows_left}
use Rattle.trace_csv.specs.Words.{AreRead}
use Rattle.trace_csv.proofs.read.add_lines.Given as goal

abbrev pub invariant-loop-number : goal.invariant-loop-number
invariant-loop-number l = record {
  reading : IsReading l.reader;
  done : List (List (List ℕ));
  count : length done + 1 ≡ l.number;
  rows : fields_of l.initial.row ∷ rows_left l.initial.reader ≡ done ++ fields_of l.row ∷ rows_left l.reader;
  read : AreRead l.form l.fields done l.numbers.items;
}
