use Rattle.std.proofs.Common.{◌≡◌, ◌∙◌, ◌∷◌, arith, ap, sym, length, Ok}
use Rattle.csv.specs.Records.{fields_of}
use Rattle.trace_csv.specs.Rows.{csv_rows, rows_left}
use Rattle.trace_csv.proofs.FewLines.{few_rows_of}
use Rattle.trace_csv.proofs.read.read_rows.Goals as goal

pub add_lines-requires-clause-few : goal.add_lines-requires-clause-few
add_lines-requires-clause-few c =
    let found = c.in_ok-next_row.ensures.row (ap (λ b. Ok b) c.if-not-branch.false) in
    let rows : csv_rows c.args.bytes.now ≡ fields_of c.next_row.new.row ∷ rows_left c.next_row.new.reader = sym c.open_rows-reader.ensures.rows ∙ found in
    let size : length (csv_rows c.args.bytes.now) ≡ length (fields_of c.next_row.new.row ∷ rows_left c.next_row.new.reader) = ap length rows in
    omega (arith, size, few_rows_of c.args.bytes.now)
