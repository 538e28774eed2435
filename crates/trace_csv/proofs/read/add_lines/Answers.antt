use Rattle.std.proofs.Common.{◌∙◌, ◌++◌, ◌∷◌, [], List, ℕ, arith, sym, refl, ap, subst, append_assoc, length, length-append, Ok}
use Rattle.std.proofs.lemmas.Result.{err_from_is_err_and}
use Rattle.csv.specs.Records.{fields_of}
use Rattle.trace_csv.specs.Rows.{rows_left}
use Rattle.trace_csv.specs.Trace.{even_lines}
use Rattle.trace_csv.specs.Words.{AreRead}
use Rattle.trace_csv.proofs.TraceLemmas.{AreRead-more, AreRead-none, AreRead-stop}
use Rattle.trace_csv.proofs.read.add_lines.Goals as goal

pub loop-number-init : goal.loop-number-init
loop-number-init c = record {
  reading = c.requires.reading;
  done = [];
  count = refl;
  rows = refl;
  read = AreRead-none c.args.form c.args.fields _ c.requires.none;
}

pub returns-in_err-add_line-clause-refused : goal.returns-in_err-add_line-clause-refused
returns-in_err-add_line-clause-refused c =
    let inv = c.loop-number.invariant in
    let p = err_from_is_err_and c.from_residual.result c.from_residual.ensures.1 in
    rw (p.1, p.2) (λ other. ap (even_lines c.args.form c.args.fields) inv.rows
    ∙ AreRead-stop c.args.form c.args.fields c.loop-number.number inv.done (fields_of c.loop-number.row) _ c.loop-number.numbers.items _
    inv.count inv.read (c.in_err-add_line.ensures.refused other))

pub returns-then-not-branch-clause-count : goal.returns-then-not-branch-clause-count
returns-then-not-branch-clause-count c =
    let inv = c.loop-number.invariant in
    let none = c.in_ok-next_row.ensures.end (ap (λ b. Ok b) c.if-not-branch.true) in
    let size = ap length (inv.rows ∙ ap (λ t. inv.done ++ fields_of c.loop-number.row ∷ t) none) ∙ length-append inv.done _ in
    omega (arith, inv.count, size)

pub returns-then-not-branch-clause-read : goal.returns-then-not-branch-clause-read
returns-then-not-branch-clause-read c =
    let inv = c.loop-number.invariant in
    let line = c.in_ok-add_line.ensures.added in
    let row = fields_of c.loop-number.row in
    let none = c.in_ok-next_row.ensures.end (ap (λ b. Ok b) c.if-not-branch.true) in
    subst (λ (t : List (List (List ℕ))). AreRead c.args.form c.args.fields t c.add_line.new.numbers.items)
    (sym (inv.rows ∙ ap (λ t. inv.done ++ row ∷ t) none))
    (AreRead-more c.args.form c.args.fields c.loop-number.number inv.done row c.loop-number.numbers.items c.add_line.new.numbers.items line.added
    inv.count inv.read line.is_line line.at_end)

pub loop-number-preserved : goal.loop-number-preserved
loop-number-preserved c =
    let inv = c.loop-number.invariant in
    let line = c.in_ok-add_line.ensures.added in
    let row = fields_of c.loop-number.row in
    let found = c.in_ok-next_row.ensures.row (ap (λ b. Ok b) c.if-not-branch.false) in
    record {
      reading = c.in_ok-next_row.ensures.reading (ap (λ b. Ok b) c.if-not-branch.false);
      done = inv.done ++ row ∷ [];
      count = simp length-append (omega arith);
      rows = inv.rows ∙ ap (λ t. inv.done ++ row ∷ t) found ∙ sym (append_assoc inv.done (row ∷ []) _);
      read = AreRead-more c.args.form c.args.fields c.loop-number.number inv.done row c.loop-number.numbers.items c.add_line.new.numbers.items line.added
          inv.count inv.read line.is_line line.at_end;
    }

pub unreachable-requires : goal.unreachable-requires
unreachable-requires c =
    let inv = c.loop-number.invariant in
    let size = ap length inv.rows ∙ length-append inv.done (fields_of c.loop-number.row ∷ rows_left c.loop-number.reader) in
    omega (arith, inv.count, size)
