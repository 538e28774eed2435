use Rattle.std.proofs.Common.{◌≡◌, ◌∙◌, true, false, inl}
use Rattle.csv.specs.Records.{fields_of}
use Rattle.trace_csv.proofs.RowLemmas.{next-none, next-some}
use Rattle.trace_csv.proofs.rows.next_row.Goals as goal

pub returns-in-Ok-clause-reading : goal.returns-in-Ok-clause-reading
returns-in-Ok-clause-reading c = λ e.
    let found : c.in-Ok.found ≡ true = cc e in
    let read = rw found at (c.in-Ok.ensures.reads c.requires.trim c.requires.ready) in
    let next = next-some c.args.reader.now c.read_byte_record.new.self (fields_of c.read_byte_record.new.row) c.requires read in
    record {
      flexible = c.in-Ok.ensures.flexible ∙ c.requires.flexible;
      trim = read.3 ∙ c.requires.trim;
      ready = inl (c.in-Ok.ensures.ready c.requires.trim);
      config = read.2 ∙ c.requires.config;
      between = next.between;
      known = next.known;
    }

pub returns-in-Ok-clause-row : goal.returns-in-Ok-clause-row
returns-in-Ok-clause-row c = λ e.
    let found : c.in-Ok.found ≡ true = cc e in
    let read = rw found at (c.in-Ok.ensures.reads c.requires.trim c.requires.ready) in
    (next-some c.args.reader.now c.read_byte_record.new.self (fields_of c.read_byte_record.new.row) c.requires read).rows

pub returns-in-Ok-clause-end : goal.returns-in-Ok-clause-end
returns-in-Ok-clause-end c = λ e.
    let found : c.in-Ok.found ≡ false = cc e in
    let read = rw found at (c.in-Ok.ensures.reads c.requires.trim c.requires.ready) in
    next-none c.args.reader.now c.read_byte_record.new.self (fields_of c.read_byte_record.new.row) c.requires read
