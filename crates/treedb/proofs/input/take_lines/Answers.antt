use Rattle.std.proofs.Common.{◌≡◌, ◌≢◌, refl, rules, ap, true}
use Rattle.command_line.specs.declared.outcome.Job.TheVariants.{Bench}
use Rattle.treedb.specs.Lines.{is_reader}
use Rattle.treedb.proofs.LineLemmas.{reads, reads_trace, reads_whole}
use Rattle.treedb.proofs.ReadingLemmas.{all_err, drawn_gave, drawn_no_fault, drawn_reads, drawn_refused, drawn_trace, if_ok}
use Rattle.treedb.proofs.input.take_lines.Goals as goal

pub returns-then-eq : goal.returns-then-eq
returns-then-eq g c =
    let choice = c.args.choice.now in
    let told = g.S.Source.left c.args.source.now in
    let drawn = c.draw_lines.ensures in
    let job : choice.job ≡ Bench = search rules in
    record {
      lines = drawn_trace choice told c.draw_lines.result job drawn.lines;
      numbers = drawn.numbers;
      few = drawn.few;
      below = drawn.below;
      gave = drawn_gave told c.draw_lines.result drawn.refused;
      fault = λ is. absurd (drawn_no_fault told c.draw_lines.result drawn.refused is);
      refused = drawn_refused choice told c.draw_lines.result drawn.refused;
      reads = drawn_reads told c.draw_lines.result drawn.refused (is_reader choice.job ≡ true);
      end = λ r. (let no = ap is_reader job in cc (r, no));
      drawn = λ no. refl;
    }

pub read_lines-requires : goal.read_lines-requires
read_lines-requires g c =
    let other : c.args.choice.now.job ≢ Bench = search rules in
    record { valid = c.requires.valid; whole = reads_whole c.args.choice.now.job c.requires.inserts other }

pub returns : goal.returns
returns g c =
    let choice = c.args.choice.now in
    let told = g.S.Source.left c.args.source.now in
    let read = c.read_lines.ensures in
    let other : choice.job ≢ Bench = search rules in
    record {
      lines = if_ok c.read_lines.result (λ trace lines. reads_trace choice told trace choice.job c.requires.inserts other lines) read.lines;
      numbers = read.numbers;
      few = read.few;
      below = read.below;
      gave = read.gave;
      fault = read.fault;
      refused = read.refused;
      reads = all_err c.read_lines.result (λ ended other-end. reads choice.job c.requires.inserts other);
      end = λ r. read.end;
      drawn = λ no. (let yes = reads choice.job c.requires.inserts other in cc (no, yes));
    }
