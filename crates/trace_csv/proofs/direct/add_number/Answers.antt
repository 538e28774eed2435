use Rattle.std.proofs.Common.{sym}
use Rattle.trace_csv.proofs.DirectLemmas.{adds-number}
use Rattle.trace_csv.proofs.direct.add_number.Goals as goal

pub returns : goal.returns
returns c =
    adds-number c.args.form c.in_ok-number.number c.in_ok-word.word c.args.text.now c.in_ok-number.rest.now c.args.numbers.now.items c.add_word.new.numbers.items
    c.in_ok-number.ensures.some (sym c.in_ok-word.ensures) c.in-Ok.ensures.added
