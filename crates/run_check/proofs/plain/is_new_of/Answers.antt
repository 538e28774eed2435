use Rattle.std.proofs.Common.{◌∙◌, Some, ap, arith}
use Rattle.std.proofs.lemmas.Bool.Decides.{Decides-eqb}
use Rattle.std.proofs.lemmas.Option.{slice_get-get_or}
use Rattle.std.proofs.lemmas.Slice.Eq.{slice_eq-Decides}
use Rattle.tdb_base.specs.declared.reply.Reply.TheVariants as r
use Rattle.run_check.proofs.PlainLemmas.{new-told}
use Rattle.run_check.proofs.plain.is_new_of.Goals as goal

pub returns : goal.returns
returns c =
    let inside = slice_get-get_or c.args.replies.now c.args.k (r.New 0) (let a = c.requires.one_each in let b = c.requires.within in omega (arith, a, b)) in
    new-told c.args.trace.now c.args.replies.now c.args.k c.in-New.field-0 c.args.vector.now c.line.result.now c.eq.result (c.line.ensures, inside ∙ ap Some c.in-New.is)
    (slice_eq-Decides Decides-eqb c.line.result.now c.args.vector.now c.eq.result c.eq.ensures)
