use Rattle.std.proofs.Common.{◌∙◌, Some, ap, arith}
use Rattle.std.proofs.lemmas.Bool.Decides.{Decides-eqb}
use Rattle.std.proofs.lemmas.Option.{slice_get-get_or}
use Rattle.std.proofs.lemmas.Slice.Eq.{slice_eq-Decides}
use Rattle.std.specs.Prelude.{◌==◌}
use Rattle.tdb_base.proofs.ListLemmas.{at-within}
use Rattle.tdb_base.specs.declared.reply.Reply.TheVariants as r
use Rattle.run_check.proofs.TableLemmas.{is-identifier, is-vector}
use Rattle.run_check.proofs.table.Key.is_of.Goals as goal

pub returns-in-Vector : goal.returns-in-Vector
returns-in-Vector c =
    let inside = slice_get-get_or c.args.replies.now c.args.line (r.New 0) (let a = c.requires.one_each in let b = c.requires.within in omega (arith, a, b)) in
    is-vector c.args.trace.now c.args.replies.now c.args.line c.args.self c.in-Vector.vector c.line.result.now c.in-New.id c.in-Vector.is
    (c.line.ensures, inside ∙ ap Some c.in-New.is) c.eq.result (slice_eq-Decides Decides-eqb c.line.result.now c.in-Vector.vector.now c.eq.result c.eq.ensures)

pub returns-in-Identifier : goal.returns-in-Identifier
returns-in-Identifier c =
    let inside = slice_get-get_or c.args.replies.now c.args.line (r.New 0) (let a = c.requires.one_each in let b = c.requires.within in omega (arith, a, b)) in
    let vector = at-within c.args.trace.now c.args.line c.requires.within in
    is-identifier c.args.trace.now c.args.replies.now c.args.line c.args.self c.in-Identifier.wanted vector.0 c.in-New.id c.in-Identifier.is
    (vector.1, inside ∙ ap Some c.in-New.is) (c.in-New.id == c.in-Identifier.wanted) (Decides-eqb c.in-New.id c.in-Identifier.wanted)
