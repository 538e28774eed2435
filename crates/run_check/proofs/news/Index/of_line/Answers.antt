use Rattle.std.proofs.Common.{◌∙◌, arith, get_or, length, subst, sym}
use Rattle.std.proofs.lemmas.Option.{slice_get-get_or}
use Rattle.tdb_base.specs.declared.reply.Reply.TheVariants as r
use Rattle.run_check.specs.Table.{IsLineOf}
use Rattle.run_check.specs.declared.table.Key.TheVariants as k
use Rattle.run_check.proofs.IndexLemmas.{vector-is, vector-itself}
use Rattle.run_check.proofs.news.Index.of_line.Goals as goal

pub returns : goal.returns
returns c =
    let place = c.find.ensures (length c.args.trace.now) c.requires.covers.by_vector in
    vector-is c.args.trace.now c.args.replies.now c.args.self.now.vectors c.args.self.now.ids c.requires.covers c.args.i c.line.result c.line-2.result c.line.ensures
    (subst (IsLineOf c.args.trace.now c.args.replies.now (length c.args.trace.now) (k.Vector c.line.result)) (sym c.line-2.ensures) place.0)

pub returns-then-is_new : goal.returns-then-is_new
returns-then-is_new c =
    let inside = slice_get-get_or c.args.replies.now c.args.i (r.New 0) (let a = c.requires.one_each in let b = c.requires.within in omega (arith, a, b)) in
    vector-itself c.args.trace.now c.args.replies.now c.args.self.now.vectors c.args.self.now.ids c.requires.covers c.args.i (get_or c.args.replies.now c.args.i (r.New 0)) inside
    (sym c.is_new.ensures ∙ c.if-is_new.true)
