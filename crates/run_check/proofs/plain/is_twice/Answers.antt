use Rattle.std.proofs.Common.{◌∙◌, Bool, Some, ap, arith, subst, sym}
use Rattle.std.proofs.lemmas.Bool.Decides.{Decides-eqb}
use Rattle.std.proofs.lemmas.Option.{slice_get-get_or}
use Rattle.std.proofs.lemmas.Slice.Eq.{slice_eq-Decides}
use Rattle.std.specs.Prelude.{◌==◌, ◌↔◌, IsTrue}
use Rattle.tdb_base.specs.declared.reply.Reply.TheVariants as r
use Rattle.run_check.specs.Sentences.{IsTwice}
use Rattle.run_check.proofs.PlainLemmas.{twice-told}
use Rattle.run_check.proofs.plain.is_twice.Goals as goal

pub returns : goal.returns
returns c =
    let one_each = c.requires.one_each in
    let before = c.requires.before in
    let within = c.requires.within in
    let one = slice_get-get_or c.args.replies.now c.args.first (r.New 0) (omega (arith, one_each, before, within)) in
    let other = slice_get-get_or c.args.replies.now c.args.second (r.New 0) (omega (arith, one_each, within)) in
    subst (λ (b : Bool). IsTrue b ↔ IsTwice c.args.trace.now c.args.replies.now c.args.second c.args.first) (sym c.either.ensures)
    (twice-told c.args.trace.now c.args.replies.now c.args.first c.args.second c.in-New.id c.in-New-replies.next c.line.result.now c.line-2.result.now c.eq.result (c.in-New.id == c.in-New-replies.next) before
    (c.line.ensures, one ∙ ap Some c.in-New.is) (c.line-2.ensures, other ∙ ap Some c.in-New-replies.is)
    (slice_eq-Decides Decides-eqb c.line.result.now c.line-2.result.now c.eq.result c.eq.ensures) (Decides-eqb c.in-New.id c.in-New-replies.next))
