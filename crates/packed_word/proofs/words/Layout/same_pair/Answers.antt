use Rattle.std.proofs.Common.{◌∙◌, sym}
use Rattle.std.proofs.lemmas.Bool.{eqb-true, eq-eqb}
use Rattle.packed_word.proofs.Parts.{parts_same, numbers_same}
use Rattle.packed_word.proofs.words.Layout.same_pair.Goals as goal

pub returns : goal.returns
returns g c = (
  λ h. parts_same g.row.W c.args.word c.args.left c.args.right c.requires.layout.1 c.requires.left c.requires.right (sym c.without_flags.ensures ∙ eqb-true c.without_flags.result c.pack.result h ∙ c.pack.ensures.number),
  λ h. eq-eqb c.without_flags.result c.pack.result (c.without_flags.ensures ∙ numbers_same g.row.W c.args.word c.args.left c.args.right h ∙ sym c.pack.ensures.number),
)
