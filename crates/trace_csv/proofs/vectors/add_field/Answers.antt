use Rattle.std.proofs.Common.{◌≡◌, ◌∙◌, ◌++◌, ◌<◌, ◌/◌, ◌+◌, ◌*◌, [], ap, rules, sym, length, get_or}
use Rattle.std.proofs.lemmas.Int.{to_z-of_z}
use Rattle.std.specs.Fmt.{signed_decimal}
use Rattle.std.specs.Int.{w32}
use Rattle.std.specs.Prelude.{FitsSigned}
use Rattle.trace_csv.specs.Trace.{Signed}
use Rattle.trace_csv.specs.Vectors.{texts}
use Rattle.trace_csv.specs.Words.{fields_in}
use Rattle.trace_csv.proofs.VectorsLemmas.{signed-at}
use Rattle.trace_csv.proofs.vectors.add_field.Goals as goal

pub returns-in-Signed-clause-text : goal.returns-in-Signed-clause-text
returns-in-Signed-clause-text c =
    let v = c.args.vector.now in
    let i = c.args.i in
    let inside : i < length v / 2 = rw c.in-Signed.is at c.requires.there in
    let fits : FitsSigned w32 c.cast_signed.result = search rules in
    c.add_signed.ensures.text ∙ ap (λ n. c.args.page.now ++ signed_decimal n) (to_z-of_z w32 c.cast_signed.result fits ∙ c.cast_signed.ensures)
    ∙ ap (λ t. c.args.page.now ++ t) (sym (signed-at v i inside))
    ∙ ap (λ f. c.args.page.now ++ get_or (texts f v) i []) (sym c.in-Signed.is)
