use Rattle.std.proofs.Common.{Some, None, length, drop}
use Rattle.std.proofs.lemmas.Bool.{both_ways}
use Rattle.std.proofs.lemmas.Bool.Decides.{Decides-eqb}
use Rattle.std.proofs.lemmas.Slice.Eq.{starts_is, strip_prefix_is}
use Rattle.run_check.proofs.WordLemmas.{differs, ends-within}
use Rattle.run_check.proofs.word.after.Goals as goal

pub returns-in-Some : goal.returns-in-Some
returns-in-Some c = strip_prefix_is Decides-eqb c.args.text.now c.args.word.now (Some c.in-Some.rest) c.in-Some.ensures.cases

pub returns-then-starts_with : goal.returns-then-starts_with
returns-then-starts_with c =
    ends-within c.args.text.now c.args.word.now (drop (length c.args.text.now) c.args.word.now)
    (strip_prefix_is Decides-eqb c.args.text.now c.args.word.now None c.in_default.ensures.cases)
    ((starts_is Decides-eqb c.args.word.now c.args.text.now c.starts_with.result c.starts_with.ensures.value).0 c.if-starts_with.true)

pub returns : goal.returns
returns c =
    differs c.args.text.now c.args.word.now (strip_prefix_is Decides-eqb c.args.text.now c.args.word.now None c.in_default.ensures.cases)
    (λ r e. both_ways c.starts_with.result c.if-starts_with.false
    ((starts_is Decides-eqb c.args.word.now c.args.text.now c.starts_with.result c.starts_with.ensures.value).1 r e))
