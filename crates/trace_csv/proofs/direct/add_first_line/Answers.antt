use Rattle.std.proofs.Common.{◌≡◌, ◌∙◌, ◌∷◌, [], Option, Some, None, ap, arith, rules, get_or, IfSome}
use Rattle.std.specs.Option.{MatchOption}
use Rattle.std.proofs.lemmas.Bool.Decides.{Decides-eqb}
use Rattle.std.proofs.lemmas.Slice.Eq.{strip_prefix_is}
use Rattle.std.proofs.lemmas.List.{nil_from_length}
use Rattle.trace_csv.proofs.DirectLemmas.{front-is, no-field, then-comma, then-end, then-line_feed, then-return}
use Rattle.trace_csv.proofs.direct.add_first_line.Goals as goal

pub loop-field-init : goal.loop-field-init
loop-field-init c = no-field c.args.form c.args.text.now c.args.numbers.now.items

pub loop-field-preserved : goal.loop-field-preserved
loop-field-preserved c =
    let first : get_or c.in_ok-after.after.now 0 0 ≡ 44 = search rules in
    then-comma _ _ _ _ _ _ _ _ c.loop-field.invariant c.in_ok-after.ensures (front-is c.in_ok-after.after.now 44 first (omega arith))

pub returns-in-empty : goal.returns-in-empty
returns-in-empty c = then-end _ _ _ _ _ _ _ c.loop-field.invariant c.in_ok-after.ensures (nil_from_length c.in_ok-after.after.now (omega arith))

pub returns-in-10 : goal.returns-in-10
returns-in-10 c =
    let first : get_or c.in_ok-after.after.now 0 0 ≡ 10 = search rules in
    then-line_feed _ _ _ _ _ _ _ _ c.loop-field.invariant c.in_ok-after.ensures (front-is c.in_ok-after.after.now 10 first (omega arith))

on-some : {A : Type 0} (o : Option A) (P : Type 0) (Q R : A → Type 0) → MatchOption o P Q → ((x : A) → Q x → R x) → IfSome o R
on-some None P Q R h f = tt
on-some (Some x) P Q R h f = f x h

pub returns-in-13 : goal.returns-in-13
returns-in-13 c =
    let first : get_or c.in_ok-after.after.now 0 0 ≡ 13 = search rules in
    on-some c.strip_prefix.result _ _ _ (strip_prefix_is Decides-eqb _ (10 ∷ []) c.strip_prefix.result c.strip_prefix.ensures.cases)
    (λ rest left. then-return _ _ _ _ _ _ _ _ c.loop-field.invariant c.in_ok-after.ensures
    (front-is c.in_ok-after.after.now 13 first (omega arith) ∙ ap (λ t. 13 ∷ t) left))
