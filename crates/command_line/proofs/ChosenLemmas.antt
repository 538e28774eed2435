-- What `chosen` is, by what `clap` says of the words.
use Rattle.std.proofs.Common.{◌≡◌, ◌≢◌, ◌∙◌, List, [], ◌∷◌, Option, Some, None, refl, sym, ap, subst}
use Rattle.std.specs.Prelude.{Result, Err, IfOk}
use Rattle.std.specs.Option.{ok_or}
use Rattle.clap.specs.Words.{Kinds, Text}
use Rattle.command_line.specs.Choose.{Values, choice_of, chosen, faults, given, if_empty, kept, value_of}
use Rattle.command_line.specs.declared.outcome.Choice.{Choice}
use Rattle.command_line.specs.declared.outcome.ChoiceError.{ChoiceError}
use Rattle.command_line.specs.declared.outcome.ChoiceError.TheVariants.{Usage}

-- the command takes the words
pub chosen-taken : (words : List Text) (values : Values) → faults words ≡ [] → values ≡ value_of words → chosen words ≡ given (choice_of values) kept
unfolding chosen
chosen-taken words values taken same =
    ap (λ (fs : Kinds). if_empty fs (given (choice_of (value_of words)) kept)) taken
    ∙ ap (λ (v : Values). given (choice_of v) kept) (sym same)

none-of : (fs : Kinds) (o : Option Choice) → fs ≢ [] → if_empty fs o ≡ None
none-of [] o some = absurd (some refl)
none-of (f ∷ fs) o some = refl

-- the command doesn't take the words
pub chosen-refused : (words : List Text) → faults words ≢ [] → chosen words ≡ None
unfolding chosen
chosen-refused words some = none-of (faults words) (given (choice_of (value_of words)) kept) some

pub ok-chosen : (x o : Option Choice) (r : Result Choice ChoiceError) → x ≡ o → r ≡ ok_or o Usage → IfOk r (λ c. x ≡ Some c)
ok-chosen x o r e q = subst (λ (s : Result Choice ChoiceError). IfOk s (λ c. x ≡ Some c)) (sym q) (by o e)
  where
    by : (o : Option Choice) → x ≡ o → IfOk (ok_or {T = Choice} {E = ChoiceError} o Usage) (λ c. x ≡ Some c)
    by None e = tt
    by (Some c) e = e

pub err-chosen : (x o : Option Choice) (r : Result Choice ChoiceError) → x ≡ o → r ≡ ok_or o Usage → r ≡ Err Usage → x ≡ None
err-chosen x o r e q f = by o e (sym q ∙ f)
  where
    by : (o : Option Choice) → x ≡ o → ok_or {T = Choice} {E = ChoiceError} o Usage ≡ Err Usage → x ≡ None
    by None e h = e
    by (Some c) e h = cc h
