-- What the matches say of one name, as the getter and as the rows have it.
use Rattle.std.proofs.Common.{◌≡◌, ◌∙◌, ℕ, List, [], ◌∷◌, Some, None, Bool, true, false, refl, ap, map}
use Rattle.std.specs.Prelude.{find, option_map, option_and_then, slice_get, if◌then◌else◌}
use Rattle.std.specs.Str.{bytes_eq}
use Rattle.std.specs.Borrow.{Bor}
use Rattle.std.proofs.Math.Path.{fun_ext}
use Rattle.std.specs.Str.Parse.{digits_value, without_leading_plus}
use Rattle.clap.specs.Facts.{Entry}
use Rattle.clap.specs.Walk.{row_of, rows_of}
use Rattle.clap.specs.Words.{HasMatchesOf, Text, app_of, fault_of, first_of, first_value, found_of, is_simple, is_simple_and_free, matches_of}
use Rattle.clap.specs.ValueTests.{is_unsigned_in}
use Rattle.clap.specs.Values.{IsUnsignedIn}
use Rattle.clap.specs.declared.builder.command.Command.{Command}
use Rattle.clap.specs.declared.builder.value_parser.ValueParser.TheVariants as vp
use Rattle.clap.specs.declared.parser.matches.ArgMatches.{ArgMatches}
use Rattle.clap.specs.declared.parser.matches.Found.{Found}
use Rattle.clap.proofs.ValueTestLemmas.{Accepts-accepts, accepts-Accepts}
use Rattle.command_line.specs.Choose.{faults, number_in, value_of}
use Rattle.command_line.specs.Command.{simple_command}
use Rattle.command_line.specs.Matches.{value_in}

first-text : (xs : List (Bor Text)) → option_map (λ s. s.now) (slice_get xs 0) ≡ slice_get (map (λ s. s.now) xs) 0
first-text [] = refl
first-text (x ∷ xs) = refl

first-in : (es : List Entry) (id : Text)
    → option_and_then (λ a. option_map (λ s. s.now) (slice_get a.vals.items 0)) (option_map (λ e. e.1) (find (λ e. bytes_eq e.0.now id) es))
    ≡ option_and_then (λ r. slice_get r.values 0) (find (λ r. bytes_eq r.id id) (map row_of es))
first-in [] id = refl
first-in (e ∷ es) id = by (bytes_eq e.0.now id) (first-in es id)
  where
    by : (b : Bool)
        → option_and_then (λ a. option_map (λ s. s.now) (slice_get a.vals.items 0)) (option_map (λ e. e.1) (find (λ e. bytes_eq e.0.now id) es))
        ≡ option_and_then (λ r. slice_get r.values 0) (find (λ r. bytes_eq r.id id) (map row_of es))
        → option_and_then (λ a. option_map (λ s. s.now) (slice_get a.vals.items 0)) (option_map (λ e. e.1) (if b then Some e else find (λ e. bytes_eq e.0.now id) es))
        ≡ option_and_then (λ r. slice_get r.values 0) (if b then Some (row_of e) else find (λ r. bytes_eq r.id id) (map row_of es))
    by true h = first-text e.1.vals.items
    by false h = h

first-row : (f : Found) (id : Text) → first_value f id ≡ first_of id (rows_of f)
first-row f id = first-in f.entries.items id

command-simple : is_simple simple_command ≡ true
command-simple = refl

command-free : is_simple_and_free simple_command ≡ true
command-free = refl

-- `clap`'s exact clause is about this command
pub free-of : (c : Command) → app_of c ≡ simple_command → is_simple_and_free (app_of c) ≡ true
free-of c e = ap is_simple_and_free e ∙ command-free

-- what a command of these words finds fault with
pub faults-of : (c : Command) (words : List Text) → app_of c ≡ simple_command → fault_of (app_of c) words ≡ faults words
unfolding faults
faults-of c words e = ap (λ a. fault_of a words) e

-- the values of the matches are those of the words
pub values-read : (c : Command) (words : List Text) (m : ArgMatches) → app_of c ≡ simple_command → HasMatchesOf (app_of c) words m
    → value_in m ≡ value_of words
unfolding value_in value_of
values-read c words m e h =
    let simple : is_simple (app_of c) ≡ true = ap is_simple e ∙ command-simple in
    let rows : rows_of (found_of m) ≡ matches_of simple_command words = (h simple).0 ∙ ap (λ a. matches_of a words) e in
    fun_ext (λ id. first-row (found_of m) id ∙ ap (first_of id) rows)

pub number-in : (low high n : ℕ) (t : Text) → IsUnsignedIn low high t → digits_value 10 (without_leading_plus t) ≡ n → number_in low high t ≡ Some n
unfolding number_in
number-in low high n t h e =
    by (is_unsigned_in low high t) (Accepts-accepts false (vp.Unsigned low high) t h)
  where
    by : (b : Bool) → b ≡ true → (if b then Some (digits_value 10 (without_leading_plus t)) else None) ≡ Some n
    by true q = ap Some e
    by false q = cc q

pub number-out : (low high : ℕ) (t : Text) → (IsUnsignedIn low high t → ⊥) → number_in low high t ≡ None
unfolding number_in
number-out low high t h = by (is_unsigned_in low high t) (λ e. h (accepts-Accepts false (vp.Unsigned low high) t e))
  where
    by : (b : Bool) → (b ≡ true → ⊥) → (if b then Some (digits_value 10 (without_leading_plus t)) else None) ≡ None
    by true k = absurd (k refl)
    by false k = refl
