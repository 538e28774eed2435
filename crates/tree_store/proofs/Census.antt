-- How many names there are, and how many a pass counts.
use Rattle.std.proofs.Common.{◌≡◌, ℕ, ◌*◌, ◌≤◌, List, [], ◌∷◌, Bool, true, false, cond, refl, sym, ap, ◌∙◌, arith, inl, inr, eq-eqb}
use Rattle.std.specs.Prelude.{◌&&◌, ◌||◌, ◌==◌, count_by, if◌then◌else◌, filter}
use Rattle.std.specs.List.{list_any}
use Rattle.std.proofs.lemmas.List.Sums.{sum_by-cons}
use Rattle.std.proofs.Math.Nat.{mul-le-mul}
use Rattle.tree_shape.specs.Tree.{Has}
use Rattle.tdb_base.specs.History.{Entry, History, is_fresh, calls}
use Rattle.pair_rule.specs.Rest.{names_of_callers}

any_of : (x : ℕ) (ns : List ℕ) → Has x ns → list_any (λ c. c == x) ns ≡ true
any_of x [] h = absurd h
any_of x (n ∷ ns) (inl same) = first (n == x) (list_any (λ c. c == x) ns) (eq-eqb n x (sym same))
  where
    first : (a b : Bool) → a ≡ true → (a || b) ≡ true
    first true b e = refl
    first false b e = cc e
any_of x (n ∷ ns) (inr more) = second (n == x) (list_any (λ c. c == x) ns) (any_of x ns more)
  where
    second : (a b : Bool) → b ≡ true → (a || b) ≡ true
    second true b e = refl
    second false b e = e

-- an entry is among the calls of its caller
has_call : (h : History) (e : Entry) → Has e h → calls h e.caller ≡ [] → ⊥
has_call [] e has none = absurd has
has_call (x ∷ h) e (inl same) none = kept (x.caller == e.caller) (eq-eqb x.caller e.caller (ap (λ y. y.caller) (sym same))) none
  where
    kept : (b : Bool) → b ≡ true → (if b then x ∷ filter (λ y. y.caller == e.caller) h else filter (λ y. y.caller == e.caller) h) ≡ [] → ⊥
    kept true t k = cc k
    kept false t k = cc t
has_call (x ∷ h) e (inr more) none = later (x.caller == e.caller) none (has_call h e more)
  where
    later : (b : Bool) → (if b then x ∷ filter (λ y. y.caller == e.caller) h else filter (λ y. y.caller == e.caller) h) ≡ [] → (calls h e.caller ≡ [] → ⊥) → ⊥
    later true k rest = cc k
    later false k rest = rest k

-- where all others made no calls, each entry's caller is among these numbers
caller_known : (ns : List ℕ) (h : History) → ((c : ℕ) → (Has c ns → ⊥) → calls h c ≡ []) → (e : Entry) → Has e h → list_any (λ c. c == e.caller) ns ≡ true
caller_known ns h others e has = by (list_any (λ c. c == e.caller) ns) refl
  where
    by : (b : Bool) → list_any (λ c. c == e.caller) ns ≡ b → b ≡ true
    by true t = refl
    by false t = absurd (has_call h e has (others e.caller (λ there. let both : false ≡ true = sym t ∙ any_of e.caller ns there in cc both)))

names_known : (ns : List ℕ) (h : History) → ((e : Entry) → Has e h → list_any (λ c. c == e.caller) ns ≡ true) → names_of_callers ns h ≡ count_by (λ e. is_fresh e.act) h
names_known ns [] each = refl
names_known ns (e ∷ h) each =
    let a = sum_by-cons (λ (x : Entry). cond (is_fresh x.act && list_any (λ c. c == x.caller) ns) 1 0) e h in
    let b = sum_by-cons (λ (x : Entry). cond (is_fresh x.act) 1 0) e h in
    let rest = names_known ns h (λ x has. each x (inr has)) in
    let one = weigh (is_fresh e.act) (list_any (λ c. c == e.caller) ns) (each e (inl refl)) in
    omega (arith, a, b, rest, one)
  where
    weigh : (a b : Bool) → b ≡ true → cond {A = ℕ} (a && b) 1 0 ≡ cond a 1 0
    weigh true b e = ap (λ (x : Bool). cond {A = ℕ} x 1 0) e
    weigh false b e = refl

-- where all others made no calls, the names that these callers gave are all names
pub names_all : (ns : List ℕ) (h : History) → ((c : ℕ) → (Has c ns → ⊥) → calls h c ≡ []) → names_of_callers ns h ≡ count_by (λ e. is_fresh e.act) h
names_all ns h others = names_known ns h (caller_known ns h others)

-- bytes of so many vectors are few
pub few_bytes : (each count : ℕ) → each ≤ 4096 → count ≤ 16777216 → each * count ≤ 68719476736
few_bytes each count small few = mul-le-mul small few
