-- Histories: fronts of one another, the longer of two, and the calls of one caller.
use Rattle.std.proofs.Common.{◌≡◌, ◌≢◌, ◌⊎◌, ℕ, ◌≤◌, [], ◌∷◌, ◌++◌, length, Bool, true, false, cond, refl, sym, ap, ◌∙◌, subst, inl, inr, ⊎_elim, eqb, ne_eqb, arith, append_assoc, append-nil, length-append}
use Rattle.std.specs.Prelude.{nat_lt, if◌then◌else◌}
use Rattle.std.proofs.lemmas.Bool.{ltb-true, ltb-false}
use Rattle.tree_shape.specs.Tree.{Has}
use Rattle.tdb_base.specs.History.{Entry, History, calls}
use Rattle.tdb_base.specs.Legal.{IsLegal, Extends}
use Rattle.pair_rule.specs.View.{longer}

pub extends_refl : (h : History) → Extends h h
extends_refl h = record { more = []; whole = sym (append-nil h) }

pub extends_push : (h more : History) → Extends h (h ++ more)
extends_push h more = record { more = more; whole = refl }

pub extends_trans : (g h k : History) → Extends g h → Extends h k → Extends g k
extends_trans g h k a b = record { more = a.more ++ b.more; whole = b.whole ∙ (ap (λ (x : History). x ++ b.more) a.whole ∙ append_assoc g a.more b.more) }

-- of two fronts of one history the shorter is a front of the longer
fronts : (g h k l m : History) → k ≡ g ++ l → k ≡ h ++ m → length g ≤ length h → Extends g h
fronts [] h k l m p q le = record { more = h; whole = refl }
fronts (x ∷ g) [] k l m p q le = absurd (omega arith)
fronts (x ∷ g) (y ∷ h) [] l m p q le = cc (p)
fronts (x ∷ g) (y ∷ h) (z ∷ k) l m p q le =
    let one : y ≡ x = cc (p, q) in
    let a : k ≡ g ++ l = cc (p) in
    let b : k ≡ h ++ m = cc (q) in
    let rest = fronts g h k l m a b (omega arith) in
    record { more = rest.more; whole = λ i. one i ∷ rest.whole i }

pub extends_shorter : (g h k : History) → Extends g k → Extends h k → length g ≤ length h → Extends g h
extends_shorter g h k a b le = fronts g h k a.more b.more a.whole b.whole le

-- a front as long as the whole is the whole
pub no_longer : (g h : History) → Extends g h → length h ≤ length g → g ≡ h
no_longer g h e le = by e.more e.whole
  where
    by : (more : History) → h ≡ g ++ more → g ≡ h
    by [] whole = sym (append-nil g) ∙ sym whole
    by (x ∷ more) whole = let lengths = ap length whole in absurd (omega (arith, lengths, length-append g (x ∷ more)))

abbrev pub IsOne : History → History → Type 0
IsOne g h = ((longer g h ≡ g) × (length h ≤ length g)) ⊎ ((longer g h ≡ h) × (length g ≤ length h))

pub longer_is : (g h : History) → IsOne g h
longer_is g h = by (nat_lt (length h) (length g)) refl
  where
    by : (b : Bool) → nat_lt (length h) (length g) ≡ b → (((if b then g else h) ≡ g) × (length h ≤ length g)) ⊎ (((if b then g else h) ≡ h) × (length g ≤ length h))
    by true t = let lt = ltb-true (length h) (length g) t in inl (refl, omega arith)
    by false t = let le = ltb-false (length h) (length g) t in inr (refl, omega arith)

-- the longer of two fronts of one history is a front of it, and each is a front of the longer
pub record Longer (g h k : History) : Type 0 where
  pub front : Extends (longer g h) k
  pub first : Extends g (longer g h)
  pub second : Extends h (longer g h)
  pub first_shorter : length g ≤ length (longer g h)
  pub second_shorter : length h ≤ length (longer g h)

pub longer_of : (g h k : History) → Extends g k → Extends h k → Longer g h k
longer_of g h k a b = ⊎_elim
    (λ (t : (longer g h ≡ g) × (length h ≤ length g)). let e = sym t.0 in record {
      front = subst (λ (x : History). Extends x k) e a;
      first = subst (λ (x : History). Extends g x) e (extends_refl g);
      second = subst (λ (x : History). Extends h x) e (extends_shorter h g k b a t.1);
      first_shorter = subst (λ (x : History). length g ≤ length x) e (omega arith);
      second_shorter = subst (λ (x : History). length h ≤ length x) e t.1;
    })
    (λ (t : (longer g h ≡ h) × (length g ≤ length h)). let e = sym t.0 in record {
      front = subst (λ (x : History). Extends x k) e b;
      first = subst (λ (x : History). Extends g x) e (extends_shorter g h k a b t.1);
      second = subst (λ (x : History). Extends h x) e (extends_refl h);
      first_shorter = subst (λ (x : History). length g ≤ length x) e t.1;
      second_shorter = subst (λ (x : History). length h ≤ length x) e (omega arith);
    })
    (longer_is g h)

-- the front of a legal history is legal
pub legal_front : (count : ℕ) (g h : History) → Extends g h → IsLegal count h → IsLegal count g
legal_front count g h e l = record {
  each = λ before x after whole. l.each before x (after ++ e.more) (e.whole ∙ (ap (λ (y : History). y ++ e.more) whole ∙ append_assoc before (x ∷ after) e.more));
}

pub calls_append : (g h : History) (c : ℕ) → calls (g ++ h) c ≡ calls g c ++ calls h c
calls_append [] h c = refl
calls_append (e ∷ g) h c = by (eqb e.caller c) (calls_append g h c)
  where
    by : (b : Bool) → calls (g ++ h) c ≡ calls g c ++ calls h c → cond b (e ∷ calls (g ++ h) c) (calls (g ++ h) c) ≡ cond b (e ∷ calls g c) (calls g c) ++ calls h c
    by true rest = ap (λ (x : History). e ∷ x) rest
    by false rest = rest

front_none : (g h : History) → g ++ h ≡ [] → g ≡ []
front_none [] h e = refl
front_none (x ∷ g) h e = cc e

nothing_more : (g more : History) → g ++ more ≡ g → more ≡ []
nothing_more [] more e = e
nothing_more (x ∷ g) more e = nothing_more g more (cc e)

-- between two histories with the same calls of c lie only such
pub calls_between : (g h k : History) (c : ℕ) → Extends g h → Extends h k → calls g c ≡ calls k c → calls h c ≡ calls g c
calls_between g h k c a b e =
    let p : calls h c ≡ calls g c ++ calls a.more c = ap (λ (x : History). calls x c) a.whole ∙ calls_append g a.more c in
    let q : calls k c ≡ calls h c ++ calls b.more c = ap (λ (x : History). calls x c) b.whole ∙ calls_append h b.more c in
    let d : calls g c ++ (calls a.more c ++ calls b.more c) ≡ calls g c = sym (append_assoc (calls g c) (calls a.more c) (calls b.more c)) ∙ (ap (λ (x : History). x ++ calls b.more c) (sym p) ∙ (sym q ∙ sym e)) in
    let nothing : calls a.more c ≡ [] = front_none (calls a.more c) (calls b.more c) (nothing_more (calls g c) _ d) in
    p ∙ (ap (λ (x : History). calls g c ++ x) nothing ∙ append-nil (calls g c))

-- a front of a history without calls of c has none
pub calls_none : (g h : History) (c : ℕ) → Extends g h → calls h c ≡ [] → calls g c ≡ []
calls_none g h c e none = front_none (calls g c) (calls e.more c) (sym (calls_append g e.more c) ∙ (ap (λ (x : History). calls x c) (sym e.whole) ∙ none))

-- entries of other callers are no calls of c
pub other_calls : (log more : History) (c : ℕ) → ((e : Entry) → Has e more → e.caller ≢ c) → calls (log ++ more) c ≡ calls log c
other_calls log more c others = calls_append log more c ∙ (ap (λ (x : History). calls log c ++ x) (none_of more others) ∙ append-nil (calls log c))
  where
    none_of : (es : History) → ((e : Entry) → Has e es → e.caller ≢ c) → calls es c ≡ []
    none_of [] h = refl
    none_of (e ∷ es) h = rw (ne_eqb e.caller c (h e (inl refl))) (none_of es (λ f k. h f (inr k)))
