-- What a page carries to a sink, in turn.
use Rattle.std.proofs.Common.{◌≡◌, ℕ, List, [], ◌++◌, Option, sym, append_assoc, ◌∙◌, ap, subst}
use Rattle.std.proofs.lemmas.List.{append-nil}
use Rattle.std.specs.Io.KnownBytes.{Appends}
use Rattle.trace_csv.specs.Output.{TakesFront}
use Rattle.trace_csv.specs.Page.{Carries}
use Rattle.trace_csv.proofs.OutputLemmas.{appends-more, appends-none, front-after, front-of}

-- a new page carries no text
pub carries-none : (a : Option (List ℕ)) (p : List ℕ) → p ≡ [] → Carries a a [] p []
carries-none a p e = record { moved = []; taken = appends-none a; whole = sym e }

-- one text and then the next
pub carries-more : (a b c : Option (List ℕ)) (p q r xs ys : List ℕ) → Carries a b p q xs → Carries b c q r ys → Carries a c p r (xs ++ ys)
carries-more a b c p q r xs ys h k = record {
  moved = h.moved ++ k.moved;
  taken = appends-more a b c h.moved k.moved h.taken k.taken;
  whole = sym (append_assoc p xs ys) ∙ ap (λ t. t ++ ys) h.whole ∙ append_assoc h.moved q ys ∙ ap (λ t. h.moved ++ t) k.whole ∙ sym (append_assoc h.moved k.moved r);
}

-- one text, and then some bytes that the page takes
pub carries-add : (a b : Option (List ℕ)) (p q r xs ys : List ℕ) → Carries a b p q xs → r ≡ q ++ ys → Carries a b p r (xs ++ ys)
carries-add a b p q r xs ys h e = record {
  moved = h.moved;
  taken = h.taken;
  whole = sym (append_assoc p xs ys) ∙ ap (λ t. t ++ ys) h.whole ∙ append_assoc h.moved q ys ∙ ap (λ t. h.moved ++ t) (sym e);
}

-- a page that goes to the sink for room adds nothing to the text
pub carries-room : (a b c : Option (List ℕ)) (p q r xs : List ℕ) → Carries a b p q xs → Carries b c q r [] → Carries a c p r xs
carries-room a b c p q r xs h k = subst (λ (s : List ℕ). Carries a c p r s) (append-nil xs) (carries-more a b c p q r xs [] h k)

-- some text, and then a front of what follows it, is a front of the whole
pub carries-front : (a b c : Option (List ℕ)) (p q xs ys rest all : List ℕ) → Carries a b p q xs → TakesFront b c (q ++ ys) → all ≡ (xs ++ ys) ++ rest
    → TakesFront a c (p ++ all)
carries-front a b c p q xs ys rest all h t e =
    let whole : (h.moved ++ (q ++ ys)) ++ rest ≡ p ++ all =
    ap (λ s. s ++ rest) (sym (append_assoc h.moved q ys) ∙ ap (λ s. s ++ ys) (sym h.whole) ∙ append_assoc p xs ys) ∙ append_assoc p (xs ++ ys) rest ∙ ap (λ s. p ++ s) (sym e) in
    subst (λ (s : List ℕ). TakesFront a c s) whole (front-of a c _ rest (front-after a b c h.moved (q ++ ys) h.taken t))

-- the same where the page alone followed
pub carries-stop : (a b c : Option (List ℕ)) (p q xs rest all : List ℕ) → Carries a b p q xs → TakesFront b c q → all ≡ xs ++ rest → TakesFront a c (p ++ all)
carries-stop a b c p q xs rest all h t e =
    let none : q ≡ q ++ [] = sym (append-nil q) in
    let same : all ≡ (xs ++ []) ++ rest = e ∙ ap (λ s. s ++ rest) (sym (append-nil xs)) in
    carries-front a b c p q xs [] rest all h (subst (λ (s : List ℕ). TakesFront b c s) none t) same

-- a text of which the page's part was taken last
pub carries-all : (a b c : Option (List ℕ)) (q text : List ℕ) → Carries a b [] q text → Appends b c q → Appends a c text
carries-all a b c q text h k = subst (λ (s : List ℕ). Appends a c s) (sym h.whole) (appends-more a b c h.moved q h.taken k)
