-- The text lines of some bytes.
use Rattle.std.proofs.Common.{◌⊎◌, inl, inr, ◌≡◌, ◌≤◌, ◌+◌, ◌∙◌, ℕ, List, [], ◌∷◌, ◌++◌, length, take, drop, Bool, true, false, refl, sym, ap, arith, append_assoc, length-append}
use Rattle.std.proofs.lemmas.List.{append-nil, take-append-drop, take-append-le}
use Rattle.std.proofs.lemmas.List.Concat.{concat_is, flat_map-append}
use Rattle.std.proofs.Math.Seq.{take-append-add}
use Rattle.std.specs.List.{concat, flat_map}
use Rattle.std.specs.Prelude.{◌==◌}
use Rattle.run_check.specs.Text.{before_line, text_lines, to_line}

-- no byte is a line feed
abbrev pub NoFeed : List ℕ → Type 0
NoFeed [] = Unit {0}
NoFeed (b ∷ rest) = ((b == 10) ≡ false) × NoFeed rest

pub no-feed-append : (u v : List ℕ) → NoFeed u → NoFeed v → NoFeed (u ++ v)
no-feed-append [] v one other = other
no-feed-append (b ∷ u) v one other = (one.0, no-feed-append u v one.1 other)

pub no-feed-has : (u y : List ℕ) → NoFeed (u ++ 10 ∷ y) → ⊥
no-feed-has [] y none = let e = none.0 in cc e
no-feed-has (b ∷ u) y none = no-feed-has u y none.1

head-same : (b c : ℕ) (x y : List ℕ) → b ∷ x ≡ c ∷ y → b ≡ c
head-same b c x y e = cc e

tail-same : (b c : ℕ) (x y : List ℕ) → b ∷ x ≡ c ∷ y → x ≡ y
tail-same b c x y e = cc e

feed-other : (b : ℕ) → (b == 10) ≡ false → b ≡ 10 → ⊥
feed-other b test e = let same : (b == 10) ≡ true = ap (λ (n : ℕ). n == 10) e in cc (same, test)

-- a line is told by what it begins
pub feed-cancel : (u v x y : List ℕ) → NoFeed u → NoFeed v → u ++ 10 ∷ x ≡ v ++ 10 ∷ y → u ≡ v
feed-cancel [] [] x y one other e = refl
feed-cancel [] (c ∷ v) x y one other e = absurd (feed-other c other.0 (sym (head-same 10 c x (v ++ 10 ∷ y) e)))
feed-cancel (b ∷ u) [] x y one other e = absurd (feed-other b one.0 (head-same b 10 (u ++ 10 ∷ x) y e))
feed-cancel (b ∷ u) (c ∷ v) x y one other e =
    let first = head-same b c (u ++ 10 ∷ x) (v ++ 10 ∷ y) e in
    let rest = feed-cancel u v x y one.1 other.1 (tail-same b c (u ++ 10 ∷ x) (v ++ 10 ∷ y) e) in
    ap (λ (n : ℕ). n ∷ u) first ∙ ap (λ (t : List ℕ). c ∷ t) rest

-- what a line goes beyond has no line feed
pub front-no-feed : (tail body : List ℕ) (b : ℕ) (more : List ℕ) → NoFeed body → body ++ 10 ∷ [] ≡ tail ++ b ∷ more → NoFeed tail
front-no-feed [] body b more none e = tt
front-no-feed (t ∷ tail) [] b more none e =
    let rest = tail-same 10 t [] (tail ++ b ∷ more) e in
    let size : 0 ≡ length (tail ++ b ∷ more) = ap length rest in
    let long = length-append tail (b ∷ more) in
    absurd (omega arith)
front-no-feed (t ∷ tail) (c ∷ body) b more none e =
    let first = head-same c t (body ++ 10 ∷ []) (tail ++ b ∷ more) e in
    (ap (λ (n : ℕ). n == 10) (sym first) ∙ none.0, front-no-feed tail body b more none.1 (tail-same c t (body ++ 10 ∷ []) (tail ++ b ∷ more) e))

-- the first line of a text that has a line feed
pub lines-word : (body t : List ℕ) → NoFeed body → text_lines (body ++ 10 ∷ t) ≡ (body ++ 10 ∷ []) ∷ text_lines t
unfolding text_lines
lines-word [] t none = refl
lines-word (b ∷ body) t none = rw none.0 (ap (before_line b) (lines-word body t none.1))

pub lines-nil : text_lines [] ≡ []
unfolding text_lines
lines-nil = refl

-- a text with no line feed is one line
pub lines-last : (b : ℕ) (rest : List ℕ) → NoFeed (b ∷ rest) → text_lines (b ∷ rest) ≡ (b ∷ rest) ∷ []
unfolding text_lines
lines-last b [] none = rw none.0 refl
lines-last b (c ∷ rest) none = rw none.0 (ap (before_line b) (lines-last c rest none.1))

-- a text has a line feed, or none
pub first-line : (t : List ℕ) → NoFeed t ⊎ ((body : List ℕ) × (rest : List ℕ) × NoFeed body × (t ≡ body ++ 10 ∷ rest))
first-line [] = inl tt
first-line (b ∷ t) = by (b == 10) refl (first-line t)
  where
    by : (x : Bool) → (b == 10) ≡ x → NoFeed t ⊎ ((body : List ℕ) × (rest : List ℕ) × NoFeed body × (t ≡ body ++ 10 ∷ rest))
        → NoFeed (b ∷ t) ⊎ ((body : List ℕ) × (rest : List ℕ) × NoFeed body × (b ∷ t ≡ body ++ 10 ∷ rest))
    by true e other = let same : b ≡ 10 = grind arith in inr ([], t, tt, ap (λ (n : ℕ). n ∷ t) same)
    by false e (inl none) = inl (e, none)
    by false e (inr has) = inr (b ∷ has.0, has.1, (e, has.2), ap (λ (s : List ℕ). b ∷ s) has.3)

before-line-whole : (b : ℕ) (lines : List (List ℕ)) → concat (before_line b lines) ≡ b ∷ concat lines
before-line-whole b [] = refl
before-line-whole b (line ∷ lines) = refl

-- the lines are the bytes
pub concat-lines : (t : List ℕ) → concat (text_lines t) ≡ t
unfolding text_lines
concat-lines [] = refl
concat-lines (b ∷ t) = by (b == 10) refl (concat-lines t)
  where
    by : (x : Bool) → (b == 10) ≡ x → concat (text_lines t) ≡ t → concat (text_lines (b ∷ t)) ≡ b ∷ t
    by true e more = rw e (ap (λ (s : List ℕ). b ∷ s) more)
    by false e more = rw e (before-line-whole b (text_lines t) ∙ ap (λ (s : List ℕ). b ∷ s) more)

pub concat-append : (xs ys : List (List ℕ)) → concat (xs ++ ys) ≡ concat xs ++ concat ys
concat-append xs ys = concat_is (xs ++ ys) ∙ flat_map-append (λ (x : List ℕ). x) xs ys ∙ sym (ap (λ (t : List ℕ). t ++ flat_map (λ (x : List ℕ). x) ys) (concat_is xs) ∙ ap (λ (t : List ℕ). flat_map (λ (x : List ℕ). x) xs ++ t) (concat_is ys))

-- the bytes to the end of a line, and what follows
pub to-line-rest : (m : ℕ) (bytes : List ℕ) → to_line m bytes ++ concat (drop m (text_lines bytes)) ≡ bytes
to-line-rest m bytes =
    sym (concat-append (take m (text_lines bytes)) (drop m (text_lines bytes))) ∙ ap concat (take-append-drop m (text_lines bytes)) ∙ concat-lines bytes

-- these bytes are so many whole lines
pub record IsLines (front : List ℕ) (k : ℕ) : Type 0 where
  pub split : (t : List ℕ) → text_lines (front ++ t) ≡ text_lines front ++ text_lines t
  pub count : length (text_lines front) ≡ k

pub lines-none : IsLines [] 0
unfolding text_lines
lines-none = record { split = λ t. refl; count = refl }

pub lines-more : (front body : List ℕ) (k : ℕ) → IsLines front k → NoFeed body → IsLines (front ++ (body ++ 10 ∷ [])) (k + 1)
lines-more front body k old none = record { split = split; count = ap length whole ∙ length-append (text_lines front) ((body ++ 10 ∷ []) ∷ []) ∙ ap (λ n. n + 1) old.count }
  where
    with-line : (t : List ℕ) → text_lines ((body ++ 10 ∷ []) ++ t) ≡ (body ++ 10 ∷ []) ∷ text_lines t
    with-line t = ap text_lines (append_assoc body (10 ∷ []) t) ∙ lines-word body t none

    all : (t : List ℕ) → text_lines ((front ++ (body ++ 10 ∷ [])) ++ t) ≡ text_lines front ++ ((body ++ 10 ∷ []) ∷ text_lines t)
    all t = ap text_lines (append_assoc front (body ++ 10 ∷ []) t) ∙ old.split ((body ++ 10 ∷ []) ++ t) ∙ ap (λ (ls : List (List ℕ)). text_lines front ++ ls) (with-line t)

    whole : text_lines (front ++ (body ++ 10 ∷ [])) ≡ text_lines front ++ ((body ++ 10 ∷ []) ∷ [])
    whole = ap text_lines (sym (append-nil (front ++ (body ++ 10 ∷ [])))) ∙ all [] ∙ ap (λ (ls : List (List ℕ)). text_lines front ++ ((body ++ 10 ∷ []) ∷ ls)) lines-nil

    split : (t : List ℕ) → text_lines ((front ++ (body ++ 10 ∷ [])) ++ t) ≡ text_lines (front ++ (body ++ 10 ∷ [])) ++ text_lines t
    split t = all t ∙ sym (append_assoc (text_lines front) ((body ++ 10 ∷ []) ∷ []) (text_lines t)) ∙ ap (λ (ls : List (List ℕ)). ls ++ text_lines t) (sym whole)

module _ (front : List ℕ) (k : ℕ) (old : IsLines front k) (tail : List ℕ) where
  pub lines-count : length (text_lines (front ++ tail)) ≡ k + length (text_lines tail)
  lines-count = ap length (old.split tail) ∙ length-append (text_lines front) (text_lines tail) ∙ ap (λ n. n + length (text_lines tail)) old.count

  -- a line of the front ends within it
  pub to-line-front : (m : ℕ) → m ≤ k → (more : List ℕ) × (front ≡ to_line m (front ++ tail) ++ more)
  to-line-front m few =
      let same : take m (text_lines (front ++ tail)) ≡ take m (text_lines front) =
      ap (take m) (old.split tail) ∙ take-append-le m (text_lines front) (text_lines tail) (let c = old.count in omega arith) in
      (concat (drop m (text_lines front)), sym (ap (λ (ls : List (List ℕ)). concat ls ++ concat (drop m (text_lines front))) same ∙ to-line-rest m front))

  -- the next line
  pub to-line-next : to_line (k + 1) (front ++ tail) ≡ front ++ to_line 1 tail
  to-line-next =
      ap (λ (ls : List (List ℕ)). concat (take (k + 1) ls)) (old.split tail) ∙ ap concat (take-past (text_lines front) (text_lines tail) k old.count)
      ∙ concat-append (text_lines front) (take 1 (text_lines tail)) ∙ ap (λ (t : List ℕ). t ++ to_line 1 tail) (concat-lines front)
    where
      take-past : (xs ys : List (List ℕ)) (n : ℕ) → length xs ≡ n → take (n + 1) (xs ++ ys) ≡ xs ++ take 1 ys
      take-past xs ys n e = ap (λ i. take (i + 1) (xs ++ ys)) (sym e) ∙ take-append-add xs ys 1
