-- Cells of which the sentences hold keep the map: which key stands in a cell follows from them.
use Rattle.std.proofs.Common.{◌≡◌, ◌≢◌, ◌⊎◌, ℕ, zero, suc, ◌<◌, ◌≤◌, Bool, true, false, eqb, cond, List, [], ◌∷◌, length, Option, Some, None, refl, sym, ap, ◌∙◌, subst, inl, inr, ⊎_elim, arith}
use Rattle.std.proofs.lemmas.Bool.{cases_lt, eq-eqb, ne_eqb}
use Rattle.cleary_core.specs.declared.cells.Cell.{Cell}
use Rattle.cleary_core.specs.Cells.{mark_of}
use Rattle.cleary_core.specs.Map.{Key, Has, IsMap, Slots, Taken, Laid, Drawn, Keeps, empty_cell, occupied_count}
use Rattle.cleary_core.specs.Sentences.{Sentences}
use Rattle.cleary_core.proofs.Slots.{cases_same, cases_bool, cases_option, none_some, same_key, clash, count_more}

-- two entries of a map with one home and quotient are one
pub one_key : (keys : List Key) → IsMap keys → (k l : Key) → Has k keys → Has l keys → k.home ≡ l.home → k.quotient ≡ l.quotient → k ≡ l
one_key [] map k l a b h q = absurd a
one_key (x ∷ keys) map k l a b h q = ⊎_elim
    (λ (first : k ≡ x). ⊎_elim
    (λ (both : l ≡ x). first ∙ sym both)
    (λ (later : Has l keys). absurd (map.0 l later (sym h ∙ ap (λ (y : Key). y.home) first) (sym q ∙ ap (λ (y : Key). y.quotient) first)))
    b)
    (λ (later : Has k keys). ⊎_elim
    (λ (first : l ≡ x). absurd (map.0 k later (h ∙ ap (λ (y : Key). y.home) first) (q ∙ ap (λ (y : Key). y.quotient) first)))
    (λ (both : Has l keys). one_key keys map.1 k l later both h q)
    b)
    a

-- a fact that is decided, as a Boolean
holds : (P : Type 0) → P ⊎ (P → ⊥) → Bool
holds P (inl a) = true
holds P (inr b) = false

holds_true : (P : Type 0) (d : P ⊎ (P → ⊥)) → holds P d ≡ true → P
unfolding holds
holds_true P (inl a) e = a
holds_true P (inr b) e = absurd (clash false refl e)

true_holds : (P : Type 0) (d : P ⊎ (P → ⊥)) → P → holds P d ≡ true
unfolding holds
true_holds P (inl a) x = refl
true_holds P (inr b) x = absurd (b x)

-- the first key of some for which a test is true
seek : (Key → Bool) → List Key → Option Key
seek p [] = None
seek p (k ∷ keys) = cond (p k) (Some k) (seek p keys)

seek_has : (p : Key → Bool) (keys : List Key) (k : Key) → seek p keys ≡ Some k → Has k keys × (p k ≡ true)
unfolding seek
seek_has p [] k e = absurd (none_some None k refl e)
seek_has p (x ∷ keys) k e = ⊎_elim
    (λ (yes : p x ≡ true).
    let is : k ≡ x = same_key (seek p (x ∷ keys)) k x e (ap (λ b. cond b (Some x) (seek p keys)) yes) in
    let r : Has k (x ∷ keys) × (p k ≡ true) = (inl is, ap p is ∙ yes) in r)
    (λ (no : p x ≡ false).
    let t = seek_has p keys k (sym (ap (λ b. cond b (Some x) (seek p keys)) no) ∙ e) in
    let r : Has k (x ∷ keys) × (p k ≡ true) = (inr t.0, t.1) in r)
    (cases_bool (p x))

seek_none : (p : Key → Bool) (keys : List Key) → seek p keys ≡ None → (k : Key) → Has k keys → p k ≡ true → ⊥
unfolding seek
seek_none p [] e k has t = has
seek_none p (x ∷ keys) e k has t = ⊎_elim
    (λ (yes : p x ≡ true). none_some (seek p (x ∷ keys)) x e (ap (λ b. cond b (Some x) (seek p keys)) yes))
    (λ (no : p x ≡ false). ⊎_elim
    (λ (is : k ≡ x). clash (p x) no (ap p (sym is) ∙ t))
    (λ (later : Has k keys). seek_none p keys (sym (ap (λ b. cond b (Some x) (seek p keys)) no) ∙ e) k later t)
    has)
    (cases_bool (p x))

seek_one : (p : Key → Bool) (keys : List Key) (k : Key) → Has k keys → p k ≡ true → ((l : Key) → Has l keys → p l ≡ true → l ≡ k) → seek p keys ≡ Some k
seek_one p keys k has t one = ⊎_elim
    (λ (none : seek p keys ≡ None). absurd (seek_none p keys none k has t))
    (λ (some : (l : Key) × (seek p keys ≡ Some l)). let s = seek_has p keys some.0 some.1 in some.1 ∙ ap (λ x. Some x) (one some.0 s.0 s.1))
    (cases_option (seek p keys))

-- an occupied cell counts
count_some : (cells : ℕ → Cell) (n i : ℕ) → i < n → (cells i).occupied ≡ true → 1 ≤ occupied_count cells n
count_some cells zero i h t = absurd (omega arith)
count_some cells (suc n) i h t = ⊎_elim
    (λ (same : i ≡ n). let one : mark_of (cells n).occupied ≡ 1 = ap mark_of (ap (λ m. (cells m).occupied) (sym same) ∙ t) in omega arith)
    (λ (ne : i ≢ n). let r = count_some cells n i (omega arith) t in omega arith)
    (cases_same i n)

-- cells with one of them emptied
off : (ℕ → Cell) → ℕ → ℕ → Cell
off cells j m = cond (eqb m j) empty_cell (cells m)

off_here : (cells : ℕ → Cell) (j : ℕ) → off cells j j ≡ empty_cell
unfolding off
off_here cells j = ap (λ b. cond b empty_cell (cells j)) (eq-eqb j j refl)

off_else : (cells : ℕ → Cell) (j m : ℕ) → m ≢ j → off cells j m ≡ cells m
unfolding off
off_else cells j m ne = ap (λ b. cond b empty_cell (cells m)) (ne_eqb m j ne)

-- where as many cells are occupied as there are keys, and each key has a cell of its own, each occupied cell has a key
covers : (n : ℕ) (keys : List Key) (cells : ℕ → Cell) (stands : Key → ℕ → Type 0) → IsMap keys
    → ((k : Key) → Has k keys → (i : ℕ) × (i < n) × ((cells i).occupied ≡ true) × stands k i)
    → ((k l : Key) (i : ℕ) → Has k keys → Has l keys → stands k i → stands l i → k ≡ l)
    → occupied_count cells n ≡ length keys → (i : ℕ) → i < n → (cells i).occupied ≡ true → (k : Key) × Has k keys × stands k i
covers n [] cells stands map all own count i h t = let some = count_some cells n i h t in absurd (omega arith)
covers n (k ∷ keys) cells stands map all own count i h t =
    let a = all k (inl refl) in
    let j : ℕ = a.0 in
    ⊎_elim
    (λ (same : i ≡ j). let r : (x : Key) × Has x (k ∷ keys) × stands x i = (k, inl refl, subst (λ (m : ℕ). stands k m) (sym same) a.3) in r)
    (λ (ne : i ≢ j).
    let rest = off cells j in
    let fewer : occupied_count cells n ≡ suc (occupied_count (off cells a.0) n)
    = count_more (off cells a.0) cells j n a.1 (ap (λ (c : Cell). c.occupied) (off_here cells j)) a.2 (λ m less other. ap (λ (c : Cell). c.occupied) (sym (off_else cells j m other))) in
    let r = covers n keys (off cells a.0) stands map.1
    (λ l has. let b = all l (inr has) in
    let apart : b.0 ≢ a.0 = (λ same. map.0 k (subst (λ (x : Key). Has x keys) (own l k a.0 (inr has) (inl refl) (subst (λ (m : ℕ). stands l m) same b.3) a.3) has) refl refl) in
    let x : (m : ℕ) × (m < n) × ((off cells a.0 m).occupied ≡ true) × stands l m = (b.0, b.1, ap (λ (c : Cell). c.occupied) (off_else cells a.0 b.0 apart) ∙ b.2, b.3) in x)
    (λ x y m hx hy sx sy. own x y m (inr hx) (inr hy) sx sy)
    (omega arith) i h (ap (λ (c : Cell). c.occupied) (off_else cells j i ne) ∙ t) in
    let q : (x : Key) × Has x (k ∷ keys) × stands x i = (r.0, inr r.1, r.2) in q)
    (cases_same i j)

module _ (n : ℕ) (cells : ℕ → Cell) (keys : List Key) (s : Sentences n cells keys) where
  -- a cell of a key's group with the key's quotient
  abbrev Stands : Key → ℕ → Type 0
  Stands k i = (s.first k.home ≤ i) × (i < s.stop k.home) × ((cells i).quotient ≡ k.quotient)

  stands_or_not : (k : Key) (i : ℕ) → Stands k i ⊎ (Stands k i → ⊥)
  stands_or_not k i = ⊎_elim
      (λ (below : i < s.first k.home). inr (λ x. let a = x.0 in omega arith))
      (λ (from : s.first k.home ≤ i). ⊎_elim
      (λ (within : i < s.stop k.home). ⊎_elim
      (λ (same : (cells i).quotient ≡ k.quotient). inl (from, within, same))
      (λ (ne : (cells i).quotient ≢ k.quotient). inr (λ x. ne x.2))
      (cases_same (cells i).quotient k.quotient))
      (λ (past : s.stop k.home ≤ i). inr (λ x. let b = x.1 in omega arith))
      (cases_lt i (s.stop k.home)))
      (cases_lt i (s.first k.home))

  -- groups don't overlap
  one_home : (k l : Key) (i : ℕ) → Has k keys → Has l keys → s.first k.home ≤ i → i < s.stop k.home → s.first l.home ≤ i → i < s.stop l.home → k.home ≡ l.home
  one_home k l i hk hl a b c d = ⊎_elim
      (λ (same : k.home ≡ l.home). same)
      (λ (ne : k.home ≢ l.home). ⊎_elim
      (λ (less : k.home < l.home). let r = s.rising k l hk hl less in absurd (omega arith))
      (λ (from : l.home ≤ k.home). let r = s.rising l k hl hk (omega arith) in absurd (omega arith))
      (cases_lt k.home l.home))
      (cases_same k.home l.home)

  own : (k l : Key) (i : ℕ) → Has k keys → Has l keys → Stands k i → Stands l i → k ≡ l
  own k l i hk hl a b = one_key keys s.map k l hk hl (one_home k l i hk hl a.0 a.1 b.0 b.1) (sym a.2 ∙ b.2)

  slots : Slots
  slots i = seek (λ k. holds (Stands k i) (stands_or_not k i)) keys

  key_at : (i : ℕ) (k : Key) → slots i ≡ Some k → Has k keys × Stands k i
  unfolding slots
  key_at i k e = let r = seek_has (λ k. holds (Stands k i) (stands_or_not k i)) keys k e in (r.0, holds_true (Stands k i) (stands_or_not k i) r.1)

  at_key : (i : ℕ) (k : Key) → Has k keys → Stands k i → slots i ≡ Some k
  unfolding slots
  at_key i k has stands = seek_one (λ k. holds (Stands k i) (stands_or_not k i)) keys k has (true_holds (Stands k i) (stands_or_not k i) stands)
      (λ l more t. own l k i more has (holds_true (Stands l i) (stands_or_not l i) t) stands)

  taken : (i : ℕ) → i < n → (cells i).occupied ≡ true → Taken slots i
  taken i h t =
      let c = covers n keys cells (λ k m. Stands k m) s.map
      (λ k has. let a = s.stands k has in let g = s.group k a.0 has a.1 a.2 in
      let x : (m : ℕ) × (m < n) × ((cells m).occupied ≡ true) × Stands k m = (a.0, g.0, g.1, (a.1, a.2, a.3)) in x)
      own s.number i h t in
      let x : Taken slots i = (c.0, at_key i c.0 c.1 c.2) in x

  inside : (i : ℕ) (k : Key) → slots i ≡ Some k → i < n
  inside i k e = let a = key_at i k e in (s.group k i a.0 a.1.0 a.1.1).0

  laid : Laid n slots
  laid = record {
    past = inside;
    once = λ i j k l e f h q. let a = key_at i k e in let b = key_at j l f in
        s.once k i j a.0 a.1.0 a.1.1 (subst (λ (m : ℕ). s.first m ≤ j) (sym h) b.1.0) (subst (λ (m : ℕ). j < s.stop m) (sym h) b.1.1) (a.1.2 ∙ q ∙ sym b.1.2);
    rising = λ i j k l less e f. let a = key_at i k e in let b = key_at j l f in ⊎_elim
        (λ (bad : l.home < k.home). let r = s.rising l k b.0 a.0 bad in absurd (omega (arith, a.1.0, b.1.1)))
        (λ (good : k.home ≤ l.home). good)
        (cases_lt l.home k.home);
    run_up = λ i j k e a b. let x = key_at i k e in taken j (omega (arith, inside i k e)) (s.run k i j x.0 x.1.0 x.1.1 (inl (a, b)));
    run_down = λ i j k e a b. let x = key_at i k e in taken j (omega (arith, s.inside k x.0)) (s.run k i j x.0 x.1.0 x.1.1 (inr (a, b)));
  }

  -- the last cell of a group has change, and no other
  only_last : (i : ℕ) (k : Key) → slots i ≡ Some k → (cells i).change ≡ true → (j : ℕ) (l : Key) → i < j → slots j ≡ Some l → l.home ≢ k.home
  only_last i k e t j l less f same =
      let a = key_at i k e in
      let b = key_at j l f in
      let c = (s.change i (inside i k e)).0 t in
      let m = s.stands c.0 c.1 in
      let home = one_home c.0 k i c.1 a.0 (omega (arith, m.1, m.2, c.2)) (omega (arith, c.2)) a.1.0 a.1.1 in
      let end : s.stop l.home ≡ s.stop c.0.home = ap s.stop (same ∙ sym home) in
      omega (arith, b.1.1, c.2)

  is_last : (i : ℕ) (k : Key) → slots i ≡ Some k → ((j : ℕ) (l : Key) → i < j → slots j ≡ Some l → l.home ≢ k.home) → (cells i).change ≡ true
  is_last i k e none =
      let a = key_at i k e in
      let end : suc i ≡ s.stop k.home = ⊎_elim
      (λ (more : suc i < s.stop k.home).
      let g = s.group k (suc i) a.0 (omega (arith, a.1.0)) more in
      let l = g.2 in
      absurd (none (suc i) l.0 (omega arith) (at_key (suc i) l.0 l.1 (subst (λ (m : ℕ). s.first m ≤ suc i) (sym l.2) (omega (arith, a.1.0)), subst (λ (m : ℕ). suc i < s.stop m) (sym l.2) more, l.3)) l.2))
      (λ (here : s.stop k.home ≤ suc i). omega (arith, a.1.1))
      (cases_lt (suc i) (s.stop k.home)) in
      (s.change i (inside i k e)).1 (k, a.0, end)

  drawn : Drawn n cells slots
  drawn = record {
    empty = λ i h e. s.clear i h (⊎_elim
        (λ (t : (cells i).occupied ≡ true). let x = taken i h t in absurd (none_some (slots i) x.0 e x.1))
        (λ (f : (cells i).occupied ≡ false). f)
        (cases_bool (cells i).occupied));
    occupied = λ i k e. let a = key_at i k e in (s.group k i a.0 a.1.0 a.1.1).1;
    quotient = λ i k e. let a = key_at i k e in a.1.2;
    flags = λ i k e. let a = key_at i k e in let g = s.group k i a.0 a.1.0 a.1.1 in let l = g.2 in
        l.4 ∙ ap (λ (x : Key). x.flags) (one_key keys s.map l.0 k l.1 a.0 l.2 (sym l.3 ∙ a.1.2));
    virgin = λ i h t. let v = (s.virgin i h).0 t in let m = s.stands v.0 v.1 in
        let x : (j : ℕ) × (k : Key) × (slots j ≡ Some k) × (k.home ≡ i) = (m.0, v.0, at_key m.0 v.0 v.1 (m.1, m.2, m.3), v.2) in x;
    home = λ j k e. let a = key_at j k e in (s.virgin k.home (s.inside k a.0)).1 (k, a.0, refl);
    change = only_last;
    last = is_last;
  }

  pub keeps_by_sentences : Keeps n cells keys
  keeps_by_sentences = record {
    slots = slots;
    laid = laid;
    drawn = drawn;
    holds = record {
      map = s.map;
      number = s.number;
      all = λ k has. let m = s.stands k has in let x : (i : ℕ) × (slots i ≡ Some k) = (m.0, at_key m.0 k has (m.1, m.2, m.3)) in x;
      only = λ i k e. (key_at i k e).0;
    };
  }
