-- What a worker still has to take, from one of its lines to the next.
use Rattle.std.proofs.Common.{◌≡◌, ℕ, zero, suc, ◌+◌, ◌-◌, ◌*◌, ◌/◌, ◌%◌, ◌<◌, ◌≤◌, Bool, true, false, cond, ltb, List, [], ◌∷◌, refl, sym, ap, ◌∙◌, ⊎_elim, arith, add-zero}
use Rattle.std.specs.Prelude.{◌==◌, filter}
use Rattle.std.specs.List.{range_with_len}
use Rattle.std.proofs.lemmas.Bool.{cases_eq, cases_lt, eq-eqb, ne_eqb, lt-ltb, le-ltb}
use Rattle.std.proofs.lemmas.Nat.{mod_below, mod-mul-add}
use Rattle.std.proofs.Math.Nat.{mod-eq_of_lt, add-mod_left, pos_of_ne-zero}
use Rattle.tdb_base.specs.Lines.{mine}
use Rattle.work_run.specs.ToCome.{is_dealt, lines_to_come, AreUnderway}
use Rattle.work_run.proofs.Rounds.{in_round, place_below, own_place, own_by_place, block_within}

-- two tests that agree from a number on keep the same numbers from there on
agree_from : (p q : ℕ → Bool) (from n : ℕ) → ((x : ℕ) → from ≤ x → p x ≡ q x) → filter p (range_with_len from n) ≡ filter q (range_with_len from n)
agree_from p q from zero same = refl
agree_from p q from (suc n) same =
    ap (λ (t : Bool). cond t (from ∷ filter p (range_with_len (from + 1) n)) (filter p (range_with_len (from + 1) n))) (same from (omega arith))
    ∙ ap (λ (xs : List ℕ). cond (q from) (from ∷ xs) xs) (agree_from p q (from + 1) n (λ x h. same x (omega arith)))

-- the numbers from one on are it and those after it
range_one : (from n : ℕ) → from < n → range_with_len from (n - from) ≡ from ∷ range_with_len (from + 1) (n - (from + 1))
range_one from n below = let e : n - from ≡ suc (n - (from + 1)) = omega arith in ap (range_with_len from) e

range_end : (from n : ℕ) → n ≤ from → range_with_len from (n - from) ≡ []
range_end from n past = let e : n - from ≡ 0 = omega arith in ap (range_with_len from) e

-- numbers that fail the test are passed over
pass_over : (p : ℕ → Bool) (k from n : ℕ) → ((x : ℕ) → from ≤ x → x < from + k → p x ≡ false)
    → filter p (range_with_len from (n - from)) ≡ filter p (range_with_len (from + k) (n - (from + k)))
pass_over p zero from n none = ap (λ (m : ℕ). filter p (range_with_len m (n - m))) (sym (add-zero from))
pass_over p (suc k) from n none = ⊎_elim
    (λ (below : from < n).
    ap (filter p) (range_one from n below)
    ∙ ap (λ (t : Bool). cond t (from ∷ filter p (range_with_len (from + 1) (n - (from + 1)))) (filter p (range_with_len (from + 1) (n - (from + 1))))) (none from (omega arith) (omega arith))
    ∙ pass_over p k (from + 1) n (λ x h less. none x (omega arith) (omega arith))
    ∙ ap (λ (m : ℕ). filter p (range_with_len m (n - m))) (omega arith))
    (λ (past : n ≤ from).
    ap (filter p) (range_end from n past) ∙ sym (ap (filter p) (range_end (from + suc k) n (omega arith))))
    (cases_lt from n)

-- ---- a step
module _ (lines block gap next block_end : ℕ) (at : AreUnderway lines block gap next block_end) where
  abbrev start : ℕ
  start = block_end - block

  -- in the first round of a block
  place_here : (x : ℕ) → start ≤ x → x < block_end + gap → (x - start) % (block + gap) ≡ x - start
  place_here x from to =
      let whole = at.whole in
      let small : x - start < block + gap = omega arith in
      mod-eq_of_lt small

  in_block : is_dealt start block (block + gap) next ≡ true
  in_block =
      let begun = at.begun in
      let unfinished = at.unfinished in
      let whole = at.whole in
      lt-ltb ((next - start) % (block + gap)) block (omega (arith, place_here next (omega arith) (omega arith)))

  in_gap : (x : ℕ) → block_end ≤ x → x < block_end + gap → is_dealt start block (block + gap) x ≡ false
  in_gap x from to =
      let whole = at.whole in
      le-ltb ((x - start) % (block + gap)) block (omega (arith, place_here x (omega arith) to))

  -- a round further on
  round_on : (x : ℕ) → block_end + gap ≤ x → is_dealt start block (block + gap) x ≡ is_dealt (block_end + gap) block (block + gap) x
  round_on x from =
      let whole = at.whole in
      let e : x - start ≡ (block + gap) + (x - (block_end + gap)) = omega arith in
      ap (λ (n : ℕ). ltb n block) (ap (λ (n : ℕ). n % (block + gap)) e ∙ add-mod_left (block + gap) (x - (block_end + gap)))

  -- no line is left
  pub none_to_come : lines ≤ next → lines_to_come lines block gap next block_end ≡ []
  unfolding lines_to_come
  none_to_come past = ap (filter (is_dealt start block (block + gap))) (range_end next lines past)

  -- the next line is one of the block's, and those after it are left
  pub one_to_come : next < lines → lines_to_come lines block gap next block_end ≡ next ∷ lines_to_come lines block gap (next + 1) block_end
  unfolding lines_to_come
  one_to_come below =
      let rest : List ℕ = filter (is_dealt start block (block + gap)) (range_with_len (next + 1) (lines - (next + 1))) in
      ap (filter (is_dealt start block (block + gap))) (range_one next lines below)
      ∙ ap (λ (t : Bool). cond t (next ∷ rest) rest) in_block

  -- at the end of a block the next one follows
  block_to_come : lines_to_come lines block gap block_end block_end ≡ lines_to_come lines block gap (block_end + gap) (block_end + gap + block)
  unfolding lines_to_come
  block_to_come =
      let p : ℕ → Bool = is_dealt start block (block + gap) in
      let e : block_end + gap + block - block ≡ block_end + gap = omega arith in
      pass_over p gap block_end lines in_gap
      ∙ agree_from p (is_dealt (block_end + gap) block (block + gap)) (block_end + gap) (lines - (block_end + gap)) round_on
      ∙ ap (λ (n : ℕ). filter (is_dealt n block (block + gap)) (range_with_len (block_end + gap) (lines - (block_end + gap)))) (sym e)

  -- the last line of a block
  pub last_to_come : next < lines → next + 1 ≡ block_end
      → lines_to_come lines block gap next block_end ≡ next ∷ lines_to_come lines block gap (next + 1 + gap) (next + 1 + gap + block)
  last_to_come below last =
      one_to_come below
      ∙ ap (λ (n : ℕ). next ∷ lines_to_come lines block gap n block_end) last
      ∙ ap (λ (xs : List ℕ). next ∷ xs) block_to_come
      ∙ ap (λ (n : ℕ). next ∷ lines_to_come lines block gap (n + gap) (n + gap + block)) (sym last)

-- ---- the beginning
one_back : (n : ℕ) → 0 < n → n ≡ n - 1 + 1
one_back n some = omega arith

module _ (workers block worker : ℕ) (some : 0 < block) (among : worker < workers) where
  abbrev first : ℕ
  first = worker * block

  abbrev round : ℕ
  round = block * workers

  before_first : (x : ℕ) → x < first → (x / block % workers == worker) ≡ false
  before_first x before =
      let fits = block_within workers block worker some among in
      let small : x < round = omega arith in
      ne_eqb (x / block % workers) worker (λ own. omega (arith, own_place workers block worker some among x own, mod-eq_of_lt small))

  -- where the rest of a division by a round is known
  rest_is : (x q p : ℕ) → p < round → x ≡ q * round + p → x % round ≡ p
  rest_is x q p below e = ap (λ (n : ℕ). n % round) e ∙ mod-mul-add q round p below

  as_dealt : (x : ℕ) → first ≤ x → (x / block % workers == worker) ≡ is_dealt first block round x
  as_dealt x from =
      let fits = block_within workers block worker some among in
      let whole = in_round workers block worker some among x in
      let r_below = place_below workers block worker some among x in
      let q : ℕ = x / round in
      let r : ℕ = x % round in
      ⊎_elim
      (λ (own : x / block % workers ≡ worker).
      let t_below = mod_below x block some in
      let place = own_place workers block worker some among x own in
      let rest = rest_is (x - first) q (x % block) (omega arith) (omega arith) in
      eq-eqb (x / block % workers) worker own ∙ sym (lt-ltb ((x - first) % round) block (omega arith)))
      (λ (other : x / block % workers ≡ worker → ⊥).
      let out : block ≤ (x - first) % round =
      ⊎_elim
      (λ (before : r < first).
      let some_rounds : 0 < q = pos_of_ne-zero (λ none. omega (arith, ap (λ (n : ℕ). n * round) none)) in
      let back = ap (λ (n : ℕ). n * round) (one_back q some_rounds) in
      omega (arith, rest_is (x - first) (q - 1) (round + r - first) (omega arith) (omega arith)))
      (λ (on : first ≤ r). ⊎_elim
      (λ (to : r < first + block). absurd (other (own_by_place workers block worker some among x on to)))
      (λ (after : first + block ≤ r). omega (arith, rest_is (x - first) q (r - first) (omega arith) (omega arith)))
      (cases_lt r (first + block)))
      (cases_lt r first) in
      ne_eqb (x / block % workers) worker other ∙ sym (le-ltb ((x - first) % round) block out))
      (cases_eq (x / block % workers) worker)

  -- all of the worker's lines are to come at the beginning
  pub all_to_come : (lines : ℕ) → lines_to_come lines block ((workers - 1) * block) first (first + block) ≡ mine lines workers block worker
  unfolding lines_to_come
  all_to_come lines =
      let own : ℕ → Bool = λ i. i / block % workers == worker in
      let others = ap (λ (n : ℕ). block * n) (one_back workers (omega arith)) in
      let gap : block + (workers - 1) * block ≡ round = omega arith in
      let begin : first + block - block ≡ first = omega arith in
      ap (λ (n : ℕ). filter (is_dealt n block (block + (workers - 1) * block)) (range_with_len first (lines - first))) begin
      ∙ ap (λ (n : ℕ). filter (is_dealt first block n) (range_with_len first (lines - first))) gap
      ∙ sym (agree_from own (is_dealt first block round) first (lines - first) as_dealt)
      ∙ ap (λ (n : ℕ). filter own (range_with_len n (lines - n))) (omega arith)
      ∙ sym (pass_over own first 0 lines (λ x low high. before_first x (omega arith)))
      ∙ ap (λ (n : ℕ). filter own (range_with_len 0 n)) (omega arith)
