-- A worker's lines as a list.
use Rattle.std.proofs.Common.{◌≡◌, ℕ, zero, suc, ◌+◌, ◌*◌, ◌/◌, ◌%◌, ◌<◌, ◌≤◌, Bool, true, false, cond, List, [], ◌∷◌, ◌++◌, length, map, Some, None, refl, sym, ap, ◌∙◌, subst, ⊎_elim, arith, add-one, append-nil}
use Rattle.std.specs.Prelude.{◌==◌, option_map, Contains, filter, slice_get}
use Rattle.std.specs.List.{range_with_len}
use Rattle.std.proofs.lemmas.Bool.{cases_eq, eq-eqb, ne_eqb, eqb-true}
use Rattle.std.proofs.lemmas.Nat.{mod_below}
use Rattle.std.proofs.lemmas.List.Elements.{All-contains, All-filter, filter_passes}
use Rattle.std.proofs.lemmas.List.FromFn.{length-map-range_with_len, map-range_with_len_more, get_or-range_with_len, length-range_with_len}
use Rattle.std.proofs.lemmas.Option.{slice_get-map, slice_get_past}
use Rattle.tdb_base.specs.Lines.{mine}
use Rattle.tdb_base.proofs.ListLemmas.{at-range, at-filter}
use Rattle.tdb_base.proofs.DistinctLemmas.{mine-more}
use Rattle.tdb_base.proofs.TallyLemmas.{contained-at}
use Rattle.work_run.specs.Dealing.{WithinTheTrace, OneWorkerEach, OneTurnEach, EachHasAWorker, OneWorkerHasAll}
use Rattle.work_run.proofs.Rounds.{dealt_line, share, share_none, share_more, share_kept, line_of_share, line_of_number, number_small, share_above, share_below}

module _ (workers block worker : ℕ) (some : 0 < block) (among : worker < workers) where
  numbered : ℕ → List ℕ
  numbered n = map (dealt_line workers block worker) (range_with_len 0 n)

  step : (i : ℕ) → mine i workers block worker ≡ numbered (share workers block worker i)
      → mine (i + 1) workers block worker ≡ numbered (share workers block worker (i + 1))
  unfolding numbered
  step i so_far = ⊎_elim
      (λ (own : i / block % workers ≡ worker).
      mine-more i workers block worker
      ∙ ap (λ (t : Bool). mine i workers block worker ++ cond t (i ∷ []) []) (eq-eqb (i / block % workers) worker own)
      ∙ ap (λ (xs : List ℕ). xs ++ i ∷ []) so_far
      ∙ ap (λ (n : ℕ). numbered (share workers block worker i) ++ n ∷ []) (sym (line_of_share workers block worker some among i own))
      ∙ sym (map-range_with_len_more (dealt_line workers block worker) 0 (share workers block worker i) (share workers block worker i) (omega arith))
      ∙ ap numbered (sym (share_more workers block worker some among i own)))
      (λ (other : i / block % workers ≡ worker → ⊥).
      mine-more i workers block worker
      ∙ ap (λ (t : Bool). mine i workers block worker ++ cond t (i ∷ []) []) (ne_eqb (i / block % workers) worker other)
      ∙ append-nil (mine i workers block worker)
      ∙ so_far
      ∙ ap numbered (sym (share_kept workers block worker some among i other)))
      (cases_eq (i / block % workers) worker)

  -- a worker's lines are those that its numbers stand for
  by_numbers : (lines : ℕ) → mine lines workers block worker ≡ numbered (share workers block worker lines)
  unfolding numbered
  by_numbers zero = ap numbered (sym (share_none workers block worker some among))
  by_numbers (suc i) =
      subst (λ (n : ℕ). mine n workers block worker ≡ numbered (share workers block worker n)) (add-one i) (step i (by_numbers i))

  pub mine-numbers : (lines : ℕ) → mine lines workers block worker ≡ map (dealt_line workers block worker) (range_with_len 0 (share workers block worker lines))
  unfolding numbered
  mine-numbers lines = by_numbers lines

  pub mine-length : (lines : ℕ) → length (mine lines workers block worker) ≡ share workers block worker lines
  mine-length lines =
      ap length (mine-numbers lines) ∙ length-map-range_with_len (dealt_line workers block worker) 0 (share workers block worker lines)

  -- the line with a number, and the end of a worker's lines
  pub mine-at : (lines n : ℕ) → dealt_line workers block worker n < lines
      → slice_get (mine lines workers block worker) n ≡ Some (dealt_line workers block worker n)
  mine-at lines n below =
      let inside = share_above workers block worker some among n lines below in
      ap (λ (xs : List ℕ). slice_get xs n) (mine-numbers lines)
      ∙ slice_get-map (dealt_line workers block worker) (range_with_len 0 (share workers block worker lines)) n
      ∙ ap (option_map (dealt_line workers block worker)) (at-range 0 (share workers block worker lines) n inside)
      ∙ ap (λ (k : ℕ). Some (dealt_line workers block worker k)) (omega arith)

  pub mine-longer : (lines n : ℕ) → dealt_line workers block worker n < lines → n < length (mine lines workers block worker)
  mine-longer lines n below = omega (arith, mine-length lines, share_above workers block worker some among n lines below)

  pub mine-ends : (lines n : ℕ) → lines ≤ dealt_line workers block worker n → length (mine lines workers block worker) ≤ n
  mine-ends lines n past = omega (arith, mine-length lines, share_below workers block worker some among n lines past)

  pub mine-past : (lines n : ℕ) → lines ≤ dealt_line workers block worker n → slice_get (mine lines workers block worker) n ≡ None
  mine-past lines n past = slice_get_past (mine lines workers block worker) n (mine-ends lines n past)

-- a line is found under its worker and its number
pub mine-turn : (lines workers block i : ℕ) → 0 < workers → 0 < block → i < lines
    → slice_get (mine lines workers block (i / block % workers)) (i / (block * workers) * block + i % block) ≡ Some i
mine-turn lines workers block i any some below =
    let worker : ℕ = i / block % workers in
    let among = mod_below (i / block) workers any in
    let line = line_of_number workers block worker some among i refl in
    mine-at workers block worker some among lines (i / (block * workers) * block + i % block) (omega arith) ∙ ap Some line

pub turn-small : (workers block i : ℕ) → 0 < workers → 0 < block → i / (block * workers) * block + i % block ≤ i
turn-small workers block i any some = number_small workers block (i / block % workers) some (mod_below (i / block) workers any) i refl

pub within-the-trace : WithinTheTrace
within-the-trace lines workers block worker i there =
    All-contains (λ (n : ℕ). n < lines) (mine lines workers block worker) i
    (All-filter (λ (n : ℕ). n / block % workers == worker) (λ (n : ℕ). n < lines) (range_with_len 0 lines)
    (λ k d inside. omega (arith, get_or-range_with_len 0 lines k d (omega (arith, length-range_with_len 0 lines)), length-range_with_len 0 lines)))
    there

pub worker-of-line : (lines workers block worker i : ℕ) → Contains (mine lines workers block worker) i → i / block % workers ≡ worker
worker-of-line lines workers block worker i there =
    let own : ℕ → Bool = λ n. n / block % workers == worker in
    eqb-true (i / block % workers) worker (All-contains (λ (n : ℕ). own n ≡ true) (mine lines workers block worker) i (filter_passes own (range_with_len 0 lines)) there)

pub one-worker-each : OneWorkerEach
one-worker-each lines workers block one other i first second =
    sym (worker-of-line lines workers block one i first) ∙ worker-of-line lines workers block other i second

pub each-has-a-worker : EachHasAWorker
each-has-a-worker lines workers block i any below =
    let own : ℕ → Bool = λ n. n / block % workers == i / block % workers in (
      mod_below (i / block) workers any,
      contained-at (mine lines workers block (i / block % workers)) i
          (at-filter own (range_with_len 0 lines) i i (at-range 0 lines i below ∙ ap Some (omega arith)) (eq-eqb (i / block % workers) (i / block % workers) refl)),
    )

-- a filter keeps no number of a range twice
kept_above : (p : ℕ → Bool) (from n k i : ℕ) → slice_get (filter p (range_with_len from n)) k ≡ Some i → from ≤ i
kept_above p from zero k i e = cc e
kept_above p from (suc n) k i e = by (p from) (filter p (range_with_len (from + 1) n)) k (λ m at. kept_above p (from + 1) n m i at) e
  where
    by : (b : Bool) (rest : List ℕ) (k : ℕ) → ((m : ℕ) → slice_get rest m ≡ Some i → from + 1 ≤ i) → slice_get (cond b (from ∷ rest) rest) k ≡ Some i → from ≤ i
    by true rest zero more e = let same : from ≡ i = cc e in omega arith
    by true rest (suc k) more e = omega (arith, more k e)
    by false rest k more e = omega (arith, more k e)

kept_once : (p : ℕ → Bool) (from n k m i : ℕ) → slice_get (filter p (range_with_len from n)) k ≡ Some i
    → slice_get (filter p (range_with_len from n)) m ≡ Some i → k ≡ m
kept_once p from zero k m i first second = cc first
kept_once p from (suc n) k m i first second =
    by (p from) (filter p (range_with_len (from + 1) n)) k m (λ j at. kept_above p (from + 1) n j i at) (λ j l a b. kept_once p (from + 1) n j l i a b) first second
  where
    by : (b : Bool) (rest : List ℕ) (k m : ℕ) → ((j : ℕ) → slice_get rest j ≡ Some i → from + 1 ≤ i)
        → ((j l : ℕ) → slice_get rest j ≡ Some i → slice_get rest l ≡ Some i → j ≡ l)
        → slice_get (cond b (from ∷ rest) rest) k ≡ Some i → slice_get (cond b (from ∷ rest) rest) m ≡ Some i → k ≡ m
    by true rest zero zero above once first second = refl
    by true rest zero (suc m) above once first second = let same : from ≡ i = cc first in absurd (omega (arith, above m second))
    by true rest (suc k) zero above once first second = let same : from ≡ i = cc second in absurd (omega (arith, above k first))
    by true rest (suc k) (suc m) above once first second = ap suc (once k m first second)
    by false rest k m above once first second = once k m first second

pub one-turn-each : OneTurnEach
one-turn-each lines workers block worker n m i first second = kept_once (λ j. j / block % workers == worker) 0 lines n m i first second

-- the turn of a line
pub mine-inside : (lines workers block worker n i : ℕ) → slice_get (mine lines workers block worker) n ≡ Some i → i < lines
mine-inside lines workers block worker n i at = within-the-trace lines workers block worker i (contained-at (mine lines workers block worker) i (n, at))

pub same-turn : (lines workers block one other n m i : ℕ) → slice_get (mine lines workers block one) n ≡ Some i
    → slice_get (mine lines workers block other) m ≡ Some i → (one ≡ other) × (n ≡ m)
same-turn lines workers block one other n m i first second =
    let same : one ≡ other = one-worker-each lines workers block one other i
    (contained-at (mine lines workers block one) i (n, first)) (contained-at (mine lines workers block other) i (m, second)) in (
      same,
      one-turn-each lines workers block other n m i
          (subst (λ (j : ℕ). slice_get (mine lines workers block j) n ≡ Some i) same first) second,
    )

keeps-all : (p : ℕ → Bool) (xs : List ℕ) → ((x : ℕ) → p x ≡ true) → filter p xs ≡ xs
keeps-all p [] h = refl
keeps-all p (x ∷ xs) h = rw (h x, keeps-all p xs h) refl

pub one-worker-has-all : OneWorkerHasAll
one-worker-has-all lines block =
    keeps-all (λ (i : ℕ). i / block % 1 == 0) (range_with_len 0 lines) (λ i. eq-eqb (i / block % 1) 0 (omega arith))
