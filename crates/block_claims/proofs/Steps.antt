-- Each step keeps the rule.
use Rattle.std.proofs.Common.{◌≡◌, ◌≢◌, ◌⊎◌, ℕ, zero, suc, ◌+◌, ◌<◌, ◌≤◌, List, [], ◌∷◌, ◌++◌, All, Bool, cond, nat_lt, min, length, set, sum_by, sym, ap, refl, subst, ◌∙◌, arith, ltb-true, lt-ltb, le-ltb, ⊎_elim, length-set, inl, inr}
use mathlib.Core.Option.{some}
use mathlib.Core.Logic.{dite}
use native.Mathlib.Decide.{dec_le}
use lib.ListN.{get_elem?}
use Rattle.std.proofs.lemmas.Bool.{cond_both}
use Rattle.std.proofs.lemmas.List.Sums.{sum_by_push}
use Rattle.atomic_table.proofs.Lists.{at_set, at_snoc, set_else}
use Rattle.block_claims.specs.declared.share.Share.{Share}
use Rattle.block_claims.specs.declared.share.Totals.{Totals}
use Rattle.block_claims.specs.Numbers.{times, EachOnceBelow}
use Rattle.block_claims.specs.Shares.{with_block, with_end, parent_share, child_share, joined_share, spent_share, lists_of}
use Rattle.block_claims.specs.Laws.{IsSpent}
use Rattle.block_claims.specs.Rule.{count, IsShare, AreClaims, NoneLeft}
use Rattle.block_claims.proofs.Sums.{total_set, total_one, total_none, total_le, total_map}
use Rattle.block_claims.proofs.Rising.{same, same_here, same_else, times_push, times_merged, all_times, rising_push, rising_merged}

-- one where the number is below the limit
abbrev pub below : ℕ → ℕ → ℕ
below b limit = cond (nat_lt b limit) 1 0

pub below_yes : (b limit : ℕ) → b < limit → below b limit ≡ 1
below_yes b limit h = ap (λ (t : Bool). cond t 1 0) (lt-ltb b limit h)

below_no : (b limit : ℕ) → limit ≤ b → below b limit ≡ 0
below_no b limit h = ap (λ (t : Bool). cond t 1 0) (le-ltb b limit h)

-- where it is one, the number is below
pub below_one : (b limit : ℕ) → 1 ≤ below b limit → b < limit
below_one b limit h = cond_both (nat_lt b limit) 1 0 (λ (n : ℕ). 1 ≤ n → b < limit) (λ e _. ltb-true b limit e) (λ e f. absurd (omega arith)) h

below_most : (b limit : ℕ) → below b limit ≤ 1
below_most b limit = cond_both (nat_lt b limit) 1 0 (λ (n : ℕ). n ≤ 1) (λ e. omega arith) (λ e. omega arith)

-- the limit rises by one
below_more : (b n : ℕ) → below b (n + 1) ≡ below b n + same b n
below_more b n = dite (dec_le n b)
    (λ (le : n ≤ b). dite (dec_le b n)
    (λ (ge : b ≤ n). let s : same b n ≡ 1 = subst (λ (x : ℕ). same b x ≡ 1) (omega arith) (same_here b) in
    omega (arith, s, below_no b n le, below_yes b (n + 1) (omega arith)))
    (λ more. omega (arith, same_else b n (λ e. more (omega arith)), below_no b n le, below_no b (n + 1) (omega arith))))
    (λ less. omega (arith, same_else b n (λ e. less (omega arith)), below_yes b n (omega arith), below_yes b (n + 1) (omega arith)))

-- what is said of the shares' lists, by the shares
abbrev OnceAmong : ℕ → List Share → Type 0
OnceAmong limit shares = (b : ℕ) → sum_by (λ (s : Share). times b s.drawn) shares ≡ below b limit

among : (limit : ℕ) (shares : List Share) → EachOnceBelow limit (lists_of shares) → OnceAmong limit shares
among limit shares once b = sym (total_map (λ (s : Share). s.drawn) (times b) shares) ∙ once b

of_lists : (limit : ℕ) (shares : List Share) → OnceAmong limit shares → EachOnceBelow limit (lists_of shares)
of_lists limit shares once b = total_map (λ (s : Share). s.drawn) (times b) shares ∙ once b

-- a fact of each share, after one is replaced
each_set : (P : Share → Type 0) (l : List Share) (i : ℕ) (w : Share) → ((j : ℕ) (u : Share) → get_elem? l j ≡ some u → P u) → P w
    → (j : ℕ) (u : Share) → get_elem? (set l i w) j ≡ some u → P u
each_set P l i w all here j u e = ⊎_elim
    (λ (x : (j ≡ i) × (w ≡ u)). subst P x.1 here)
    (λ (x : (j ≢ i) × (get_elem? l j ≡ some u)). all j u x.1)
    (at_set l i j w u e)

-- the count after it was written, and after it was written as it is
raised : (words : List ℕ) (n : ℕ) → length words ≡ 2 → count (set words 1 n) ≡ n
raised [] n e = absurd (omega arith)
raised (x ∷ []) n e = absurd (omega arith)
raised (x ∷ y ∷ ys) n e = refl

pub read : (words : List ℕ) → set words 1 (count words) ≡ words
read [] = refl
read (x ∷ []) = refl
read (x ∷ y ∷ ys) = refl

-- the rule, of words with this count
made : (totals : Totals) (words : List ℕ) (shares : List Share) (n : ℕ) → count words ≡ n → length words ≡ 2 → OnceAmong (min n totals.blocks) shares
    → ((j : ℕ) (v : Share) → get_elem? shares j ≡ some v → IsShare totals n v) → sum_by (λ (v : Share). v.drawers) shares ≡ totals.drawers
    → n ≤ totals.blocks + sum_by (λ (v : Share). v.ended) shares → AreClaims totals words shares
made totals words shares n is two once each all most = record {
  two_words = two;
  once = of_lists (min (count words) totals.blocks) shares (subst (λ (m : ℕ). OnceAmong (min m totals.blocks) shares) (sym is) once);
  each = λ j v e. subst (λ (m : ℕ). IsShare totals m v) (sym is) (each j v e);
  all = all;
  most = omega (arith, is, most);
}

module _ (totals : Totals) (words : List ℕ) (shares : List Share) (k : AreClaims totals words shares) where
  abbrev n : ℕ
  n = count words

  once : OnceAmong (min n totals.blocks) shares
  once = among (min n totals.blocks) shares k.once

  pub few_ended_all : sum_by (λ (v : Share). v.ended) shares ≤ totals.drawers
  few_ended_all = omega (arith, k.all, total_le (λ (v : Share). v.ended) (λ (v : Share). v.drawers) shares (λ j v e. (k.each j v e).few_ended))

  pub count_is_small : n ≤ totals.blocks + totals.drawers
  count_is_small = omega (arith, k.most, few_ended_all)

  -- all that a share has is below both the count and the number of blocks
  drawn_below : (id : ℕ) (v : Share) → get_elem? shares id ≡ some v → (b : ℕ) → 1 ≤ times b v.drawn → b < min n totals.blocks
  drawn_below id v e b has = below_one b (min n totals.blocks) (omega (arith, has, total_one (λ (u : Share). times b u.drawn) shares id v e, once b))

  pub below_count : (id : ℕ) (v : Share) → get_elem? shares id ≡ some v → All (λ a. a < n) v.drawn
  below_count id v e = all_times (λ (a : ℕ). a < n) v.drawn (λ b has. let h = drawn_below id v e b has in omega (arith, h))

  -- what the rule says of a share, where the count is greater
  later : (v : Share) → IsShare totals n v → IsShare totals (n + 1) v
  later v f = record { totals_are = f.totals_are; rising = f.rising; few_ended = f.few_ended; spent = f.spent; past = λ one. omega (arith, f.past one) }

  module _ (id : ℕ) (v : Share) (at : get_elem? shares id ≡ some v) where
    -- the fetch and add found a block
    pub draws_block : n < totals.blocks → v.ended < v.drawers → AreClaims totals (set words 1 (n + 1)) (set shares id (with_block n v))
    draws_block less some_left =
        let f = k.each id v at in
        let w = with_block n v in
        made totals _ _ (n + 1) (raised words (n + 1) k.two_words) (length-set words 1 (n + 1) ∙ k.two_words)
        (λ b.
        let was : min n totals.blocks ≡ n = omega arith in
        let now : min (n + 1) totals.blocks ≡ n + 1 = omega arith in
        let p = total_set (λ (u : Share). times b u.drawn) shares id v w at in
        omega (arith, p, times_push b n v.drawn, once b, ap (below b) was, ap (below b) now, below_more b n))
        (each_set (IsShare totals (n + 1)) shares id w
        (λ j u e. later u (k.each j u e))
        record {
          totals_are = f.totals_are;
          rising = rising_push n v.drawn f.rising (below_count id v at);
          few_ended = f.few_ended;
          spent = λ none. absurd (omega arith);
          past = λ one. omega (arith, f.past one);
        })
        (omega (arith, k.all, total_set (λ (u : Share). u.drawers) shares id v w at))
        (omega (arith, total_set (λ (u : Share). u.ended) shares id v w at))

    -- it found none left
    pub draws_none : totals.blocks ≤ n → v.ended < v.drawers → AreClaims totals (set words 1 (n + 1)) (set shares id (with_end v))
    draws_none past some_left =
        let f = k.each id v at in
        let w = with_end v in
        made totals _ _ (n + 1) (raised words (n + 1) k.two_words) (length-set words 1 (n + 1) ∙ k.two_words)
        (λ b.
        let same_limit : min (n + 1) totals.blocks ≡ min n totals.blocks = omega arith in
        let p = total_set (λ (u : Share). times b u.drawn) shares id v w at in
        omega (arith, p, once b, ap (below b) same_limit))
        (each_set (IsShare totals (n + 1)) shares id w
        (λ j u e. later u (k.each j u e))
        record { totals_are = f.totals_are; rising = f.rising; few_ended = omega arith; spent = f.spent; past = λ one. omega arith })
        (omega (arith, k.all, total_set (λ (u : Share). u.drawers) shares id v w at))
        (omega (arith, k.most, total_set (λ (u : Share). u.ended) shares id v w at))

    -- with no block left, the shares have together each block
    pub none_left : totals.blocks ≤ n → NoneLeft totals v
    none_left past = record {
      words = words;
      shares = shares;
      are_claims = k;
      place = id;
      there = at;
      past = past;
      all_drawn = subst (λ (m : ℕ). EachOnceBelow m (lists_of shares)) (omega arith) k.once;
    }

    -- a share with an ended drawer: the shares have together each block
    pub ended_has_all : 1 ≤ v.ended → EachOnceBelow totals.blocks (lists_of shares)
    ended_has_all one = let past = (k.each id v at).past one in subst (λ (m : ℕ). EachOnceBelow m (lists_of shares)) (omega (arith, past)) k.once

    -- where a share stands for all drawers, all others stand for none
    others_have_none : v.drawers ≡ totals.drawers → (j : ℕ) (u : Share) → get_elem? (set shares id spent_share) j ≡ some u → u.drawers ≡ 0
    others_have_none all_of j u e =
        let none : sum_by (λ (x : Share). x.drawers) (set shares id spent_share) ≡ 0 =
        omega (arith, k.all, all_of, total_set (λ (x : Share). x.drawers) shares id v spent_share at) in
        omega (arith, none, total_one (λ (x : Share). x.drawers) (set shares id spent_share) j u e)

    pub all_is_alone : v.drawers ≡ totals.drawers → (j : ℕ) (u : Share) → get_elem? shares j ≡ some u → j ≢ id → IsSpent u
    all_is_alone all_of j u e apart =
        let f = k.each j u e in
        let none = others_have_none all_of j u (set_else shares id j spent_share apart ∙ e) in
        record { drawn_none = f.spent none; no_drawers = none; none_ended = omega (arith, none, f.few_ended) }

    -- a share of all drawers of which one has ended has each block
    pub has_all : v.totals ≡ totals → v.drawers ≡ v.totals.drawers → 1 ≤ v.ended → EachOnceBelow v.totals.blocks (v.drawn ∷ [])
    has_all is all_of one b =
        let all_there : v.drawers ≡ totals.drawers = omega (arith, all_of, ap (λ (a : Totals). a.drawers) is) in
        let spent : (j : ℕ) (u : Share) → get_elem? (set shares id spent_share) j ≡ some u → u.drawers ≡ 0 → u.drawn ≡ [] =
        each_set (λ (u : Share). u.drawers ≡ 0 → u.drawn ≡ []) shares id spent_share (λ j u e. (k.each j u e).spent) (λ z. refl) in
        let none : sum_by (λ (u : Share). times b u.drawn) (set shares id spent_share) ≡ 0 =
        total_none (λ (u : Share). times b u.drawn) (set shares id spent_share)
        (λ j u e. ap (times b) (spent j u e (others_have_none all_there j u e))) in
        let each : sum_by (λ (u : Share). times b u.drawn) shares ≡ below b v.totals.blocks =
        subst (λ (m : ℕ). sum_by (λ (u : Share). times b u.drawn) shares ≡ below b m) (sym (ap (λ (a : Totals). a.blocks) is))
        (among totals.blocks shares (ended_has_all one) b) in
        omega (arith, none, each, total_set (λ (u : Share). times b u.drawn) shares id v spent_share at)

    -- a drawer gets a seat of its own
    pub splits_one : 2 ≤ v.drawers → v.ended ≡ 0 → AreClaims totals words (set shares id (parent_share v) ++ child_share v ∷ [])
    splits_one two none =
        let f = k.each id v at in
        let l = set shares id (parent_share v) in
        let r = child_share v in
        made totals _ _ n refl k.two_words
        (λ b. omega (arith, once b, sum_by_push (λ (u : Share). times b u.drawn) l r, total_set (λ (u : Share). times b u.drawn) shares id v (parent_share v) at))
        (λ j u e. ⊎_elim
        (λ (was : get_elem? l j ≡ some u). each_set (IsShare totals n) shares id (parent_share v) (λ i x q. k.each i x q)
        record { totals_are = λ some_left. f.totals_are (omega arith); rising = f.rising; few_ended = omega arith; spent = λ zero_left. absurd (omega arith); past = λ one. absurd (omega arith) }
        j u was)
        (λ (is : r ≡ u). subst (IsShare totals n) is
        record { totals_are = λ one. f.totals_are (omega arith); rising = tt; few_ended = omega arith; spent = λ zero_left. refl; past = λ one. absurd (omega arith) })
        (at_snoc l r u j e))
        (omega (arith, k.all, sum_by_push (λ (u : Share). u.drawers) l r, total_set (λ (u : Share). u.drawers) shares id v (parent_share v) at))
        (omega (arith, k.most, sum_by_push (λ (u : Share). u.ended) l r, total_set (λ (u : Share). u.ended) shares id v (parent_share v) at))

    -- two seats become one
    pub joins_two : (other : ℕ) (w : Share) → other ≢ id → get_elem? shares other ≡ some w → 1 ≤ v.drawers
        → AreClaims totals words (set (set shares id (joined_share v w)) other spent_share)
    joins_two other w apart there some_left =
        let f = k.each id v at in
        let g = k.each other w there in
        let l = set shares id (joined_share v w) in
        let still : get_elem? l other ≡ some w = set_else shares id other (joined_share v w) apart ∙ there in
        let few : (b : ℕ) → times b v.drawn + times b w.drawn ≤ 1 = λ b.
        let p = total_set (λ (u : Share). times b u.drawn) shares id v spent_share at in
        let q = total_one (λ (u : Share). times b u.drawn) (set shares id spent_share) other w (set_else shares id other spent_share apart ∙ there) in
        omega (arith, p, q, once b, below_most b (min n totals.blocks)) in
        made totals _ _ n refl k.two_words
        (λ b. omega (arith, once b, times_merged b v.drawn w.drawn, total_set (λ (u : Share). times b u.drawn) shares id v (joined_share v w) at, total_set (λ (u : Share). times b u.drawn) l other w spent_share still))
        (each_set (IsShare totals n) l other spent_share
        (each_set (IsShare totals n) shares id (joined_share v w) (λ j u e. k.each j u e)
        record {
          totals_are = λ one. f.totals_are some_left;
          rising = rising_merged v.drawn w.drawn f.rising g.rising few;
          few_ended = omega (arith, f.few_ended, g.few_ended);
          spent = λ none. absurd (omega arith);
          past = λ one. ⊎_elim (λ (a : 1 ≤ v.ended). f.past a) (λ (b : 1 ≤ w.ended). g.past b) (either_ended v.ended w.ended one);
        })
        record { totals_are = λ one. absurd (omega arith); rising = tt; few_ended = omega arith; spent = λ none. refl; past = λ one. absurd (omega arith) })
        (omega (arith, k.all, total_set (λ (u : Share). u.drawers) shares id v (joined_share v w) at, total_set (λ (u : Share). u.drawers) l other w spent_share still))
        (omega (arith, k.most, total_set (λ (u : Share). u.ended) shares id v (joined_share v w) at, total_set (λ (u : Share). u.ended) l other w spent_share still))
      where
        either_ended : (a b : ℕ) → 1 ≤ a + b → (1 ≤ a) ⊎ (1 ≤ b)
        either_ended zero b h = inr (omega arith)
        either_ended (suc a) b h = inl (omega arith)
