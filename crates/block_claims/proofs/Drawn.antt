-- Where the lists together have a number once, one list has it; and how long a rising list can be.
use Rattle.std.proofs.Common.{◌≡◌, ◌≢◌, ℕ, zero, suc, ◌+◌, ◌<◌, ◌≤◌, List, [], ◌∷◌, All, length, slice_index_or, sum_by, nat_lt, ap, refl, sym, subst, ◌∙◌, arith, length-append}
use mathlib.Core.Logic.{dite}
use native.Mathlib.Decide.{dec_le}
use Rattle.std.proofs.lemmas.List.Elements.{All-nil, All-cons, All-head, All-tail, All-push, All-weaker}
use Rattle.std.proofs.lemmas.List.Sums.{sum_by-cons}
use Rattle.block_claims.specs.Numbers.{times, EachOnceBelow, IsRising}
use Rattle.block_claims.specs.Laws.{HasOneDrawer, HasDrawn}
use Rattle.block_claims.specs.declared.share.Share.{Share}
use Rattle.block_claims.specs.Shares.{with_block}
use Rattle.block_claims.specs.Drawers.{Pool, Drawing, BelongsTo, IsNew, drawn}
use Rattle.block_claims.proofs.Rising.{rising_push}
use Rattle.block_claims.proofs.Steps.{below_one, below_yes}

-- a list has the number at most as often as all together
part_of : (b : ℕ) (lists : List (List ℕ)) (j : ℕ) → times b (slice_index_or lists j []) ≤ sum_by (times b) lists
part_of b [] j = omega arith
part_of b (l ∷ ls) zero = omega (arith, sum_by-cons (times b) l ls)
part_of b (l ∷ ls) (suc j) = omega (arith, part_of b ls j, sum_by-cons (times b) l ls)

-- a number that no later list has, and one that the first list has not
first_only : (b : ℕ) (l : List ℕ) (ls : List (List ℕ)) → sum_by (times b) ls ≡ 0 → (j : ℕ) → j ≢ 0 → times b (slice_index_or (l ∷ ls) j []) ≡ 0
first_only b l ls none zero apart = absurd (apart refl)
first_only b l ls none (suc j) apart = omega (arith, none, part_of b ls j)

later_only : (b : ℕ) (l : List ℕ) (ls : List (List ℕ)) (place : ℕ) → times b l ≡ 0
    → ((j : ℕ) → j ≢ place → times b (slice_index_or ls j []) ≡ 0) → (j : ℕ) → j ≢ suc place → times b (slice_index_or (l ∷ ls) j []) ≡ 0
later_only b l ls place none rest zero apart = none
later_only b l ls place none rest (suc j) apart = rest j (λ e. apart (ap suc e))

one_of : (b : ℕ) (lists : List (List ℕ)) → sum_by (times b) lists ≡ 1 → HasOneDrawer b lists
one_of b [] is = absurd (omega (arith, is))
one_of b (l ∷ ls) is = dite (dec_le 1 (times b l))
    (λ (has : 1 ≤ times b l). record {
      place = 0;
      only = record {
        inside = omega arith;
        here = omega (arith, is, sum_by-cons (times b) l ls);
        nowhere_else = first_only b l ls (omega (arith, is, has, sum_by-cons (times b) l ls));
      };
    })
    (λ none.
    let one = one_of b ls (omega (arith, is, sum_by-cons (times b) l ls)) in
    record {
      place = suc one.place;
      only = record {
        inside = omega (arith, one.only.inside);
        here = one.only.here;
        nowhere_else = later_only b l ls one.place (omega (arith, none)) one.only.nowhere_else;
      };
    })

pub has_one_drawer : (blocks : ℕ) (lists : List (List ℕ)) → EachOnceBelow blocks lists → (b : ℕ) → b < blocks → HasOneDrawer b lists
has_one_drawer blocks lists once b less = one_of b lists (omega (arith, once b, below_yes b blocks less))

pub none_but_blocks : (blocks : ℕ) (lists : List (List ℕ)) → EachOnceBelow blocks lists → (b j : ℕ) → 1 ≤ times b (slice_index_or lists j []) → b < blocks
none_but_blocks blocks lists once b j has = below_one b blocks (omega (arith, has, part_of b lists j, once b))

-- a rising list of numbers from a low one up to the limit
few_from : (limit low : ℕ) (xs : List ℕ) → low ≤ limit → IsRising xs → All (λ x. low ≤ x) xs → All (λ x. x < limit) xs → length xs + low ≤ limit
few_from limit low [] less r least most = omega (arith, less)
few_from limit low (x ∷ xs) less r least most =
    let at_least = All-head (λ (y : ℕ). low ≤ y) x xs least in
    let below = All-head (λ (y : ℕ). y < limit) x xs most in
    let rest = few_from limit (x + 1) xs (omega (arith, below)) r.1
    (All-weaker (λ (y : ℕ). x < y) (λ (y : ℕ). x + 1 ≤ y) (λ y more. omega (arith, more)) xs r.0)
    (All-tail (λ (y : ℕ). y < limit) x xs most) in
    omega (arith, at_least, rest)

all_least : (xs : List ℕ) → All (λ x. 0 ≤ x) xs
all_least [] = All-nil (λ (x : ℕ). 0 ≤ x)
all_least (x ∷ xs) = All-cons (λ (y : ℕ). 0 ≤ y) x xs (omega arith) (all_least xs)

-- what a drawer drew, draw by draw
pub new_has_none : (pool : Pool) (d : Drawing) → IsNew pool d → HasDrawn pool 0 d
new_has_none pool d new = record {
  belongs = new.belongs;
  not_ended = ap (λ (s : Share). nat_lt 0 s.ended) new.share_is;
  so_many = ap (λ (s : Share). length s.drawn) new.share_is;
  rising = subst (λ (s : Share). IsRising s.drawn) (sym new.share_is) tt;
  blocks = subst (λ (s : Share). All (λ b. b < pool.totals.blocks) s.drawn) (sym new.share_is) (All-nil (λ (b : ℕ). b < pool.totals.blocks));
}

pub draws_one_more : (pool : Pool) (n b : ℕ) (old new : Drawing) → HasDrawn pool n old → BelongsTo pool new
    → b < pool.totals.blocks → All (λ a. a < b) (drawn old) → new.share ≡ with_block b old.share → HasDrawn pool (n + 1) new
draws_one_more pool n b old new h belongs less greater is = record {
  belongs = belongs;
  not_ended = ap (λ (s : Share). nat_lt 0 s.ended) is ∙ h.not_ended;
  so_many = omega (arith, ap (λ (s : Share). length s.drawn) is, length-append (drawn old) (b ∷ []), h.so_many);
  rising = subst (λ (s : Share). IsRising s.drawn) (sym is) (rising_push b (drawn old) h.rising greater);
  blocks = subst (λ (s : Share). All (λ x. x < pool.totals.blocks) s.drawn) (sym is) (All-push (λ (x : ℕ). x < pool.totals.blocks) (drawn old) b h.blocks less);
}

pub draws_at_most : (pool : Pool) (n : ℕ) (d : Drawing) → HasDrawn pool n d → n ≤ pool.totals.blocks
draws_at_most pool n d h = omega (arith, h.so_many, few_from pool.totals.blocks 0 (drawn d) (omega arith) h.rising (all_least (drawn d)) h.blocks)
