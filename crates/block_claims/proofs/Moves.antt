-- What each call of the table requires: the step keeps the rule, and tells what its play says.
use Rattle.std.proofs.Common.{◌≡◌, ◌≢◌, ℕ, ◌+◌, ◌%◌, ◌^◌, ◌<◌, ◌≤◌, List, set, sym, ap, refl, subst, ◌∙◌, arith, mod-eq_of_lt, ⊎_elim}
use mathlib.Core.Option.{some}
use mathlib.Core.Logic.{dite}
use native.Mathlib.Decide.{dec_le}
use lib.ListN.{get_elem?}
use Rattle.atomic_table.specs.Table.{State, Me, Allows, Splits, Joins, keeps}
use Rattle.atomic_table.proofs.Lists.{at_set, set_again}
use Rattle.block_claims.specs.declared.share.Share.{Share}
use Rattle.block_claims.specs.declared.share.Totals.{Totals}
use Rattle.block_claims.specs.Shares.{with_block, with_end, parent_share, child_share, joined_share, spent_share}
use Rattle.block_claims.specs.Rule.{count, AreClaims, NoneLeft}
use Rattle.atomic_table.specs.Seated.{TableId}
use Rattle.block_claims.specs.Drawers.{Pool, IsPool}
use Rattle.block_claims.specs.Plays.{DrawTold, JoinsTold}
use Rattle.block_claims.proofs.Steps.{few_ended_all, below_count, draws_block, draws_none, none_left, has_all, splits_one, joins_two, read}

-- the claims' table has two words
pub two_of : (pool : Pool) (table : TableId) → table ≡ pool.table → IsPool pool → table.words ≡ 2
two_of pool table is numbers = ap (λ (t : TableId). t.words) is ∙ numbers.two_words

module _ {S : Type 0} (totals : Totals) where
  abbrev Holds : State S Share → Type 0
  Holds s = AreClaims totals s.words s.views

  -- a fetch and add of 1 on the count
  pub draws : (slots id : ℕ) (me : Me S Share) → totals.blocks ≤ 2 ^ 32 → totals.drawers ≤ 64 → me.0.totals ≡ totals → me.0.ended < me.0.drawers
      → Allows Holds slots id me 1 (λ n. (n + 1) % 2 ^ 64) (λ n m'. DrawTold me n m')
  draws slots id me few_blocks few_drawers is some_left s k homes at small =
      let n = count s.words in
      let blocks_are = ap (λ (a : Totals). a.blocks) is in
      let next : n + 1 ≡ (n + 1) % 2 ^ 64 = sym (mod-eq_of_lt (omega (arith, k.most, few_ended_all totals s.words s.views k))) in
      let Next = λ (w : Share) (m : ℕ). AreClaims totals (set s.words 1 m) (set s.views id w) in
      dite (dec_le totals.blocks n)
      (λ past. (
        with_end me.0,
        keeps,
        tt,
        subst (Next (with_end me.0)) next (draws_none totals s.words s.views k id me.0 at past some_left),
        record { slots_stay = refl; block = λ less. absurd (omega arith); none = λ past_it. (refl, subst (λ (a : Totals). NoneLeft a me.0) (sym is) (none_left totals s.words s.views k id me.0 at past)) },
      ))
      (λ less. (
        with_block n me.0,
        keeps,
        tt,
        subst (Next (with_block n me.0)) next (draws_block totals s.words s.views k id me.0 at (omega arith) some_left),
        record { slots_stay = refl; block = λ less_too. (refl, below_count totals s.words s.views k id me.0 at); none = λ past. absurd (less (omega arith)) },
      ))

  -- a load of the count
  pub loads : (slots id : ℕ) (me : Me S Share) → me.0.totals ≡ totals → Allows Holds slots id me 1 (λ n. n) (λ n m'. JoinsTold me m')
  loads slots id me is s k homes at small = (
    me.0,
    keeps,
    tt,
    subst (λ (ws : List ℕ). AreClaims totals ws (set s.views id me.0)) (sym (read s.words))
        (subst (λ (vs : List Share). AreClaims totals s.words vs) (sym (set_again s.views id me.0 at)) k),
    record { same = refl; once = λ all one. has_all totals s.words s.views k id me.0 at is all one },
  )

  pub splits : (id : ℕ) (v : Share) → 2 ≤ v.drawers → v.ended ≡ 0 → Splits Holds id v (parent_share v) (child_share v)
  splits id v two none s k at = splits_one totals s.words s.views k id v at two none

  pub joins : (id other : ℕ) (v w : Share) → 1 ≤ v.drawers → Joins Holds id v other w (joined_share v w) spent_share
  joins id other v w some_left s k at apart there = joins_two totals s.words s.views k id v at other w apart
      (⊎_elim
      (λ (x : (other ≡ id) × (joined_share v w ≡ w)). absurd (apart x.0))
      (λ (x : (other ≢ id) × (get_elem? s.views other ≡ some w)). x.1)
      (at_set s.views id other (joined_share v w) w there))
      some_left
