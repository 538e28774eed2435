-- Drawers whose seats are joined one after another, the last in the list first.
use Rattle.std.proofs.Common.{◌≡◌, ℕ, ◌+◌, ◌≤◌, List, [], ◌∷◌, ◌++◌, All, Bool, true, false, ◌||◌, length, map, sum_by, sym, ap, refl, subst, ◌∙◌, arith, Some, ltb-true, length-append}
use Rattle.std.specs.List.{list_any}
use Rattle.std.proofs.lemmas.List.Elements.{All-pop}
use Rattle.std.proofs.lemmas.List.Sums.{sum_by_push}
use Rattle.std.proofs.lemmas.List.Folds.{list_any-append}
use Rattle.atomic_table.specs.Table.{Me}
use Rattle.atomic_table.specs.declared.shared.Seat.{Seat}
use Rattle.block_claims.specs.declared.share.Share.{Share}
use Rattle.block_claims.specs.declared.share.Totals.{Totals}
use Rattle.block_claims.specs.Numbers.{times, EachOnceBelow}
use Rattle.block_claims.specs.Shares.{joined_share}
use Rattle.block_claims.specs.Drawers.{Pool, Drawing, drawn, has_ended, BelongsTo}
use Rattle.block_claims.specs.Seats.{IsSeatOf}
use Rattle.block_claims.specs.Plays.{JoinsTold}
use Rattle.block_claims.proofs.Rising.{times_merged}
use Rattle.block_claims.proofs.Sums.{total_map}

-- how often the drawers drew the number
abbrev pub drawn_times : ℕ → List Drawing → ℕ
drawn_times b drawers = sum_by (λ d. times b (drawn d)) drawers

-- the seat is that of one drawer
pub record IsOne {S : Type 0} (d : Drawing) (seat : Seat S Share) : Type 0 where
  pub table_is : seat.table_id ≡ d.table
  pub share_is : seat.me.0 ≡ d.share
  pub one : d.share.drawers ≡ 1
  pub no_slots : seat.me.1 ≡ []

-- the seat has what all these drawers had but those that are left
pub record Gathering {S : Type 0} (pool : Pool) (all left : List Drawing) (seat : Seat S Share) (some_ended : Bool) : Type 0 where
  pub seat_is : IsSeatOf pool seat
  pub rest : All (BelongsTo pool) left
  pub drawers_are : seat.me.0.drawers + length left ≡ length all
  pub stands : 1 ≤ seat.me.0.drawers
  pub drawn_are : (b : ℕ) → times b seat.me.0.drawn + drawn_times b left ≡ drawn_times b all
  pub ended_is : some_ended ≡ true → 1 ≤ seat.me.0.ended
  pub found : (some_ended || list_any has_ended left) ≡ list_any has_ended all

ended_number : (d : Drawing) → has_ended d ≡ true → 1 ≤ d.share.ended
ended_number d e = let h = ltb-true 0 d.share.ended e in omega (arith, h)

either_true : (a b : Bool) (m n : ℕ) → (a ≡ true → 1 ≤ m) → (b ≡ true → 1 ≤ n) → (a || b) ≡ true → 1 ≤ m + n
either_true true b m n f g e = omega (arith, f refl)
either_true false b m n f g e = omega (arith, g e)

found_more : (a b c all : Bool) → (a || (b || (c || false))) ≡ all → ((a || c) || b) ≡ all
found_more true b c all e = e
found_more false true true all e = e
found_more false true false all e = e
found_more false false true all e = e
found_more false false false all e = e

-- a seat of one of these drawers is one of this table
pub seat_of_one : {S : Type 0} (pool : Pool) (d : Drawing) (seat : Seat S Share) → BelongsTo pool d → IsOne d seat → IsSeatOf pool seat
seat_of_one pool d seat of one = record {
  table_is = one.table_is ∙ of.table_is;
  totals_are = ap (λ (s : Share). s.totals) one.share_is ∙ of.totals_are;
  no_slots = one.no_slots;
}

pub gathering_first : {S : Type 0} (pool : Pool) (all left : List Drawing) (last : Drawing) (seat : Seat S Share) → all ≡ left ++ last ∷ [] → All (BelongsTo pool) all
    → IsOne last seat → Gathering pool all left seat (has_ended last)
gathering_first pool all left last seat is each one =
    let p = All-pop (BelongsTo pool) all left (Some last) is each in
    let drawers_now = ap (λ (s : Share). s.drawers) one.share_is in
    record {
      seat_is = seat_of_one pool last seat p.1 one;
      rest = p.0;
      drawers_are = omega (arith, drawers_now, one.one, ap (λ (l : List Drawing). length l) is, length-append left (last ∷ []));
      stands = omega (arith, drawers_now, one.one);
      drawn_are = λ b. omega (arith, ap (λ (s : Share). times b s.drawn) one.share_is, ap (drawn_times b) is, sum_by_push (λ (d : Drawing). times b (drawn d)) left last);
      ended_is = λ e. omega (arith, ap (λ (s : Share). s.ended) one.share_is, ended_number last e);
      found = found_more false (list_any has_ended left) (has_ended last) (list_any has_ended all)
          (sym (list_any-append has_ended left (last ∷ [])) ∙ ap (list_any has_ended) (sym is));
    }

pub gathering_more : {S : Type 0} (pool : Pool) (all left less : List Drawing) (d : Drawing) (old other new : Seat S Share) (some_ended : Bool)
    → Gathering pool all left old some_ended → left ≡ less ++ d ∷ [] → IsOne d other
    → new.table_id ≡ old.table_id → new.me ≡ (joined_share old.me.0 other.me.0, old.me.1)
    → Gathering pool all less new (some_ended || has_ended d)
gathering_more {S} pool all left less d old other new some_ended g is one table me =
    let p = All-pop (BelongsTo pool) left less (Some d) is g.rest in
    let drawers_now = ap (λ (m : Me S Share). m.0.drawers) me in
    let ended_now = ap (λ (m : Me S Share). m.0.ended) me in
    let theirs = ap (λ (s : Share). s.ended) one.share_is in
    record {
      seat_is = record {
        table_is = table ∙ g.seat_is.table_is;
        totals_are = ap (λ (m : Me S Share). m.0.totals) me ∙ g.seat_is.totals_are;
        no_slots = ap (λ (m : Me S Share). m.1) me ∙ g.seat_is.no_slots;
      };
      rest = p.0;
      drawers_are = omega (arith, g.drawers_are, drawers_now, ap (λ (s : Share). s.drawers) one.share_is, one.one, ap (λ (l : List Drawing). length l) is, length-append less (d ∷ []));
      stands = omega (arith, g.stands, drawers_now);
      drawn_are = λ b. omega (arith, g.drawn_are b, ap (λ (m : Me S Share). times b m.0.drawn) me, times_merged b old.me.0.drawn other.me.0.drawn, ap (λ (s : Share). times b s.drawn) one.share_is, ap (drawn_times b) is, sum_by_push (λ (x : Drawing). times b (drawn x)) less d);
      ended_is = λ e. omega (arith, ended_now, theirs, either_true some_ended (has_ended d) old.me.0.ended d.share.ended g.ended_is (ended_number d) e);
      found = found_more some_ended (list_any has_ended less) (has_ended d) (list_any has_ended all)
          (ap (λ t. some_ended || t) (sym (list_any-append has_ended less (d ∷ [])) ∙ ap (list_any has_ended) (sym is)) ∙ g.found);
    }

pub gathered : {S : Type 0} (pool : Pool) (all : List Drawing) (seat : Seat S Share) (after : Me S Share) (some_ended : Bool)
    → Gathering pool all [] seat some_ended → length all ≡ pool.totals.drawers → JoinsTold seat.me after → some_ended ≡ true
    → EachOnceBelow pool.totals.blocks (map drawn all)
gathered pool all seat after some_ended g count told e b =
    let drawers_are = ap (λ (t : Totals). t.drawers) g.seat_is.totals_are in
    let blocks_are = ap (λ (t : Totals). t.blocks) g.seat_is.totals_are in
    let once = subst (λ (m : ℕ). EachOnceBelow m (seat.me.0.drawn ∷ [])) blocks_are (told.once (omega (arith, g.drawers_are, drawers_are, count)) (g.ended_is e)) b in
    total_map drawn (times b) all ∙ (sym (g.drawn_are b) ∙ (omega arith ∙ once))

pub gathered_found : {S : Type 0} (pool : Pool) (all : List Drawing) (seat : Seat S Share) (some_ended : Bool) → Gathering pool all [] seat some_ended → some_ended ≡ list_any has_ended all
gathered_found pool all seat true g = g.found
gathered_found pool all seat false g = g.found
