-- A hash is made up of its quotient, its region and its home.
use Rattle.std.proofs.Common.{◌≡◌, ℕ, ◌+◌, ◌-◌, ◌*◌, ◌/◌, ◌%◌, ◌^◌, ◌<◌, ◌≤◌, bit_or, sym, ap, ◌∙◌, subst, arith}
use Rattle.std.proofs.lemmas.Nat.{shr_split, shr_below, shl_whole, or_shifted, pow-add, pow_pos, mod_below, shr_high, mod_low, mul-add-lt}
use Rattle.mix_hash.specs.declared.Place.{Place}
use Rattle.mix_hash.specs.Places.{place_of, hash_of, IsPlaceInRange}

power_split : (high low : ℕ) → low ≤ high → 2 ^ high ≡ 2 ^ low * 2 ^ (high - low)
power_split high low h = let e : high ≡ low + (high - low) = omega arith in ap (λ n. 2 ^ n) e ∙ pow-add 2 low (high - low)

-- what a cut leaves above the lowest `low` bits
cut_below : (n high low : ℕ) → low ≤ high → n < 2 ^ high → n / 2 ^ low < 2 ^ (high - low)
cut_below n high low h fits =
    let e : high ≡ high - low + low = omega arith in
    shr_below n (high - low) low (subst (λ (k : ℕ). n < 2 ^ k) e fits)

-- a number of `high` bits from its upper and its lower bits
join_below : (a b high low : ℕ) → low ≤ high → a < 2 ^ (high - low) → b < 2 ^ low → a * 2 ^ low + b < 2 ^ high
join_below a b high low h a_fits b_fits =
    subst (λ (k : ℕ). a * 2 ^ low + b < k) (sym (power_split high low h)) (mul-add-lt a (2 ^ low) b (2 ^ (high - low)) a_fits b_fits)

-- two places with the same parts are one
same_place : (a b : Place) → a.region ≡ b.region → a.home ≡ b.home → a.quotient ≡ b.quotient → a ≡ b
same_place a b region home quotient =
    ap (λ x. let y : Place = record { region = x; home = a.home; quotient = a.quotient } in y) region
    ∙ ap (λ x. let y : Place = record { region = b.region; home = x; quotient = a.quotient } in y) home
    ∙ ap (λ x. let y : Place = record { region = b.region; home = b.home; quotient = x } in y) quotient

-- a cut's parts are in range
pub place_of-in_range : (w r s h : ℕ) → s ≤ r → r ≤ 2 * w → h < 2 ^ (2 * w) → IsPlaceInRange w r s (place_of r s h)
place_of-in_range w r s h small table fits = record {
  region = cut_below (h % 2 ^ r) r s small (mod_below h (2 ^ r) (pow_pos r));
  home = mod_below (h % 2 ^ r) (2 ^ s) (pow_pos s);
  quotient = cut_below h (2 * w) r table fits;
}

-- the parts of a cut make up the number
pub hash_of-place_of : (r s h : ℕ) → hash_of r s (place_of r s h) ≡ h
hash_of-place_of r s h = ap (λ n. h / 2 ^ r * 2 ^ r + n) (shr_split (h % 2 ^ r) s) ∙ shr_split h r

-- no two numbers have one place
pub place_of-one_to_one : (r s g h : ℕ) → place_of r s g ≡ place_of r s h → g ≡ h
place_of-one_to_one r s g h same = sym (hash_of-place_of r s g) ∙ ap (λ p. hash_of r s p) same ∙ hash_of-place_of r s h

module _ (w r s : ℕ) (narrow : w ≤ 31) (small : s ≤ r) (table : r ≤ 2 * w) (place : Place) (in_range : IsPlaceInRange w r s place) where
  -- the home among all homes of the table
  abbrev pub whole_home : ℕ
  whole_home = place.region * 2 ^ s + place.home

  abbrev pub joined : ℕ
  joined = hash_of r s place

  whole_home_below : whole_home < 2 ^ r
  whole_home_below = join_below place.region place.home r s small in_range.region in_range.home

  pub joined_below : joined < 2 ^ (2 * w)
  joined_below = join_below place.quotient whole_home (2 * w) r table in_range.quotient whole_home_below

  -- what the code computes
  pub or_is_joined : bit_or (bit_or (place.quotient * 2 ^ r % 2 ^ 64) (place.region * 2 ^ s % 2 ^ 64)) place.home ≡ joined
  or_is_joined =
      let upper : place.quotient * 2 ^ r % 2 ^ 64 ≡ place.quotient * 2 ^ r =
      shl_whole place.quotient (2 * w - r) r 64 in_range.quotient (omega arith) in
      let middle : place.region * 2 ^ s % 2 ^ 64 ≡ place.region * 2 ^ s =
      shl_whole place.region (r - s) s 64 in_range.region (omega arith) in
      let middle_below : place.region * 2 ^ s < 2 ^ r = let whole = whole_home_below in omega arith in
      let above : ℕ = place.quotient * 2 ^ (r - s) + place.region in
      let raised : place.quotient * 2 ^ r + place.region * 2 ^ s ≡ above * 2 ^ s =
      omega (arith, ap (λ n. place.quotient * n) (power_split r s small)) in
      ap (λ n. bit_or (bit_or n (place.region * 2 ^ s % 2 ^ 64)) place.home) upper
      ∙ ap (λ n. bit_or (bit_or (place.quotient * 2 ^ r) n) place.home) middle
      ∙ ap (λ n. bit_or n place.home) (or_shifted place.quotient r (place.region * 2 ^ s) middle_below ∙ raised)
      ∙ or_shifted above s place.home in_range.home
      ∙ omega (arith, raised)

  joined_home : joined % 2 ^ r ≡ whole_home
  joined_home = mod_low place.quotient r whole_home whole_home_below

  -- a cut takes the number apart again
  pub place_of-joined : place_of r s joined ≡ place
  place_of-joined =
      same_place (place_of r s joined) place
      (ap (λ n. n / 2 ^ s) joined_home ∙ shr_high place.region s place.home in_range.home)
      (ap (λ n. n % 2 ^ s) joined_home ∙ mod_low place.region s place.home in_range.home)
      (shr_high place.quotient r whole_home whole_home_below)

  -- no other number is cut into these parts
  pub joined_only : (h : ℕ) → place_of r s h ≡ place → joined ≡ h
  joined_only h same = ap (λ p. hash_of r s p) (sym same) ∙ hash_of-place_of r s h
