-- Where a hash belongs in a table of 2 ^ r homes, cut into regions of 2 ^ s homes.
use Rattle.std.specs.Prelude.{ℕ, ◌+◌, ◌*◌, ◌-◌, ◌/◌, ◌%◌, ◌^◌, ◌<◌}
use Rattle.mix_hash.specs.declared.Place.{Place}

-- the home among all homes of the table
abbrev pub global_home : ℕ → ℕ → ℕ
global_home r h = h % 2 ^ r

-- the region and the home in it make up the global home; the quotient is what is left of the hash
abbrev pub place_of : ℕ → ℕ → ℕ → Place
place_of r s h = record {
  region = global_home r h / 2 ^ s;
  home = global_home r h % 2 ^ s;
  quotient = h / 2 ^ r;
}

-- the hash that is made up of a place's parts
abbrev pub hash_of : ℕ → ℕ → Place → ℕ
hash_of r s place = place.quotient * 2 ^ r + (place.region * 2 ^ s + place.home)

-- a place that a hash of 2 * w bits can have
pub record IsPlaceInRange (w r s : ℕ) (place : Place) : Type 0 where
  pub region : place.region < 2 ^ (r - s)
  pub home : place.home < 2 ^ s
  pub quotient : place.quotient < 2 ^ (2 * w - r)
