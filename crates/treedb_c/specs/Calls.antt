-- What a call on a handle's store leaves.
use Rattle.std.specs.Prelude.{◌≡◌, ◌≤◌, ℕ, ◌⊎◌, Option, Some, None, Bool, false, length, count_by, ◌==◌}
use Rattle.std.specs.Prelude.{if◌then◌else◌}
use Rattle.tdb_base.specs.History.{Vector, is_fresh}
use Rattle.tdb_base.specs.declared.reply.Reply.{Reply}
use Rattle.pair_rule.specs.declared.sizes.Sizes.{Sizes}
use Rattle.pair_rule.specs.Rest.{Whole, names_of_callers, view, last_vector}
use Rattle.pair_rule.specs.Splits.{IsSplit}
use Rattle.pair_rule.specs.View.{newcomer}
use Rattle.root_plain.specs.Plain.{plain, nothing_known}
use Rattle.tree_store.specs.Ranges.{IsFirstOut}
use Rattle.tree_store.specs.Reading.{IsLookedUp}
use Rattle.tree_store.specs.Store.{IsAnswered}
use Rattle.tree_store.specs.Vectors.{IsVector}
use Rattle.treedb_c.specs.Full.{IsTakenUp}
use Rattle.treedb_c.specs.Holding.{Holding}
use Rattle.treedb_c.specs.declared.code.Code.{Code}
use Rattle.treedb_c.specs.declared.code.Code.TheVariants as c

abbrev pub AreSlots : ℕ → Type 0
AreSlots slots = (2 ≤ slots) × (slots ≤ 1024)

-- vectors may have so many slots, and no size is out of its range
abbrev pub AreGood : ℕ → ℕ → Sizes → Type 0
AreGood width slots sizes = AreSlots slots × ((n : ℕ) → IsFirstOut plain width sizes n → ⊥)

-- the size with this number, from 1, as a code
abbrev pub size_code : ℕ → Code
size_code n = if n == 1 then c.BadNodes else if n == 2 then c.BadRoots else c.BadProbe

-- why there is no such store: no memory, or else the first that is out of its range, slots first
abbrev pub IsRefused : ℕ → ℕ → Sizes → Code → Type 0
IsRefused width slots sizes c.NoMemory = AreGood width slots sizes
IsRefused width slots sizes c.BadSlots = AreSlots slots → ⊥
IsRefused width slots sizes c.BadNodes = AreSlots slots × IsFirstOut plain width sizes 1
IsRefused width slots sizes c.BadRoots = AreSlots slots × IsFirstOut plain width sizes 2
IsRefused width slots sizes c.BadProbe = AreSlots slots × IsFirstOut plain width sizes 4
IsRefused width slots sizes _ = ⊥

-- a store in which nothing has a name, and its first pass
pub record IsNew (width flags slots : ℕ) (sizes : Sizes) (made : Holding) : Type 0 where
  pub good : AreGood width slots sizes
  pub width_is : made.store.about.width ≡ width
  pub flags_are : made.store.about.flags ≡ flags
  pub slots_are : made.store.about.slots ≡ slots
  pub sizes_are : made.store.about.sizes ≡ sizes
  pub view_is : view made.pass ≡ newcomer nothing_known made.store.about
  pub whole : Whole (view made.pass)
  pub no_tree : made.pass.has_last ≡ false

-- the profiles: so many bits a slot, and so many flags a vector
abbrev pub IsProfile : ℕ → ℕ → Type 0
IsProfile width flags = ((width ≡ 16) × (flags ≡ 8)) ⊎ ((width ≡ 28) × (flags ≡ 7))
    ⊎ ((width ≡ 31) × (flags ≡ 1))

-- some profile has so many bits a slot
abbrev pub HasProfile : ℕ → Type 0
HasProfile width = (width ≡ 16) ⊎ (width ≡ 28) ⊎ (width ≡ 31)

-- a new store of this profile
abbrev pub IsCreated : ℕ → ℕ → Sizes → Holding → Type 0
IsCreated profile slots sizes made = (flags : ℕ) × IsProfile profile flags
    × IsNew profile flags slots sizes made

-- why there is no store: no such profile, or else what is refused in it
abbrev pub IsNotCreated : ℕ → ℕ → Sizes → Code → Type 0
IsNotCreated profile slots sizes code = ((code ≡ c.BadProfile) × (HasProfile profile → ⊥))
    ⊎ (HasProfile profile × IsRefused profile slots sizes code)

-- a further pass of the same store was split off
pub record IsSplitOff (before after child : Holding) : Type 0 where
  pub store_stays : after.store ≡ before.store
  pub store_is : child.store ≡ before.store
  pub split : IsSplit plain before.store before.pass after.pass child.pass

-- the vector was inserted, after the pass's last one, and is answered so
pub record IsInserted (vector : Vector) (reply : Reply) (before after : Holding) : Type 0 where
  pub fits : IsVector before.store.about vector
  pub store_stays : after.store ≡ before.store
  pub answered : IsAnswered plain before.store (last_vector before.pass) vector reply before.pass after.pass
  pub taken_up : IsTakenUp reply after

-- the vector does not fit the store, and nothing was done
pub record IsUnfit (vector : Vector) (before after : Holding) : Type 0 where
  pub unfit : IsVector before.store.about vector → ⊥
  pub stays : after ≡ before

-- the vector with the identifier was looked for, where there is room for it
abbrev pub IsFound : ℕ → Vector → Vector → Option Bool → Holding → Holding → Type 0
IsFound id before out (Some found) old new = (length before ≡ old.store.about.slots) × (new.store ≡ old.store)
    × IsLookedUp plain id found before out old.pass new.pass
IsFound id before out None old new = (length before ≡ old.store.about.slots → ⊥) × (new ≡ old)
    × (out ≡ before)

-- the nodes that the pass put, and the names that its calls gave
pub record IsCounted (counts : ℕ × ℕ) (h : Holding) : Type 0 where
  pub nodes : counts.0 ≡ length (view h.pass).made
  pub names : counts.1 ≡ names_of_callers (view h.pass).numbers (view h.pass).seen
  pub all : Whole (view h.pass) → counts.1 ≡ count_by (λ e. is_fresh e.act) (view h.pass).seen
