-- What the steps on root words tell.
use Rattle.std.specs.Prelude.{◌≡◌, ◌≢◌, ◌==◌, ℕ, ◌+◌, ◌-◌, ◌*◌, ◌^◌, ◌<◌, ◌⊎◌, [], ◌∷◌, Bool, true, false, not, Some}
use Rattle.std.specs.Int.{bit_not, w64}
use Rattle.atomic_table.specs.Table.{Me, Step}
use Rattle.tree_shape.specs.Tree.{Has}
use Rattle.packed_word.specs.Word.{flag_bits}
use Rattle.tdb_base.specs.History.{Vector, Act, Set, Clear, Look, has_bit, name_of, flags_of}
use Rattle.pair_rule.specs.declared.view.View.{View}
use Rattle.pair_rule.specs.Plays.{Caught, first_root}
use Rattle.pair_nodes.specs.Roots.{deed}
use Rattle.pair_rule.specs.Calls.{IsNoName, Called}
use Rattle.root_plain.specs.declared.root.Roots.{Roots}
use Rattle.root_plain.specs.declared.plays.Wanted.{Wanted}
use Rattle.root_plain.specs.declared.plays.Wanted.TheVariants.{Pair, Each, Nothing}
use Rattle.root_plain.specs.Plain.{HoldsRoot, IsRoot, plain}

-- whether a pair that is found is one that is wanted
abbrev pub wants : Wanted → ℕ → Bool
wants (Pair wanted) = λ pair. pair == wanted
wants Each = λ pair. true
wants Nothing = λ pair. false

-- What the word n tells that was found in the root bucket `id`, by a load or by an exchange that lost. A pair
-- that is wanted makes a call.
pub record Shows (wanted : ℕ → Bool) (id n : ℕ) (v w : View Roots) : Type 0 where
  pub word : (n ≡ 0) ⊎ ((pair : ℕ) × IsRoot v.about n pair)
  pub empty : n ≡ 0 → Caught plain [] v w × IsNoName id w.seen
  pub pair : (pair flags : ℕ) → HoldsRoot v.about n pair flags
      → Has (id, pair) w.root.roots
      × ((vector : Vector) → name_of w.seen vector ≡ Some id → flags_of w.seen vector ≡ Some flags)
  pub other : (pair : ℕ) → IsRoot v.about n pair → wanted pair ≡ false → Caught plain [] v w
  pub found : (pair : ℕ) → IsRoot v.about n pair → wanted pair ≡ true → Called plain false id pair v w

-- a call did so with the vector that has the name `id`, if the view had seen that name
abbrev pub DoesTo : Act → ℕ → View Roots → View Roots → Type 0
DoesTo act id v w = (vector : Vector) → name_of v.seen vector ≡ Some id
    → Caught plain (deed v.number act vector id ∷ []) v w

-- flag b of a word of this width and number of flags
abbrev pub flag_in : ℕ → ℕ → ℕ → ℕ → Bool
flag_in width flags word b = has_bit (flag_bits width flags word) b

module _ {S : Type 0} where
  -- what a step on a root word leaves
  pub record Leaves (m m' : Me S (View Roots)) : Type 0 where
    pub slots_stay : m'.1 ≡ m.1
    pub busy_stays : m'.0.busy ≡ m.0.busy
    pub no_olds : m'.0.olds ≡ []

  -- a root bucket is loaded, where these pairs are wanted
  abbrev pub sought : (ℕ → Bool) → Step S → Me S (View Roots) → ℕ → Me S (View Roots) → Type 0
  sought wanted st m n m' = Leaves m m' × Shows wanted (st.word - first_root m.0.about) n m.0 m'.0

  -- a root bucket is exchanged: it was empty and now has the pair, or it is as it was
  abbrev pub claimed : Step S → Me S (View Roots) → ℕ → Me S (View Roots) → Type 0
  claimed st m n m' =
      Leaves m m'
      × (n ≡ 0 → Called plain true (st.word - first_root m.0.about)
      (st.second - 9223372036854775808) m.0 m'.0)
      × (n ≢ 0 → Shows (wants (Pair (st.second - 9223372036854775808)))
      (st.word - first_root m.0.about) n m.0 m'.0)

  -- flag b is set in the word of a named vector: it was clear, or was set
  abbrev pub flag_set : Step S → Me S (View Roots) → ℕ → Me S (View Roots) → Type 0
  flag_set st m n m' =
      Leaves m m'
      × ((b : ℕ) → b < m.0.about.flags → st.first ≡ 2 ^ (2 * m.0.about.width + b)
      → DoesTo (Set b (not (flag_in m.0.about.width m.0.about.flags n b)))
      (st.word - first_root m.0.about) m.0 m'.0)

  -- flag b is cleared there: it was set, or was clear
  abbrev pub flag_cleared : Step S → Me S (View Roots) → ℕ → Me S (View Roots) → Type 0
  flag_cleared st m n m' =
      Leaves m m'
      × ((b : ℕ) → b < m.0.about.flags → st.first ≡ bit_not w64 (2 ^ (2 * m.0.about.width + b))
      → DoesTo (Clear b (flag_in m.0.about.width m.0.about.flags n b))
      (st.word - first_root m.0.about) m.0 m'.0)

  -- the flags there are read
  abbrev pub flags_read : Step S → Me S (View Roots) → ℕ → Me S (View Roots) → Type 0
  flags_read st m n m' =
      Leaves m m'
      × DoesTo (Look (flag_bits m.0.about.width m.0.about.flags n)) (st.word - first_root m.0.about) m.0 m'.0
