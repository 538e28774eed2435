-- What each step on the table tells.
use Rattle.std.specs.Prelude.{◌≡◌, ◌≢◌, ℕ, suc, ◌-◌, ◌⊎◌, [], ◌++◌, true}
use Rattle.atomic_table.specs.Table.{Me, Step}
use Rattle.tree_shape.specs.Tree.{Has, IsPart}
use Rattle.tdb_base.specs.History.{History, calls}
use Rattle.tdb_base.specs.Legal.{Extends}
use Rattle.pair_rule.specs.declared.view.View.{View}
use Rattle.pair_rule.specs.declared.sizes.About.{About}
use Rattle.pair_rule.specs.View.{face, node_word, learned, begun, published}
use Rattle.pair_rule.specs.Paths.{node_buckets, size, IsPair}
use Rattle.pair_rule.specs.Part.{Part, root_pairs}
use Rattle.pair_rule.specs.Rest.{Sound}

-- the word of a node's bucket: empty, or a pair
abbrev pub IsWord : About → ℕ → Type 0
IsWord about n = (n ≡ 0) ⊎ ((pair : ℕ) × (n ≡ node_word pair) × IsPair (node_buckets about) pair)

module _ {S T : Type 0} (part : Part T) where
  -- what a load of a node's bucket tells beside the view's change
  pub record Found (st : Step S) (m : Me S (View T)) (n : ℕ) (m' : Me S (View T)) : Type 0 where
    pub no_olds : m.0.olds ≡ []
    pub slots_stay : m'.1 ≡ m.1
    pub word : IsWord m.0.about n
    pub free : n ≡ 0 → (pair : ℕ) → Has (st.word - 1, pair) m.0.known → ⊥
    pub sound : Sound part m'.0

  -- a node's bucket is loaded
  abbrev pub look_tells : Step S → Me S (View T) → ℕ → Me S (View T) → Type 0
  look_tells st m n m' = (m'.0 ≡ learned (st.word - 1) n m.0) × Found st m n m'

  -- the first load of a probe
  abbrev pub begin_tells : Step S → Me S (View T) → ℕ → Me S (View T) → Type 0
  begin_tells st m n m' = (m'.0 ≡ begun (st.word - 1) n m.0) × Found st m n m'

  -- a node's bucket is exchanged, in a probe that is under way: it was empty and now has the pair, or it is
  -- as it was
  abbrev pub put_tells : Step S → Me S (View T) → ℕ → Me S (View T) → Type 0
  put_tells st m n m' =
      (m.0.probing ≡ true) × (n ≡ 0 → m'.0 ≡ published (st.word - 1) (st.second - 9223372036854775808) m.0)
      × (n ≢ 0 → m'.0 ≡ learned (st.word - 1) n m.0) × Found st m n m'

  -- word 0 is loaded after two views were joined
  pub record JoinTold (st : Step S) (m m' : Me S (View T)) : Type 0 where
    pub here : st.word ≡ 0
    pub view_is : m'.0 ≡ record m.0 { olds = [] }
    pub slots_stay : m'.1 ≡ m.1
    pub joined_sound : Sound part m.0
    pub sound : Sound part m'.0

  abbrev pub after_join_tells : Step S → Me S (View T) → ℕ → Me S (View T) → Type 0
  after_join_tells st m n m' = JoinTold st m m'

module _ {T : Type 0} (part : Part T) where
  -- the view w is v after it has caught up with some history and then made these calls
  pub record Caught (more : History) (v w : View T) : Type 0 where
    pub log : History
    pub seen : w.seen ≡ log ++ more
    pub begins : Extends v.seen log
    pub own : (c : ℕ) → Has c v.numbers → calls log c ≡ calls v.seen c
    pub about : w.about ≡ v.about
    pub face_is : face w ≡ face v
    pub made : w.made ≡ v.made
    pub probing : w.probing ≡ v.probing
    pub probes : w.probes ≡ v.probes
    pub known : IsPart v.known w.known
    pub roots_stay : IsPart (root_pairs part v) (root_pairs part w)
    pub sound : Sound part w

-- where the root words begin
abbrev pub first_root : About → ℕ
first_root about = suc (size (node_buckets about))
