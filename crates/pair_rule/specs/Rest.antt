-- What is known of a pass by itself, between two steps and between two calls.
use Rattle.std.specs.Prelude.{◌≡◌, ℕ, ◌+◌, ◌*◌, ◌^◌, ◌<◌, ◌≤◌, ◌&&◌, List, [], true, false, Option, Some}
use Rattle.std.specs.Prelude.{None, drop, length, slice_index, count_by, if◌then◌else◌}
use Rattle.std.specs.List.{list_any}
use Rattle.std.specs.Prelude.{◌==◌}
use Rattle.atomic_table.specs.declared.shared.Seat.{Seat}
use Rattle.tree_shape.specs.Tree.{Has, IsNaming, Stands}
use Rattle.tdb_base.specs.History.{Vector, History, is_fresh, calls, name_of}
use Rattle.tdb_base.specs.Legal.{IsLegal, Extends}
use Rattle.pair_rule.specs.declared.view.View.{View}
use Rattle.pair_rule.specs.declared.view.Old.{Old}
use Rattle.pair_rule.specs.declared.sizes.About.{About}
use Rattle.pair_rule.specs.declared.pass.PassOf.{PassOf}
use Rattle.pair_rule.specs.Numbers.{child, Descends, NoRepeats}
use Rattle.pair_rule.specs.Paths.{Buckets, node_buckets, size, bucket, reach, IsPair, OnPath, Listed}
use Rattle.pair_rule.specs.Laws.{IsAbout}
use Rattle.pair_rule.specs.Part.{Store, Part, root_pairs}
use Rattle.pair_rule.specs.Rule.{Named, open_probes}

-- the nodes are a naming of pairs: each index is a bucket's number and lies on its pair's path
pub record AreNodes (about : About) (known : List (ℕ × ℕ)) : Type 0 where
  pub naming : IsNaming known
  pub inside : (i pair : ℕ) → Has (i, pair) known
      → (i < size (node_buckets about)) × IsPair (node_buckets about) pair
  pub on_path : (i pair : ℕ) → Has (i, pair) known
      → (step : ℕ) × (step < reach (node_buckets about)) × (bucket (node_buckets about) pair step ≡ i)

-- each pair lies on its path, and on it each earlier bucket has another pair of the map
abbrev pub FillsPaths : Buckets → List (ℕ × ℕ) → Type 0
FillsPaths b map = (i pair : ℕ) → Has (i, pair) map → OnPath b (Listed map) i pair

-- The nodes, the root pairs by identifiers and the history of a whole store. `house` is what the root table's
-- own form adds.
pub record Housed (about : About) (house : List (ℕ × ℕ) → Type 0) (nodes roots : List (ℕ × ℕ))
    (h : History) : Type 0 where
  pub are_nodes : AreNodes about nodes
  pub fills_paths : FillsPaths (node_buckets about) nodes
  pub legal : IsLegal about.flags h
  pub named : Named about nodes h roots
  pub house_is : house roots

-- how many names were given by calls of these callers
abbrev pub names_of_callers : List ℕ → History → ℕ
names_of_callers numbers h = count_by (λ e. is_fresh e.act && list_any (λ c. c == e.caller) numbers) h

module _ {T : Type 0} where
  -- a view of all passes that there are: it stands for the first pass, and for each that was split from one
  -- that it stands for
  pub record Whole (v : View T) : Type 0 where
    pub first : Has 0 v.numbers
    pub all : (c : ℕ) → Has c v.born → Has c v.numbers

  -- then all calls are its own, it put all nodes there, and what it knows is the store
  pub record HasAll (part : Part T) (about : About) (v : View T) : Type 0 where
    pub callers : (c : ℕ) → (Has c v.numbers → ⊥) → calls v.seen c ≡ []
    pub made : (i pair : ℕ) → Has (i, pair) v.known → Has i v.made
    pub housed : Housed about (part.house about) v.known (part.roots about v.seen v.root) v.seen

  -- what every step tells of the view after it
  pub record Sound (part : Part T) (v : View T) : Type 0 where
    pub legal : IsLegal v.about.flags v.seen
    pub nodes : AreNodes v.about v.known
    pub named : Named v.about v.known v.seen (root_pairs part v)
    pub made : (i : ℕ) → Has i v.made → (pair : ℕ) × Has (i, pair) v.known
    pub made_once : NoRepeats v.made
    pub probed : length v.made + open_probes v.probing ≤ v.probes
    pub mine : Has v.number v.numbers
    pub numbers_once : NoRepeats v.numbers
    pub unborn : (n c : ℕ) → v.splits ≤ n → Descends (child v.number n) c
        → (Has c v.numbers → ⊥) × (Has c v.born → ⊥) × (calls v.seen c ≡ [])
    pub olds : (o : Old) → Has o v.olds
        → Extends o.seen v.seen × ((c : ℕ) → Has c o.numbers → calls v.seen c ≡ calls o.seen c)
    pub whole : Whole v → HasAll part v.about v
    pub root_sound : part.sound v.about v

  -- a seat between two calls: it is of this store, holds no slot, and its view is a pass's
  pub record SeatRests {S : Type 0} (part : Part T) (store : Store) (seat : Seat S (View T)) : Type 0 where
    pub table_is : seat.table_id ≡ store.table
    pub bare : seat.me.1 ≡ []
    pub live : seat.me.0.live ≡ true
    pub idle : seat.me.0.busy ≡ false
    pub no_olds : seat.me.0.olds ≡ []
    pub about_is : seat.me.0.about ≡ store.about
    pub is_about : IsAbout part.sized part.count store.about
    pub sound : Sound part seat.me.0

  -- the number is none of the view's, nor of those that had been split from these, and nobody called under it
  pub record IsUnknown (number : ℕ) (v : View T) : Type 0 where
    pub not_its : Has number v.numbers → ⊥
    pub not_born : Has number v.born → ⊥
    pub no_calls : calls v.seen number ≡ []

  -- the calls under the old view's numbers are, in the new view's history, those that the old view had seen
  abbrev pub KeepsCalls : View T → View T → Type 0
  KeepsCalls old new = (c : ℕ) → Has c old.numbers → calls new.seen c ≡ calls old.seen c

  abbrev pub view : PassOf T → View T
  view p = p.seat.me.0

  -- the pass has seen that a vector was given this identifier
  abbrev pub KnowsName : PassOf T → ℕ → Type 0
  KnowsName p id = (vector : Vector) × (name_of (view p).seen vector ≡ Some id)

  -- the vector of the pass's last tree, if it has one: the values at the slots' positions
  abbrev pub last_vector : PassOf T → Option Vector
  last_vector p = if p.has_last then Some (drop (view p).about.slots p.last_tree.items) else None

  -- a pass between two calls
  pub record AtRest (part : Part T) (store : Store) (p : PassOf T) : Type 0 where
    pub seat : SeatRests part store p.seat
    pub last_length : length p.last_tree.items ≡ 2 * store.about.slots
    pub next_length : length p.next_tree.items ≡ 2 * store.about.slots
    pub marks_length : length p.marks.items ≡ store.about.slots
    pub last : p.has_last ≡ true → (position : ℕ) → 2 ≤ position → position < 2 * store.about.slots
        → Stands store.about.width store.about.slots p.seat.me.0.known
        (drop store.about.slots p.last_tree.items) position (slice_index p.last_tree.items position)
    pub last_slots : p.has_last ≡ true → (slot : ℕ) → slot < store.about.slots
        → slice_index p.last_tree.items (store.about.slots + slot) < 2 ^ store.about.width
    pub nodes_count : p.nodes_count ≡ length p.seat.me.0.made
    pub names_count : p.names_count ≡ names_of_callers p.seat.me.0.numbers p.seat.me.0.seen
