-- What a call on a store leaves of a pass.
use Rattle.std.specs.Prelude.{◌≡◌, ℕ, ◌+◌, [], ◌∷◌, ◌++◌, Option, Some, None, Bool, true, false, ⊤}
use Rattle.tree_shape.specs.Tree.{Has, IsPart, RootStands}
use Rattle.tdb_base.specs.History.{Vector, History, name_of, calls}
use Rattle.tdb_base.specs.Legal.{Extends}
use Rattle.tdb_base.specs.declared.reply.Reply.{Reply}
use Rattle.tdb_base.specs.declared.reply.Reply.TheVariants as r
use Rattle.pair_rule.specs.declared.view.View.{View}
use Rattle.pair_rule.specs.declared.sizes.About.{About}
use Rattle.pair_rule.specs.declared.pass.PassOf.{PassOf}
use Rattle.pair_rule.specs.Part.{Store, Part, root_pairs}
use Rattle.pair_rule.specs.View.{face}
use Rattle.pair_rule.specs.Rest.{AtRest, view, last_vector}
use Rattle.pair_rule.specs.Plays.{Caught}
use Rattle.pair_rule.specs.Calls.{call, KeepsBuffers}
use Rattle.pair_nodes.specs.Roots.{IsFoundOrPut, IsPutAfterLook}
use Rattle.tree_store.specs.Vectors.{IsBlockedRoot, puts_after, raised, RaisedWithin, Gained, Refused}

-- the reply that names a vector: whether it is new, and its identifier
abbrev pub naming : Bool → ℕ → Reply
naming true id = r.New id
naming false id = r.Seen id

-- what is said of a reply that names its vector: whether it is new, and its identifier
abbrev pub IfNamed : Reply → (Bool → ℕ → Type 0) → Type 0
IfNamed (r.New id) Fact = Fact true id
IfNamed (r.Seen id) Fact = Fact false id
IfNamed r.FullNodes Fact = ⊤
IfNamed r.FullRoots Fact = ⊤

module _ {T : Type 0} (part : Part T) where
  -- the vector has no name in any history that a pass of this store has seen that knows what this one knows
  abbrev pub NeverNamed : Store → PassOf T → Vector → Type 0
  NeverNamed store p v =
      (q : PassOf T) → AtRest part store q → IsPart (view p).known (view q).known
      → IsPart (root_pairs part (view p)) (root_pairs part (view q)) → name_of (view q).seen v ≡ None

  -- the view w is v after it has caught up with some history and then made these calls; it may have put nodes
  -- before
  pub record Advanced (more : History) (v w : View T) : Type 0 where
    pub log : History
    pub seen : w.seen ≡ log ++ more
    pub begins : Extends v.seen log
    pub own : (c : ℕ) → Has c v.numbers → calls log c ≡ calls v.seen c
    pub about : w.about ≡ v.about
    pub face_is : face w ≡ face v
    pub known : IsPart v.known w.known
    pub roots : IsPart (root_pairs part v) (root_pairs part w)

  -- the identifier's root pair stands for the vector
  pub record HasRoot (about : About) (v : View T) (vector : Vector) (id : ℕ) : Type 0 where
    pub pair : ℕ
    pub there : Has (id, pair) (root_pairs part v)
    pub stands : RootStands about.width about.slots v.known pair vector

  -- the vector has a root pair for which there is no place
  abbrev pub HasBlockedRoot : About → View T → Vector → Type 0
  HasBlockedRoot about v vector = IsBlockedRoot about v.known (part.is_full about (root_pairs part v)) vector

  -- How the answer about a vector came: one look was made for a root pair that stands for it; and the root
  -- was put by one call, only where that look did not find it.
  abbrev pub LooksAndPuts : About → Vector → View T → View T → Type 0
  LooksAndPuts about vector v w = (pair : ℕ) × RootStands about.width about.slots w.known pair vector
      × IsPutAfterLook part about pair v.root w.root

  abbrev pub FindsOrPuts : About → Vector → Bool → View T → View T → Type 0
  FindsOrPuts about vector fresh v w = (pair : ℕ) × RootStands about.width about.slots w.known pair vector
      × IsFoundOrPut part about pair fresh v.root w.root

module _ {T : Type 0} where
  -- the tree that was put is the last one
  abbrev pub TreeBecomesLast : PassOf T → PassOf T → Type 0
  TreeBecomesLast old new = new ≡ record old {
    seat = new.seat;
    names_count = new.names_count;
    last_tree = old.next_tree;
    next_tree = old.last_tree;
    has_last = true;
  }

  -- the last tree is as it was
  pub record KeepsLastTree (old new : PassOf T) : Type 0 where
    pub has : new.has_last ≡ old.has_last
    pub tree : new.last_tree ≡ old.last_tree
    pub vector : last_vector new ≡ last_vector old

-- What an insertion of a vector leaves of a pass, where it puts the nodes in which the vector differs from a
-- last one.
module _ {T : Type 0} (part : Part T) (store : Store) (last : Option Vector) (vector : Vector) where
  -- the vector has a name, by one call that gave or found it, and its tree is the last one
  pub record IsNamed (fresh : Bool) (id : ℕ) (old new : PassOf T) : Type 0 where
    pub call_is : Advanced part (call (view old).number fresh vector id ∷ []) (view old) (view new)
    pub name : name_of (view new).seen vector ≡ Some id
    pub root : HasRoot part store.about (view new) vector id
    pub looked : FindsOrPuts part store.about vector fresh (view old) (view new)
    pub last_is : last_vector new ≡ Some vector
    pub nodes : Gained store.about vector (puts_after store.about last vector) (view old) (view new)
    pub probes : (view new).probes ≡ (view old).probes + puts_after store.about last vector

  -- some pair inside the vector's tree has no place: no call was made and no look for a root, and the vector
  -- gets no name for good
  pub record IsFullInside (old new : PassOf T) : Type 0 where
    pub refused : Refused store.about vector (puts_after store.about last vector) (view old) (view new)
    pub no_look : (view new).root ≡ (view old).root
    pub last_stays : KeepsLastTree old new
    pub for_good : NeverNamed part store new vector

  -- the vector's root has no place: no call was made, the tree's nodes stay, and the vector gets no name for
  -- good
  pub record IsFullAtRoot (old new : PassOf T) : Type 0 where
    pub blocked : HasBlockedRoot part store.about (view new) vector
    pub looked : LooksAndPuts part store.about vector (view old) (view new)
    pub no_call : Advanced part [] (view old) (view new)
    pub nodes : Gained store.about vector (puts_after store.about last vector) (view old) (view new)
    pub probes : (view new).probes ≡ (view old).probes + puts_after store.about last vector
    pub last_stays : KeepsLastTree old new
    pub for_good : NeverNamed part store new vector

  -- what the reply says
  abbrev pub IsAnswered : Reply → PassOf T → PassOf T → Type 0
  IsAnswered (r.New id) old new = IsNamed true id old new
  IsAnswered (r.Seen id) old new = IsNamed false id old new
  IsAnswered r.FullNodes old new = IsFullInside old new
  IsAnswered r.FullRoots old new = IsFullAtRoot old new

-- a step was counted for each node that had to be put, and for the root; where a node had no place, for those
-- up to it
abbrev pub AreTicked : ℕ → Reply → Option ℕ → Option ℕ → Type 0
AreTicked puts (r.New id) old new = new ≡ raised (puts + 1) old
AreTicked puts (r.Seen id) old new = new ≡ raised (puts + 1) old
AreTicked puts r.FullNodes old new = RaisedWithin puts old new
AreTicked puts r.FullRoots old new = new ≡ raised (puts + 1) old

-- What is left when the root of a tree that was put is put as well.
module _ {T : Type 0} (part : Part T) (store : Store) (vector : Vector) where
  pub record RootIsNamed (fresh : Bool) (id : ℕ) (old new : PassOf T) : Type 0 where
    pub call_is : Caught part (call (view old).number fresh vector id ∷ []) (view old) (view new)
    pub root : HasRoot part store.about (view new) vector id
    pub looked : FindsOrPuts part store.about vector fresh (view old) (view new)
    pub tree : TreeBecomesLast old new

  pub record RootIsFull (old new : PassOf T) : Type 0 where
    pub no_call : Caught part [] (view old) (view new)
    pub blocked : HasBlockedRoot part store.about (view new) vector
    pub looked : LooksAndPuts part store.about vector (view old) (view new)
    pub buffers : KeepsBuffers old new

  abbrev pub RootIsAnswered : Reply → PassOf T → PassOf T → Type 0
  RootIsAnswered (r.New id) old new = RootIsNamed true id old new
  RootIsAnswered (r.Seen id) old new = RootIsNamed false id old new
  RootIsAnswered r.FullNodes old new = ⊥
  RootIsAnswered r.FullRoots old new = RootIsFull old new
