-- Calls on roots, one after another, whatever the root table is.
use Rattle.std.proofs.Common.{◌≡◌, ℕ, ◌∷◌, [], length, Bool, refl, sym, ap, ◌∙◌, subst, append-nil}
use Rattle.tree_shape.specs.Tree.{RootStands}
use Rattle.tree_shape.proofs.Trees.{one_vector}
use Rattle.tdb_base.specs.History.{Vector}
use Rattle.pair_rule.specs.declared.view.View.{View}
use Rattle.pair_rule.specs.declared.sizes.About.{About}
use Rattle.pair_rule.specs.declared.pass.PassOf.{PassOf}
use Rattle.pair_rule.specs.Part.{Part, Store}
use Rattle.pair_rule.specs.Rest.{AtRest, view}
use Rattle.pair_rule.specs.Plays.{Caught}
use Rattle.pair_rule.specs.Calls.{call, IsSomeRoot, Called, KeepsBuffers}
use Rattle.pair_rule.proofs.Histories.{extends_refl}
use Rattle.pair_rule.proofs.Names.{root_more}
use Rattle.pair_rule.proofs.Catches.{caught_then}

module _ {T : Type 0} (part : Part T) where
  pub caught_still : (store : Store) (p : PassOf T) → AtRest part store p → Caught part [] (view p) (view p)
  caught_still store p r = record {
    log = (view p).seen;
    seen = sym (append-nil (view p).seen);
    begins = extends_refl (view p).seen;
    own = λ c has. refl;
    about = refl;
    face_is = refl;
    made = refl;
    probing = refl;
    probes = refl;
    known = λ i x has. has;
    roots_stay = λ i x has. has;
    sound = r.seat.sound;
  }

  pub called_then : (fresh : Bool) (id pair : ℕ) (v u w : View T) → Caught part [] v u → Called part fresh id pair u w → Called part fresh id pair v w
  called_then fresh id pair v u w a c = record {
    vector = c.vector;
    stands = subst (λ (y : About). RootStands y.width y.slots w.known pair c.vector) a.about c.stands;
    long = c.long ∙ ap (λ (y : About). y.slots) a.about;
    caught = subst (λ (n : ℕ). Caught part (call n fresh c.vector id ∷ []) v w) (ap (λ f. f.number) a.face_is)
        (caught_then part (call u.number fresh c.vector id ∷ []) v u w a c.caught);
    root = c.root;
  }

  -- what stands for a vector, with more known
  pub some_more : (about : About) (pair : ℕ) (v w : View T) → Caught part [] v w → IsSomeRoot about v.known pair → IsSomeRoot about w.known pair
  some_more about pair v w k s = (s.0, root_more about v.known w.known pair s.0 k.known s.1, s.2)

  -- the vector of a call is the one that its pair stands for
  pub called_entry : (store : Store) (p q : PassOf T) (fresh : Bool) (id pair : ℕ) → AtRest part store p → AtRest part store q → Called part fresh id pair (view p) (view q) → (vector : Vector)
      → RootStands store.about.width store.about.slots (view p).known pair vector → length vector ≡ store.about.slots → Caught part (call (view p).number fresh vector id ∷ []) (view p) (view q)
  called_entry store p q fresh id pair rp rq c vector stands long =
      let about = store.about in
      let here = root_more about (view p).known (view q).known pair vector c.caught.known stands in
      let there = subst (λ (y : About). RootStands y.width y.slots (view q).known pair c.vector) rp.seat.about_is c.stands in
      let one : c.vector ≡ vector = one_vector about.width about.slots (view q).known rq.seat.sound.nodes.naming pair c.vector vector rp.seat.is_about.range.least_slots (c.long ∙ ap (λ (y : About). y.slots) rp.seat.about_is) long there here in
      subst (λ (u : Vector). Caught part (call (view p).number fresh u id ∷ []) (view p) (view q)) one c.caught

pub buffers_then : {T : Type 0} (p q r : PassOf T) → KeepsBuffers p q → KeepsBuffers q r → KeepsBuffers p r
buffers_then {T} p q r a b = b ∙ ap (λ (z : PassOf T). record z { seat = r.seat; names_count = r.names_count }) a
