-- The laws of passes, whatever root table a store has.
use Rattle.std.proofs.Common.{◌≡◌, ◌≤◌, ℕ, [], ◌∷◌, Bool, true, Some, sym, ap, ◌∙◌, subst}
use Rattle.tree_shape.specs.Tree.{RootStands}
use Rattle.tree_shape.proofs.Trees.{one_vector, one_root}
use Rattle.tdb_base.specs.History.{Vector, name_of}
use Rattle.tdb_base.proofs.NameLemmas.{names-differ, entry-named}
use Rattle.pair_rule.specs.declared.view.View.{View}
use Rattle.pair_rule.specs.declared.sizes.About.{About}
use Rattle.pair_rule.specs.Part.{Part}
use Rattle.pair_rule.specs.Rest.{HasAll, view}
use Rattle.pair_rule.specs.Calls.{call}
use Rattle.pair_rule.specs.Plays.{Caught}
use Rattle.pair_nodes.specs.PassLaws.{NamesDiffer, RootsAreNaming, NewNames, WholeHasAll}

module _ {T : Type 0} (part : Part T) where
  pub names_differ : NamesDiffer part
  names_differ store p r = names-differ (view p).about.flags (view p).seen r.seat.sound.legal

  pub roots_naming : RootsAreNaming part
  roots_naming store p r =
      let s = r.seat.sound in
      let v = view p in
      let known = v.known in
      let some : 2 ≤ v.about.slots = subst (λ (y : About). 2 ≤ y.slots) (sym r.seat.about_is) r.seat.is_about.range.least_slots in
      record {
        one_pair = λ id x y a b.
            let m = s.named.only id x a in
            let o = s.named.only id y b in
            let one = names-differ v.about.flags v.seen s.legal m.0 o.0 id m.1 o.1 in
            one_root v.about.width v.about.slots known s.nodes.naming x y o.0 (subst (λ (u : Vector). RootStands v.about.width v.about.slots known x u) one m.2) o.2;
        one_index = λ i j x a b.
            let m = s.named.only i x a in
            let o = s.named.only j x b in
            let one = one_vector v.about.width v.about.slots known s.nodes.naming x m.0 o.0 some m.3 o.3 m.2 o.2 in
            let same : Some i ≡ Some j = sym m.1 ∙ (ap (λ (u : Vector). name_of v.seen u) one ∙ o.1) in
            cc same;
      }

  pub whole_has_all : WholeHasAll part
  whole_has_all store p r w = subst (λ (y : About). HasAll part y (view p)) r.seat.about_is (r.seat.sound.whole w)

  -- a call that is new came where it was allowed
  pub new_name : NewNames part
  new_name caller id vector v w k = k.sound.legal.each k.log (call caller true vector id) [] k.seen

  -- the vector of a call has the call's identifier
  pub call_named : (caller : ℕ) (fresh : Bool) (vector : Vector) (id : ℕ) (v w : View T) → Caught part (call caller fresh vector id ∷ []) v w → name_of w.seen vector ≡ Some id
  call_named caller fresh vector id v w k = entry-named w.about.flags w.seen k.log [] (call caller fresh vector id) k.sound.legal k.seen
