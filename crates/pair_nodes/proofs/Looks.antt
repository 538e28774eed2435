-- A put after a look that found nothing is one put.
use Rattle.std.proofs.Common.{◌≡◌, ℕ, [], ◌∷◌, Bool, ap, subst}
use Rattle.pair_rule.specs.declared.pass.PassOf.{PassOf}
use Rattle.pair_rule.specs.Part.{Part, Store}
use Rattle.pair_rule.specs.Rest.{view}
use Rattle.pair_rule.specs.Plays.{Caught}
use Rattle.pair_rule.specs.Calls.{call, IsSomeRoot, KeepsBuffers}
use Rattle.pair_rule.proofs.Catches.{caught_then}
use Rattle.pair_rule.proofs.Names.{root_more}
use Rattle.pair_nodes.specs.Roots.{RootPut, RootRefused, RootUnseen}

module _ {T : Type 0} where
  kept_then : (p q r : PassOf T) → KeepsBuffers p q → KeepsBuffers q r → KeepsBuffers p r
  kept_then p q r a b = subst (λ x. r ≡ record x { seat = r.seat; names_count = r.names_count }) a b

  module _ (part : Part T) (store : Store) (p q r : PassOf T) (unseen : RootUnseen part store p q) where
    pub asked_again : (pair : ℕ) → IsSomeRoot store.about (view p).known pair → IsSomeRoot store.about (view q).known pair
    asked_again pair s = (s.0, root_more store.about (view p).known (view q).known pair s.0 unseen.no_call.known s.1, s.2)

    pub put_then : (pair id : ℕ) (fresh : Bool) → RootPut part store pair id fresh q r → RootPut part store pair id fresh p r
    put_then pair id fresh put = record {
      rest = put.rest;
      entry = λ vector stands long.
          let number = ap (λ f. f.number) unseen.no_call.face_is in
          let caught = put.entry vector (root_more store.about (view p).known (view q).known pair vector unseen.no_call.known stands) long in
          caught_then part (call (view p).number fresh vector id ∷ []) (view p) (view q) (view r) unseen.no_call
          (subst (λ n. Caught part (call n fresh vector id ∷ []) (view q) (view r)) number caught);
      root = put.root;
      buffers = kept_then p q r unseen.buffers put.buffers;
    }

    pub refused_then : (pair : ℕ) → RootRefused part store pair q r → RootRefused part store pair p r
    refused_then pair refused = record {
      rest = refused.rest;
      no_call = caught_then part [] (view p) (view q) (view r) unseen.no_call refused.no_call;
      full = refused.full;
      buffers = kept_then p q r unseen.buffers refused.buffers;
    }
