-- What a pass knows it goes on to know, whatever it calls.
use Rattle.std.proofs.Common.{◌≡◌, ◌∙◌, ◌⊎◌, inl, inr, ◌<◌, ◌≤◌, ◌-◌, ℕ, List, All, IfSome, Option, Some, None, [], ◌∷◌, Bor, length, reverse, get_or, subst, sym, arith}
use Rattle.std.specs.Prelude.{MatchOption}
use Rattle.std.specs.Option.{option_copied}
use Rattle.std.proofs.lemmas.List.{length-reverse, get_or-reverse}
use Rattle.std.proofs.lemmas.List.Elements.{All-weaker, All-push, All-get_or}
use Rattle.tdb_base.specs.History.{Vector, History, name_of}
use Rattle.tdb_base.specs.Legal.{Extends}
use Rattle.tdb_base.proofs.NameLemmas.{keeps-names, names-differ}
use Rattle.tdb_base.specs.declared.reply.Reply.{Reply}
use Rattle.tdb_base.specs.declared.reply.Reply.TheVariants as r
use Rattle.pair_rule.specs.declared.pass.PassOf.{PassOf}
use Rattle.pair_rule.specs.Part.{Part, Store}
use Rattle.pair_rule.specs.Plays.{Caught}
use Rattle.pair_rule.specs.Rest.{AtRest, view, KnowsName}
use Rattle.pair_rule.proofs.Histories.{extends_refl, extends_trans}
use Rattle.tree_store.specs.Store.{Advanced, IsAnswered}
use Rattle.root_plain.specs.declared.root.Roots.{Roots}
use Rattle.root_plain.specs.Plain.{plain}
use Rattle.store_uses.specs.Known.{IsReady, IsStored}

module _ {T : Type 0} (part : Part T) (store : Store) (p q : PassOf T) (rest : AtRest part store q) where
  -- the history that was seen is a front of the one that is seen now
  pub known_stays : Extends (view p).seen (view q).seen → (id : ℕ) → KnowsName p id → KnowsName q id
  known_stays front id n = (n.0, keeps-names (view q).about.flags (view p).seen (view q).seen rest.seat.sound.legal front n.0 id n.1)

  advanced_stays : (more : History) → Advanced part more (view p) (view q) → (id : ℕ) → KnowsName p id → KnowsName q id
  advanced_stays more a = known_stays (extends_trans (view p).seen a.log (view q).seen a.begins (record { more = more; whole = a.seen }))

  -- an insertion
  pub answered_stays : (last : Option Vector) (vector : Vector) (reply : Reply) → IsAnswered part store last vector reply p q → (id : ℕ) → KnowsName p id → KnowsName q id
  answered_stays last vector (r.New id) a = advanced_stays _ a.call_is
  answered_stays last vector (r.Seen id) a = advanced_stays _ a.call_is
  answered_stays last vector r.FullNodes a =
      known_stays (subst (λ (h : History). Extends (view p).seen h) (sym a.refused.grown.seen) (extends_refl (view p).seen))
  answered_stays last vector r.FullRoots a = advanced_stays _ a.no_call

  -- a call on what is known, as one that sets a flag
  pub caught_stays : (more : History) → Caught part more (view p) (view q) → (id : ℕ) → KnowsName p id → KnowsName q id
  caught_stays more k = known_stays (extends_trans (view p).seen k.log (view q).seen k.begins (record { more = more; whole = k.seen }))

  -- a vector that was read
  pub read_stays : Advanced part [] (view p) (view q) → (id : ℕ) → KnowsName p id → KnowsName q id
  read_stays a = advanced_stays [] a

-- what stays of each stays of all
pub all_stay : {T : Type 0} (p q : PassOf T) → ((id : ℕ) → KnowsName p id → KnowsName q id) → (ids : List ℕ) → All (KnowsName p) ids → All (KnowsName q) ids
all_stay p q stays ids each = All-weaker (KnowsName p) (KnowsName q) stays ids each

-- a pass that became a worker's
pub ready : (store : Store) (p q : PassOf Roots) (ids : List ℕ) → q ≡ p → AtRest plain store p → All (KnowsName p) ids → IsReady store q ids
ready store p q ids same rest known = record {
  rest = subst (λ (x : PassOf Roots). AtRest plain store x) (sym same) rest;
  frontier_known = subst (λ (x : PassOf Roots). All (KnowsName x) ids) (sym same) known;
}

-- what holds of two holds of each in the list of both
pub both : {X : Type 0} (P : X → Type 0) (a b : X) → P a → P b → All P (a ∷ b ∷ [])
both {X} P a b pa pb = All-push P (a ∷ []) b (All-push P [] a none pa) pb
  where
    none : All P []
    none k d low = absurd (omega (arith, low))

-- what was copied from a place of a list is the element there
pub copied_there : {X : Type 0} (P : X → Type 0) (xs : List X) (at : ℕ) (Rest : Bor X → Type 0) (o : Option (Bor X)) (x : X)
    → IfSome o (λ b. b.now ≡ get_or xs at b.now) → MatchOption o (length xs ≤ at) (λ b. (at < length xs) × Rest b)
    → Some x ≡ option_copied o → All P xs → P x
copied_there P xs at Rest None x there inside copied all = cc copied
copied_there P xs at Rest (Some b) x there inside copied all =
    let same : x ≡ b.now = cc copied in
    subst P (sym (same ∙ there)) (All-get_or P xs at b.now inside.0 all)

-- reading a vector leaves what is known, and what is stored
module _ {T : Type 0} (part : Part T) (store : Store) (p q : PassOf T) (rest : AtRest part store q) (read : Advanced part [] (view p) (view q)) where
  pub stored_stays : (v : Vector) → IsStored p v → IsStored q v
  stored_stays v s =
      let front = extends_trans (view p).seen read.log (view q).seen read.begins (record { more = []; whole = read.seen }) in
      (s.0, keeps-names (view q).about.flags (view p).seen (view q).seen rest.seat.sound.legal front v s.0 s.1)

  pub all_stored_stay : (vectors : List Vector) → All (IsStored p) vectors → All (IsStored q) vectors
  all_stored_stay vectors each = All-weaker (IsStored p) (IsStored q) stored_stays vectors each

-- two vectors with one identifier are one
pub one_vector : {T : Type 0} (part : Part T) (store : Store) (p : PassOf T) → AtRest part store p → (u v : Vector) (id : ℕ)
    → name_of (view p).seen u ≡ Some id → name_of (view p).seen v ≡ Some id → u ≡ v
one_vector part store p rest u v id = names-differ (view p).about.flags (view p).seen rest.seat.sound.legal u v id

-- an answer with an identifier names its vector
pub answered_name : {T : Type 0} (part : Part T) (store : Store) (p q : PassOf T) (last : Option Vector) (vector : Vector) (reply : Reply) (id : ℕ)
    → IsAnswered part store last vector reply p q → (reply ≡ r.New id) ⊎ (reply ≡ r.Seen id) → name_of (view q).seen vector ≡ Some id
answered_name part store p q last vector reply id a (inl e) = (subst (λ (x : Reply). IsAnswered part store last vector x p q) e a).name
answered_name part store p q last vector reply id a (inr e) = (subst (λ (x : Reply). IsAnswered part store last vector x p q) e a).name

-- what holds of each holds of each in turned order
pub all_reversed : {X : Type 0} (P : X → Type 0) (xs : List X) → All P xs → All P (reverse xs)
all_reversed P xs all k d low =
    let inside : k < length xs = subst (λ (n : ℕ). k < n) (length-reverse xs) low in
    subst P (sym (get_or-reverse xs k d inside)) (All-get_or P xs (length xs - 1 - k) d (omega (arith, inside)) all)
