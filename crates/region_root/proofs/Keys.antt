-- Keys of a region's cells, and the roots that they stand for.
use Rattle.std.proofs.Common.{◌≡◌, ℕ, ◌^◌, ◌<◌, List, [], ◌∷◌, Bool, true, false, Result, Ok, Err, refl, sym, ap, ◌∙◌, subst, inl, inr, ⊎_elim, eq-eqb, ne_eqb}
use Rattle.std.specs.Prelude.{if◌then◌else◌, ◌==◌, ◌&&◌, MatchBool, map}
use mathlib.Core.Logic.{dite}
use native.Mathlib.Decide.{ℕ_discrete}
use Rattle.mix_hash.specs.declared.Place.{Place}
use Rattle.tree_shape.specs.Tree.{Has}
use Rattle.cleary_core.specs.declared.insertion.RegionFull.{RegionFull}
use Rattle.cleary_core.specs.Answers.{Present, Tells, Decides, Answered, flagged as keys_flagged}
use Rattle.cleary_core.specs.declared.cells.Sizes.{Sizes as CellSizes}
use Rattle.cleary_core.specs.Cells.{word_count}
use Rattle.cleary_core.specs.Map.{Key, Has as HasKey, IsMap, KeepsMap}
use Rattle.pair_rule.specs.declared.sizes.About.{About}
use Rattle.pair_rule.specs.Numbers.{NoRepeats}
use Rattle.region_root.specs.Layout.{most, place, region_of, IsPacked, key_of, keys_of, cells_of, words_each, region_words, KeepsRoots}
use Rattle.region_root.specs.Maps.{InRegion, with_flag_set}
use Rattle.region_root.specs.Compact.{IsCompact}
use Rattle.region_root.specs.Names.{one_place, keys_long, place_in_range}
use Rattle.region_root.specs.Work.{Added, HasLoaded}
use Rattle.region_root.specs.Told.{FindsRoot}
use Rattle.region_root.specs.declared.root.Regions.{Regions}
use Rattle.pair_rule.specs.declared.pass.PassOf.{PassOf}

pub key_there : (about : About) (x f : ℕ) (m : List (ℕ × ℕ)) → Has (x, f) m → HasKey (key_of about x f) (keys_of about m)
key_there about x f [] h = absurd h
key_there about x f (r ∷ m) h = ⊎_elim (λ (e : (x, f) ≡ r). inl (ap (λ (p : ℕ × ℕ). key_of about p.0 p.1) e)) (λ (t : Has (x, f) m). inr (key_there about x f m t)) h

pub root_there : (about : About) (k : Key) (m : List (ℕ × ℕ)) → HasKey k (keys_of about m) → (x : ℕ) × (f : ℕ) × Has (x, f) m × (k ≡ key_of about x f)
root_there about k [] h = absurd h
root_there about k (r ∷ m) h = ⊎_elim
    (λ (e : k ≡ key_of about r.0 r.1). (r.0, r.1, inl refl, e))
    (λ (t : HasKey k (keys_of about m)). let o = root_there about k m t in (o.0, o.1, inr o.2, o.3))
    h

same_place : (a b : Place) → a.region ≡ b.region → a.home ≡ b.home → a.quotient ≡ b.quotient → a ≡ b
same_place a b r h q = λ i. record { region = r i; home = h i; quotient = q i }

module _ (about : About) (is : IsCompact about) (g x : ℕ) (here : region_of about x ≡ g) (packed : IsPacked about x) where
  -- two roots of one region with one home and one quotient are one
  pub one_key : (y : ℕ) → region_of about y ≡ g → IsPacked about y → (place about y).home ≡ (place about x).home → (place about y).quotient ≡ (place about x).quotient → y ≡ x
  one_key y there small home quotient = one_place about y x is small packed (same_place (place about y) (place about x) (there ∙ sym here) home quotient)

  module _ (m : List (ℕ × ℕ)) (inside : InRegion about g m) where
    pub present : Present (keys_of about m) (place about x).home (place about x).quotient → (f : ℕ) × Has (x, f) m
    present p =
        let o = root_there about p.0 m p.1 in
        let in_g = inside o.0 o.1 o.2 in
        let one = one_key o.0 in_g.0 in_g.1 (sym (ap (λ (k : Key). k.home) o.3) ∙ p.2) (sym (ap (λ (k : Key). k.quotient) o.3) ∙ p.3) in
        (o.1, subst (λ (y : ℕ). Has (y, o.1) m) one o.2)

  pub is_present : (m : List (ℕ × ℕ)) (f : ℕ) → Has (x, f) m → Present (keys_of about m) (place about x).home (place about x).quotient
  is_present m f h = (key_of about x f, key_there about x f m h, refl, refl)

  -- a key's flags set are its root's
  pub keys_flagged_are : (m : List (ℕ × ℕ)) (value : ℕ) → InRegion about g m → keys_flagged (place about x).home (place about x).quotient value (keys_of about m) ≡ keys_of about (with_flag_set x value m)
  keys_flagged_are [] value inside = refl
  keys_flagged_are (r ∷ m) value inside =
      let tail = keys_flagged_are m value (λ y f h. inside y f (inr h)) in
      let in_g = inside r.0 r.1 (inl refl) in
      let both = λ (b : Bool). let k : Key = record { home = (place about r.0).home; quotient = (place about r.0).quotient; flags = if b then value else r.1 } in k in
      let same : (((place about r.0).home == (place about x).home) && ((place about r.0).quotient == (place about x).quotient)) ≡ (r.0 == x) = dite (ℕ_discrete r.0 x)
      (λ z. ap2 (λ a b. a && b) (eq-eqb _ _ (ap (λ (y : ℕ). (place about y).home) z)) (eq-eqb _ _ (ap (λ (y : ℕ). (place about y).quotient) z)) ∙ sym (eq-eqb r.0 x z))
      (λ ne. dite (ℕ_discrete (place about r.0).home (place about x).home)
      (λ home. ap2 (λ a b. a && b) (eq-eqb _ _ home) (ne_eqb _ _ (λ quotient. ne (one_key r.0 in_g.0 in_g.1 home quotient))) ∙ sym (ne_eqb r.0 x ne))
      (λ other. ap (λ a. a && ((place about r.0).quotient == (place about x).quotient)) (ne_eqb _ _ other) ∙ sym (ne_eqb r.0 x ne))) in
      λ i. both (same i) ∷ tail i
    where
      ap2 : (f : Bool → Bool → Bool) {a b c d : Bool} → a ≡ b → c ≡ d → f a c ≡ f b d
      ap2 f p q = λ i. f (p i) (q i)

pub root_in : (x : ℕ) (m : List (ℕ × ℕ)) → Has x (map (λ (r : ℕ × ℕ). r.0) m) → (f : ℕ) × Has (x, f) m
root_in x [] h = absurd h
root_in x (s ∷ m) h = ⊎_elim (λ (e : x ≡ s.0). (s.1, inl (λ i. (e i, s.1)))) (λ (t : Has x (map (λ (r : ℕ × ℕ). r.0) m)). let o = root_in x m t in (o.0, inr o.1)) h

-- different keys are of different roots
pub different : (about : About) (m : List (ℕ × ℕ)) → IsMap (keys_of about m) → NoRepeats (map (λ (r : ℕ × ℕ). r.0) m)
different about [] is = tt
different about (r ∷ m) is = (λ h. let o = root_in r.0 m h in is.0 (key_of about r.0 o.0) (key_there about r.0 o.0 m o.1) refl refl, different about m is.1)

-- what an insertion leaves of a region's map
module _ (about : About) (is : IsCompact about) (x : ℕ) (packed : IsPacked about x) (base : List (ℕ × ℕ)) (inside : InRegion about (region_of about x) base) (new : List ℕ) where
  pub added_of : (result : Result Bool RegionFull) → Answered result (cells_of about) (keys_of about base) (place about x).home (place about x).quotient new → Added about x result base new
  unfolding KeepsRoots most
  added_of (Ok true) a = ((x, 0) ∷ base, a.1, ((λ f h. a.0 (is_present about is (region_of about x) x refl packed base f h)), refl))
  added_of (Ok false) a = (base, a.1, (present about is (region_of about x) x refl packed base inside a.0, refl))
  added_of (Err e) a = (a.2, (λ f h. a.0 (is_present about is (region_of about x) x refl packed base f h)), sym (keys_long about base) ∙ a.1)

-- where a root's key goes, in a region's own sizes
module _ (about : About) (is : IsCompact about) (x : ℕ) (packed : IsPacked about x) (z : CellSizes) (same : z ≡ cells_of about) (at : Place) (at_is : at ≡ place about x) where
  pub home_inside : at.home < z.cells
  home_inside = subst (λ (p : CellSizes × Place). p.1.home < p.0.cells) (λ i. (sym same i, sym at_is i)) (place_in_range about x is packed).home

  pub quotient_inside : at.quotient < 2 ^ z.quotient
  quotient_inside = subst (λ (p : CellSizes × Place). p.1.quotient < 2 ^ p.0.quotient) (λ i. (sym same i, sym at_is i)) (place_in_range about x is packed).quotient

  pub added_at : (base : List (ℕ × ℕ)) → InRegion about at.region base → (result : Result Bool RegionFull) (old new : List ℕ) → KeepsRoots about old base
      → ((keys : List Key) → KeepsMap z old keys → Answered result z keys at.home at.quotient new) → Added about x result base new
  unfolding KeepsRoots
  added_at base inside result old new keeps answer =
      let here : Answered result (cells_of about) (keys_of about base) (place about x).home (place about x).quotient new =
      subst (λ (p : CellSizes × Place). KeepsMap p.0 old (keys_of about base) → Answered result p.0 (keys_of about base) p.1.home p.1.quotient new) (λ i. (same i, at_is i)) (answer (keys_of about base)) keeps in
      added_of about is x packed base (subst (λ (p : Place). InRegion about p.region base) at_is inside) new result here

-- words that keep roots keep a map
pub kept_keys : (about : About) (z : CellSizes) → z ≡ cells_of about → (words : List ℕ) (base : List (ℕ × ℕ)) → KeepsRoots about words base → (keys : List Key) × KeepsMap z words keys
unfolding KeepsRoots
kept_keys about z same words base k = (keys_of about base, subst (λ (y : CellSizes). KeepsMap y words (keys_of about base)) (sym same) k)

pub words_of : (about : About) (z : CellSizes) → z ≡ cells_of about → word_count z ≡ words_each about
unfolding region_words
words_of about z same = ap word_count same

-- what was reached decides of the root
module _ (about : About) (is : IsCompact about) (x : ℕ) (packed : IsPacked about x) (z : CellSizes) (same : z ≡ cells_of about) (at : Place) (at_is : at ≡ place about x) where
  tells_root : (answer : Bool) (m : List (ℕ × ℕ)) → InRegion about (region_of about x) m → Tells answer (keys_of about m) (place about x).home (place about x).quotient
      → MatchBool answer ((f : ℕ) × Has (x, f) m) ((f : ℕ) → Has (x, f) m → ⊥)
  tells_root true m inside t = present about is (region_of about x) x refl packed m inside t
  tells_root false m inside t = λ f h. t (is_present about is (region_of about x) x refl packed m f h)

  -- words that keep roots, and what is told of their keys
  pub root_told : (answer : Bool) (words : List ℕ) (m : List (ℕ × ℕ)) → KeepsRoots about words m → InRegion about (region_of about x) m → ((keys : List Key) → KeepsMap z words keys → Tells answer keys at.home at.quotient)
      → MatchBool answer ((f : ℕ) × Has (x, f) m) ((f : ℕ) → Has (x, f) m → ⊥)
  unfolding KeepsRoots
  root_told answer words m keeps inside tells = tells_root answer m inside
      (subst (λ (p : CellSizes × Place). KeepsMap p.0 words (keys_of about m) → Tells answer (keys_of about m) p.1.home p.1.quotient) (λ i. (same i, at_is i)) (tells (keys_of about m)) keeps)

  pub finds_root : (p : PassOf Regions) (answer : Bool) → Decides z (HasLoaded p) at.home at.quotient answer → FindsRoot about x p answer
  finds_root p answer d = record { decides = λ words m long agrees keeps inside. root_told answer words m keeps inside (λ keys kept. d words keys (long ∙ sym (words_of about z same)) agrees kept) }
