-- What a holder can reach, and what becomes of the roots that its region's words keep.
use Rattle.std.proofs.Common.{◌≡◌, ℕ, ◌+◌, ◌^◌, ◌<◌, List, refl, sym, ap, ◌∙◌, subst}
use Rattle.mix_hash.specs.declared.Place.{Place}
use Rattle.tree_shape.specs.Tree.{Has}
use Rattle.cleary_core.specs.declared.cells.Sizes.{Sizes as CellSizes}
use Rattle.cleary_core.specs.Answers.{TellsFlags, flagged as keys_flagged}
use Rattle.cleary_core.specs.Cells.{word_count}
use Rattle.cleary_core.specs.Map.{Key, KeepsMap}
use Rattle.cleary_core.proofs.Packing.{cell_small}
use Rattle.pair_rule.specs.declared.sizes.About.{About}
use Rattle.pair_rule.specs.declared.pass.PassOf.{PassOf}
use Rattle.pair_rule.specs.Part.{Store}
use Rattle.pair_rule.specs.Plays.{first_root}
use Rattle.region_root.specs.declared.root.Regions.{Regions}
use Rattle.region_root.specs.declared.root.Holding.{Holding}
use Rattle.region_root.specs.Layout.{cells_of, start, place, region_of, IsPacked, keys_of, key_of, KeepsRoots}
use Rattle.region_root.specs.Maps.{InRegion, with_flag_set}
use Rattle.region_root.specs.Compact.{IsCompact}
use Rattle.region_root.specs.Work.{AtWork, CanWrite}
use Rattle.region_root.proofs.Keys.{words_of, key_there, keys_flagged_are}

pub can_write : (width flags : ℕ) (store : Store) (p : PassOf Regions) (h : Holding) (z : CellSizes) (g from : ℕ) → z ≡ cells_of store.about → AtWork width flags store h p → h.region ≡ g
    → from ≡ first_root store.about + start store.about g → CanWrite width flags store from p (word_count z)
can_write width flags store p h z g from same work here begins = record {
  all = words_of store.about z same;
  hold = h;
  work = work;
  begins = begins ∙ ap (λ (k : ℕ). first_root store.about + start store.about k) (sym here);
}

module _ (about : About) (is : IsCompact about) (x : ℕ) (packed : IsPacked about x) (z : CellSizes) (same : z ≡ cells_of about) (at : Place) (at_is : at ≡ place about x) (words : List ℕ) (m : List (ℕ × ℕ)) (keeps : KeepsRoots about words m) where
  -- the flags of a root that is there
  pub flags_told : (flags : ℕ) → ((keys : List Key) → KeepsMap z words keys → TellsFlags flags keys at.home at.quotient) → (f : ℕ) → Has (x, f) m → (flags ≡ f) × (f < 2 ^ about.flags)
  unfolding KeepsRoots
  flags_told flags tells f h =
      let t = subst (λ (p : CellSizes × Place). KeepsMap p.0 words (keys_of about m) → TellsFlags flags (keys_of about m) p.1.home p.1.quotient) (λ i. (same i, at_is i)) (tells (keys_of about m)) keeps in
      let k = key_there about x f m h in
      let a = keeps.holds.all (key_of about x f) k in
      (t (key_of about x f) k refl refl, subst (λ (n : ℕ). n < 2 ^ about.flags) (keeps.drawn.flags a.0 (key_of about x f) a.1) (cell_small (cells_of about) words a.0).flags)

  -- the map with its flags set
  pub flagged_kept : (value : ℕ) (new : List ℕ) → InRegion about (region_of about x) m → ((keys : List Key) → KeepsMap z words keys → KeepsMap z new (keys_flagged at.home at.quotient value keys)) → KeepsRoots about new (with_flag_set x value m)
  unfolding KeepsRoots
  flagged_kept value new inside set =
      let s = subst (λ (p : CellSizes × Place). KeepsMap p.0 words (keys_of about m) → KeepsMap p.0 new (keys_flagged p.1.home p.1.quotient value (keys_of about m))) (λ i. (same i, at_is i)) (set (keys_of about m)) keeps in
      subst (λ (k : List Key). KeepsMap (cells_of about) new k) (keys_flagged_are about is (region_of about x) x refl packed m value inside) s
