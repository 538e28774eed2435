-- A compact store's table: where its words lie, and that they are its own.
use Rattle.std.proofs.Common.{◌≡◌, ℕ, ◌+◌, ◌*◌, ◌^◌, ◌<◌, ◌≤◌, sym, ap, ◌∙◌, subst, arith}
use Rattle.std.proofs.Math.Pow.{pow_mono}
use Rattle.pair_rule.specs.declared.sizes.Sizes.{Sizes}
use Rattle.pair_rule.specs.declared.sizes.About.{About}
use Rattle.cleary_core.specs.declared.cells.Sizes.{Sizes as CellSizes}
use Rattle.cleary_core.specs.Cells.{sizes_of}
use Rattle.pair_rule.specs.Laws.{IsAbout}
use Rattle.pair_rule.specs.Part.{Store, IsTable}
use Rattle.pair_rule.specs.Paths.{size}
use Rattle.pair_rule.specs.Plays.{first_root}
use Rattle.region_root.specs.Layout.{IsSized, compact_word_count, cells_of, regions, words_each, start, region_words}
use Rattle.region_root.specs.Compact.{IsCompact, compact}
use Rattle.region_root.proofs.Parts.{start_below}

pub first_is : (about : About) (sizes : Sizes) (n : ℕ) → sizes ≡ about.sizes → n ≡ 1 + 2 ^ sizes.nodes → n ≡ first_root about
unfolding size
first_is about sizes n same is = let e : n ≡ 1 + 2 ^ about.sizes.nodes = is ∙ ap (λ (z : Sizes). 1 + 2 ^ z.nodes) same in omega (arith, e)

module _ (width flags : ℕ) (store : Store) (is : IsTable width flags (compact width flags) store) where
  -- what the table is about by its own width
  pub is_compact : IsCompact store.about
  is_compact = subst (λ (p : ℕ × ℕ). IsAbout (IsSized p.0 p.1) (compact_word_count p.0 p.1) store.about) (λ i. (sym is.width_is i, sym is.flags_are i)) is.is_about

  pub words_are : store.table.words ≡ first_root store.about + (regions store.about + regions store.about * words_each store.about)
  words_are = is.words_are ∙ ap (λ (n : ℕ). first_root store.about + n) is_compact.root_words_are

  pub lock_inside : (g : ℕ) → g < regions store.about → first_root store.about + g < store.table.words
  lock_inside g lt = let w = words_are in omega (arith, w, lt)

  pub words_inside : (g : ℕ) → g < regions store.about → first_root store.about + start store.about g + words_each store.about ≤ store.table.words
  words_inside g lt = let w = words_are in let a = start_below store.about g lt in omega (arith, w, a)

  pub each_is : (n : ℕ) → n ≡ region_words width flags store.about.sizes → n ≡ words_each store.about
  each_is n e = e ∙ ap (λ (p : ℕ × ℕ). region_words p.0 p.1 store.about.sizes) (λ i. (sym is.width_is i, sym is.flags_are i))

  pub place_inside : (g from i : ℕ) → g < regions store.about → from ≡ first_root store.about + start store.about g → i < words_each store.about → from + i < store.table.words
  place_inside g from i lt begins near = let w = words_inside g lt in omega (arith, w, begins, near)

  pub words_small : store.table.words < 2 ^ 33
  unfolding size
  words_small =
      let most : 2 ^ store.about.sizes.nodes ≤ 2 ^ 25 = pow_mono is.is_about.range.most_nodes in
      let all = is.words_are in
      let roots = is.is_about.root_words_small in
      omega (arith, most, all, roots)

  -- the region's sizes as the code has them
  pub cells_are : (sizes : Sizes) (z : CellSizes) → sizes ≡ store.about.sizes → z ≡ sizes_of width flags sizes.roots sizes.region → z ≡ cells_of store.about
  cells_are sizes z same made = made ∙ (λ i. sizes_of (sym is.width_is i) (sym is.flags_are i) (same i).roots (same i).region)
