-- What all workers drew, when each of them was told that no block is left.
use Rattle.std.proofs.Common.{◌≡◌, ◌<◌, ◌≤◌, ◌/◌, ℕ, List, [], ◌∷◌, length, get_or, map, true, refl, sym, ap, ◌∙◌, subst, arith}
use Rattle.std.specs.Prelude.{All, slice_index}
use Rattle.std.specs.List.{list_any}
use Rattle.std.proofs.lemmas.List.{get_or-map, length-map}
use Rattle.std.proofs.lemmas.List.Elements.{All-head, All-map}
use Rattle.block_claims.specs.Drawers.{Pool, Drawing, BelongsTo, drawn, has_ended}
use Rattle.block_claims.specs.Numbers.{EachOnceBelow, IsRising}
use Rattle.work_run.specs.declared.worker.Worker.{Worker}
use Rattle.work_run.specs.BlockLines.{LinesDrawn, block_count, blocks_of, lines_of_blocks}
use Rattle.work_run.specs.Drew.{AnswerTheirLines, AreDrawnBy, AreMarked, HasDrawnFrom, IsDrawnTrace, OwnTheirLines}
use Rattle.tdb_base.specs.Lines.{owned}
use Rattle.work_run.proofs.DrawingLines.{blocks_cover}
use Rattle.pair_rule.proofs.Elements.{placed}
use Rattle.work_run.proofs.WhoDrew.{alike_at, drawn_by, own_lines}

-- one of some has ended, where all have
any_ended : (ds : List Drawing) → 1 ≤ length ds → All (λ d. has_ended d ≡ true) ds → list_any has_ended ds ≡ true
any_ended [] some all = absurd (omega arith)
any_ended (d ∷ ds) some all = rw (All-head (λ (x : Drawing). has_ended x ≡ true) d ds all) refl

map_of_map : {X Y Z : Type 0} (f : X → Y) (g : Y → Z) (xs : List X) → map g (map f xs) ≡ map (λ x. g (f x)) xs
map_of_map f g [] = refl
map_of_map f g (x ∷ xs) = ap (λ (t : List _). g (f x) ∷ t) (map_of_map f g xs)

module _ {T A : Type 0} (pool : Pool) (lines block : ℕ) (trace : IsDrawnTrace lines block) (count : pool.totals.blocks ≡ block_count lines block) (all : List (Worker T LinesDrawn A)) (from : All (λ w. HasDrawnFrom pool lines block w.lines) all) where
  abbrev drawers : List Drawing
  drawers = map (λ (w : Worker T LinesDrawn A). w.lines.drawer) all

  abbrev lists : List (List ℕ)
  lists = map (λ (w : Worker T LinesDrawn A). blocks_of w.lines) all

  pub drawers_belong : (ds : List Drawing) → ds ≡ drawers → All (BelongsTo pool) ds
  drawers_belong ds is = subst (λ (xs : List Drawing). All (BelongsTo pool) xs) (sym is)
      (All-map (BelongsTo pool) (λ (w : Worker T LinesDrawn A). w.lines.drawer) all
      (λ j d lt. (let h = from j d lt in subst (λ (p : Pool). BelongsTo p (get_or all j d).lines.drawer) h.pool_is h.over.drawing.belongs)))

  pub some_ended : (ds : List Drawing) → ds ≡ drawers → 1 ≤ length all → list_any has_ended ds ≡ true
  some_ended ds is some = subst (λ (xs : List Drawing). list_any has_ended xs ≡ true) (sym is)
      (any_ended drawers (omega (arith, some, length-map all (λ (w : Worker T LinesDrawn A). w.lines.drawer)))
      (All-map (λ (d : Drawing). has_ended d ≡ true) (λ (w : Worker T LinesDrawn A). w.lines.drawer) all (λ j d lt. (from j d lt).over.ended)))

  list_at : (j : ℕ) (d : Worker T LinesDrawn A) → j < length all → get_or lists j [] ≡ blocks_of (get_or all j d).lines
  list_at j d lt = get_or-map (λ (w : Worker T LinesDrawn A). blocks_of w.lines) all j d [] lt

  as_many : length lists ≡ length all
  as_many = length-map all (λ (w : Worker T LinesDrawn A). blocks_of w.lines)

  rising : (j : ℕ) → j < length lists → IsRising (get_or lists j [])
  rising j lt =
      let here : j < length all = omega (arith, lt, as_many) in
      let d = (placed all j here).one in
      subst (λ (xs : List ℕ). IsRising xs) (sym (list_at j d here)) (from j d here).over.drawing.rising

  -- the blocks are numbers below the count of blocks
  pub blocks_below : (j : ℕ) → j < length lists → All (λ b. b < block_count lines block) (get_or lists j [])
  blocks_below j lt =
      let here : j < length all = omega (arith, lt, as_many) in
      let d = (placed all j here).one in
      let h = from j d here in
      subst (λ (xs : List ℕ). All (λ b. b < block_count lines block) xs) (sym (list_at j d here))
      (subst (λ (m : ℕ). All (λ b. b < m) (blocks_of (get_or all j d).lines)) (ap (λ (p : Pool). p.totals.blocks) h.pool_is ∙ count) h.over.drawing.below)

  pub rest_below : {W : Type 0} (f : W → List ℕ) (rest : List W) (marks : List ℕ) → map f rest ≡ lists → length marks ≡ block_count lines block → All (λ w. All (λ b. b < length marks) (f w)) rest
  rest_below f rest marks same long = λ k d lt.
      (let e : get_or lists k [] ≡ f (get_or rest k d) = sym (ap (λ (l : List (List ℕ)). get_or l k []) same) ∙ get_or-map f rest k d [] lt in
      let inside : k < length lists = omega (arith, lt, ap (λ (l : List (List ℕ)). length l) same, length-map rest f) in
      subst (λ (m : ℕ). All (λ b. b < m) (f (get_or rest k d))) (sym long)
      (subst (λ (xs : List ℕ). All (λ b. b < block_count lines block) xs) e (blocks_below k inside)))

  module _ (others : List (List ℕ)) (same : others ≡ lists) (ds : List Drawing) (are : ds ≡ drawers) (once : EachOnceBelow pool.totals.blocks (map drawn ds)) (marks told : List ℕ) (n : ℕ) (long : n ≡ length all) (marked : AreMarked n others marks)
      (one_each : length told ≡ lines) (tells : (i : ℕ) → i < lines → get_or told i 0 ≡ get_or marks (i / block) 0) where
    each_once : EachOnceBelow (block_count lines block) lists
    each_once = subst (λ (xs : List (List ℕ)). EachOnceBelow (block_count lines block) xs)
        (ap (map drawn) are ∙ map_of_map (λ (w : Worker T LinesDrawn A). w.lines.drawer) drawn all)
        (subst (λ (m : ℕ). EachOnceBelow m (map drawn ds)) count once)

    all_marked : AreMarked (length lists) lists marks
    all_marked = subst (λ (m : ℕ). AreMarked m lists marks) (long ∙ sym as_many) (subst (λ (xs : List (List ℕ)). AreMarked n xs marks) same marked)

    pub told_by : AreDrawnBy lines (length all) block told
    told_by = subst (λ (m : ℕ). AreDrawnBy lines m block told) as_many
        (drawn_by (block_count lines block) lines block lists (blocks_cover lines block trace) each_once marks told all_marked one_each tells)

    pub told_own : OwnTheirLines lines block lists told
    told_own = own_lines (block_count lines block) lines block lists (blocks_cover lines block trace) each_once marks told all_marked one_each tells rising

-- a fact of what elements look like, of lists that look alike
pub all_alike : {X Y C : Type 0} (P : C → Type 0) (f : X → C) (g : Y → C) (xs : List X) (ys : List Y) → map f xs ≡ map g ys → All (λ y. P (g y)) ys → All (λ x. P (f x)) xs
all_alike {C = C} P f g xs ys same all = λ k d lt.
    (let long : length xs ≡ length ys = sym (length-map xs f) ∙ (ap (λ (l : List C). length l) same ∙ length-map ys g) in
    let here : k < length ys = omega (arith, lt, long) in
    let e = (placed ys k here).one in
    subst P (sym (alike_at f g xs ys same k d e lt)) (all k e here))

-- each has an answer for each of its lines
pub own_answered : {W T A : Type 0} (lines block : ℕ) (all : List (Worker T LinesDrawn A)) (told : List ℕ) (rest : List W) (f : W → List A) → map f rest ≡ map (λ w. w.answers.items) all
    → AnswerTheirLines lines block all → OwnTheirLines lines block (map (λ w. blocks_of w.lines) all) told
    → (j : ℕ) (d : W) → j < length rest → length (f (get_or rest j d)) ≡ length (owned lines (slice_index told) j)
own_answered {T = T} {A = A} lines block all told rest f same answered own j d lt =
    let long : length rest ≡ length all = sym (length-map rest f) ∙ (ap (λ (l : List (List A)). length l) same ∙ length-map all (λ (w : Worker T LinesDrawn A). w.answers.items)) in
    let here : j < length all = omega (arith, lt, long) in
    let e = (placed all j here).one in
    let inside : j < length (map (λ (w : Worker T LinesDrawn A). blocks_of w.lines) all) = omega (arith, here, length-map all (λ (w : Worker T LinesDrawn A). blocks_of w.lines)) in
    let its = get_or-map (λ (w : Worker T LinesDrawn A). blocks_of w.lines) all j e [] here in
    ap (λ (l : List A). length l) (alike_at f (λ (w : Worker T LinesDrawn A). w.answers.items) rest all same j d e lt)
    ∙ (answered j e here ∙ ap (λ (l : List ℕ). length l) (ap (lines_of_blocks lines block) (sym its) ∙ own j inside))
