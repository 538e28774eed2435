-- A worker draws blocks, and takes their lines.
use Rattle.std.proofs.Common.{◌≡◌, ◌<◌, ◌≤◌, ◌+◌, ◌*◌, ◌-◌, ◌/◌, ℕ, suc, true, false, inl, List, [], ◌∷◌, ◌++◌, length, min, Some, None, refl, sym, ap, ◌∙◌, subst, arith, append-nil, append_assoc}
use Rattle.std.specs.Prelude.{All}
use Rattle.std.specs.List.{range_with_len}
use Rattle.std.proofs.lemmas.Nat.{div-add-mod', mod_below, mul-le, row_fits}
use Rattle.std.proofs.lemmas.List.Concat.{flat_map-append}
use Rattle.std.proofs.lemmas.List.Elements.{All-nil, All-push}
use Rattle.pair_rule.proofs.Lists.{has_back}
use Rattle.block_claims.specs.Drawers.{Pool, Drawing, BelongsTo, IsNew, drawn, has_ended}
use Rattle.block_claims.specs.declared.share.Share.{Share}
use Rattle.block_claims.specs.Numbers.{IsRising}
use Rattle.block_claims.specs.Shares.{with_block}
use Rattle.block_claims.proofs.Drawn.{draws_one_more, draws_at_most}
use Rattle.block_claims.proofs.Rising.{rising_push}
use Rattle.work_run.specs.BlockLines.{LinesDrawn, AreBlocksOf, IsDrawingLines, IsFreshLines, GaveLines, HasDrawnAll, block_count, blocks_of, lines_drawn, open_lines, lines_of_block, lines_of_blocks, drawn_blocks}
use Rattle.work_run.specs.Drew.{IsDrawnTrace}
use Rattle.work_run.specs.Giving.{Asked}
use Rattle.work_run.proofs.BlockLines.{all_has}

-- no number
empty_range : (from n : ℕ) → n ≡ 0 → range_with_len from n ≡ []
empty_range from n none = ap (range_with_len from) none

-- the first of some
first_of_range : (from n : ℕ) → 0 < n → range_with_len from n ≡ from ∷ range_with_len (from + 1) (n - 1)
first_of_range from n some =
    let e : n ≡ suc (n - 1) = omega (arith, some) in
    ap (range_with_len from) e

-- ---- how many blocks there are
pub blocks_cover : (lines block : ℕ) → IsDrawnTrace lines block → AreBlocksOf (block_count lines block) lines block
blocks_cover lines block t =
    let some = t.some_line in
    let whole = div-add-mod' (lines - 1) block in
    let part = mod_below (lines - 1) block t.some_block in
    record {
      few_lines = t.few_lines;
      some_block = t.some_block;
      small_block = t.small_block;
      no_more = λ b lt. (let least = mul-le b block ((lines - 1) / block) block (omega (arith, lt)) (omega arith) in omega (arith, least, whole, some));
      no_fewer = omega (arith, whole, part, some);
    }

pub few_blocks : (lines block : ℕ) → IsDrawnTrace lines block → block_count lines block ≤ 4294967296
few_blocks lines block t =
    let some = t.some_line in
    let few = t.few_lines in
    let whole = div-add-mod' (lines - 1) block in
    let least = mul-le ((lines - 1) / block) 1 ((lines - 1) / block) block (omega arith) t.some_block in
    omega (arith, least, whole, few, some)

-- ---- new ones
pub drawing_fresh : (pool : Pool) (drawer : Drawing) (lines block : ℕ) → AreBlocksOf pool.totals.blocks lines block → IsNew pool drawer
    → IsDrawingLines (record { pool = pool; drawer = drawer; lines = lines; block = block; next = 0; block_end = 0 })
drawing_fresh pool drawer lines block blocks new = record {
  blocks = blocks;
  belongs = new.belongs;
  rising = subst (λ (s : Share). IsRising s.drawn) (sym new.share_is) tt;
  below = subst (λ (s : Share). All (λ b. b < pool.totals.blocks) s.drawn) (sym new.share_is) (All-nil (λ (b : ℕ). b < pool.totals.blocks));
  begun = omega arith;
  within = omega arith;
  behind = λ b h. omega arith;
}

pub fresh_lines : (pool : Pool) (drawer : Drawing) (lines block : ℕ) → IsNew pool drawer
    → IsFreshLines pool lines block (record { pool = pool; drawer = drawer; lines = lines; block = block; next = 0; block_end = 0 })
fresh_lines pool drawer lines block new = record {
  pool_is = refl;
  lines_are = refl;
  block_is = refl;
  none_drawn = ap (λ (s : Share). s.drawn) new.share_is;
  none_open = refl;
}

module _ (s : LinesDrawn) (h : IsDrawingLines s) where
  -- ---- a line of the open block
  abbrev one_further : LinesDrawn
  one_further = record s { next = s.next + 1 }

  pub drawing_further : s.next < s.block_end → IsDrawingLines (record s { next = s.next + 1 })
  drawing_further some = record {
    blocks = h.blocks;
    belongs = h.belongs;
    rising = h.rising;
    below = h.below;
    begun = omega (arith, some);
    within = h.within;
    behind = h.behind;
  }

  pub asked_further : s.next < s.block_end → Asked drawn_blocks (Some s.next) s (record s { next = s.next + 1 })
  asked_further some =
      let more : open_lines s ≡ s.next ∷ open_lines one_further =
      first_of_range s.next (s.block_end - s.next) (omega (arith, some))
      ∙ (let e : s.block_end - s.next - 1 ≡ s.block_end - (s.next + 1) = omega arith in ap (λ (n : ℕ). s.next ∷ range_with_len (s.next + 1) n) e) in
      record {
        given = record {
          pool_is = refl;
          lines_are = refl;
          block_is = refl;
          adds = λ before e. append_assoc before (s.next ∷ []) (open_lines one_further) ∙ (ap (λ (xs : List ℕ). before ++ xs) (sym more) ∙ e);
        };
        over = λ e. cc e;
        fewer = (let within = h.within in omega (arith, some, within));
        inside = λ lines few. (few, (let within = h.within in omega (arith, some, within, few)));
      }

  -- ---- the block is through
  none_open_now : s.block_end ≤ s.next → open_lines s ≡ []
  none_open_now through = empty_range s.next (s.block_end - s.next) (omega (arith, through))

  -- it had ended
  pub asked_over : s.block_end ≤ s.next → has_ended s.drawer ≡ true → Asked drawn_blocks None s s
  asked_over through ended = record {
    given = gave_none s;
    over = λ e. record { drawing = h; ended = ended; none_open = none_open_now through };
    fewer = tt;
    inside = λ lines few. (few, tt);
  }
    where
      gave_none : (t : LinesDrawn) → GaveLines t [] t
      gave_none t = record { pool_is = refl; lines_are = refl; block_is = refl; adds = λ before e. ap (λ (xs : List ℕ). xs ++ open_lines t) (append-nil before) ∙ e }

  -- it was told that no block is left
  module _ (d : Drawing) (belongs : BelongsTo s.pool d) (same : drawn d ≡ blocks_of s) where
    pub drawing_ended : IsDrawingLines (record s { drawer = d })
    drawing_ended = record {
      blocks = h.blocks;
      belongs = belongs;
      rising = subst (λ (xs : List ℕ). IsRising xs) (sym same) h.rising;
      below = subst (λ (xs : List ℕ). All (λ b. b < s.pool.totals.blocks) xs) (sym same) h.below;
      begun = h.begun;
      within = h.within;
      behind = λ b all. h.behind b (subst (λ (xs : List ℕ). All (λ a. a < b) xs) same all);
    }

    pub asked_ended : s.block_end ≤ s.next → has_ended d ≡ true → Asked drawn_blocks None s (record s { drawer = d })
    asked_ended through ended = record {
      given = record {
        pool_is = refl;
        lines_are = refl;
        block_is = refl;
        adds = λ before e. ap (λ (xs : List ℕ). xs ++ open_lines s) (append-nil before)
            ∙ (e ∙ ap (lines_of_blocks s.lines s.block) (sym same));
      };
      over = λ e. record { drawing = drawing_ended; ended = ended; none_open = none_open_now through };
      fewer = tt;
      inside = λ lines few. (few, tt);
    }

  -- ---- it drew a block
  module _ (b : ℕ) (d : Drawing) (belongs : BelongsTo s.pool d) (less : b < s.pool.totals.blocks) (greater : All (λ a. a < b) (blocks_of s)) (gained : d.share ≡ with_block b s.drawer.share) where
    with_blocks : drawn d ≡ blocks_of s ++ b ∷ []
    with_blocks = ap (λ (x : Share). x.drawn) gained

    abbrev first : ℕ
    first = b * s.block

    abbrev after : LinesDrawn
    after = record { pool = s.pool; drawer = d; lines = s.lines; block = s.block; next = first + 1; block_end = min (first + s.block) s.lines }

    pub first_within : first < s.lines
    first_within = h.blocks.no_more b less

    -- one more than it had, and so at most all
    pub room_for_one : has_ended s.drawer ≡ false → length (blocks_of s) < s.pool.totals.blocks
    room_for_one going =
        let one = draws_one_more s.pool (length (blocks_of s)) b s.drawer d
        (record { belongs = h.belongs; not_ended = going; so_many = refl; rising = h.rising; blocks = h.below }) belongs less greater gained in
        omega (arith, draws_at_most s.pool (length (blocks_of s) + 1) d one)

    pub drawing_more : IsDrawingLines after
    drawing_more =
        let some = h.blocks.some_block in
        let lt = first_within in
        record {
          blocks = h.blocks;
          belongs = belongs;
          rising = subst (λ (xs : List ℕ). IsRising xs) (sym with_blocks) (rising_push b (blocks_of s) h.rising greater);
          below = subst (λ (xs : List ℕ). All (λ x. x < s.pool.totals.blocks) xs) (sym with_blocks) (All-push (λ (x : ℕ). x < s.pool.totals.blocks) (blocks_of s) b h.below less);
          begun = omega (arith, some, lt);
          within = omega arith;
          behind = λ c all.
              (let below = all_has (λ (a : ℕ). a < c) (blocks_of s ++ b ∷ []) b (subst (λ (xs : List ℕ). All (λ a. a < c) xs) with_blocks all) (has_back b (blocks_of s) (b ∷ []) (inl refl)) in
              omega (arith, row_fits b s.block c s.block below (omega arith)));
        }

    pub asked_more : s.block_end ≤ s.next → Asked drawn_blocks (Some first) s after
    asked_more through =
        let some = h.blocks.some_block in
        let lt = first_within in
        let count : min (first + s.block) s.lines - (first + 1) ≡ min s.block (s.lines - first) - 1 = omega (arith, some, lt) in
        let whole : first ∷ open_lines after ≡ lines_of_block s.lines s.block b =
        ap (λ (n : ℕ). first ∷ range_with_len (first + 1) n) count ∙ sym (first_of_range first (min s.block (s.lines - first)) (omega (arith, some, lt))) in
        let all : lines_drawn after ≡ lines_drawn s ++ lines_of_block s.lines s.block b =
        ap (lines_of_blocks s.lines s.block) with_blocks
        ∙ (flat_map-append (lines_of_block s.lines s.block) (blocks_of s) (b ∷ []) ∙ ap (λ (xs : List ℕ). lines_drawn s ++ xs) (append-nil (lines_of_block s.lines s.block b))) in
        record {
          given = record {
            pool_is = refl;
            lines_are = refl;
            block_is = refl;
            adds = λ before e.
                (let gone : before ≡ lines_drawn s = sym (append-nil before) ∙ (ap (λ (xs : List ℕ). before ++ xs) (sym (none_open_now through)) ∙ e) in
                append_assoc before (first ∷ []) (open_lines after)
                ∙ (ap (λ (xs : List ℕ). before ++ xs) whole ∙ (ap (λ (xs : List ℕ). xs ++ lines_of_block s.lines s.block b) gone ∙ sym all)));
          };
          over = λ e. cc e;
          fewer = (let behind = h.behind b greater in let begun = h.begun in omega (arith, behind, begun, lt));
          inside = λ lines few. (few, omega (arith, lt, few));
        }

-- what a new one gave that has drawn all that it could
pub gave_all : (pool : Pool) (lines block : ℕ) (old new : LinesDrawn) (given : List ℕ) → IsFreshLines pool lines block old → GaveLines old given new → HasDrawnAll new
    → given ≡ lines_of_blocks lines block (blocks_of new)
gave_all pool lines block old new given fresh gave over =
    let start : [] ++ open_lines old ≡ lines_drawn old = fresh.none_open ∙ ap (lines_of_blocks old.lines old.block) (sym fresh.none_drawn) in
    let whole = gave.adds [] start in
    sym (append-nil given) ∙ (ap (λ (xs : List ℕ). given ++ xs) (sym over.none_open) ∙ (whole
    ∙ (λ i. lines_of_blocks ((gave.lines_are ∙ fresh.lines_are) i) ((gave.block_is ∙ fresh.block_is) i) (blocks_of new))))
