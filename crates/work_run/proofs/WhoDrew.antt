-- Which worker drew which block, and so which lines.
use Rattle.std.proofs.Common.{◌≡◌, ◌<◌, ◌≤◌, ◌+◌, ◌/◌, ℕ, List, [], ◌∷◌, ◌++◌, length, get_or, map, refl, sym, ap, ◌∙◌, subst, inl, inr, ⊎_elim, arith}
use Rattle.std.specs.Prelude.{slice_set}
use Rattle.std.proofs.lemmas.Bool.{cases_eq}
use Rattle.std.proofs.lemmas.Nat.{div_below}
use Rattle.std.proofs.lemmas.List.{get_or-map, get_or-set_same, get_or-set_other, length-map, length-set, map-append}
use Rattle.std.proofs.lemmas.List.Elements.{All-from_get_or}
use Rattle.tree_shape.specs.Tree.{Has}
use Rattle.pair_rule.proofs.Lists.{has_either, has_front, has_back}
use Rattle.block_claims.specs.Laws.{HasOneDrawer}
use Rattle.block_claims.specs.Numbers.{times, EachOnceBelow, IsRising}
use Rattle.block_claims.proofs.Drawn.{has_one_drawer}
use Rattle.block_claims.proofs.Rising.{same, same_here, same_else, times_cons}
use Rattle.work_run.specs.BlockLines.{AreBlocksOf}
use Rattle.work_run.specs.Drew.{AreDrawnBy, AreMarked, HasMarked, OwnTheirLines}
use Rattle.work_run.proofs.BlockLines.{blocks_owned}
use Rattle.work_run.proofs.Elements.{has_or_not}

-- ---- a list has what stands in it at least once
has_times : (b : ℕ) (xs : List ℕ) → Has b xs → 1 ≤ times b xs
has_times b [] h = absurd h
has_times b (x ∷ xs) h = ⊎_elim
    (λ (e : b ≡ x). (let one : same b x ≡ 1 = subst (λ (y : ℕ). same b y ≡ 1) e (same_here b) in omega (arith, one, times_cons b x xs)))
    (λ (t : Has b xs). (let more = has_times b xs t in omega (arith, more, times_cons b x xs)))
    h

times_has : (b : ℕ) (xs : List ℕ) → 1 ≤ times b xs → Has b xs
times_has b [] h = absurd (omega (arith, h))
times_has b (x ∷ xs) h = ⊎_elim
    (λ (e : b ≡ x). inl e)
    (λ (ne : b ≡ x → ⊥). inr (times_has b xs (let none = same_else b x (λ e. ne (sym e)) in omega (arith, none, h, times_cons b x xs))))
    (cases_eq b x)

-- ---- marks
pub marked_none : (mark : ℕ) (marks : List ℕ) → HasMarked [] mark marks marks
marked_none mark marks = record { long = refl; own = λ b h. absurd h; others = λ b h. refl }

-- one block more
pub marked_more : (blocks : List ℕ) (mark block : ℕ) (old now : List ℕ) → HasMarked blocks mark old now → block < length old
    → HasMarked (blocks ++ block ∷ []) mark old (slice_set now block mark)
marked_more blocks mark block old now h inside =
    let within : block < length now = omega (arith, h.long, inside) in
    record {
      long = length-set now block mark ∙ h.long;
      own = λ b there. ⊎_elim
          (λ (e : b ≡ block). ap (λ (k : ℕ). get_or (slice_set now block mark) k 0) e ∙ get_or-set_same now block mark 0 within)
          (λ (ne : b ≡ block → ⊥). get_or-set_other now block b mark 0 ne ∙ h.own b (⊎_elim
          (λ (a : Has b blocks). a)
          (λ (c : Has b (block ∷ [])). ⊎_elim (λ (e : b ≡ block). absurd (ne e)) (λ (no : ⊥). absurd no) c)
          (has_either b blocks (block ∷ []) there)))
          (cases_eq b block);
      others = λ b none.
          get_or-set_other now block b mark 0 (λ e. none (has_back b blocks (block ∷ []) (inl e)))
          ∙ h.others b (λ a. none (has_front b blocks (block ∷ []) a));
    }

-- no list has marked
pub are_marked_none : (lists : List (List ℕ)) (marks : List ℕ) → AreMarked 0 lists marks
are_marked_none lists marks = λ b k lt h. absurd (omega (arith, lt))

-- the next list marks its blocks
pub are_marked_more : (lists : List (List ℕ)) (n : ℕ) (old new : List ℕ) → AreMarked n lists old → HasMarked (get_or lists n []) n old new
    → AreMarked (n + 1) lists new
are_marked_more lists n old new so_far h = λ b k lt has. ⊎_elim
    (λ (own : Has b (get_or lists n [])).
    let is : get_or new b 0 ≡ n = h.own b own in
    let found : (get_or new b 0 < n + 1) × Has b (get_or lists (get_or new b 0) []) = (omega (arith, is), subst (λ (m : ℕ). Has b (get_or lists m [])) (sym is) own) in
    found)
    (λ (other : Has b (get_or lists n []) → ⊥).
    let is : get_or new b 0 ≡ get_or old b 0 = h.others b other in
    let earlier : k < n = ⊎_elim
    (λ (e : k ≡ n). absurd (other (subst (λ (m : ℕ). Has b (get_or lists m [])) e has)))
    (λ (ne : k ≡ n → ⊥). omega (arith, ne, lt))
    (cases_eq k n) in
    let m = so_far b k earlier has in
    let found : (get_or new b 0 < n + 1) × Has b (get_or lists (get_or new b 0) []) =
    (omega (arith, is, m.0), subst (λ (j : ℕ). Has b (get_or lists j [])) (sym is) m.1) in
    found)
    (has_or_not b (get_or lists n []))

-- lists that look alike, with one more in each
pub alike_more : {X Y C : Type 0} (f : X → C) (g : Y → C) (xs new : List X) (ys : List Y) (x : X) (y : Y) → new ≡ xs ++ x ∷ [] → map f xs ≡ map g ys → f x ≡ g y → map f new ≡ map g (ys ++ y ∷ [])
alike_more {C = C} f g xs new ys x y more same one =
    ap (map f) more ∙ (map-append f xs (x ∷ []) ∙ ((λ i. same i ++ one i ∷ []) ∙ sym (map-append g ys (y ∷ []))))

pub images_more : {Y C : Type 0} (g : Y → C) (xs new : List C) (ys : List Y) (x : C) (y : Y) → new ≡ xs ++ x ∷ [] → xs ≡ map g ys → x ≡ g y → new ≡ map g (ys ++ y ∷ [])
images_more g xs new ys x y more same one = more ∙ ((λ i. same i ++ one i ∷ []) ∙ sym (map-append g ys (y ∷ [])))

-- lists that look alike, at one place
pub alike_at : {X Y C : Type 0} (f : X → C) (g : Y → C) (xs : List X) (ys : List Y) → map f xs ≡ map g ys → (j : ℕ) (d : X) (e : Y) → j < length xs → f (get_or xs j d) ≡ g (get_or ys j e)
alike_at {C = C} f g xs ys same j d e lt =
    let long : length xs ≡ length ys = sym (length-map xs f) ∙ (ap (λ (l : List C). length l) same ∙ length-map ys g) in
    sym (get_or-map f xs j d (f d) lt) ∙ (ap (λ (l : List C). get_or l j (f d)) same ∙ get_or-map g ys j e (f d) (omega (arith, long, lt)))

-- ---- each block is one worker's, and so is each line
module _ (blocks lines block : ℕ) (lists : List (List ℕ)) (are : AreBlocksOf blocks lines block) (once : EachOnceBelow blocks lists) (marks drawn : List ℕ) (marked : AreMarked (length lists) lists marks)
    (one_each : length drawn ≡ lines) (told : (i : ℕ) → i < lines → get_or drawn i 0 ≡ get_or marks (i / block) 0) where
  block_below : (i : ℕ) → i < lines → i / block < blocks
  block_below i lt = (let all = are.no_fewer in let some = are.some_block in div_below i block blocks some (omega (arith, lt, all)))

  -- the one drawer of a line's block
  one : (i : ℕ) → i < lines → HasOneDrawer (i / block) lists
  one i lt = has_one_drawer blocks lists once (i / block) (block_below i lt)

  -- whoever has the block is that one
  is_one : (i j : ℕ) (lt : i < lines) → Has (i / block) (get_or lists j []) → j ≡ (one i lt).place
  is_one i j lt has = ⊎_elim
      (λ (e : j ≡ (one i lt).place). e)
      (λ (ne : j ≡ (one i lt).place → ⊥). absurd (let none = (one i lt).only.nowhere_else j ne in let some = has_times (i / block) (get_or lists j []) has in omega (arith, none, some)))
      (cases_eq j (one i lt).place)

  -- the one that is told has it
  told_has : (i : ℕ) → i < lines → (get_or drawn i 0 < length lists) × Has (i / block) (get_or lists (get_or drawn i 0) [])
  told_has i lt =
      let o = one i lt in
      let here = times_has (i / block) (get_or lists o.place []) (let t = o.only.here in omega (arith, t)) in
      subst (λ (m : ℕ). (m < length lists) × Has (i / block) (get_or lists m [])) (sym (told i lt)) (marked (i / block) o.place o.only.inside here)

  pub drawn_by : AreDrawnBy lines (length lists) block drawn
  drawn_by = record {
    one_each = one_each;
    among = All-from_get_or (λ (j : ℕ). j < length lists) drawn 0 (λ i lt. (told_has i (omega (arith, lt, one_each))).0);
    whole_blocks = λ i k a b same. told i a ∙ (ap (λ (c : ℕ). get_or marks c 0) same ∙ sym (told k b));
  }

  pub own_lines : ((j : ℕ) → j < length lists → IsRising (get_or lists j [])) → OwnTheirLines lines block lists drawn
  own_lines rising = λ j among. blocks_owned lines block (let some = are.some_block in omega (arith, some)) (get_or lists j []) (λ i. get_or drawn i 0) j (rising j among)
      (λ i lt has. is_one i (get_or drawn i 0) lt (told_has i lt).1 ∙ sym (is_one i j lt has))
      (λ i lt is. subst (λ (m : ℕ). Has (i / block) (get_or lists m [])) is (told_has i lt).1)
