-- Passes are split from one in turn and joined into one, one after the other.
use Rattle.std.proofs.Common.{◌≡◌, ◌⊎◌, ℕ, zero, suc, ◌<◌, List, [], ◌∷◌, ◌++◌, length, get_or, map, Bool, true, false, refl, sym, ap, ◌∙◌, subst, inl, inr, ⊎_elim, arith, append_assoc, append-nil, length-append}
use Rattle.std.specs.Prelude.{All, Some, nat_lt, if◌then◌else◌}
use Rattle.std.proofs.lemmas.List.Elements.{All-pop}
use Rattle.tree_shape.specs.Tree.{Has, IsPart}
use Rattle.tdb_base.specs.History.{History}
use Rattle.pair_rule.specs.declared.view.View.{View}
use Rattle.pair_rule.specs.declared.pass.PassOf.{PassOf}
use Rattle.pair_rule.specs.declared.callers.Caller.{Caller}
use Rattle.pair_rule.specs.Numbers.{child}
use Rattle.pair_rule.specs.Rest.{AtRest, Whole, view}
use Rattle.pair_rule.specs.Part.{Store, Part}
use Rattle.pair_rule.specs.Splits.{HasTaken}
use Rattle.pair_rule.specs.View.{longer, parent_view, child_view, joined_view}
use Rattle.pair_rule.specs.Callers.{after_splits, after_joins, IsSplitPass, AreSplitCallers, AreJoined, Unused}
use Rattle.pair_rule.proofs.Lists.{has_front, has_back, has_either}
use Rattle.pair_rule.proofs.Histories.{extends_refl, extends_trans}
use Rattle.pair_rule.proofs.Elements.{has_map, has_unmap, has_place, placed, each_push}

module _ {T : Type 0} (join : T → T → T) where
  -- the numbers of views that were joined into one are its numbers
  pub numbers_first : (v : View T) (ws : List (View T)) (c : ℕ) → Has c v.numbers → Has c (after_joins join v ws).numbers
  numbers_first v [] c h = h
  numbers_first v (w ∷ ws) c h = has_front c (after_joins join v ws).numbers w.numbers (numbers_first v ws c h)

  pub numbers_other : (v w : View T) (ws : List (View T)) (c : ℕ) → Has w ws → Has c w.numbers → Has c (after_joins join v ws).numbers
  numbers_other v w [] c h n = absurd h
  numbers_other v w (u ∷ ws) c h n = ⊎_elim
      (λ (e : w ≡ u). has_back c (after_joins join v ws).numbers u.numbers (subst (λ (x : View T). Has c x.numbers) e n))
      (λ (t : Has w ws). has_front c (after_joins join v ws).numbers u.numbers (numbers_other v w ws c t n))
      h

module _ {T : Type 0} (part : Part T) (store : Store) where
  pub taken_same : (v : View T) → HasTaken part v v
  taken_same v = record { seen = extends_refl v.seen; calls = λ c h. refl; known = λ i x h. h; roots = λ i x h. h }

  pub joined_none : (p : PassOf T) → AtRest part store p → AreJoined part store p p []
  joined_none p rests = record { rest = rests; pass_is = refl; view_is = refl; base_taken = taken_same (view p); taken = λ q h. absurd h }

  taken_then : (u v w : View T) → HasTaken part u v → HasTaken part v w → ((c : ℕ) → Has c u.numbers → Has c v.numbers) → HasTaken part u w
  taken_then u v w a b numbers = record {
    seen = extends_trans u.seen v.seen w.seen a.seen b.seen;
    calls = λ c h. b.calls c (numbers c h) ∙ a.calls c h;
    known = λ i x h. b.known i x (a.known i x h);
    roots = λ i x h. b.roots i x (a.roots i x h);
  }

  -- one more pass, as a join tells
  pub joined_more : (base old new p : PassOf T) (others : List (PassOf T)) → AreJoined part store base old others
      → AtRest part store new
      → view new ≡ joined_view part.join (view old) (view p)
      → HasTaken part (view old) (view new)
      → HasTaken part (view p) (view new)
      → new ≡ record old { seat = new.seat; nodes_count = new.nodes_count; names_count = new.names_count }
      → AreJoined part store base new (p ∷ others)
  joined_more base old new p others j rests is all theirs same = record {
    rest = rests;
    pass_is = same ∙ (λ i. record (j.pass_is i) { seat = new.seat; nodes_count = new.nodes_count; names_count = new.names_count });
    view_is = is ∙ ap (λ (v : View T). joined_view part.join v (view p)) j.view_is;
    base_taken = taken_then (view base) (view old) (view new) j.base_taken all (λ c n. subst (λ (x : View T). Has c x.numbers) (sym j.view_is) (numbers_first part.join (view base) (map view others) c n));
    taken = λ q h. ⊎_elim
        (λ (e : q ≡ p). subst (λ (x : PassOf T). HasTaken part (view x) (view new)) (sym e) theirs)
        (λ (t : Has q others). taken_then (view q) (view old) (view new) (j.taken q t) all (λ c n. subst (λ (x : View T). Has c x.numbers) (sym j.view_is) (numbers_other part.join (view base) (view q) (map view others) c (has_map view q others t) n)))
        h;
  }

module _ {T X : Type 0} (part : Part T) (store : Store) (pass_of : X → PassOf T) where
  -- the passes of some callers were joined into one, the last caller's first; others are left
  pub record Joining (base now : PassOf T) (all left : List X) : Type 0 where
    pub done : List X
    pub whole : all ≡ left ++ done
    pub stay : All (λ (x : X). AtRest part store (pass_of x)) left
    pub joined : AreJoined part store base now (map pass_of done)

  pub joining_none : (p : PassOf T) (all : List X) → AtRest part store p → All (λ (x : X). AtRest part store (pass_of x)) all → Joining p p all all
  joining_none p all rests each = record { done = []; whole = sym (append-nil all); stay = each; joined = joined_none part store p rests }

  -- the last one leaves
  pub joining_more : (base old new : PassOf T) (all left rest : List X) (x : X) → Joining base old all left → left ≡ rest ++ x ∷ []
      → AtRest part store new
      → view new ≡ joined_view part.join (view old) (view (pass_of x))
      → HasTaken part (view old) (view new)
      → HasTaken part (view (pass_of x)) (view new)
      → new ≡ record old { seat = new.seat; nodes_count = new.nodes_count; names_count = new.names_count }
      → Joining base new all rest
  joining_more base old new all left rest x d last rests is taken theirs same = record {
    stay = (All-pop (λ (y : X). AtRest part store (pass_of y)) left rest (Some x) last d.stay).0;
    done = x ∷ d.done;
    whole = d.whole ∙ (ap (λ (y : List X). y ++ d.done) last ∙ append_assoc rest (x ∷ []) d.done);
    joined = joined_more part store base old new (pass_of x) (map pass_of d.done) d.joined rests is taken theirs same;
  }

  -- all have left
  pub joining_all : (base now : PassOf T) (all left : List X) → Joining base now all left → left ≡ [] → AreJoined part store base now (map pass_of all)
  joining_all base now all left d none =
      let are : d.done ≡ all = sym (d.whole ∙ ap (λ (y : List X). y ++ d.done) none) in
      subst (λ (y : List X). AreJoined part store base now (map pass_of y)) are d.joined

-- the longer of one history and itself
longer_same : (h : History) → longer h h ≡ h
longer_same h = by (nat_lt (length h) (length h))
  where
    by : (b : Bool) → (if b then h else h) ≡ h
    by true = refl
    by false = refl

module _ {T : Type 0} where
  -- the number that is given at the split with this number
  abbrev pub given : View T → ℕ → ℕ
  given v j = child (after_splits j v).number (after_splits j v).splits

  -- the passes that were split from a view
  pub born_of : (v : View T) (n c : ℕ) → Has c (after_splits n v).born → Has c v.born ⊎ ((j : ℕ) × (j < n) × (c ≡ given v j))
  born_of v zero c h = inl h
  born_of v (suc n) c h = ⊎_elim
      (λ (e : c ≡ given v n). let found : (j : ℕ) × (j < suc n) × (c ≡ given v j) = (n, omega arith, e) in inr found)
      (λ (t : Has c (after_splits n v).born). ⊎_elim
      (λ (b : Has c v.born). inl b)
      (λ (f : (j : ℕ) × (j < n) × (c ≡ given v j)). let found : (j : ℕ) × (j < suc n) × (c ≡ given v j) = (f.0, omega (arith, f.1), f.2) in inr found)
      (born_of v n c t))
      h

  -- and what a view keeps from which passes were split
  pub record Stays (v w : View T) : Type 0 where
    pub about : w.about ≡ v.about
    pub number : w.number ≡ v.number
    pub numbers : w.numbers ≡ v.numbers
    pub seen : w.seen ≡ v.seen
    pub known : w.known ≡ v.known
    pub made : w.made ≡ v.made
    pub probes : w.probes ≡ v.probes
    pub root : w.root ≡ v.root

  pub after_splits_stay : (n : ℕ) (v : View T) → Stays v (after_splits n v)
  after_splits_stay zero v = record { about = refl; number = refl; numbers = refl; seen = refl; known = refl; made = refl; probes = refl; root = refl }
  after_splits_stay (suc n) v = let s = after_splits_stay n v in record { about = s.about; number = s.number; numbers = s.numbers; seen = s.seen; known = s.known; made = s.made; probes = s.probes; root = s.root }

  module _ (join : T → T → T) where
    -- what was born of views that were joined into one
    pub born_either : (v : View T) (ws : List (View T)) (c : ℕ) → ((w : View T) → Has w ws → w.born ≡ []) → Has c (after_joins join v ws).born → Has c v.born
    born_either v [] c none h = h
    born_either v (w ∷ ws) c none h = ⊎_elim
        (λ (a : Has c (after_joins join v ws).born). born_either v ws c (λ u t. none u (inr t)) a)
        (λ (b : Has c w.born). absurd (subst (λ (x : List ℕ). Has c x) (none w (inl refl)) b))
        (has_either c (after_joins join v ws).born w.born h)

    -- views of which a whole view was split are a whole view again when they are joined into it
    pub whole_again : (v : View T) (n : ℕ) (ws : List (View T)) → Whole v → ((w : View T) → Has w ws → w.born ≡ []) → ((j : ℕ) → j < n → (w : View T) × Has w ws × Has (given v j) w.numbers) → Whole (after_joins join (after_splits n v) ws)
    whole_again v n ws whole none each = record {
      first = numbers_first join (after_splits n v) ws 0 (subst (λ (x : List ℕ). Has 0 x) (sym (after_splits_stay n v).numbers) whole.first);
      all = λ c h. ⊎_elim
          (λ (b : Has c v.born). numbers_first join (after_splits n v) ws c (subst (λ (x : List ℕ). Has c x) (sym (after_splits_stay n v).numbers) (whole.all c b)))
          (λ (f : (j : ℕ) × (j < n) × (c ≡ given v j)). let w = each f.0 f.1 in subst (λ (x : ℕ). Has x (after_joins join (after_splits n v) ws).numbers) (sym f.2) (numbers_other join (after_splits n v) w.0 ws (given v f.0) w.1 w.2))
          (born_of v n c (born_either (after_splits n v) ws c none h));
    }

    -- views that did nothing
    pub record DidNothing (v w : View T) : Type 0 where
      pub seen : w.seen ≡ v.seen
      pub known : w.known ≡ v.known
      pub made : w.made ≡ []
      pub probes : w.probes ≡ 0

    pub record Nothing (v w : View T) : Type 0 where
      pub number : w.number ≡ v.number
      pub seen : w.seen ≡ v.seen
      pub known : IsPart v.known w.known × IsPart w.known v.known
      pub made : w.made ≡ v.made
      pub probes : w.probes ≡ v.probes

    pub after_joins_nothing : (v : View T) (ws : List (View T)) → ((w : View T) → Has w ws → DidNothing v w) → Nothing v (after_joins join v ws)
    after_joins_nothing v [] each = record { number = refl; seen = refl; known = (λ i x h. h, λ i x h. h); made = refl; probes = refl }
    after_joins_nothing v (w ∷ ws) each =
        let s = after_joins_nothing v ws (λ u t. each u (inr t)) in
        let d = each w (inl refl) in
        let j = after_joins join v ws in
        record {
          number = s.number;
          seen = (λ k. longer (s.seen k) (d.seen k)) ∙ longer_same v.seen;
          known = (
            λ i x h. has_front (i, x) j.known w.known (s.known.0 i x h),
            λ i x h. ⊎_elim (λ (a : Has (i, x) j.known). s.known.1 i x a) (λ (b : Has (i, x) w.known). subst (λ (l : List (ℕ × ℕ)). Has (i, x) l) d.known b) (has_either (i, x) j.known w.known h),
          );
          made = (λ k. s.made k ++ d.made k) ∙ append-nil v.made;
          probes = omega (arith, s.probes, d.probes);
        }

module _ {T X : Type 0} (part : Part T) (store : Store) (pass_of : X → PassOf T) where
  -- callers that did nothing, whose passes are joined back
  pub unused : (base now new : PassOf T) (all : List X) → now ≡ record base { seat = now.seat } → view now ≡ after_splits (length all) (view base)
      → ((j : ℕ) (d : X) → j < length all → IsSplitPass part store (after_splits j (view base)) (pass_of (get_or all j d)))
      → AreJoined part store now new (map pass_of all) → Unused base new
  unused base now new all same now_is each j =
      let v = view base in
      let passes = map pass_of all in
      let ws = map (λ (p : PassOf T). view p) passes in
      let final : view new ≡ after_joins part.join (after_splits (length all) v) ws = j.view_is ∙ ap (λ (x : View T). after_joins part.join x ws) now_is in
      let stay = after_splits_stay (length all) v in
      let n = after_joins_nothing part.join (after_splits (length all) v) ws (λ u t. did u t) in
      let from = sym final in
      record {
        pass_is = j.pass_is ∙ (λ i. record (same i) { seat = new.seat; nodes_count = new.nodes_count; names_count = new.names_count });
        number = ap (λ (x : View T). x.number) final ∙ (n.number ∙ stay.number);
        seen = ap (λ (x : View T). x.seen) final ∙ (n.seen ∙ stay.seen);
        numbers = λ c t. subst (λ (x : View T). Has c x.numbers) from (numbers_first part.join (after_splits (length all) v) ws c (subst (λ (x : List ℕ). Has c x) (sym stay.numbers) t));
        known = (
          λ i x t. subst (λ (y : View T). Has (i, x) y.known) from (n.known.0 i x (subst (λ (y : List (ℕ × ℕ)). Has (i, x) y) (sym stay.known) t)),
          λ i x t. subst (λ (y : List (ℕ × ℕ)). Has (i, x) y) stay.known (n.known.1 i x (subst (λ (y : View T). Has (i, x) y.known) final t)),
        );
        made = ap (λ (x : View T). x.made) final ∙ (n.made ∙ stay.made);
        probes = ap (λ (x : View T). x.probes) final ∙ (n.probes ∙ stay.probes);
        whole = λ whole. subst (λ (x : View T). Whole x) from (whole_again part.join v (length all) ws whole (λ u t. none u t) (λ k lt. one k lt));
      }
    where
      caller_of : (u : View T) → Has u (map (λ (p : PassOf T). view p) (map pass_of all)) → (k : ℕ) × (k < length all) × (u ≡ child_view part.split (after_splits k (view base)))
      caller_of u t =
          let p = has_unmap (λ (p : PassOf T). view p) u (map pass_of all) t in
          let w = has_unmap pass_of p.0 all p.1 in
          let place = has_place w.0 all w.1 in
          let is = (each place.0 w.0 place.1).view_is in
          (place.0, place.1, p.2 ∙ (ap (λ (q : PassOf T). view q) w.2 ∙ (ap (λ (y : X). view (pass_of y)) (sym place.2) ∙ is)))

      did : (u : View T) → Has u (map (λ (p : PassOf T). view p) (map pass_of all)) → DidNothing part.join (after_splits (length all) (view base)) u
      did u t =
          let w = caller_of u t in
          let a = after_splits_stay w.0 (view base) in
          let b = after_splits_stay (length all) (view base) in
          record {
            seen = ap (λ (x : View T). x.seen) w.2 ∙ (a.seen ∙ sym b.seen);
            known = ap (λ (x : View T). x.known) w.2 ∙ (a.known ∙ sym b.known);
            made = ap (λ (x : View T). x.made) w.2;
            probes = ap (λ (x : View T). x.probes) w.2;
          }

      none : (u : View T) → Has u (map (λ (p : PassOf T). view p) (map pass_of all)) → u.born ≡ []
      none u t = ap (λ (x : View T). x.born) (caller_of u t).2

      one : (k : ℕ) → k < length all → (u : View T) × Has u (map (λ (p : PassOf T). view p) (map pass_of all)) × Has (given (view base) k) u.numbers
      one k lt =
          let p = placed all k lt in
          let is = (each k p.one lt).view_is in
          let same : view (pass_of p.one) ≡ child_view part.split (after_splits k (view base)) = ap (λ (y : X). view (pass_of y)) (sym (p.here p.one)) ∙ is in (
            view (pass_of p.one),
            has_map (λ (p : PassOf T). view p) (pass_of p.one) (map pass_of all) (has_map pass_of p.one all p.there),
            subst (λ (x : View T). Has (given (view base) k) x.numbers) (sym same) (inl refl),
          )

module _ {T A : Type 0} (part : Part T) (store : Store) (kept : A) where
  pub split_none : (p : PassOf T) (none : List (Caller T A)) → none ≡ [] → AtRest part store p → AreSplitCallers part store kept p p none
  split_none p none empty rests =
      let zero : length none ≡ 0 = ap (λ (cs : List (Caller T A)). length cs) empty in
      record {
        rest = rests;
        pass_is = refl;
        view_is = ap (λ (cs : List (Caller T A)). after_splits (length cs) (view p)) (sym empty);
        split = λ j d lt. absurd (omega (arith, lt, zero));
        numbers = λ j d lt. absurd (omega (arith, lt, zero));
        kept_by = λ j d lt. absurd (omega (arith, lt, zero));
      }

  pub split_more : (base old new : PassOf T) (callers : List (Caller T A)) (caller : Caller T A) → AreSplitCallers part store kept base old callers → AtRest part store new
      → view new ≡ parent_view (view old) → new ≡ record old { seat = new.seat }
      → IsSplitPass part store (view old) caller.pass → caller.number ≡ length callers → caller.kept ≡ kept
      → AreSplitCallers part store kept base new (callers ++ caller ∷ [])
  split_more base old new callers caller h rests is same one number kept_is = record {
    rest = rests;
    pass_is = same ∙ (λ i. record (h.pass_is i) { seat = new.seat });
    view_is = is ∙ (ap (λ (v : View T). parent_view v) h.view_is ∙ ap (λ (n : ℕ). after_splits n (view base)) (let long : suc (length callers) ≡ length (callers ++ caller ∷ []) = omega (arith, length-append callers (caller ∷ [])) in long));
    split = each_push (λ j c. IsSplitPass part store (after_splits j (view base)) c.pass) callers caller h.split
        (subst (λ (v : View T). IsSplitPass part store v caller.pass) h.view_is one);
    numbers = each_push (λ j c. c.number ≡ j) callers caller h.numbers number;
    kept_by = each_push (λ j c. c.kept ≡ kept) callers caller h.kept_by kept_is;
  }

  -- so all their passes rest
  pub split_rest : (base now : PassOf T) (callers : List (Caller T A)) → AreSplitCallers part store kept base now callers → All (λ (c : Caller T A). AtRest part store c.pass) callers
  split_rest base now callers h = λ j d lt. (h.split j d lt).rest
