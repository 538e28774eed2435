-- How the rule of regions goes on over the root words, the history and the views, step by step.
use Rattle.std.proofs.Common.{◌≡◌, ◌≢◌, ℕ, suc, ◌+◌, ◌<◌, ◌≤◌, List, [], ◌∷◌, length, map, set, Some, true, true≢false, false, refl, sym, ap, ◌∙◌, subst, inl, ⊎_elim, arith, length-set, get_or-set_same}
use mathlib.Core.Option.{some}
use mathlib.Core.Logic.{dite}
use native.Mathlib.Decide.{ℕ_discrete}
use lib.ListN.{get_elem?}
use lib.Seq.{map-set}
use Rattle.atomic_table.proofs.Lists.{at_set, at_map}
use Rattle.tree_shape.specs.Tree.{Has}
use Rattle.tdb_base.specs.History.{Vector, History, name_of}
use Rattle.pair_rule.specs.declared.view.View.{View}
use Rattle.pair_rule.specs.declared.sizes.About.{About}
use Rattle.pair_rule.proofs.Lists.{map_same}
use Rattle.region_root.specs.declared.root.Regions.{Regions}
use Rattle.region_root.specs.declared.root.Holding.{Holding}
use Rattle.region_root.specs.declared.root.Reading.{Reading}
use Rattle.region_root.specs.Layout.{regions, words_each, lock_of, start, part, IsPacked, KeepsRoots}
use Rattle.region_root.specs.Maps.{IsMapOf}
use Rattle.region_root.specs.Compact.{IsEven, IsOdd, last, HoldsRegion, ReadsRegion, held_of, Viewed, Locks, Free, Compact}
use Rattle.region_root.specs.Names.{kept_few}
use Rattle.region_root.specs.Laws.{held_there}
use Rattle.region_root.specs.Plays.{holding, recopied}
use Rattle.region_root.proofs.Parts.{not_both, part_lock, lock_cell, lock_other, part_same, part_other, held_lock, reads_lock, held_cell, reads_cell, locks_take, locks_free, locks_cell}

abbrev V : Type 0
V = View Regions

-- a lock word and a region's words are among the root words
pub lock_long : (about : About) (log : History) (ws : List ℕ) (views : List V) → Compact about log ws views → (g : ℕ) → g < regions about → g < length ws
lock_long about log ws views p g inside = let long = p.long in let all = p.is_about.root_words_are in omega (arith, long, all)

-- what a changed lock word leaves of the readers: no value that one may believe comes again
abbrev pub Moves : ℕ → ℕ → Type 0
Moves old new = (first : ℕ) → IsEven first → first < last → first ≤ old → (first ≤ new) × (new ≢ first)

viewed_lock : (about : About) (log log' : History) (ws : List ℕ) (g n : ℕ) (u : V) → g < regions about → g < length ws → ((k : ℕ) (m : List (ℕ × ℕ)) → k ≢ g → IsMapOf about k log m → IsMapOf about k log' m)
    → Moves (lock_of ws g) n → ((h : Holding) → Has h u.root.held → h.region ≢ g) → Viewed about log ws u → Viewed about log' (set ws g n) u
viewed_lock about log log' ws g n u inside long maps moves other r = record {
  idle = r.idle;
  one = r.one;
  holds = λ h a. held_lock about log log' ws g n h inside (other h a) (maps h.region h.base (other h a) (r.holds h a).base_is) (r.holds h a);
  reads = λ q a. reads_lock about ws g n q inside long moves (r.reads q a);
}

-- a free region is taken
pub takes_root : (about : About) (log : History) (ws : List ℕ) (views : List V) (id : ℕ) (v : V) (g n : ℕ) (p : Compact about log ws views) → get_elem? views id ≡ some v → v.root.held ≡ [] → g < regions about → lock_of ws g ≡ n → IsEven n
    → (f : Free about log ws g) → Compact about log (set ws g (suc n)) (set views id (holding (record { region = g; lock = suc n; copy = part about ws g; base = f.map }) v))
takes_root about log ws views id v g n p e none inside lock even f =
    let h : Holding = record { region = g; lock = suc n; copy = part about ws g; base = f.map } in
    let w = holding h v in
    let long : g < length ws = lock_long about log ws views p g inside in
    let free : (i : Holding) → HoldsRegion about log ws i → i.region ≢ g = λ i r z. not_both n even (subst IsOdd (sym r.lock_is ∙ (ap (lock_of ws) z ∙ lock)) r.odd) in
    let moves : Moves (lock_of ws g) (suc n) = λ f ef low le. (omega (arith, lock, le), λ z. not_both f ef (even.0, sym z ∙ ap suc even.1)) in
    record {
      is_about = p.is_about;
      long = length-set ws g (suc n) ∙ p.long;
      packed = p.packed;
      free = λ k in_k ek. dite (ℕ_discrete k g)
          (λ z. absurd (not_both (suc n) (subst IsEven (ap (lock_of (set ws g (suc n))) z ∙ get_or-set_same ws g (suc n) 0 long) ek) (even.0, ap suc even.1)))
          (λ ne. let o = p.free k in_k (subst IsEven (lock_other ws g k (suc n) ne) ek) in
          record { map = o.map; keeps = subst (λ (l : List ℕ). KeepsRoots about l o.map) (sym (part_lock about ws g k (suc n) inside)) o.keeps; is_map = o.is_map });
      locks = subst (Locks about (set ws g (suc n))) (sym (map-set held_of views id w))
          (locks_take about ws (map held_of views) id g (suc n) h p.locks (at_map held_of views id v e ∙ ap some none) refl (λ k is i q a. free i (held_there about log ws views p k is i q a)));
      each = λ j u q. ⊎_elim
          (λ (t : (j ≡ id) × (w ≡ u)). subst (Viewed about log (set ws g (suc n))) t.1 record {
            idle = λ b. absurd (true≢false b);
            one = omega arith;
            holds = λ i a. ⊎_elim (λ (z : i ≡ h). subst (HoldsRegion about log (set ws g (suc n))) (sym z) record {
              inside = inside;
              lock_is = get_or-set_same ws g (suc n) 0 long;
              odd = (even.0, ap suc even.1);
              copy_is = sym (part_lock about ws g g (suc n) inside);
              base_is = f.is_map;
              few = kept_few about (part about ws g) f.map f.keeps;
            }) (λ (no : ⊥). absurd no) a;
            reads = λ q' a. reads_lock about ws g (suc n) q' inside long moves ((p.each id v e).reads q' a);
          })
          (λ (t : (j ≢ id) × (get_elem? views j ≡ some u)). let r = p.each j u t.1 in viewed_lock about log log ws g (suc n) u inside long (λ k m ne is. is) moves (λ i a. free i (r.holds i a)) r)
          (at_set views id j w u q);
    }

-- a held region is given back, with the map that it then has
pub frees_root : (about : About) (log log' : History) (ws : List ℕ) (views : List V) (id : ℕ) (v w : V) (h : Holding) (n : ℕ) (next : List (ℕ × ℕ)) → Compact about log ws views → get_elem? views id ≡ some v → v.root.held ≡ h ∷ []
    → IsEven n → Moves h.lock n → KeepsRoots about h.copy next → IsMapOf about h.region log' next → ((k : ℕ) (m : List (ℕ × ℕ)) → k ≢ h.region → IsMapOf about k log m → IsMapOf about k log' m)
    → ((u : Vector) (i : ℕ) → name_of log' u ≡ Some i → IsPacked about i) → w.busy ≡ false → w.root ≡ record v.root { held = [] }
    → Compact about log' (set ws h.region n) (set views id w)
frees_root about log log' ws views id v w h n next p e holds even goes keep here others packed idle root =
    let g = h.region in
    let rv = p.each id v e in
    let hv = rv.holds h (subst (Has h) (sym holds) (inl refl)) in
    let long : g < length ws = lock_long about log ws views p g hv.inside in
    let moves : Moves (lock_of ws g) n = λ f ef low le. goes f ef low (let l = hv.lock_is in omega (arith, l, le)) in
    let kept : KeepsRoots about (part about (set ws g n) g) next = subst (λ (l : List ℕ). KeepsRoots about l next) (hv.copy_is ∙ sym (part_lock about ws g g n hv.inside)) keep in
    let helds : List (List Holding) = map held_of views in
    let at_id : get_elem? helds id ≡ some (h ∷ []) = at_map held_of views id v e ∙ ap some holds in
    let none : w.root.held ≡ [] = ap (λ (t : Regions). t.held) root in
    record {
      is_about = p.is_about;
      long = length-set ws g n ∙ p.long;
      packed = packed;
      free = λ k in_k ek. dite (ℕ_discrete k g)
          (λ z. subst (λ (m : ℕ). Free about log' (set ws g n) m) (sym z) record { map = next; keeps = kept; is_map = here })
          (λ ne. let o = p.free k in_k (subst IsEven (lock_other ws g k n ne) ek) in
          record { map = o.map; keeps = subst (λ (l : List ℕ). KeepsRoots about l o.map) (sym (part_lock about ws g k n hv.inside)) o.keeps; is_map = others k o.map ne o.is_map });
      locks = subst (Locks about (set ws g n)) (sym (map-set held_of views id w ∙ ap (λ (l : List Holding). set helds id l) none)) (locks_free about ws helds id n h p.locks at_id long even);
      each = λ j u q. ⊎_elim
          (λ (t : (j ≡ id) × (w ≡ u)). subst (Viewed about log' (set ws g n)) t.1 record {
            idle = λ b. none;
            one = subst (λ (l : List Holding). length l ≤ 1) (sym none) (omega arith);
            holds = λ i a. absurd (subst (Has i) none a);
            reads = λ q' a. reads_lock about ws g n q' hv.inside long moves (rv.reads q' (subst (λ (t : Regions). Has q' t.reader) root a));
          })
          (λ (t : (j ≢ id) × (get_elem? views j ≡ some u)). let r = p.each j u t.1 in
          viewed_lock about log log' ws g n u hv.inside long others moves (λ i a z. t.0 (p.locks.sole j id u.root.held (h ∷ []) i h (at_map held_of views j u t.1) at_id a (inl refl) z)) r)
          (at_set views id j w u q);
    }

-- the holder writes a word of its region
pub stores_root : (about : About) (log : History) (ws : List ℕ) (views : List V) (id : ℕ) (v : V) (h : Holding) (i n : ℕ) → Compact about log ws views → get_elem? views id ≡ some v → v.root.held ≡ h ∷ [] → v.busy ≡ true → i < words_each about
    → Compact about log (set ws (start about h.region + i) n) (set views id (recopied (set h.copy i n) h v))
stores_root about log ws views id v h i n p e holds busy near =
    let g = h.region in
    let rv = p.each id v e in
    let hv = rv.holds h (subst (Has h) (sym holds) (inl refl)) in
    let odd : IsOdd (lock_of ws g) = subst IsOdd (sym hv.lock_is) hv.odd in
    let ws' = set ws (start about g + i) n in
    let h' : Holding = record h { copy = set h.copy i n } in
    let w = recopied (set h.copy i n) h v in
    let helds : List (List Holding) = map held_of views in
    let at_id : get_elem? helds id ≡ some (h ∷ []) = at_map held_of views id v e ∙ ap some holds in
    record {
      is_about = p.is_about;
      long = length-set ws (start about g + i) n ∙ p.long;
      packed = p.packed;
      free = λ k in_k ek. dite (ℕ_discrete k g)
          (λ z. absurd (not_both (lock_of ws g) (subst IsEven (lock_cell about ws g i k n in_k ∙ ap (lock_of ws) z) ek) odd))
          (λ ne. let o = p.free k in_k (subst IsEven (lock_cell about ws g i k n in_k) ek) in
          record { map = o.map; keeps = subst (λ (l : List ℕ). KeepsRoots about l o.map) (sym (part_other about ws g i k n near ne)) o.keeps; is_map = o.is_map });
      locks = subst (Locks about ws') (sym (map-set held_of views id w)) (locks_cell about ws ws' helds id h h' p.locks at_id refl (λ k in_k. lock_cell about ws g i k n in_k));
      each = λ j u q. ⊎_elim
          (λ (t : (j ≡ id) × (w ≡ u)). subst (Viewed about log ws') t.1 record {
            idle = λ b. absurd (true≢false (sym busy ∙ b));
            one = omega arith;
            holds = λ k a. ⊎_elim (λ (z : k ≡ h'). subst (HoldsRegion about log ws') (sym z) record {
              inside = hv.inside;
              lock_is = lock_cell about ws g i g n hv.inside ∙ hv.lock_is;
              odd = hv.odd;
              copy_is = ap (λ (l : List ℕ). set l i n) hv.copy_is ∙ sym (part_same about ws g i n near);
              base_is = hv.base_is;
              few = hv.few;
            }) (λ (no : ⊥). absurd no) a;
            reads = λ q' a. reads_cell about ws g i n q' near odd (rv.reads q' a);
          })
          (λ (t : (j ≢ id) × (get_elem? views j ≡ some u)). let r = p.each j u t.1 in record {
            idle = r.idle;
            one = r.one;
            holds = λ k a. held_cell about log ws g i n k near (λ z. t.0 (p.locks.sole j id u.root.held (h ∷ []) k h (at_map held_of views j u t.1) at_id a (inl refl) z)) (r.holds k a);
            reads = λ q' a. reads_cell about ws g i n q' near odd (r.reads q' a);
          })
          (at_set views id j w u q);
    }

-- a reader's steps: no word changes, and no region's map
pub quiet_root : (about : About) (log log' : History) (ws : List ℕ) (views : List V) (id : ℕ) (v w : V) → Compact about log ws views → get_elem? views id ≡ some v → ((k : ℕ) (m : List (ℕ × ℕ)) → IsMapOf about k log m → IsMapOf about k log' m)
    → ((u : Vector) (i : ℕ) → name_of log' u ≡ Some i → IsPacked about i) → w.root.held ≡ v.root.held → w.busy ≡ v.busy → ((q : Reading) → Has q w.root.reader → ReadsRegion about ws q)
    → Compact about log' ws (set views id w)
quiet_root about log log' ws views id v w p e same packed held busy reads =
    let on : (h : Holding) → HoldsRegion about log ws h → HoldsRegion about log' ws h = λ h r. record { inside = r.inside; lock_is = r.lock_is; odd = r.odd; copy_is = r.copy_is; base_is = same h.region h.base r.base_is; few = r.few } in
    record {
      is_about = p.is_about;
      long = p.long;
      packed = packed;
      free = λ k in_k ek. let o = p.free k in_k ek in record { map = o.map; keeps = o.keeps; is_map = same k o.map o.is_map };
      locks = subst (Locks about ws) (sym (map_same held_of views id v w e held)) p.locks;
      each = λ j u q. ⊎_elim
          (λ (t : (j ≡ id) × (w ≡ u)). subst (Viewed about log' ws) t.1 record { idle = λ b. held ∙ (p.each id v e).idle (sym busy ∙ b); one = subst (λ (l : List Holding). length l ≤ 1) (sym held) (p.each id v e).one; holds = λ h a. on h ((p.each id v e).holds h (subst (Has h) held a)); reads = reads })
          (λ (t : (j ≢ id) × (get_elem? views j ≡ some u)). let r = p.each j u t.1 in record { idle = r.idle; one = r.one; holds = λ h a. on h (r.holds h a); reads = r.reads })
          (at_set views id j w u q);
    }
