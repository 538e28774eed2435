-- The words of regions, and what one changed word leaves as it was.
use Rattle.std.proofs.Common.{◌≡◌, ◌≢◌, ℕ, suc, ◌+◌, ◌*◌, ◌-◌, ◌<◌, ◌≤◌, List, [], ◌∷◌, length, take, drop, set, get_or, refl, sym, ap, ◌∙◌, subst, inl, ⊎_elim, arith, get_or-set_same, get_or-set_other, mul-le-mul_right, suc-mul}
use Rattle.std.proofs.lemmas.List.{get_or-drop, get_or-take, drop-set-lt, drop-set-add, take-set-le, length-drop, length-take-le}
use Rattle.std.proofs.Math.Seq.{take-set-lt}
use mathlib.Core.Option.{some}
use mathlib.Core.Logic.{dite}
use native.Mathlib.Decide.{ℕ_discrete, dec_lt}
use lib.ListN.{get_elem?}
use Rattle.atomic_table.proofs.Lists.{at_set, set_else}
use Rattle.tree_shape.specs.Tree.{Has}
use Rattle.tdb_base.specs.History.{History}
use Rattle.pair_rule.specs.declared.sizes.About.{About}
use Rattle.pair_rule.proofs.Lists.{set_got, get_one}
use Rattle.region_root.specs.declared.root.Holding.{Holding}
use Rattle.region_root.specs.declared.root.Reading.{Reading}
use Rattle.region_root.specs.Layout.{regions, words_each, lock_of, start, part}
use Rattle.region_root.specs.Maps.{IsMapOf}
use Rattle.region_root.specs.Compact.{IsEven, IsOdd, last, HoldsRegion, ReadsRegion, Locks}

pub not_both : (n : ℕ) → IsEven n → IsOdd n → ⊥
not_both n e o = omega (arith, e.1, o.1)

-- regions lie apart
apart : (about : About) (g k : ℕ) → g < k → g * words_each about + words_each about ≤ k * words_each about
apart about g k lt = let a : suc g * words_each about ≤ k * words_each about = mul-le-mul_right (words_each about) lt in omega (arith, a, suc-mul g (words_each about))

pub start_below : (about : About) (g : ℕ) → g < regions about → start about g + words_each about ≤ regions about + regions about * words_each about
start_below about g lt = let a = apart about g (regions about) lt in omega (arith, a)

-- a lock word changes no region's words
pub part_lock : (about : About) (ws : List ℕ) (g k x : ℕ) → g < regions about → part about (set ws g x) k ≡ part about ws k
part_lock about ws g k x lt = ap (take (words_each about)) (drop-set-lt (start about k) ws g x (omega arith))

-- a region's word changes no lock word
pub lock_cell : (about : About) (ws : List ℕ) (g i k x : ℕ) → k < regions about → lock_of (set ws (start about g + i) x) k ≡ lock_of ws k
lock_cell about ws g i k x lt = get_or-set_other ws (start about g + i) k x 0 (λ z. absurd (omega arith))

pub lock_other : (ws : List ℕ) (g k x : ℕ) → k ≢ g → lock_of (set ws g x) k ≡ lock_of ws k
lock_other ws g k x n = get_or-set_other ws g k x 0 n

pub part_same : (about : About) (ws : List ℕ) (g i x : ℕ) → i < words_each about → part about (set ws (start about g + i) x) g ≡ set (part about ws g) i x
part_same about ws g i x lt = ap (take (words_each about)) (drop-set-add (start about g) ws i x) ∙ take-set-lt (words_each about) (drop (start about g) ws) i x lt

pub part_other : (about : About) (ws : List ℕ) (g i k x : ℕ) → i < words_each about → k ≢ g → part about (set ws (start about g + i) x) k ≡ part about ws k
part_other about ws g i k x lt ne = dite (dec_lt g k)
    (λ below. let a = apart about g k below in ap (take (words_each about)) (drop-set-lt (start about k) ws (start about g + i) x (omega (arith, a))))
    (λ ge. let below : k < g = omega arith in let a = apart about k g below in
    let d : ℕ = (start about g + i) - start about k in
    let e : start about g + i ≡ start about k + d = omega (arith, a) in
    let far : words_each about ≤ d = omega (arith, a) in
    ap (λ (m : ℕ). part about (set ws m x) k) e ∙ (ap (take (words_each about)) (drop-set-add (start about k) ws d x) ∙ take-set-le (words_each about) (drop (start about k) ws) d x far))

pub part_word : (about : About) (ws : List ℕ) (g i : ℕ) → i < words_each about → get_or (part about ws g) i 0 ≡ get_or ws (start about g + i) 0
part_word about ws g i lt = get_or-take (words_each about) (drop (start about g) ws) i 0 lt ∙ get_or-drop (start about g) ws i 0

pub part_long : (about : About) (ws : List ℕ) (g : ℕ) → g < regions about → length ws ≡ regions about + regions about * words_each about → length (part about ws g) ≡ words_each about
part_long about ws g lt long = let a = start_below about g lt in let b = length-drop (start about g) ws in length-take-le (words_each about) (drop (start about g) ws) (omega (arith, a, b, long))

-- a lock word changes
pub held_lock : (about : About) (log log' : History) (ws : List ℕ) (g n : ℕ) (h : Holding) → g < regions about → h.region ≢ g → IsMapOf about h.region log' h.base → HoldsRegion about log ws h → HoldsRegion about log' (set ws g n) h
held_lock about log log' ws g n h inside other base r = record {
  inside = r.inside;
  lock_is = lock_other ws g h.region n other ∙ r.lock_is;
  odd = r.odd;
  copy_is = r.copy_is ∙ sym (part_lock about ws g h.region n inside);
  base_is = base;
  few = r.few;
}

pub reads_lock : (about : About) (ws : List ℕ) (g n : ℕ) (q : Reading) → g < regions about → g < length ws → ((f : ℕ) → IsEven f → f < last → f ≤ lock_of ws g → (f ≤ n) × (n ≢ f)) → ReadsRegion about ws q → ReadsRegion about (set ws g n) q
reads_lock about ws g n q inside long moves r = dite (ℕ_discrete q.region g)
    (λ z. let now : lock_of (set ws g n) q.region ≡ n = ap (lock_of (set ws g n)) z ∙ get_or-set_same ws g n 0 long in record {
      inside = r.inside;
      above = λ even low. let was : q.first ≤ lock_of ws g = subst (λ (m : ℕ). q.first ≤ lock_of ws m) z (r.above even low) in let m = moves q.first even low was in omega (arith, m.0, now);
      same = λ even low is. let was : q.first ≤ lock_of ws g = subst (λ (m : ℕ). q.first ≤ lock_of ws m) z (r.above even low) in absurd ((moves q.first even low was).1 (sym now ∙ is));
    })
    (λ ne. let now = lock_other ws g q.region n ne in record {
      inside = r.inside;
      above = λ even low. let a = r.above even low in omega (arith, a, now);
      same = λ even low is i m h. ap (λ (l : List ℕ). get_or l i 0) (part_lock about ws g q.region n inside) ∙ r.same even low (sym now ∙ is) i m h;
    })

-- a word of a region whose lock word is odd changes
pub held_cell : (about : About) (log : History) (ws : List ℕ) (g i n : ℕ) (h : Holding) → i < words_each about → h.region ≢ g → HoldsRegion about log ws h → HoldsRegion about log (set ws (start about g + i) n) h
held_cell about log ws g i n h near other r = record {
  inside = r.inside;
  lock_is = lock_cell about ws g i h.region n r.inside ∙ r.lock_is;
  odd = r.odd;
  copy_is = r.copy_is ∙ sym (part_other about ws g i h.region n near other);
  base_is = r.base_is;
  few = r.few;
}

pub reads_cell : (about : About) (ws : List ℕ) (g i n : ℕ) (q : Reading) → i < words_each about → IsOdd (lock_of ws g) → ReadsRegion about ws q → ReadsRegion about (set ws (start about g + i) n) q
reads_cell about ws g i n q near odd r = let now = lock_cell about ws g i q.region n r.inside in record {
  inside = r.inside;
  above = λ even low. let a = r.above even low in omega (arith, a, now);
  same = λ even low is j m h. dite (ℕ_discrete q.region g)
      (λ z. absurd (not_both q.first even (subst IsOdd (subst (λ (k : ℕ). lock_of ws k ≡ q.first) z (sym now ∙ is)) odd)))
      (λ ne. ap (λ (l : List ℕ). get_or l j 0) (part_other about ws g i q.region n near ne) ∙ r.same even low (sym now ∙ is) j m h);
}

-- the view id takes a free region
pub locks_take : (about : About) (ws : List ℕ) (helds : List (List Holding)) (id g n : ℕ) (h : Holding) → Locks about ws helds → get_elem? helds id ≡ some [] → h.region ≡ g
    → ((k : ℕ) (is : List Holding) (i : Holding) → get_elem? helds k ≡ some is → Has i is → i.region ≢ g) → Locks about (set ws g n) (set helds id (h ∷ []))
locks_take about ws helds id g n h m e here free = record {
  sole = λ j k hs is a b p q ha hb same. ⊎_elim
      (λ (t : (j ≡ id) × (h ∷ [] ≡ hs)). ⊎_elim
      (λ (u : (k ≡ id) × (h ∷ [] ≡ is)). t.0 ∙ sym u.0)
      (λ (u : (k ≢ id) × (get_elem? helds k ≡ some is)). absurd (free k is b u.1 hb (sym same ∙ mine hs a t.1 ha)))
      (at_set helds id k (h ∷ []) is q))
      (λ (t : (j ≢ id) × (get_elem? helds j ≡ some hs)). ⊎_elim
      (λ (u : (k ≡ id) × (h ∷ [] ≡ is)). absurd (free j hs a t.1 ha (same ∙ mine is b u.1 hb)))
      (λ (u : (k ≢ id) × (get_elem? helds k ≡ some is)). m.sole j k hs is a b t.1 u.1 ha hb same)
      (at_set helds id k (h ∷ []) is q))
      (at_set helds id j (h ∷ []) hs p);
  taken = λ k inside odd. dite (ℕ_discrete k g)
      (λ z. (id, h ∷ [], h, set_got helds id [] (h ∷ []) e, inl refl, here ∙ sym z))
      (λ ne. let y = m.taken k inside (subst IsOdd (lock_other ws g k n ne) odd) in dite (ℕ_discrete y.0 id)
      (λ at_id. absurd (subst (Has y.2) (get_one helds id y.1 [] (subst (λ (z : ℕ). get_elem? helds z ≡ some y.1) at_id y.3) e) y.4))
      (λ other. (y.0, y.1, y.2, set_else helds id y.0 (h ∷ []) other ∙ y.3, y.4, y.5)));
}
  where
    mine : (hs : List Holding) (a : Holding) → h ∷ [] ≡ hs → Has a hs → a.region ≡ g
    mine hs a t has = ⊎_elim (λ (z : a ≡ h). ap (λ (u : Holding). u.region) z ∙ here) (λ (no : ⊥). absurd no) (subst (Has a) (sym t) has)

-- the view id gives its region back
pub locks_free : (about : About) (ws : List ℕ) (helds : List (List Holding)) (id n : ℕ) (h : Holding) → Locks about ws helds → get_elem? helds id ≡ some (h ∷ []) → h.region < length ws → IsEven n → Locks about (set ws h.region n) (set helds id [])
locks_free about ws helds id n h m e long even = record {
  sole = λ j k hs is a b p q ha hb same. ⊎_elim
      (λ (t : (j ≡ id) × ([] ≡ hs)). absurd (subst (Has a) (sym t.1) ha))
      (λ (t : (j ≢ id) × (get_elem? helds j ≡ some hs)). ⊎_elim
      (λ (u : (k ≡ id) × ([] ≡ is)). absurd (subst (Has b) (sym u.1) hb))
      (λ (u : (k ≢ id) × (get_elem? helds k ≡ some is)). m.sole j k hs is a b t.1 u.1 ha hb same)
      (at_set helds id k [] is q))
      (at_set helds id j [] hs p);
  taken = λ k inside odd. dite (ℕ_discrete k h.region)
      (λ z. absurd (not_both n even (subst IsOdd (ap (lock_of (set ws h.region n)) z ∙ get_or-set_same ws h.region n 0 long) odd)))
      (λ ne. let y = m.taken k inside (subst IsOdd (lock_other ws h.region k n ne) odd) in dite (ℕ_discrete y.0 id)
      (λ at_id. absurd (⊎_elim (λ (z : y.2 ≡ h). ne (sym y.5 ∙ ap (λ (u : Holding). u.region) z)) (λ (no : ⊥). no) (subst (Has y.2) (get_one helds id y.1 (h ∷ []) (subst (λ (z : ℕ). get_elem? helds z ≡ some y.1) at_id y.3) e) y.4)))
      (λ other. (y.0, y.1, y.2, set_else helds id y.0 [] other ∙ y.3, y.4, y.5)));
}

-- the holder's copy changes
pub locks_cell : (about : About) (ws ws' : List ℕ) (helds : List (List Holding)) (id : ℕ) (h h' : Holding) → Locks about ws helds → get_elem? helds id ≡ some (h ∷ []) → h'.region ≡ h.region → ((k : ℕ) → k < regions about → lock_of ws' k ≡ lock_of ws k) → Locks about ws' (set helds id (h' ∷ []))
locks_cell about ws ws' helds id h h' m e here locks = record {
  sole = λ j k hs is a b p q ha hb same. let x = old j hs a p ha in let y = old k is b q hb in m.sole j k x.0 y.0 x.1 y.1 x.2 y.2 x.3 y.3 (x.4 ∙ (same ∙ sym y.4));
  taken = λ k inside odd. let y = m.taken k inside (subst IsOdd (locks k inside) odd) in dite (ℕ_discrete y.0 id)
      (λ at_id. ⊎_elim (λ (z : y.2 ≡ h). (id, h' ∷ [], h', set_got helds id (h ∷ []) (h' ∷ []) e, inl refl, here ∙ (sym (ap (λ (u : Holding). u.region) z) ∙ y.5))) (λ (no : ⊥). absurd no) (subst (Has y.2) (get_one helds id y.1 (h ∷ []) (subst (λ (z : ℕ). get_elem? helds z ≡ some y.1) at_id y.3) e) y.4))
      (λ other. (y.0, y.1, y.2, set_else helds id y.0 (h' ∷ []) other ∙ y.3, y.4, y.5));
}
  where
    old : (j : ℕ) (hs : List Holding) (a : Holding) → get_elem? (set helds id (h' ∷ [])) j ≡ some hs → Has a hs → (os : List Holding) × (o : Holding) × (get_elem? helds j ≡ some os) × Has o os × (o.region ≡ a.region)
    old j hs a p ha = ⊎_elim
        (λ (t : (j ≡ id) × (h' ∷ [] ≡ hs)). (h ∷ [], h, subst (λ (n : ℕ). get_elem? helds n ≡ some (h ∷ [])) (sym t.0) e, inl refl, ⊎_elim (λ (z : a ≡ h'). sym here ∙ sym (ap (λ (u : Holding). u.region) z)) (λ (no : ⊥). absurd no) (subst (Has a) (sym t.1) ha)))
        (λ (t : (j ≢ id) × (get_elem? helds j ≡ some hs)). (hs, a, t.1, ha, refl))
        (at_set helds id j (h' ∷ []) hs p)
