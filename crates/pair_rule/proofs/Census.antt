-- The numbers of passes, as passes are split and joined.
use Rattle.std.proofs.Common.{◌≡◌, ◌≢◌, ◌⊎◌, ℕ, zero, suc, ◌<◌, ◌≤◌, List, [], ◌∷◌, ◌++◌, length, set, true, true≢false, refl, sym, ap, ◌∙◌, subst, inl, inr, ⊎_elim, arith, length-set, le_refl}
use mathlib.Core.Option.{some}
use mathlib.Core.Logic.{dite}
use native.Mathlib.Decide.{ℕ_discrete}
use lib.ListN.{get_elem?}
use Rattle.atomic_table.proofs.Lists.{at_set, at_longer, set_else}
use Rattle.tree_shape.specs.Tree.{Has}
use Rattle.tdb_base.specs.History.{History}
use Rattle.pair_rule.specs.Numbers.{child, Descends, itself, onward, NoRepeats, Face, parent_face, child_face, joint_face, no_face}
use Rattle.pair_rule.specs.Rule.{Numbers, Callers}
use Rattle.pair_rule.proofs.Lists.{has_front, has_back, has_either, set_got, get_one, of_snoc, no_repeats_both}

pub child_above : (p n : ℕ) → p < child p n
child_above p zero = omega arith
child_above p (suc n) = let h = child_above p n in omega arith

pub child_same : (p q n m : ℕ) → child p n ≡ child q m → (p ≡ q) × (n ≡ m)
child_same p q zero zero e = (omega arith, refl)
child_same p q zero (suc m) e = absurd (omega arith)
child_same p q (suc n) zero e = absurd (omega arith)
child_same p q (suc n) (suc m) e = let d : child p n ≡ child q m = omega arith in let h = child_same p q n m d in (h.0, ap suc h.1)

-- whoever comes of a pass has no smaller number
pub descends_above : (number d : ℕ) → Descends number d → number ≤ d
descends_above number d (itself e) = omega (arith, e)
descends_above number d (onward parent n e from) = let rest = descends_above number parent from in let up = child_above parent n in omega (arith, e)

-- who comes of a pass's child comes of the pass
pub descends_from_child : (number n d : ℕ) → Descends (child number n) d → Descends number d
descends_from_child number n d (itself e) = onward number n e (itself refl)
descends_from_child number n d (onward parent m e from) = onward parent m e (descends_from_child number n parent from)

-- nobody that comes of a pass that is yet to be split has been met
pub no_descendants : (faces : List Face) → Numbers faces → (id : ℕ) (f : Face) → get_elem? faces id ≡ some f → f.live ≡ true → (n d : ℕ) → f.splits ≤ n → Descends (child f.number n) d
    → (k : ℕ) (g : Face) → get_elem? faces k ≡ some g → (Has d g.numbers ⊎ Has d g.born) → ⊥
no_descendants faces ok id f at live n d le (itself e) k g there has = ok.unborn n id k f g at there live le (subst (λ (c : ℕ). Has c g.numbers ⊎ Has c g.born) e has)
no_descendants faces ok id f at live n d le (onward parent m e from) k g there has =
    let never = no_descendants faces ok id f at live n parent le from in
    ⊎_elim
    (λ (a : Has d g.numbers). ⊎_elim
    (λ (z : d ≡ 0). let up = child_above parent m in omega (arith, e))
    (λ (y : (k : ℕ) × (u : Face) × (p : ℕ) × (n : ℕ) × (get_elem? faces k ≡ some u) × (d ≡ child p n) × Has p u.numbers × Has d u.born).
    never y.0 y.1 y.4 (inl (subst (λ (c : ℕ). Has c y.1.numbers) (sym (child_same parent y.2 m y.3 (sym e ∙ y.5)).0) y.6)))
    (ok.parents d k g there a))
    (λ (b : Has d g.born). let y = ok.births d k g there b in never k g there (inl (subst (λ (c : ℕ). Has c g.numbers) (sym (child_same parent y.0 m y.1 (sym e ∙ y.2)).0) y.3)))
    has

module _ (faces : List Face) (ok : Numbers faces) (id : ℕ) (f : Face) (at_id : get_elem? faces id ≡ some f) (live : f.live ≡ true) where
  abbrev c : ℕ
  c = child f.number f.splits

  abbrev split : List Face
  split = set faces id (parent_face f) ++ child_face f ∷ []

  unborn_c : (k : ℕ) (g : Face) → get_elem? faces k ≡ some g → (Has c g.numbers ⊎ Has c g.born) → ⊥
  unborn_c k g e h = ok.unborn f.splits id k f g at_id e live (le_refl f.splits) h

  -- a face of the new list is the new one, the parent's, or an old one
  of_split : (j : ℕ) (g : Face) → get_elem? split j ≡ some g → ((j ≡ length faces) × (child_face f ≡ g)) ⊎ (((j ≡ id) × (parent_face f ≡ g)) ⊎ ((j ≢ id) × (get_elem? faces j ≡ some g)))
  of_split j g e = ⊎_elim (λ (x : (j ≡ length (set faces id (parent_face f))) × (child_face f ≡ g)). inl (x.0 ∙ length-set faces id (parent_face f), x.1))
      (λ (x : get_elem? (set faces id (parent_face f)) j ≡ some g). inr (at_set faces id j (parent_face f) g x)) (of_snoc (set faces id (parent_face f)) (child_face f) g j e)

  num : (j : ℕ) (g : Face) (x : ℕ) → get_elem? split j ≡ some g → Has x g.numbers → ((j ≡ length faces) × (x ≡ c)) ⊎ ((h : Face) × (get_elem? faces j ≡ some h) × Has x h.numbers)
  num j g x e has = ⊎_elim
      (λ (t : (j ≡ length faces) × (child_face f ≡ g)). ⊎_elim (λ (same : x ≡ c). inl (t.0, same)) (λ (no : ⊥). absurd no) (subst (λ (h : Face). Has x h.numbers) (sym t.1) has))
      (λ (t : ((j ≡ id) × (parent_face f ≡ g)) ⊎ ((j ≢ id) × (get_elem? faces j ≡ some g))). ⊎_elim
      (λ (u : (j ≡ id) × (parent_face f ≡ g)). inr (f, subst (λ (n : ℕ). get_elem? faces n ≡ some f) (sym u.0) at_id, subst (λ (h : Face). Has x h.numbers) (sym u.1) has))
      (λ (u : (j ≢ id) × (get_elem? faces j ≡ some g)). inr (g, u.1, has)) t)
      (of_split j g e)

  bor : (j : ℕ) (g : Face) (x : ℕ) → get_elem? split j ≡ some g → Has x g.born → ((j ≡ id) × (x ≡ c)) ⊎ ((h : Face) × (get_elem? faces j ≡ some h) × Has x h.born)
  bor j g x e has = ⊎_elim
      (λ (t : (j ≡ length faces) × (child_face f ≡ g)). absurd (subst (λ (h : Face). Has x h.born) (sym t.1) has))
      (λ (t : ((j ≡ id) × (parent_face f ≡ g)) ⊎ ((j ≢ id) × (get_elem? faces j ≡ some g))). ⊎_elim
      (λ (u : (j ≡ id) × (parent_face f ≡ g)). ⊎_elim (λ (same : x ≡ c). inl (u.0, same)) (λ (old : Has x f.born). inr (f, subst (λ (n : ℕ). get_elem? faces n ≡ some f) (sym u.0) at_id, old)) (subst (λ (h : Face). Has x h.born) (sym u.1) has))
      (λ (u : (j ≢ id) × (get_elem? faces j ≡ some g)). inr (g, u.1, has)) t)
      (of_split j g e)

  forth : (j : ℕ) (h : Face) → get_elem? faces j ≡ some h → (g : Face) × (get_elem? split j ≡ some g) × ((x : ℕ) → Has x h.numbers → Has x g.numbers) × ((x : ℕ) → Has x h.born → Has x g.born)
  forth j h e = dite (ℕ_discrete j id)
      (λ is. let same : h ≡ f = get_one faces id h f (subst (λ (n : ℕ). get_elem? faces n ≡ some h) is e) at_id in (
        parent_face f,
        at_longer (set faces id (parent_face f)) (child_face f ∷ []) j (parent_face f) (subst (λ (n : ℕ). get_elem? (set faces id (parent_face f)) n ≡ some (parent_face f)) (sym is) (set_got faces id f (parent_face f) at_id)),
        (λ x has. subst (λ (u : Face). Has x u.numbers) same has),
        (λ x has. inr (subst (λ (u : Face). Has x u.born) same has)),
      ))
      (λ other. (h, at_longer (set faces id (parent_face f)) (child_face f ∷ []) j h (set_else faces id j (parent_face f) other ∙ e), (λ x has. has), (λ x has. has)))

  parent_there : get_elem? split id ≡ some (parent_face f)
  parent_there = at_longer (set faces id (parent_face f)) (child_face f ∷ []) id (parent_face f) (set_got faces id f (parent_face f) at_id)

  -- of a face of the new list, which descendants are not born
  still : (n j k : ℕ) (g h : Face) → get_elem? split j ≡ some g → get_elem? split k ≡ some h → g.live ≡ true → g.splits ≤ n
      → (child g.number n ≢ c) × ((m : ℕ) (o : Face) → get_elem? faces m ≡ some o → (Has (child g.number n) o.numbers ⊎ Has (child g.number n) o.born) → ⊥)
  still n j k g h p q l le = ⊎_elim
      (λ (t : (j ≡ length faces) × (child_face f ≡ g)). let P : Face → Type 0 = λ u. (child u.number n ≢ c) × ((m : ℕ) (o : Face) → get_elem? faces m ≡ some o → (Has (child u.number n) o.numbers ⊎ Has (child u.number n) o.born) → ⊥) in subst P t.1 (
        (λ e. let a = child_above c n in omega arith),
        λ m o e has. ⊎_elim
            (λ (a : Has (child c n) o.numbers). ⊎_elim
            (λ (z : child c n ≡ 0). let b = child_above c n in absurd (omega arith))
            (λ (y : (k : ℕ) × (u : Face) × (p : ℕ) × (n' : ℕ) × (get_elem? faces k ≡ some u) × (child c n ≡ child p n') × Has p u.numbers × Has (child c n) u.born). unborn_c y.0 y.1 y.4 (inl (subst (λ (z : ℕ). Has z y.1.numbers) (sym (child_same c y.2 n y.3 y.5).0) y.6)))
            (ok.parents (child c n) m o e a))
            (λ (b : Has (child c n) o.born). let y = ok.births (child c n) m o e b in unborn_c m o e (inl (subst (λ (z : ℕ). Has z o.numbers) (sym (child_same c y.0 n y.1 y.2).0) y.3)))
            has,
      ))
      (λ (t : ((j ≡ id) × (parent_face f ≡ g)) ⊎ ((j ≢ id) × (get_elem? faces j ≡ some g))). ⊎_elim
      (λ (u : (j ≡ id) × (parent_face f ≡ g)).
      let e1 : g.number ≡ f.number = ap (λ (z : Face). z.number) (sym u.1) in let e2 : g.splits ≡ suc f.splits = ap (λ (z : Face). z.splits) (sym u.1) in (
        (λ e. let y = child_same g.number f.number n f.splits e in omega arith),
        λ m o e has. ok.unborn n id m f o at_id e live (omega arith) (subst (λ (z : ℕ). Has (child z n) o.numbers ⊎ Has (child z n) o.born) e1 has),
      ))
      (λ (u : (j ≢ id) × (get_elem? faces j ≡ some g)). (
        (λ e. let y = child_same g.number f.number n f.splits e in u.0 (ok.sole g.number j id g f u.1 at_id (ok.mine j g u.1 l) (subst (λ (z : ℕ). Has z f.numbers) (sym y.0) (ok.mine id f at_id live)))),
        λ m o e has. ok.unborn n j m g o u.1 e l le has,
      ))
      t)
      (of_split j g p)

  pub numbers_split : Numbers split
  numbers_split = record {
    mine = λ j g e l. ⊎_elim
        (λ (t : (j ≡ length faces) × (child_face f ≡ g)). subst (λ (h : Face). Has h.number h.numbers) t.1 (inl refl))
        (λ (t : ((j ≡ id) × (parent_face f ≡ g)) ⊎ ((j ≢ id) × (get_elem? faces j ≡ some g))). ⊎_elim
        (λ (u : (j ≡ id) × (parent_face f ≡ g)). subst (λ (h : Face). Has h.number h.numbers) u.1 (ok.mine id f at_id live))
        (λ (u : (j ≢ id) × (get_elem? faces j ≡ some g)). ok.mine j g u.1 l) t)
        (of_split j g e);
    sole = λ x j k g h p q a b. ⊎_elim
        (λ (t : (j ≡ length faces) × (x ≡ c)). ⊎_elim
        (λ (u : (k ≡ length faces) × (x ≡ c)). t.0 ∙ sym u.0)
        (λ (u : (o : Face) × (get_elem? faces k ≡ some o) × Has x o.numbers). absurd (unborn_c k u.0 u.1 (inl (subst (λ (z : ℕ). Has z u.0.numbers) t.1 u.2))))
        (num k h x q b))
        (λ (t : (o : Face) × (get_elem? faces j ≡ some o) × Has x o.numbers). ⊎_elim
        (λ (u : (k ≡ length faces) × (x ≡ c)). absurd (unborn_c j t.0 t.1 (inl (subst (λ (z : ℕ). Has z t.0.numbers) u.1 t.2))))
        (λ (u : (o : Face) × (get_elem? faces k ≡ some o) × Has x o.numbers). ok.sole x j k t.0 u.0 t.1 u.1 t.2 u.2)
        (num k h x q b))
        (num j g x p a);
    once = λ j g p. ⊎_elim
        (λ (t : (j ≡ length faces) × (child_face f ≡ g)). subst (λ (h : Face). NoRepeats h.numbers) t.1 ((λ no. no), tt))
        (λ (t : ((j ≡ id) × (parent_face f ≡ g)) ⊎ ((j ≢ id) × (get_elem? faces j ≡ some g))). ⊎_elim
        (λ (u : (j ≡ id) × (parent_face f ≡ g)). subst (λ (h : Face). NoRepeats h.numbers) u.1 (ok.once id f at_id))
        (λ (u : (j ≢ id) × (get_elem? faces j ≡ some g)). ok.once j g u.1) t)
        (of_split j g p);
    unborn = λ n j k g h p q l le has. let y = still n j k g h p q l le in ⊎_elim
        (λ (a : Has (child g.number n) h.numbers). ⊎_elim (λ (t : (k ≡ length faces) × (child g.number n ≡ c)). y.0 t.1) (λ (t : (o : Face) × (get_elem? faces k ≡ some o) × Has (child g.number n) o.numbers). y.1 k t.0 t.1 (inl t.2)) (num k h (child g.number n) q a))
        (λ (b : Has (child g.number n) h.born). ⊎_elim (λ (t : (k ≡ id) × (child g.number n ≡ c)). y.0 t.1) (λ (t : (o : Face) × (get_elem? faces k ≡ some o) × Has (child g.number n) o.born). y.1 k t.0 t.1 (inr t.2)) (bor k h (child g.number n) q b))
        has;
    parents = λ x j g p has. ⊎_elim
        (λ (t : (j ≡ length faces) × (x ≡ c)). inr (id, parent_face f, f.number, f.splits, parent_there, t.1, ok.mine id f at_id live, inl t.1))
        (λ (t : (o : Face) × (get_elem? faces j ≡ some o) × Has x o.numbers). ⊎_elim
        (λ (z : x ≡ 0). inl z)
        (λ (y : (k : ℕ) × (u : Face) × (p : ℕ) × (n : ℕ) × (get_elem? faces k ≡ some u) × (x ≡ child p n) × Has p u.numbers × Has x u.born). let w = forth y.0 y.1 y.4 in inr (y.0, w.0, y.2, y.3, w.1, y.5, w.2 y.2 y.6, w.3 x y.7))
        (ok.parents x j t.0 t.1 t.2))
        (num j g x p has);
    births = λ x j g p has. ⊎_elim
        (λ (t : (j ≡ id) × (x ≡ c)). let same : g ≡ parent_face f = get_one split id g (parent_face f) (subst (λ (n : ℕ). get_elem? split n ≡ some g) t.0 p) parent_there in
        (f.number, f.splits, t.1, subst (λ (h : Face). Has f.number h.numbers) (sym same) (ok.mine id f at_id live)))
        (λ (t : (o : Face) × (get_elem? faces j ≡ some o) × Has x o.born). let y = ok.births x j t.0 t.1 t.2 in let w = forth j t.0 t.1 in
        (y.0, y.1, y.2, subst (λ (h : Face). Has y.0 h.numbers) (get_one split j w.0 g w.1 p) (w.2 y.0 y.3)))
        (bor j g x p has);
  }

  pub callers_split : (log : History) → Callers log faces → Callers log split
  callers_split log cs x none_has = cs x (λ j h e has. let w = forth j h e in none_has j w.0 w.1 (w.2 x has))

module _ (faces : List Face) (ok : Numbers faces) (id other : ℕ) (f g : Face) (at_id : get_elem? faces id ≡ some f) (at_other : get_elem? faces other ≡ some g) (apart : other ≢ id) where
  abbrev J : Face
  J = joint_face f g

  abbrev joined : List Face
  joined = set (set faces id J) other no_face

  of_join : (j : ℕ) (h : Face) → get_elem? joined j ≡ some h → ((j ≡ other) × (no_face ≡ h)) ⊎ (((j ≡ id) × (J ≡ h)) ⊎ ((j ≢ other) × (get_elem? faces j ≡ some h)))
  of_join j h e = ⊎_elim
      (λ (t : (j ≡ other) × (no_face ≡ h)). inl t)
      (λ (t : (j ≢ other) × (get_elem? (set faces id J) j ≡ some h)). ⊎_elim
      (λ (u : (j ≡ id) × (J ≡ h)). inr (inl u))
      (λ (u : (j ≢ id) × (get_elem? faces j ≡ some h)). inr (inr (t.0, u.1)))
      (at_set faces id j J h t.1))
      (at_set (set faces id J) other j no_face h e)

  Old : (Face → List ℕ) → ℕ → Face → ℕ → Type 0
  Old of j h x = (o : Face) × (m : ℕ) × (get_elem? faces m ≡ some o) × Has x (of o) × (j ≢ other) × ((m ≡ j) ⊎ ((j ≡ id) × (m ≡ other))) × ((p : ℕ) → Has p o.numbers → Has p h.numbers)

  old : (of : Face → List ℕ) → ((x : ℕ) → Has x (of J) → Has x (of f) ⊎ Has x (of g)) → of no_face ≡ [] → (j : ℕ) (h : Face) (x : ℕ) → get_elem? joined j ≡ some h → Has x (of h) → Old of j h x
  unfolding Old
  old of parts empty j h x e has = ⊎_elim
      (λ (t : (j ≡ other) × (no_face ≡ h)). absurd (subst (Has x) empty (subst (λ (z : Face). Has x (of z)) (sym t.1) has)))
      (λ (t : ((j ≡ id) × (J ≡ h)) ⊎ ((j ≢ other) × (get_elem? faces j ≡ some h))). ⊎_elim
      (λ (u : (j ≡ id) × (J ≡ h)). let away : j ≢ other = λ z. apart (sym z ∙ u.0) in ⊎_elim
      (λ (a : Has x (of f)). (f, j, subst (λ (n : ℕ). get_elem? faces n ≡ some f) (sym u.0) at_id, a, away, inl refl, λ p b. subst (λ (z : Face). Has p z.numbers) u.1 (has_front p f.numbers g.numbers b)))
      (λ (a : Has x (of g)). (g, other, at_other, a, away, inr (u.0, refl), λ p b. subst (λ (z : Face). Has p z.numbers) u.1 (has_back p f.numbers g.numbers b)))
      (parts x (subst (λ (z : Face). Has x (of z)) (sym u.1) has)))
      (λ (u : (j ≢ other) × (get_elem? faces j ≡ some h)). (h, j, u.1, has, u.0, inl refl, λ p b. b)) t)
      (of_join j h e)

  num_joined : (j : ℕ) (h : Face) (x : ℕ) → get_elem? joined j ≡ some h → Has x h.numbers → Old (λ o. o.numbers) j h x
  num_joined = old (λ o. o.numbers) (λ x a. has_either x f.numbers g.numbers a) refl

  bor_joined : (j : ℕ) (h : Face) (x : ℕ) → get_elem? joined j ≡ some h → Has x h.born → Old (λ o. o.born) j h x
  bor_joined = old (λ o. o.born) (λ x a. has_either x f.born g.born a) refl

  forth_joined : (j : ℕ) (o : Face) → get_elem? faces j ≡ some o → (k : ℕ) × (h : Face) × (get_elem? joined k ≡ some h) × ((x : ℕ) → Has x o.numbers → Has x h.numbers) × ((x : ℕ) → Has x o.born → Has x h.born)
  forth_joined j o e =
      let there : get_elem? joined id ≡ some J = set_else (set faces id J) other id no_face (λ z. apart (sym z)) ∙ set_got faces id f J at_id in
      dite (ℕ_discrete j id)
      (λ is. let same : o ≡ f = get_one faces id o f (subst (λ (n : ℕ). get_elem? faces n ≡ some o) is e) at_id in
      (id, J, there, (λ x a. has_front x f.numbers g.numbers (subst (λ (z : Face). Has x z.numbers) same a)), (λ x a. has_front x f.born g.born (subst (λ (z : Face). Has x z.born) same a))))
      (λ not_id. dite (ℕ_discrete j other)
      (λ is. let same : o ≡ g = get_one faces other o g (subst (λ (n : ℕ). get_elem? faces n ≡ some o) is e) at_other in
      (id, J, there, (λ x a. has_back x f.numbers g.numbers (subst (λ (z : Face). Has x z.numbers) same a)), (λ x a. has_back x f.born g.born (subst (λ (z : Face). Has x z.born) same a))))
      (λ not_other. (j, o, set_else (set faces id J) other j no_face not_other ∙ (set_else faces id j J not_id ∙ e), (λ x a. a), (λ x a. a))))

  alive : (j : ℕ) (h : Face) → get_elem? joined j ≡ some h → h.live ≡ true → (o : Face) × (get_elem? faces j ≡ some o) × (o.live ≡ true) × (o.number ≡ h.number) × (o.splits ≡ h.splits) × ((p : ℕ) → Has p o.numbers → Has p h.numbers)
  alive j h e l = ⊎_elim
      (λ (t : (j ≡ other) × (no_face ≡ h)). absurd (true≢false (sym (ap (λ (z : Face). z.live) t.1 ∙ l))))
      (λ (t : ((j ≡ id) × (J ≡ h)) ⊎ ((j ≢ other) × (get_elem? faces j ≡ some h))). ⊎_elim
      (λ (u : (j ≡ id) × (J ≡ h)). (f, subst (λ (n : ℕ). get_elem? faces n ≡ some f) (sym u.0) at_id, ap (λ (z : Face). z.live) u.1 ∙ l, ap (λ (z : Face). z.number) u.1, ap (λ (z : Face). z.splits) u.1, λ p b. subst (λ (z : Face). Has p z.numbers) u.1 (has_front p f.numbers g.numbers b)))
      (λ (u : (j ≢ other) × (get_elem? faces j ≡ some h)). (h, u.1, l, refl, refl, λ p b. b)) t)
      (of_join j h e)

  pub numbers_join : Numbers joined
  unfolding Old
  numbers_join = record {
    mine = λ j h e l. let y = alive j h e l in y.5 h.number (subst (λ (n : ℕ). Has n y.0.numbers) y.3 (ok.mine j y.0 y.1 y.2));
    sole = λ x j k h h' p q a b. let y = num_joined j h x p a in let z = num_joined k h' x q b in let same : y.1 ≡ z.1 = ok.sole x y.1 z.1 y.0 z.0 y.2 z.2 y.3 z.3 in ⊎_elim
        (λ (mj : y.1 ≡ j). ⊎_elim
        (λ (mk : z.1 ≡ k). sym mj ∙ (same ∙ mk))
        (λ (mk : (k ≡ id) × (z.1 ≡ other)). absurd (y.4 (sym mj ∙ (same ∙ mk.1)))) z.5)
        (λ (mj : (j ≡ id) × (y.1 ≡ other)). ⊎_elim
        (λ (mk : z.1 ≡ k). absurd (z.4 (sym mk ∙ (sym same ∙ mj.1))))
        (λ (mk : (k ≡ id) × (z.1 ≡ other)). mj.0 ∙ sym mk.0) z.5)
        y.5;
    once = λ j h p. ⊎_elim
        (λ (t : (j ≡ other) × (no_face ≡ h)). subst (λ (z : Face). NoRepeats z.numbers) t.1 tt)
        (λ (t : ((j ≡ id) × (J ≡ h)) ⊎ ((j ≢ other) × (get_elem? faces j ≡ some h))). ⊎_elim
        (λ (u : (j ≡ id) × (J ≡ h)). subst (λ (z : Face). NoRepeats z.numbers) u.1
        (no_repeats_both f.numbers g.numbers (ok.once id f at_id) (ok.once other g at_other) (λ x a b. apart (ok.sole x other id g f at_other at_id b a))))
        (λ (u : (j ≢ other) × (get_elem? faces j ≡ some h)). ok.once j h u.1) t)
        (of_join j h p);
    unborn = λ n j k h h' p q l le has. let y = alive j h p l in
        let less : y.0.splits ≤ n = omega (arith, y.4) in
        let P : ℕ → (m : ℕ) → Face → Type 0 = λ num_joined m o. (Has (child num_joined n) o.numbers ⊎ Has (child num_joined n) o.born) in
        ⊎_elim
        (λ (a : Has (child h.number n) h'.numbers). let z = num_joined k h' (child h.number n) q a in ok.unborn n j z.1 y.0 z.0 y.1 z.2 y.2 less (inl (subst (λ (u : ℕ). Has (child u n) z.0.numbers) (sym y.3) z.3)))
        (λ (b : Has (child h.number n) h'.born). let z = bor_joined k h' (child h.number n) q b in ok.unborn n j z.1 y.0 z.0 y.1 z.2 y.2 less (inr (subst (λ (u : ℕ). Has (child u n) z.0.born) (sym y.3) z.3)))
        has;
    parents = λ x j h p has. let y = num_joined j h x p has in ⊎_elim
        (λ (z : x ≡ 0). inl z)
        (λ (z : (k : ℕ) × (u : Face) × (p : ℕ) × (n : ℕ) × (get_elem? faces k ≡ some u) × (x ≡ child p n) × Has p u.numbers × Has x u.born). let w = forth_joined z.0 z.1 z.4 in inr (w.0, w.1, z.2, z.3, w.2, z.5, w.3 z.2 z.6, w.4 x z.7))
        (ok.parents x y.1 y.0 y.2 y.3);
    births = λ x j h p has. let y = bor_joined j h x p has in let z = ok.births x y.1 y.0 y.2 y.3 in (z.0, z.1, z.2, y.6 z.0 z.3);
  }

  pub callers_join : (log : History) → Callers log faces → Callers log joined
  callers_join log cs x none_has = cs x (λ j o e has. let w = forth_joined j o e in none_has w.0 w.1 w.2 (w.3 x has))
