-- Who filled which bucket, as nodes are put and passes are split and joined.
use Rattle.std.proofs.Common.{◌≡◌, ◌≢◌, ◌⊎◌, ℕ, List, [], ◌∷◌, ◌++◌, length, set, refl, sym, ◌∙◌, subst, inl, inr, ⊎_elim}
use mathlib.Core.Option.{some}
use mathlib.Core.Logic.{dite}
use native.Mathlib.Decide.{ℕ_discrete}
use lib.ListN.{get_elem?}
use Rattle.atomic_table.proofs.Lists.{at_set, at_longer, set_else}
use Rattle.tree_shape.specs.Tree.{Has}
use Rattle.pair_rule.specs.Rule.{Made}
use Rattle.pair_rule.proofs.Lists.{has_front, has_back, has_either, set_got, get_one, of_snoc}

-- a bucket that nobody filled is filled
pub made_more : (size : ℕ) (w w' : ℕ → ℕ) (made : List (List ℕ)) (id i : ℕ) (is : List ℕ) → Made size w made → get_elem? made id ≡ some is → ((j : ℕ) (js : List ℕ) → get_elem? made j ≡ some js → Has i js → ⊥)
    → ((k : ℕ) → k ≢ i → w' k ≡ w k) → Made size w' (set made id (i ∷ is))
made_more size w w' made id i is m e free others = record {
  once = λ k a b as' bs p q h l. dite (ℕ_discrete a id)
      (λ ai. dite (ℕ_discrete b id)
      (λ bi. ai ∙ sym bi)
      (λ bn. let q' : get_elem? made b ≡ some bs = sym (set_else made id b (i ∷ is) bn) ∙ q in mixed k a b as' bs ai p q' h l))
      (λ an. let p' : get_elem? made a ≡ some as' = sym (set_else made id a (i ∷ is) an) ∙ p in dite (ℕ_discrete b id)
      (λ bi. sym (mixed k b a bs as' bi q p' l h))
      (λ bn. let q' : get_elem? made b ≡ some bs = sym (set_else made id b (i ∷ is) bn) ∙ q in m.once k a b as' bs p' q' h l));
  all = λ k inside used. dite (ℕ_discrete k i)
      (λ ki. (id, i ∷ is, set_got made id is (i ∷ is) e, inl ki))
      (λ kn. let old = m.all k inside (λ z. used (others k kn ∙ z)) in dite (ℕ_discrete old.0 id)
      (λ at_id. let same : old.1 ≡ is = get_one made id old.1 is (subst (λ (n : ℕ). get_elem? made n ≡ some old.1) at_id old.2) e in (id, i ∷ is, set_got made id is (i ∷ is) e, inr (subst (Has k) same old.3)))
      (λ other. (old.0, old.1, set_else made id old.0 (i ∷ is) other ∙ old.2, old.3)));
}
  where
    mixed : (k a b : ℕ) (as' bs : List ℕ) → a ≡ id → get_elem? (set made id (i ∷ is)) a ≡ some as' → get_elem? made b ≡ some bs → Has k as' → Has k bs → a ≡ b
    mixed k a b as' bs ai p q h l =
        let same : as' ≡ i ∷ is = get_one (set made id (i ∷ is)) id as' (i ∷ is) (subst (λ (n : ℕ). get_elem? (set made id (i ∷ is)) n ≡ some as') ai p) (set_got made id is (i ∷ is) e) in
        ⊎_elim
        (λ (ki : k ≡ i). absurd (free b bs q (subst (λ (n : ℕ). Has n bs) ki l)))
        (λ (old : Has k is). m.once k a b is bs (subst (λ (n : ℕ). get_elem? made n ≡ some is) (sym ai) e) q old l)
        (subst (Has k) same h)

-- a view more, that made nothing
pub made_snoc : (size : ℕ) (w : ℕ → ℕ) (made : List (List ℕ)) → Made size w made → Made size w (made ++ [] ∷ [])
made_snoc size w made m = record {
  once = λ i j k is js p q a b. ⊎_elim
      (λ (t : (j ≡ length made) × ([] ≡ is)). absurd (subst (Has i) (sym t.1) a))
      (λ (t : get_elem? made j ≡ some is). ⊎_elim
      (λ (u : (k ≡ length made) × ([] ≡ js)). absurd (subst (Has i) (sym u.1) b))
      (λ (u : get_elem? made k ≡ some js). m.once i j k is js t u a b)
      (of_snoc made [] js k q))
      (of_snoc made [] is j p);
  all = λ i inside used. let y = m.all i inside used in (y.0, y.1, at_longer made ([] ∷ []) y.0 y.1 y.2, y.3);
}

-- two views as one
pub made_join : (size : ℕ) (w : ℕ → ℕ) (made : List (List ℕ)) (id other : ℕ) (is js : List ℕ) → Made size w made → get_elem? made id ≡ some is → get_elem? made other ≡ some js → other ≢ id → Made size w (set (set made id (is ++ js)) other [])
made_join size w made id other is js m e f apart = record {
  once = λ i j k as' bs p q a b. let y = from i j as' p a in let z = from i k bs q b in let same : y.1 ≡ z.1 = m.once i y.1 z.1 y.0 z.0 y.2 z.2 y.3 z.3 in ⊎_elim
      (λ (mj : y.1 ≡ j). ⊎_elim
      (λ (mk : z.1 ≡ k). sym mj ∙ (same ∙ mk))
      (λ (mk : (k ≡ id) × (z.1 ≡ other)). absurd (y.4 (sym mj ∙ (same ∙ mk.1)))) z.5)
      (λ (mj : (j ≡ id) × (y.1 ≡ other)). ⊎_elim
      (λ (mk : z.1 ≡ k). absurd (z.4 (sym mk ∙ (sym same ∙ mj.1))))
      (λ (mk : (k ≡ id) × (z.1 ≡ other)). mj.0 ∙ sym mk.0) z.5)
      y.5;
  all = λ i inside used. let y = m.all i inside used in
      let there : get_elem? (set (set made id (is ++ js)) other []) id ≡ some (is ++ js) = set_else (set made id (is ++ js)) other id [] (λ z. apart (sym z)) ∙ set_got made id is (is ++ js) e in
      dite (ℕ_discrete y.0 id)
      (λ z. (id, is ++ js, there, has_front i is js (subst (Has i) (get_one made id y.1 is (subst (λ (n : ℕ). get_elem? made n ≡ some y.1) z y.2) e) y.3)))
      (λ not_id. dite (ℕ_discrete y.0 other)
      (λ z. (id, is ++ js, there, has_back i is js (subst (Has i) (get_one made other y.1 js (subst (λ (n : ℕ). get_elem? made n ≡ some y.1) z y.2) f) y.3)))
      (λ not_other. (y.0, y.1, set_else (set made id (is ++ js)) other y.0 [] not_other ∙ (set_else made id y.0 (is ++ js) not_id ∙ y.2), y.3)));
}
  where
    from : (i j : ℕ) (as' : List ℕ) → get_elem? (set (set made id (is ++ js)) other []) j ≡ some as' → Has i as'
        → (os : List ℕ) × (m' : ℕ) × (get_elem? made m' ≡ some os) × Has i os × (j ≢ other) × ((m' ≡ j) ⊎ ((j ≡ id) × (m' ≡ other)))
    from i j as' p a = ⊎_elim
        (λ (t : (j ≡ other) × ([] ≡ as')). absurd (subst (Has i) (sym t.1) a))
        (λ (t : (j ≢ other) × (get_elem? (set made id (is ++ js)) j ≡ some as')). ⊎_elim
        (λ (u : (j ≡ id) × (is ++ js ≡ as')). ⊎_elim
        (λ (b : Has i is). (is, j, subst (λ (n : ℕ). get_elem? made n ≡ some is) (sym u.0) e, b, t.0, inl refl))
        (λ (b : Has i js). (js, other, f, b, t.0, inr (u.0, refl)))
        (has_either i is js (subst (Has i) (sym u.1) a)))
        (λ (u : (j ≢ id) × (get_elem? made j ≡ some as')). (as', j, u.1, a, t.0, inl refl))
        (at_set made id j (is ++ js) as' t.1))
        (at_set (set made id (is ++ js)) other j [] as' p)
