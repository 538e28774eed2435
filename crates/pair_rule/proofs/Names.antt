-- Names and flags after one entry more, and the root pairs that two views have for them.
use Rattle.std.proofs.Common.{◌≡◌, ℕ, List, [], ◌∷◌, ◌++◌, length, Bool, true, false, Option, Some, None, refl, sym, ap, ◌∙◌, subst, inl, inr, ⊎_elim, append-nil}
use Rattle.std.specs.Prelude.{if◌then◌else◌}
use Rattle.std.proofs.lemmas.List.Sums.{fold-append}
use Rattle.tree_shape.specs.Tree.{Has, RootStands, IsPart}
use Rattle.tree_shape.proofs.Trees.{stands_more}
use Rattle.tdb_base.specs.History.{Vector, Put, Entry, History, names, same, name_of, flags_of, flags_after}
use Rattle.tdb_base.specs.Legal.{IsLegal, Extends}
use Rattle.tdb_base.proofs.NameLemmas.{name-push, name-kept, same-refl, keeps-names}
use Rattle.pair_rule.specs.declared.sizes.About.{About}
use Rattle.pair_rule.specs.Rule.{Named}
use Rattle.pair_rule.proofs.Lists.{has_front, has_back, has_either}

-- two histories name the same vectors with the same identifiers, and give them the same flags
pub record SameNames (h g : History) : Type 0 where
  pub names_are : (v : Vector) → name_of g v ≡ name_of h v
  pub flags_are : (v : Vector) → flags_of g v ≡ flags_of h v

pub flags_push : (h : History) (e : Entry) (v : Vector) → flags_of (h ++ e ∷ []) v ≡ (if same e.vector v then flags_after e.act (flags_of h v) else flags_of h v)
unfolding flags_of
flags_push h e v = fold-append (λ (now : Option ℕ) (x : Entry). if same x.vector v then flags_after x.act now else now) None h (e ∷ [])

-- no entry, or one that found its vector, changes none
pub same_none : (h : History) → SameNames h (h ++ [])
same_none h = record { names_are = λ v. ap (λ (x : History). name_of x v) (append-nil h); flags_are = λ v. ap (λ (x : History). flags_of x v) (append-nil h) }

pub same_seen : (h : History) (e : Entry) → e.act ≡ Put false → SameNames h (h ++ e ∷ [])
same_seen h e seen = record {
  names_are = λ v. name-push h e v ∙ rw seen refl;
  flags_are = λ v. flags_push h e v ∙ rw seen (by v (same e.vector v));
}
  where
    by : (v : Vector) (b : Bool) → (if b then flags_of h v else flags_of h v) ≡ flags_of h v
    by v true = refl
    by v false = refl

-- a fresh entry gives its vector a name and no flag, and changes nothing for others
pub fresh_flags : (h : History) (e : Entry) → e.act ≡ Put true → flags_of (h ++ e ∷ []) e.vector ≡ Some 0
fresh_flags h e fresh = flags_push h e e.vector ∙ rw (fresh, same-refl e.vector) refl

pub other_flags : (h : History) (e : Entry) (v : Vector) → same e.vector v ≡ false → flags_of (h ++ e ∷ []) v ≡ flags_of h v
other_flags h e v other = flags_push h e v ∙ rw other refl

pub named_same : (about : About) (known : List (ℕ × ℕ)) (h g : History) (roots : List (ℕ × ℕ)) → SameNames h g → Named about known h roots → Named about known g roots
named_same about known h g roots s n = record {
  each = λ v id p. n.each v id (sym (s.names_are v) ∙ p);
  only = λ id pair has. let o = n.only id pair has in (o.0, s.names_are o.0 ∙ o.1, o.2, o.3);
}

pub root_more : (about : About) (known more : List (ℕ × ℕ)) (pair : ℕ) (v : Vector) → IsPart known more → RootStands about.width about.slots known pair v → RootStands about.width about.slots more pair v
root_more about known more pair v part s = (stands_more about.width about.slots known more v 2 _ part s.0, stands_more about.width about.slots known more v 3 _ part s.1)

-- what a view knows of the whole history, with what another knows of a front of it
pub named_caught : (about : About) (known others : List (ℕ × ℕ)) (log seen : History) (roots more : List (ℕ × ℕ)) → IsLegal about.flags log → Extends seen log
    → Named about known log roots → Named about others seen more → Named about (known ++ others) log (roots ++ more)
named_caught about known others log seen roots more legal front a b = record {
  each = λ v id p. let n = a.each v id p in (n.0, has_front (id, n.0) roots more n.1);
  only = λ id pair has. ⊎_elim
      (λ (h : Has (id, pair) roots). let o = a.only id pair h in (o.0, o.1, root_more about known (known ++ others) pair o.0 (λ i x k. has_front (i, x) known others k) o.2, o.3))
      (λ (h : Has (id, pair) more). let o = b.only id pair h in (o.0, keeps-names about.flags seen log legal front o.0 id o.1, root_more about others (known ++ others) pair o.0 (λ i x k. has_back (i, x) known others k) o.2, o.3))
      (has_either (id, pair) roots more has);
}

-- with one name more
pub named_fresh : (about : About) (known : List (ℕ × ℕ)) (log : History) (roots : List (ℕ × ℕ)) (e : Entry) (pair : ℕ) → IsLegal about.flags (log ++ e ∷ []) → e.act ≡ Put true
    → RootStands about.width about.slots known pair e.vector → length e.vector ≡ about.slots → Named about known log roots → Named about known (log ++ e ∷ []) ((e.id, pair) ∷ roots)
named_fresh about known log roots e pair legal fresh stands long n = record {
  each = λ v id p. by v id (names e v) refl (sym (name-push log e v) ∙ p);
  only = λ id x has. ⊎_elim
      (λ (is : (id, x) ≡ (e.id, pair)). subst (λ (z : ℕ × ℕ). (v : Vector) × (name_of (log ++ e ∷ []) v ≡ Some z.0) × RootStands about.width about.slots known z.1 v × (length v ≡ about.slots)) (sym is)
      (e.vector, name-push log e e.vector ∙ rw (fresh, same-refl e.vector) refl, stands, long))
      (λ (h : Has (id, x) roots). let o = n.only id x h in (o.0, name-kept about.flags o.0 id log (e ∷ []) legal o.1, o.2, o.3))
      has;
}
  where
    by : (v : Vector) (id : ℕ) (b : Bool) → names e v ≡ b → (if b then Some e.id else name_of log v) ≡ Some id → (x : ℕ) × Has (id, x) ((e.id, pair) ∷ roots)
    by v id true t p = let is : id ≡ e.id = cc p in (pair, inl (λ i. (is i, pair)))
    by v id false t p = let old = n.each v id p in (old.0, inr old.1)
