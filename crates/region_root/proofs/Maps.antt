-- What an act on a root does to the maps of all regions.
use Rattle.std.proofs.Common.{◌≡◌, ◌≢◌, ◌⊎◌, ℕ, List, [], ◌∷◌, ◌++◌, Bool, true, false, Some, None, refl, sym, ap, ◌∙◌, subst, inl, inr, ⊎_elim, eq-eqb, ne_eqb}
use Rattle.std.specs.Prelude.{if◌then◌else◌, ◌==◌, ◌&&◌}
use mathlib.Core.Logic.{dite}
use native.Mathlib.Decide.{ℕ_discrete}
use Rattle.tree_shape.specs.Tree.{Has}
use Rattle.tdb_base.specs.History.{Vector, Act, Put, Entry, History, is_fresh, names, name_of, flags_of, flags_after, same}
use Rattle.tdb_base.specs.Legal.{Allows, IsLegal}
use Rattle.tdb_base.proofs.NameLemmas.{name-push, names-this, names-differ, same-refl, same-equal, allowed-fresh, allowed-other}
use Rattle.pair_rule.specs.declared.sizes.About.{About}
use Rattle.pair_rule.proofs.Names.{flags_push, fresh_flags, other_flags}
use Rattle.region_root.specs.Layout.{region_of}
use Rattle.region_root.specs.Maps.{IsMapOf, with_flag_set}

-- a map with one root's flags set
pub in_flagged : (x f : ℕ) (map : List (ℕ × ℕ)) (id k : ℕ) → Has (id, k) map → Has (id, if id == x then f else k) (with_flag_set x f map)
in_flagged x f [] id k h = absurd h
in_flagged x f (r ∷ map) id k h = ⊎_elim
    (λ (e : (id, k) ≡ r). inl (ap (λ (p : ℕ × ℕ). (p.0, if p.0 == x then f else p.1)) e))
    (λ (t : Has (id, k) map). inr (in_flagged x f map id k t))
    h

pub of_flagged : (x f : ℕ) (map : List (ℕ × ℕ)) (id k : ℕ) → Has (id, k) (with_flag_set x f map) → (old : ℕ) × Has (id, old) map × (k ≡ (if id == x then f else old))
of_flagged x f [] id k h = absurd h
of_flagged x f (r ∷ map) id k h = ⊎_elim
    (λ (e : (id, k) ≡ (r.0, if r.0 == x then f else r.1)).
    let ids : id ≡ r.0 = ap (λ (p : ℕ × ℕ). p.0) e in
    (r.1, inl (λ i. (ids i, r.1)), ap (λ (p : ℕ × ℕ). p.1) e ∙ ap (λ (m : ℕ). if m == x then f else r.1) (sym ids)))
    (λ (t : Has (id, k) (with_flag_set x f map)). let o = of_flagged x f map id k t in (o.0, inr o.1, o.2))
    h

-- two maps of one region's names have the same roots with the same flags
same_members : (about : About) (g : ℕ) (log : History) (m m' : List (ℕ × ℕ)) → IsMapOf about g log m → IsMapOf about g log m' → (x f : ℕ) → Has (x, f) m → Has (x, f) m'
same_members about g log m m' a b x f h =
    let o = a.only x f h in
    let e = b.each o.1.0 x o.1.1 o.0 in
    subst (λ (k : ℕ). Has (x, k) m') (cc (e.1, o.1.2)) e.2

pub map_alike : (about : About) (g : ℕ) (log now : History) (m m' : List (ℕ × ℕ)) → IsMapOf about g log m → IsMapOf about g log m' → IsMapOf about g now m → IsMapOf about g now m'
map_alike about g log now m m' a b c = record {
  each = λ v id n here. let e = c.each v id n here in (e.0, e.1, same_members about g log m m' a b id e.0 e.2);
  only = λ id flags has. c.only id flags (same_members about g log m' m b a id flags has);
}

pub either_bool : (b : Bool) → (b ≡ true) ⊎ (b ≡ false)
either_bool true = inl refl
either_bool false = inr refl

-- two entries of other names are of other vectors
other_vector : (count : ℕ) (log : History) (e : Entry) (v : Vector) (id : ℕ) → Allows count log e.vector e.id e.act → name_of log v ≡ Some id → id ≢ e.id → same e.vector v ≡ false
other_vector count log e v id allowed n ne = by (same e.vector v) refl
  where
    by : (b : Bool) → same e.vector v ≡ b → b ≡ false
    by false t = refl
    by true t =
        let one = same-equal e.vector v t in
        let here : name_of log e.vector ≡ Some id = ap (λ (u : Vector). name_of log u) one ∙ n in
        ⊎_elim
        (λ (f : is_fresh e.act ≡ true). cc ((allowed-fresh count log e.vector e.id e.act allowed f).0, here))
        (λ (f : is_fresh e.act ≡ false). absurd (ne (cc (allowed-other count log e.vector e.id e.act allowed f, here))))
        (either_bool (is_fresh e.act))

-- what an entry leaves of another vector's name
other_name : (log : History) (e : Entry) (v : Vector) → same e.vector v ≡ false → name_of (log ++ e ∷ []) v ≡ name_of log v
other_name log e v other = name-push log e v ∙ by (is_fresh e.act)
  where
    by : (b : Bool) → (if (b && same e.vector v) then Some e.id else name_of log v) ≡ name_of log v
    by true = rw other refl
    by false = refl

module _ (about : About) (log : History) (e : Entry) (allowed : Allows about.flags log e.vector e.id e.act) where
  -- the map of a region to which the entry's root isn't split
  pub map_other : (g : ℕ) (map : List (ℕ × ℕ)) → region_of about e.id ≢ g → IsMapOf about g log map → IsMapOf about g (log ++ e ∷ []) map
  map_other g map far m = record {
    each = λ v id n here.
        let is = by v id here (names e v) refl (sym (name-push log e v) ∙ n) in
        let old = m.each v id is.0 here in
        (old.0, other_flags log e v is.1 ∙ old.1, old.2);
    only = λ id flags has.
        let o = m.only id flags has in
        let other = other_vector about.flags log e o.1.0 id allowed o.1.1 (λ z. far (ap (region_of about) (sym z) ∙ o.0)) in
        (o.0, (o.1.0, other_name log e o.1.0 other ∙ o.1.1, other_flags log e o.1.0 other ∙ o.1.2));
  }
    where
      by : (v : Vector) (id : ℕ) → region_of about id ≡ g → (b : Bool) → names e v ≡ b → (if b then Some e.id else name_of log v) ≡ Some id → (name_of log v ≡ Some id) × (same e.vector v ≡ false)
      by v id here true t n = absurd (far (ap (region_of about) (cc n) ∙ here))
      by v id here false t n = (n, other_vector about.flags log e v id allowed n (λ z. far (ap (region_of about) (sym z) ∙ here)))

  -- a fresh entry adds its root
  pub map_fresh : (map : List (ℕ × ℕ)) → IsLegal about.flags (log ++ e ∷ []) → e.act ≡ Put true → IsMapOf about (region_of about e.id) log map → IsMapOf about (region_of about e.id) (log ++ e ∷ []) ((e.id, 0) ∷ map)
  map_fresh map legal fresh m = record { each = λ v id n here. by v id here (names e v) refl (sym (name-push log e v) ∙ n); only = only }
    where
      no_name : name_of log e.vector ≡ None
      no_name = (allowed-fresh about.flags log e.vector e.id e.act allowed (ap is_fresh fresh)).0

      by : (v : Vector) (id : ℕ) → region_of about id ≡ region_of about e.id → (b : Bool) → names e v ≡ b → (if b then Some e.id else name_of log v) ≡ Some id
          → (flags : ℕ) × (flags_of (log ++ e ∷ []) v ≡ Some flags) × Has (id, flags) ((e.id, 0) ∷ map)
      by v id here true t n =
          let ids : id ≡ e.id = cc n in
          (0, ap (λ (u : Vector). flags_of (log ++ e ∷ []) u) (sym (names-this e v t).1) ∙ fresh_flags log e fresh, inl (λ i. (ids i, 0)))
      by v id here false t n =
          let old = m.each v id n here in
          let other : same e.vector v ≡ false = subst (λ (a : Act). (is_fresh a && same e.vector v) ≡ false) fresh t in
          (old.0, other_flags log e v other ∙ old.1, inr old.2)

      only : (id flags : ℕ) → Has (id, flags) ((e.id, 0) ∷ map) → (region_of about id ≡ region_of about e.id) × ((v : Vector) × (name_of (log ++ e ∷ []) v ≡ Some id) × (flags_of (log ++ e ∷ []) v ≡ Some flags))
      only id flags has = ⊎_elim
          (λ (z : (id, flags) ≡ (e.id, 0)).
          let ids : id ≡ e.id = ap (λ (p : ℕ × ℕ). p.0) z in
          let none : flags ≡ 0 = ap (λ (p : ℕ × ℕ). p.1) z in
          let name : name_of (log ++ e ∷ []) e.vector ≡ Some e.id = name-push log e e.vector ∙ rw (fresh, same-refl e.vector) refl in
          (ap (region_of about) ids, (e.vector, name ∙ ap Some (sym ids), fresh_flags log e fresh ∙ ap Some (sym none))))
          (λ (t : Has (id, flags) map).
          let o = m.only id flags t in
          let other : same e.vector o.1.0 ≡ false = differs o.1.0 id o.1.1 (same e.vector o.1.0) refl in
          (o.0, (o.1.0, other_name log e o.1.0 other ∙ o.1.1, other_flags log e o.1.0 other ∙ o.1.2)))
          has
        where
          differs : (v : Vector) (k : ℕ) → name_of log v ≡ Some k → (b : Bool) → same e.vector v ≡ b → b ≡ false
          differs v k n true t = let one : name_of log v ≡ None = ap (λ (u : Vector). name_of log u) (sym (same-equal e.vector v t)) ∙ no_name in cc (one, n)
          differs v k n false t = refl

  -- an entry that gives no name, and leaves its vector's flags f as f'
  module _ (legal : IsLegal about.flags log) (old_one : is_fresh e.act ≡ false) (f f' : ℕ) (flags_are : flags_of log e.vector ≡ Some f) (after : flags_after e.act (Some f) ≡ Some f') where
    named : name_of log e.vector ≡ Some e.id
    named = allowed-other about.flags log e.vector e.id e.act allowed old_one

    same_name : (v : Vector) → name_of (log ++ e ∷ []) v ≡ name_of log v
    same_name v = name-push log e v ∙ rw old_one refl

    flags_now : flags_of (log ++ e ∷ []) e.vector ≡ Some f'
    flags_now = flags_push log e e.vector ∙ rw (same-refl e.vector) (ap (flags_after e.act) flags_are ∙ after)

    its_vector : (v : Vector) (id : ℕ) → name_of log v ≡ Some id → id ≡ e.id → e.vector ≡ v
    its_vector v id n z = names-differ about.flags log legal e.vector v e.id named (n ∙ ap Some z)

    -- the flags of a vector with this name, which were k
    flags_then : (v : Vector) (id k : ℕ) → name_of log v ≡ Some id → flags_of log v ≡ Some k → flags_of (log ++ e ∷ []) v ≡ Some (if id == e.id then f' else k)
    flags_then v id k n fl = dite (ℕ_discrete id e.id)
        (λ z. ap (λ (u : Vector). flags_of (log ++ e ∷ []) u) (sym (its_vector v id n z)) ∙ (flags_now ∙ ap (λ (b : Bool). Some (if b then f' else k)) (sym (eq-eqb id e.id z))))
        (λ ne. other_flags log e v (other_vector about.flags log e v id allowed n ne) ∙ (fl ∙ ap (λ (b : Bool). Some (if b then f' else k)) (sym (ne_eqb id e.id ne))))

    pub map_flagged : (g : ℕ) (map : List (ℕ × ℕ)) → IsMapOf about g log map → IsMapOf about g (log ++ e ∷ []) (with_flag_set e.id f' map)
    map_flagged g map m = record {
      each = λ v id n here.
          let before = sym (same_name v) ∙ n in
          let old = m.each v id before here in
          ((if id == e.id then f' else old.0), flags_then v id old.0 before old.1, in_flagged e.id f' map id old.0 old.2);
      only = λ id flags has.
          let t = of_flagged e.id f' map id flags has in
          let o = m.only id t.0 t.1 in
          (o.0, (o.1.0, same_name o.1.0 ∙ o.1.1, flags_then o.1.0 id t.0 o.1.1 o.1.2 ∙ ap Some (sym t.2)));
    }

    pub map_quiet : (g : ℕ) (map : List (ℕ × ℕ)) → f' ≡ f → IsMapOf about g log map → IsMapOf about g (log ++ e ∷ []) map
    map_quiet g map same m = record {
      each = λ v id n here.
          let before = sym (same_name v) ∙ n in
          let old = m.each v id before here in
          (old.0, flags_then v id old.0 before old.1 ∙ ap Some (unchanged v id old.0 before old.1), old.2);
      only = λ id flags has.
          let o = m.only id flags has in
          (o.0, (o.1.0, same_name o.1.0 ∙ o.1.1, flags_then o.1.0 id flags o.1.1 o.1.2 ∙ ap Some (unchanged o.1.0 id flags o.1.1 o.1.2)));
    }
      where
        unchanged : (v : Vector) (id k : ℕ) → name_of log v ≡ Some id → flags_of log v ≡ Some k → (if id == e.id then f' else k) ≡ k
        unchanged v id k n fl = dite (ℕ_discrete id e.id)
            (λ z. let was : Some f ≡ Some k = sym flags_are ∙ (ap (λ (u : Vector). flags_of log u) (its_vector v id n z) ∙ fl) in
            ap (λ (b : Bool). if b then f' else k) (eq-eqb id e.id z) ∙ (same ∙ cc was))
            (λ ne. ap (λ (b : Bool). if b then f' else k) (ne_eqb id e.id ne))
