-- How the history goes on where a call on a region ends, and that every region then has the map that it should.
use Rattle.std.proofs.Common.{◌≡◌, ◌≢◌, ℕ, List, [], ◌∷◌, ◌++◌, length, Bool, true, false, Option, Some, None, refl, sym, ap, ◌∙◌, subst, ⊎_elim, append-nil}
use Rattle.tree_shape.specs.Tree.{Has, IsNaming, RootStands}
use Rattle.tree_shape.proofs.Trees.{one_root}
use Rattle.tdb_base.specs.History.{Vector, Act, Put, Set, Clear, Look, Entry, History, is_fresh, names, name_of, flags_of, flags_after}
use Rattle.tdb_base.specs.Legal.{Allows, IsLegal}
use Rattle.tdb_base.proofs.NameLemmas.{name-push, names-this, names-differ, legal-push}
use Rattle.std.specs.Prelude.{if◌then◌else◌}
use Rattle.pair_rule.specs.declared.sizes.About.{About}
use Rattle.pair_rule.specs.Calls.{IsSomeRoot}
use Rattle.pair_rule.specs.Rule.{Named}
use Rattle.pair_rule.proofs.Lists.{has_front, has_back}
use Rattle.pair_rule.proofs.Names.{root_more}
use Rattle.pair_rule.proofs.Steps.{named_more}
use Rattle.pair_nodes.specs.Roots.{deed}
use Rattle.region_root.specs.Layout.{region_of, IsPacked}
use Rattle.region_root.specs.Maps.{roots_of, IsMapOf, with_flag_set}
use Rattle.region_root.specs.Names.{are_names}
use Rattle.region_root.specs.Plays.{Ending, Ends, MayEnd}
use Rattle.region_root.proofs.Maps.{map_other, map_fresh, map_flagged, map_quiet}

-- a name's identifier is a root that stands for its vector
pub stands_of : (about : About) (known : List (ℕ × ℕ)) (log : History) → IsLegal about.flags log → Named about known log (roots_of log) → (v : Vector) (id : ℕ) → name_of log v ≡ Some id
    → RootStands about.width about.slots known id v × (length v ≡ about.slots)
stands_of about known log legal named v id n =
    let k = named.each v id n in
    let o = named.only id k.0 k.1 in
    let one = names-differ about.flags log legal o.0 v id o.1 n in
    let pair : k.0 ≡ id = ((are_names about.flags log legal).only id k.0 k.1).0 in
    (subst (λ (z : ℕ × Vector). RootStands about.width about.slots known z.0 z.1) (λ i. (pair i, one i)) o.2, ap length (sym one) ∙ o.3)

-- where each name's identifier stands for its vector, the roots are those of the names
named_of : (about : About) (known : List (ℕ × ℕ)) (log : History) → IsLegal about.flags log → ((v : Vector) (id : ℕ) → name_of log v ≡ Some id → RootStands about.width about.slots known id v × (length v ≡ about.slots))
    → Named about known log (roots_of log)
named_of about known log legal stands = let a = are_names about.flags log legal in record {
  each = λ v id n. (id, a.each v id n);
  only = λ id pair has.
      let o = a.only id pair has in
      let s = stands o.1.0 id o.1.1 in
      (o.1.0, o.1.1, subst (λ (x : ℕ). RootStands about.width about.slots known x o.1.0) (sym o.0) s.0, s.1);
}

-- how the history goes on
pub record Goes (about : About) (caller : ℕ) (known : List (ℕ × ℕ)) (log : History) (g : ℕ) (next : List (ℕ × ℕ)) (what : Ending) : Type 0 where
  pub more : History
  pub mine : (x : Entry) → Has x more → x.caller ≡ caller
  pub legal : IsLegal about.flags (log ++ more)
  pub named : Named about known (log ++ more) (roots_of (log ++ more))
  pub here : IsMapOf about g (log ++ more) next
  pub others : (k : ℕ) (m : List (ℕ × ℕ)) → k ≢ g → IsMapOf about k log m → IsMapOf about k (log ++ more) m
  pub packed : (u : Vector) (i : ℕ) → name_of (log ++ more) u ≡ Some i → IsPacked about i
  pub ends : Ends caller about known what more

module _ (about : About) (caller : ℕ) (theirs mine : List (ℕ × ℕ)) (log : History) (legal : IsLegal about.flags log) (named : Named about theirs log (roots_of log)) (nodes : IsNaming (theirs ++ mine))
    (packed : (u : Vector) (i : ℕ) → name_of log u ≡ Some i → IsPacked about i) (g : ℕ) (map : List (ℕ × ℕ)) (is_map : IsMapOf about g log map) where
  abbrev both : List (ℕ × ℕ)
  both = theirs ++ mine

  both_named : Named about both log (roots_of log)
  both_named = named_more about theirs both log (roots_of log) (λ i x h. has_front (i, x) theirs mine h) named

  both_stands : (v : Vector) (id : ℕ) → name_of log v ≡ Some id → RootStands about.width about.slots both id v × (length v ≡ about.slots)
  both_stands = stands_of about both log legal both_named

  -- no call
  goes_still : (next : List (ℕ × ℕ)) → next ≡ map → Goes about caller both log g next None
  goes_still next same =
      let whole : log ≡ log ++ [] = sym (append-nil log) in
      record {
        more = [];
        mine = λ x h. absurd h;
        legal = subst (IsLegal about.flags) whole legal;
        named = subst (λ (h : History). Named about both h (roots_of h)) whole both_named;
        here = subst (λ (h : History). IsMapOf about g h next) whole (subst (IsMapOf about g log) (sym same) is_map);
        others = λ k m ne is. subst (λ (h : History). IsMapOf about k h m) whole is;
        packed = subst (λ (h : History). (u : Vector) (i : ℕ) → name_of h u ≡ Some i → IsPacked about i) whole packed;
        ends = refl;
      }

  -- one call, on this vector
  module _ (x : ℕ) (act : Act) (next : List (ℕ × ℕ)) (here : region_of about x ≡ g) (small : IsPacked about x) (vector : Vector) (stands : RootStands about.width about.slots both x vector) (long : length vector ≡ about.slots)
      (allowed : Allows about.flags log vector x act) where
    abbrev e : Entry
    e = deed caller act vector x

    legal_now : IsLegal about.flags (log ++ e ∷ [])
    legal_now = legal-push about.flags log e legal allowed

    name_before : (P : Vector → ℕ → Type 0) → ((u : Vector) (i : ℕ) → name_of log u ≡ Some i → P u i) → P vector x → (u : Vector) (i : ℕ) → name_of (log ++ e ∷ []) u ≡ Some i → P u i
    name_before P old new u i n = by (names e u) refl (sym (name-push log e u) ∙ n)
      where
        by : (b : Bool) → names e u ≡ b → (if b then Some x else name_of log u) ≡ Some i → P u i
        by true t m = let ids : x ≡ i = cc m in subst (λ (z : Vector × ℕ). P z.0 z.1) (λ j. ((names-this e u t).1 j, ids j)) new
        by false t m = old u i m

    goes_on : IsMapOf about g (log ++ e ∷ []) next → Goes about caller both log g next (Some (x, act))
    goes_on map_now = record {
      more = e ∷ [];
      mine = λ y h. ⊎_elim (λ (z : y ≡ e). ap (λ (w : Entry). w.caller) z) (λ (no : ⊥). absurd no) h;
      legal = legal_now;
      named = named_of about both (log ++ e ∷ []) legal_now (name_before (λ u i. RootStands about.width about.slots both i u × (length u ≡ about.slots)) both_stands (stands, long));
      here = map_now;
      others = λ k m ne is. map_other about log e allowed k m (λ z. ne (sym z ∙ here)) is;
      packed = name_before (λ u i. IsPacked about i) packed small;
      ends = (vector, stands, long, refl);
    }

  -- a root with these flags is some vector's
  module _ (x : ℕ) (f : ℕ) (has : Has (x, f) map) where
    abbrev its : Vector
    its = (is_map.only x f has).1.0

    name_is : name_of log its ≡ Some x
    name_is = (is_map.only x f has).1.1

    flags_are : flags_of log its ≡ Some f
    flags_are = (is_map.only x f has).1.2

    here_is : region_of about x ≡ g
    here_is = (is_map.only x f has).0

    small_is : IsPacked about x
    small_is = packed its x name_is

    -- an act that leaves its flags, and one that changes them
    goes_quiet : (act : Act) (next : List (ℕ × ℕ)) → next ≡ map → is_fresh act ≡ false → flags_after act (Some f) ≡ Some f → Allows about.flags log its x act → Goes about caller both log g next (Some (x, act))
    goes_quiet act next same old after allowed = let s = both_stands its x name_is in
        goes_on x act next here_is small_is its s.0 s.1 allowed
        (subst (IsMapOf about g (log ++ deed caller act its x ∷ [])) (sym same) (map_quiet about log (deed caller act its x) allowed legal old f f flags_are after g map refl is_map))

    goes_flagged : (act : Act) (f' : ℕ) (next : List (ℕ × ℕ)) → next ≡ with_flag_set x f' map → is_fresh act ≡ false → flags_after act (Some f) ≡ Some f' → Allows about.flags log its x act
        → Goes about caller both log g next (Some (x, act))
    goes_flagged act f' next same old after allowed = let s = both_stands its x name_is in
        goes_on x act next here_is small_is its s.0 s.1 allowed
        (subst (IsMapOf about g (log ++ deed caller act its x ∷ [])) (sym same) (map_flagged about log (deed caller act its x) allowed legal old f f' flags_are after g map is_map))

  -- a new root
  goes_fresh : (x : ℕ) (next : List (ℕ × ℕ)) → region_of about x ≡ g → IsPacked about x → ((flags : ℕ) → Has (x, flags) map → ⊥) → next ≡ (x, 0) ∷ map → IsSomeRoot about mine x → Goes about caller both log g next (Some (x, Put true))
  goes_fresh x next here small absent same root =
      let vector = root.0 in
      let e = deed caller (Put true) vector x in
      let stands = root_more about mine both x vector (λ i y h. has_back (i, y) theirs mine h) root.1 in
      let no_id : (u : Vector) → name_of log u ≢ Some x = λ u n. let k = is_map.each u x n here in absurd (absent k.0 k.2) in
      let no_name : name_of log vector ≡ None = by vector stands no_id (name_of log vector) refl in
      let allowed : Allows about.flags log vector x (Put true) = (no_name, no_id) in
      let m = map_fresh about log e allowed map (legal-push about.flags log e legal allowed) refl (subst (λ (k : ℕ). IsMapOf about k log map) (sym here) is_map) in
      goes_on x (Put true) next here small vector stands root.2 allowed
      (subst (IsMapOf about g (log ++ e ∷ [])) (sym same) (subst (λ (k : ℕ). IsMapOf about k (log ++ e ∷ []) ((x, 0) ∷ map)) here m))
    where
      by : (vector : Vector) → RootStands about.width about.slots both x vector → ((u : Vector) → name_of log u ≢ Some x) → (o : Option ℕ) → name_of log vector ≡ o → o ≡ None
      by vector stands no_id None t = refl
      by vector stands no_id (Some m) t = absurd (no_id vector (t ∙ ap Some (one_root about.width about.slots both nodes m x vector (both_stands vector m t).0 stands)))

  pub goes : (what : Ending) (next : List (ℕ × ℕ)) → MayEnd about mine g map what next → Goes about caller both log g next what
  goes None next may = goes_still next may
  goes (Some (x, Put true)) next may = goes_fresh x next may.0 may.1 may.2.0 may.2.1 (may.3 refl)
  goes (Some (x, Put false)) next may = let f = may.2.0.0 in let h = may.2.0.1 in goes_quiet x f h (Put false) next may.2.1 refl refl (name_is x f h)
  goes (Some (x, Set bit first)) next may = let f = may.2.1.0 in let h = may.2.1.1 in goes_flagged x f h (Set bit first) _ next may.2.1.3 refl refl (name_is x f h, may.2.0, (f, flags_are x f h, may.2.1.2))
  goes (Some (x, Clear bit first)) next may = let f = may.2.1.0 in let h = may.2.1.1 in goes_flagged x f h (Clear bit first) _ next may.2.1.3 refl refl (name_is x f h, may.2.0, (f, flags_are x f h, may.2.1.2))
  goes (Some (x, Look f)) next may = goes_quiet x f may.2.0 (Look f) next may.2.1 refl refl (name_is x f may.2.0, flags_are x f may.2.0)
