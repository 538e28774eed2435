-- A look without a lock, from its first look at the lock word to its second.
use Rattle.std.proofs.Common.{◌≡◌, ◌≢◌, ◌⊎◌, ℕ, suc, ◌<◌, List, [], ◌∷◌, Bool, true, false, Option, Some, None, refl, sym, ap, ◌∙◌, subst, inl, inr, ⊎_elim}
use Rattle.std.specs.Prelude.{MatchBool, slice_index}
use Rattle.tree_shape.specs.Tree.{Has, RootStands, IsPart}
use Rattle.tree_shape.proofs.Trees.{one_root}
use Rattle.tdb_base.specs.History.{Vector, Put, name_of}
use Rattle.cleary_core.specs.Access.{HasReached}
use Rattle.pair_rule.specs.declared.view.View.{View}
use Rattle.pair_rule.specs.declared.sizes.About.{About}
use Rattle.pair_rule.specs.declared.pass.PassOf.{PassOf}
use Rattle.pair_rule.specs.Calls.{IsNoName, KeepsBuffers}
use Rattle.pair_rule.specs.Part.{Store, IsTable}
use Rattle.pair_rule.specs.Rest.{AtRest, view}
use Rattle.pair_rule.proofs.Calling.{called_entry}
use Rattle.pair_rule.proofs.Names.{root_more}
use Rattle.pair_nodes.specs.Roots.{RootPut}
use Rattle.region_root.specs.declared.root.Regions.{Regions}
use Rattle.region_root.specs.declared.root.Reading.{Reading}
use Rattle.region_root.specs.Layout.{words_each, region_of, KeepsRoots}
use Rattle.region_root.specs.Maps.{InRegion}
use Rattle.region_root.specs.Compact.{IsEven, IsOdd, last, Unchanged, Looked, compact}
use Rattle.region_root.specs.Plays.{Told, reading, peeking, reloaded, seconded, Believes, Closed}
use Rattle.region_root.specs.Told.{FindsRoot, RootAbsent, RootChanged}
use Rattle.region_root.specs.Work.{HasLoaded, ReadsOn}
use Rattle.region_root.proofs.Catching.{head_of}
use Rattle.region_root.proofs.Endings.{stands_of}
use Rattle.region_root.proofs.Outcomes.{told_back, called_by, still_by}
use Rattle.region_root.proofs.Working.{still}

abbrev V : Type 0
V = View Regions

abbrev P : Type 0
P = PassOf Regions

-- a vector whose root is the identifier of no name has no name
pub no_vector : (width flags : ℕ) (store : Store) (p q : P) (x : ℕ) → AtRest (compact width flags) store q → IsPart (view p).known (view q).known → IsNoName x (view q).seen
    → (vector : Vector) → RootStands store.about.width store.about.slots (view p).known x vector → name_of (view q).seen vector ≡ None
no_vector width flags store p q x r known no_id vector stands = by (name_of (view q).seen vector) refl
  where
    by : (o : Option ℕ) → name_of (view q).seen vector ≡ o → o ≡ None
    by None t = refl
    by (Some k) t =
        let s = r.seat.sound in
        let theirs = subst (λ (y : About). RootStands y.width y.slots (view q).known k vector) r.seat.about_is (stands_of (view q).about (view q).known (view q).seen s.legal s.named vector k t).0 in
        let ours = root_more store.about (view p).known (view q).known x vector known stands in
        let one = one_root store.about.width store.about.slots (view q).known s.nodes.naming k x vector theirs ours in
        absurd (no_id vector (t ∙ ap Some one))

-- after the first look
pub first_looked : (about : About) (p u : P) (g x n : ℕ) → g ≡ region_of about x → view u ≡ peeking (reading g x n) (view p) → (n ≡ last) ⊎ IsOdd n → Looked about x false (view p).root (view u).root
first_looked about p u g x n here is why = record {
  reader = reading g x n;
  knows = ap (λ (v : V). v.root) is;
  pair_is = refl;
  region_is = here;
  answer = inr (refl, inl (⊎_elim (λ (a : n ≡ last). inr a) (λ (o : IsOdd n). inl o) why));
}

pub first_changed : (width flags : ℕ) (store : Store) (p u : P) (g x n : ℕ) → AtRest (compact width flags) store u → view u ≡ peeking (reading g x n) (view p) → u ≡ record p { seat = u.seat } → (n ≡ last) ⊎ IsOdd n
    → RootChanged width flags store x p u
first_changed width flags store p u g x n rest is others why = record {
  rest = rest;
  no_call = still width flags store (view p) (view u) (view p).busy _ is rest.seat.sound;
  cause = λ q reader. let one = head_of (reading g x n) q (view u).root.reader (ap (λ (v : V). v.root.reader) is) reader in
      inl (⊎_elim (λ (a : n ≡ last). inr (ap (λ (r : Reading). r.first) (sym one) ∙ a)) (λ (o : IsOdd n). inl (subst (λ (r : Reading). IsOdd r.first) one o)) why);
  buffers = others;
}

module _ (width flags : ℕ) (store : Store) (is : IsTable width flags (compact width flags) store) (x : ℕ) (p u t q : P) (g n m : ℕ) (rest_p : AtRest (compact width flags) store p) (here : g ≡ region_of store.about x)
    (opened : view u ≡ peeking (reading g x n) (view p)) (u_others : u ≡ record p { seat = u.seat }) (reads : ReadsOn width flags store u t) (rest_q : AtRest (compact width flags) store q)
    (closed : (r : Reading) → (view t).root.reader ≡ r ∷ [] → Closed m r (view t) (view q)) (q_others : q ≡ record t { seat = q.seat }) where
  on : (loads : List (ℕ × ℕ)) × (view t ≡ reloaded loads (reading g x n) (view u)) × IsPart [] loads
  on = reads.view_is (reading g x n) (ap (λ (v : V). v.root.reader) opened)

  abbrev q2 : Reading
  q2 = record (reading g x n) { loads = on.0 }

  reader_t : (view t).root.reader ≡ q2 ∷ []
  reader_t = ap (λ (v : V). v.root.reader) on.1

  cl : Closed m q2 (view t) (view q)
  cl = closed q2 reader_t

  abbrev t_root : Regions
  t_root = record (view p).root { reader = q2 ∷ []; peeks = suc (view p).root.peeks }

  t_is : view t ≡ record (view p) { root = t_root }
  t_is = on.1 ∙ ap (λ (v : V). reloaded on.0 (reading g x n) v) opened

  root_q : (view q).root ≡ seconded m q2 t_root
  root_q = cl.root_is ∙ ap (λ (v : V). seconded m q2 v.root) t_is

  reader_q : (view q).root.reader ≡ (record q2 { second = Some m }) ∷ []
  reader_q = ap (λ (r : Regions). r.reader) root_q

  others : q ≡ record p { seat = q.seat }
  others = q_others ∙ (ap (λ (z : P). record z { seat = q.seat }) reads.others ∙ ap (λ (z : P). record z { seat = q.seat }) u_others)

  buffers : KeepsBuffers p q
  buffers = others ∙ ap (λ (k : ℕ). record p { seat = q.seat; names_count = k }) (sym (ap (λ (z : P). z.names_count) others))

  -- what was loaded is what the reader has
  loaded_in : (words : List ℕ) → ((i w : ℕ) → Has (i, w) on.0 → slice_index words i ≡ w) → HasReached (HasLoaded t) words
  loaded_in words at i w h = at i w (subst (λ (r : Reading). Has (i, w) r.loads) (head_of h.0 q2 (view t).root.reader h.1 reader_t) h.2)

  -- another value at the second look
  pub looked_changed : m ≢ n → Looked store.about x false (view p).root (view q).root
  looked_changed ne = record { reader = record q2 { second = Some m }; knows = root_q; pair_is = refl; region_is = here; answer = inr (refl, inr (m, refl, ne)) }

  pub changed : m ≢ n → RootChanged width flags store x p q
  changed ne = record {
    rest = rest_q;
    no_call = still width flags store (view p) (view q) (view p).busy _ (cl.changed (λ w. ne w.same) ∙ ap (λ (v : V). record v { root = seconded m q2 v.root }) t_is) rest_q.seat.sound;
    cause = λ r reader. let one = head_of (record q2 { second = Some m }) r (view q).root.reader reader_q reader in
        inr (m, subst (λ (y : Reading). y.second ≡ Some m) one refl, subst (λ (y : Reading). m ≢ y.first) one ne);
    buffers = others;
  }

  module _ (same : m ≡ n) (even : IsEven n) (low : n < last) where
    unchanged : Unchanged m q2
    unchanged = record { same = same; even = subst IsEven (sym same) even; low = subst (λ (k : ℕ). k < last) (sym same) low }

    b : Believes q2 (view t) (view q)
    b = (cl.believed unchanged).1

    about_t : (view t).about ≡ store.about
    about_t = ap (λ (v : V). v.about) t_is ∙ rest_p.seat.about_is

    agrees : HasReached (HasLoaded t) b.words
    agrees = loaded_in b.words b.loads_are

    pub looked : (found : Bool) → FindsRoot store.about x t found → Looked store.about x found (view p).root (view q).root
    looked found f = record {
      reader = record q2 { second = Some m };
      knows = root_q;
      pair_is = refl;
      region_is = here;
      answer = inl ((m, refl, record { same = unchanged.same; even = unchanged.even; low = unchanged.low }), λ words map long at keeps inside. f.decides words map long (loaded_in words at) keeps inside);
    }

    decides : (found : Bool) → FindsRoot store.about x t found → MatchBool found ((f : ℕ) × Has (x, f) b.map) ((f : ℕ) → Has (x, f) b.map → ⊥)
    decides found f = f.decides b.words b.map (b.long ∙ ap words_each about_t) agrees (subst (λ (y : About). KeepsRoots y b.words b.map) about_t b.keeps)
        (subst (λ (k : ℕ). InRegion store.about k b.map) here (subst (λ (y : About). InRegion y g b.map) about_t b.inside))

    pub seen : FindsRoot store.about x t true → RootPut (compact width flags) store x x false p q
    seen f =
        let told = told_back (view p) (view t) (view q) (view p).busy t_root g b.map (Some (x, Put false)) t_is (⊎_elim
        (λ (a : ((k : ℕ) → Has (x, k) b.map → ⊥) × Told g b.map None (view t) (view q)). let d = decides true f in absurd (a.0 d.0 d.1))
        (λ (a : ((k : ℕ) × Has (x, k) b.map) × Told g b.map (Some (x, Put false)) (view t) (view q)). a.1)
        b.answer) in
        let c = called_by width flags store is (view p) (view q) rest_p.seat.about_is g x b.map false told in
        record { rest = rest_q; entry = called_entry (compact width flags) store p q false x x rest_p rest_q c; root = c.root; buffers = buffers }

    pub absent : FindsRoot store.about x t false → RootAbsent width flags store x p q
    absent f =
        let none = decides false f in
        let told = told_back (view p) (view t) (view q) (view p).busy t_root g b.map None t_is (⊎_elim
        (λ (a : ((k : ℕ) → Has (x, k) b.map → ⊥) × Told g b.map None (view t) (view q)). a.1)
        (λ (a : ((k : ℕ) × Has (x, k) b.map) × Told g b.map (Some (x, Put false)) (view t) (view q)). absurd (none a.0.0 a.0.1))
        b.answer) in
        let k = still_by width flags store is (view p) (view q) rest_p.seat.about_is g b.map told in
        let no_id : IsNoName x (view q).seen = λ v name. let e = k.1.each v x name (sym here) in none e.0 e.2 in
        record {
          rest = rest_q;
          no_call = k.0;
          no_id = no_id;
          no_name = λ vector stands long. no_vector width flags store p q x rest_q k.0.known no_id vector stands;
          looks = λ r reader. let one = head_of (record q2 { second = Some m }) r (view q).root.reader reader_q reader in
              (m, subst (λ (y : Reading). y.second ≡ Some m) one refl, subst (λ (y : Reading). Unchanged m y) one record { same = unchanged.same; even = unchanged.even; low = unchanged.low });
          buffers = others;
        }
