-- What a call's end tells of the pass that made it.
use Rattle.std.proofs.Common.{◌≡◌, ℕ, suc, ◌*◌, ◌^◌, ◌<◌, List, [], ◌∷◌, Bool, true, false, Some, None, refl, sym, ap, ◌∙◌, subst, append-nil, arith}
use Rattle.std.specs.Prelude.{map}
use Rattle.std.proofs.lemmas.List.{length-map}
use Rattle.tree_shape.specs.Tree.{Has}
use Rattle.tdb_base.specs.History.{Vector, Act, Put, History, is_fresh, name_of}
use Rattle.tdb_base.proofs.NameLemmas.{entry-named, allowed-other, names-differ, keeps-names}
use Rattle.pair_rule.proofs.Histories.{legal_front}
use Rattle.pair_rule.specs.declared.view.View.{View}
use Rattle.pair_rule.specs.declared.sizes.About.{About}
use Rattle.pair_rule.specs.declared.pass.PassOf.{PassOf}
use Rattle.pair_rule.specs.Part.{Store, IsTable}
use Rattle.pair_rule.specs.Calls.{call, Called, IsNoName, KeepsBuffers}
use Rattle.pair_rule.proofs.Catches.{names_by_seen, names_caught}
use Rattle.pair_rule.proofs.Calling.{called_entry}
use Rattle.pair_nodes.specs.Roots.{RootPut, RootRefused, RootActed, deed}
use Rattle.pair_rule.specs.Plays.{Caught}
use Rattle.pair_rule.specs.Rest.{AtRest, names_of_callers, view}
use Rattle.region_root.specs.declared.root.Regions.{Regions}
use Rattle.region_root.specs.declared.root.Holding.{Holding}
use Rattle.region_root.specs.Layout.{region_of, IsPacked, KeepsRoots}
use Rattle.region_root.specs.Maps.{roots_of, IsMapOf, IsFull}
use Rattle.region_root.specs.Compact.{LockedOnce, compact}
use Rattle.region_root.specs.Names.{are_names}
use Rattle.region_root.specs.Plays.{part_of, Ending, Told}
use Rattle.region_root.specs.Told.{HasNoPlace, act_on}
use Rattle.region_root.specs.declared.flag.Doing.{Doing}
use Rattle.region_root.specs.declared.flag.Doing.TheVariants as d
use Rattle.region_root.specs.Work.{Locked}
use Rattle.region_root.proofs.Keys.{different, root_in}
use Rattle.region_root.proofs.Resting.{mark, one_name, caught_for, caught_as}

abbrev V : Type 0
V = View Regions

-- the same of a view that had another root part
pub told_back : (v u w : V) (busy : Bool) (t : Regions) (g : ℕ) (m : List (ℕ × ℕ)) (what : Ending) → u ≡ record v { busy = busy; root = t } → Told g m what u w → Told g m what v w
told_back v u w busy t g m what is told =
    let k = subst (λ (x : V). Told g m what x w) is told in
    record { calls = k.calls; caught = caught_as v.about.width v.about.flags (record v { busy = busy; root = t }) w v.busy v.root k.calls k.caught; is_map = k.is_map; ends = k.ends }

module _ (width flags : ℕ) (store : Store) (is : IsTable width flags (compact width flags) store) (v w : V) (about_is : v.about ≡ store.about) where
  -- a call that put the root, or found it
  pub called_by : (g x : ℕ) (m : List (ℕ × ℕ)) (fresh : Bool) → Told g m (Some (x, Put fresh)) v w → Called (compact width flags) fresh x x v w
  called_by g x m fresh told =
      let e = told.ends in
      let vector = e.0 in
      let c : Caught (compact width flags) (call v.number fresh vector x ∷ []) v w = subst (λ (h : History). Caught (compact width flags) h v w) e.3 (caught_for width flags store v w told.calls is about_is told.caught) in
      let legal = c.sound.legal in
      let name : name_of w.seen vector ≡ Some x = entry-named w.about.flags w.seen c.log [] (call v.number fresh vector x) legal c.seen in
      record {
        vector = vector;
        stands = e.1;
        long = e.2;
        caught = c;
        root = (are_names w.about.flags w.seen legal).each vector x name;
      }

  -- no call
  pub still_by : (g : ℕ) (m : List (ℕ × ℕ)) → Told g m None v w → (c : Caught (compact width flags) [] v w) × IsMapOf store.about g w.seen m
  still_by g m told =
      let c0 = subst (λ (h : History). (c : Caught (part_of v.about) h v w) × IsMapOf v.about g c.log m) told.ends (told.caught, told.is_map) in
      let whole : w.seen ≡ c0.0.log = c0.0.seen ∙ append-nil c0.0.log in (
        caught_for width flags store v w [] is about_is c0.0,
        subst (λ (y : About). IsMapOf y g w.seen m) about_is (subst (λ (h : History). IsMapOf v.about g h m) (sym whole) c0.1),
      )

  -- the region is full for the root
  pub full_by : (x : ℕ) (base : List (ℕ × ℕ)) → HasNoPlace store.about x (region_of store.about x) base v w → IsFull store.about (roots_of w.seen) x
  unfolding KeepsRoots
  full_by x base h =
      let k = still_by (region_of store.about x) base h.told in
      let names = are_names w.about.flags w.seen k.0.sound.legal in
      record {
        others = map (λ (r : ℕ × ℕ). r.0) base;
        are_roots = record {
          once = different store.about base h.keeps.holds.map;
          each = λ y has. let o = root_in y base has in let n = k.1.only y o.0 o.1 in (n.0, (y, names.each n.1.0 y n.1.1));
        };
        all = length-map base (λ (r : ℕ × ℕ). r.0) ∙ h.all;
        absent = λ id has.
            let o = names.only id x has in
            let n = k.1.each o.1.0 x (o.1.1 ∙ ap Some (sym o.0)) refl in
            h.absent n.0 n.2;
      }

-- a pass that took a region, and that its call then gave back
module _ (width flags : ℕ) (store : Store) (is : IsTable width flags (compact width flags) store) (p u q : PassOf Regions) (g lock : ℕ) (rest : AtRest (compact width flags) store p) (l : Locked width flags store g lock p u)
    (rests : AtRest (compact width flags) store q) (buffers : KeepsBuffers u q) where
  pub all_buffers : KeepsBuffers p q
  all_buffers = buffers ∙ ap (λ (z : PassOf Regions). record z { seat = q.seat; names_count = q.names_count }) l.others

  pub locked_once : (view q).root ≡ record (view u).root { held = [] } → LockedOnce (view p).root (view q).root
  locked_once root =
      let none : (view p).root.held ≡ [] = rest.seat.sound.root_sound.idle rest.seat.idle in
      root ∙ (ap (λ (v : V). record v.root { held = [] }) l.view_is ∙ ap (λ (h : List Holding). record (view p).root { held = h; locks = suc (view p).root.locks }) (sym none))

  pub told_first : (m : List (ℕ × ℕ)) (what : Ending) → Told l.hold.region m what (view u) (view q) → Told g m what (view p) (view q)
  told_first m what told = told_back (view p) (view u) (view q) true _ g m what l.view_is (subst (λ (k : ℕ). Told k m what (view u) (view q)) l.region_is told)

  pub root_put : (x : ℕ) (m : List (ℕ × ℕ)) (fresh : Bool) → Told l.hold.region m (Some (x, Put fresh)) (view u) (view q) → RootPut (compact width flags) store x x fresh p q
  root_put x m fresh told =
      let c = called_by width flags store is (view p) (view q) rest.seat.about_is g x m fresh (told_first m _ told) in
      record { rest = rests; entry = called_entry (compact width flags) store p q fresh x x rest rests c; root = c.root; buffers = all_buffers }

  pub root_refused : (x : ℕ) → g ≡ region_of store.about x → HasNoPlace store.about x l.hold.region l.hold.base (view u) (view q) → RootRefused (compact width flags) store x p q
  root_refused x here h =
      let told = subst (λ (k : ℕ). Told k l.hold.base None (view p) (view q)) here (told_first l.hold.base None h.told) in
      record {
        rest = rests;
        no_call = (still_by width flags store is (view p) (view q) rest.seat.about_is (region_of store.about x) l.hold.base told).0;
        full = full_by width flags store is (view p) (view q) rest.seat.about_is x l.hold.base record { words = h.words; keeps = h.keeps; absent = h.absent; all = h.all; told = told };
        buffers = all_buffers;
      }

-- a pass that gave no name keeps its counts
pub quiet_others : (width flags : ℕ) (store : Store) (p q : PassOf Regions) (calls : History) → AtRest (compact width flags) store p → AtRest (compact width flags) store q → KeepsBuffers p q → Caught (compact width flags) calls (view p) (view q)
    → names_of_callers (view p).numbers calls ≡ 0 → q ≡ record p { seat = q.seat }
quiet_others width flags store p q calls rp rq buffers c zero_names =
    let given = names_caught (compact width flags) store p q calls rp c in
    let now = rq.names_count in
    let same : q.names_count ≡ p.names_count = omega (arith, given, now, zero_names) in
    buffers ∙ ap (λ (n : ℕ). record p { seat = q.seat; names_count = n }) same

module _ (width flags : ℕ) (store : Store) (is : IsTable width flags (compact width flags) store) (p q : PassOf Regions) (rp : AtRest (compact width flags) store p) (rq : AtRest (compact width flags) store q) (buffers : KeepsBuffers p q) (g x : ℕ) (m : List (ℕ × ℕ)) where
  -- a root that was found, and one that wasn't
  pub found_by : Told g m (Some (x, Put false)) (view p) (view q) → Called (compact width flags) false x x (view p) (view q) × (q ≡ record p { seat = q.seat })
  found_by told =
      let c = called_by width flags store is (view p) (view q) rp.seat.about_is g x m false told in
      (c, quiet_others width flags store p q _ rp rq buffers c.caught (names_by_seen (view p).numbers (call (view p).number false c.vector x) refl))

  pub missed_by : g ≡ region_of store.about x → ((f : ℕ) → Has (x, f) m → ⊥) → Told g m None (view p) (view q) → Caught (compact width flags) [] (view p) (view q) × IsNoName x (view q).seen × (q ≡ record p { seat = q.seat })
  missed_by here absent told =
      let k = still_by width flags store is (view p) (view q) rp.seat.about_is g m told in
      (k.0, (λ v n. let e = k.1.each v x n (sym here) in absent e.0 e.2), quiet_others width flags store p q [] rp rq buffers k.0 refl)

-- a name's identifier is a packed pair
pub name_packed : (width flags : ℕ) (store : Store) (p : PassOf Regions) → AtRest (compact width flags) store p → IsTable width flags (compact width flags) store → (vector : Vector) (id : ℕ) → name_of (view p).seen vector ≡ Some id
    → (id < 2 ^ (2 * width)) × Has (id, id) (roots_of (view p).seen)
name_packed width flags store p r is vector id n =
    let s = r.seat.sound in
    let k = (are_names (view p).about.flags (view p).seen s.legal).each vector id n in
    (subst (λ (w : ℕ). id < 2 ^ (2 * w)) (ap (λ (y : About). y.width) r.seat.about_is ∙ is.width_is) (s.root_sound.packed id id k), k)

pub not_packed : (width flags : ℕ) (store : Store) (p : PassOf Regions) (id : ℕ) → AtRest (compact width flags) store p → IsTable width flags (compact width flags) store → (id < 2 ^ (2 * width) → ⊥) → IsNoName id (view p).seen
not_packed width flags store p id r is big vector n = big (name_packed width flags store p r is vector id n).0

-- a call on a named vector's flags
module _ (width flags : ℕ) (store : Store) (is : IsTable width flags (compact width flags) store) (p u q : PassOf Regions) (g lock : ℕ) (rest : AtRest (compact width flags) store p) (l : Locked width flags store g lock p u)
    (rests : AtRest (compact width flags) store q) (buffers : KeepsBuffers u q) (root : (view q).root ≡ record (view u).root { held = [] }) (x : ℕ) (m : List (ℕ × ℕ)) (act : Act) (old_one : is_fresh act ≡ false)
    (told : Told l.hold.region m (Some (x, act)) (view u) (view q)) where
  first_told : Told g m (Some (x, act)) (view p) (view q)
  first_told = told_first width flags store is p u q g lock rest l rests buffers m (Some (x, act)) told

  abbrev its : Vector
  its = first_told.ends.0

  caught_its : Caught (compact width flags) (deed (view p).number act its x ∷ []) (view p) (view q)
  caught_its = subst (λ (h : History). Caught (compact width flags) h (view p) (view q)) first_told.ends.3 (caught_for width flags store (view p) (view q) first_told.calls is rest.seat.about_is first_told.caught)

  its_name : (vector : Vector) → name_of (view p).seen vector ≡ Some x → its ≡ vector
  its_name vector n =
      let c = caught_its in
      let count = (view q).about.flags in
      let legal = c.sound.legal in
      let before = legal_front count c.log (view q).seen record { more = deed (view p).number act its x ∷ []; whole = c.seen } legal in
      let mine = allowed-other count c.log its x act (legal.each c.log (deed (view p).number act its x) [] c.seen) old_one in
      names-differ count c.log before its vector x mine (keeps-names count (view p).seen c.log before c.begins vector x n)

  pub acted : RootActed (compact width flags) store act x p q
  acted = record {
    rest = rests;
    entry = λ vector n. subst (λ (y : Vector). Caught (compact width flags) (deed (view p).number act y x ∷ []) (view p) (view q)) (its_name vector n) caught_its;
    call = locked_once width flags store is p u q g lock rest l rests buffers root;
    buffers = quiet_others width flags store p q _ rest rests (all_buffers width flags store is p u q g lock rest l rests buffers) caught_its
        (one_name (view p).numbers (deed (view p).number act its x) rest.seat.sound.mine ∙ ap mark old_one);
  }

-- a call on flags gives no name
pub flag_old : (doing : Doing) (flags : ℕ) → is_fresh (act_on doing flags) ≡ false
flag_old (d.Set b) flags = refl
flag_old (d.Clear b) flags = refl
flag_old d.Look flags = refl

pub id_packed : (width flags : ℕ) (store : Store) (p : PassOf Regions) → AtRest (compact width flags) store p → (vector : Vector) (id : ℕ) → name_of (view p).seen vector ≡ Some id → IsPacked store.about id
id_packed width flags store p r vector id n =
    let s = r.seat.sound in
    let k = (are_names (view p).about.flags (view p).seen s.legal).each vector id n in
    subst (λ (y : About). IsPacked y id) r.seat.about_is (s.root_sound.packed id id k)
