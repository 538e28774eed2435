-- Passes that rest again: a holder that gave its region back, and a reader after each of its steps.
use Rattle.std.proofs.Common.{◌≡◌, ℕ, ◌+◌, ◌<◌, ◌≤◌, List, [], ◌∷◌, Bool, true, false, Some, None, refl, sym, ap, ◌∙◌, subst, ⊎_elim, arith}
use Rattle.std.specs.Prelude.{if◌then◌else◌}
use mathlib.Core.Option.{none}
use Rattle.atomic_table.specs.Table.{step, Allows}
use Rattle.tree_shape.specs.Tree.{Has}
use Rattle.tdb_base.specs.History.{Act, Put, Set, Clear, Look, Entry, History, is_fresh}
use Rattle.pair_rule.specs.declared.view.View.{View}
use Rattle.pair_rule.specs.declared.sizes.About.{About}
use Rattle.pair_rule.specs.declared.pass.PassOf.{PassOf}
use Rattle.pair_rule.specs.Part.{Store, IsTable}
use Rattle.pair_rule.specs.Plays.{Caught, first_root}
use Rattle.pair_rule.specs.Rest.{SeatRests, AtRest, names_of_callers, view}
use Rattle.pair_rule.specs.Rule.{StoreRule}
use Rattle.pair_rule.proofs.Catches.{names_by_fresh, rests_caught}
use Rattle.pair_rule.proofs.Rests.{few_names_given}
use Rattle.pair_nodes.specs.Roots.{deed}
use Rattle.region_root.specs.declared.root.Regions.{Regions}
use Rattle.region_root.specs.declared.root.Holding.{Holding}
use Rattle.region_root.specs.declared.root.Reading.{Reading}
use Rattle.region_root.specs.Layout.{regions, words_each, start, KeepsRoots}
use Rattle.region_root.specs.Compact.{compact, Compact, Unchanged}
use Rattle.region_root.specs.Laws.{compact_ids_below}
use Rattle.region_root.specs.Plays.{part_of, Ending, Ends, MayEnd, Told, seconded, place_in, IsNextLock, Frees, frees_tells, Believes, Closed, peeks_tells, reads_tells, closes_tells}
use Rattle.region_root.specs.Work.{released, gives_name, AtWork}
use Rattle.region_root.proofs.Holders.{frees}
use Rattle.region_root.proofs.Readers.{peeks, reads, closes, to_believe}
use Rattle.region_root.proofs.Working.{rests_as}

abbrev V : Type 0
V = View Regions

-- how many names the calls of an ending gave
abbrev pub mark : Bool → ℕ
mark b = if b then 1 else 0

pub one_name : (ns : List ℕ) (e : Entry) → Has e.caller ns → names_of_callers ns (e ∷ []) ≡ mark (is_fresh e.act)
one_name ns e has = by e.act refl
  where
    by : (act : Act) → e.act ≡ act → names_of_callers ns (e ∷ []) ≡ mark (is_fresh e.act)
    by (Put true) a = names_by_fresh ns e a has ∙ sym (ap (λ (x : Act). mark (is_fresh x)) a)
    by (Put false) a = rw a refl
    by (Set bit first) a = rw a refl
    by (Clear bit first) a = rw a refl
    by (Look flags) a = rw a refl

names_given : (caller : ℕ) (about : About) (known : List (ℕ × ℕ)) (what : Ending) (calls : History) (ns : List ℕ) → Has caller ns → Ends caller about known what calls → names_of_callers ns calls ≡ mark (gives_name what)
names_given caller about known None calls ns has e = ap (names_of_callers ns) e
names_given caller about known (Some a) calls ns has e = ap (names_of_callers ns) e.3 ∙ one_name ns (deed caller a.1 e.0 a.0) has

-- the same of a view that had another root part
abbrev pub caught_as : (width flags : ℕ) (v w : V) (busy : Bool) (t : Regions) (more : History) → Caught (compact width flags) more v w → Caught (compact width flags) more (record v { busy = busy; root = t }) w
caught_as width flags v w busy t more c = record {
  log = c.log;
  seen = c.seen;
  begins = c.begins;
  own = c.own;
  about = c.about;
  face_is = c.face_is;
  made = c.made;
  probing = c.probing;
  probes = c.probes;
  known = c.known;
  roots_stay = c.roots_stay;
  sound = c.sound;
}

module _ (width flags : ℕ) (store : Store) where
  -- what a step told of a table of this width
  pub caught_for : (v w : V) (more : History) → IsTable width flags (compact width flags) store → v.about ≡ store.about → Caught (part_of v.about) more v w → Caught (compact width flags) more v w
  caught_for v w more is same c = subst (λ (p : ℕ × ℕ). Caught (compact p.0 p.1) more v w) (λ i. ((ap (λ (y : About). y.width) same ∙ is.width_is) i, (ap (λ (y : About). y.flags) same ∙ is.flags_are) i)) c

  -- the holder's unlock
  module _ (h : Holding) (p : PassOf Regions) (w : AtWork width flags store h p) where
    pub free_allowed : (key : About) (slots word new : ℕ) (what : Ending) (next : List (ℕ × ℕ)) → key ≡ store.about → first_root store.about + h.region ≡ word → IsNextLock h.lock new → KeepsRoots store.about h.copy next
        → MayEnd store.about (view p).known h.region h.base what next
        → Allows (StoreRule key ((part_of key).roots key) (Compact key)) slots p.seat.id p.seat.me word (λ _. new) (frees_tells what (step slots word new 0 none) p.seat.me)
    free_allowed key slots word new what next same here goes_to keep may =
        subst (λ (k : About). Allows (StoreRule k ((part_of k).roots k) (Compact k)) slots p.seat.id p.seat.me word (λ _. new) (frees_tells what (step slots word new 0 none) p.seat.me)) (sym same)
        (frees _ store.about slots p.seat.id p.seat.me h word new what next w.rest.seat.live w.rest.seat.about_is w.held here goes_to keep may)

    pub few_names : p.names_count ≤ 4611686018427387904
    few_names = few_names_given (compact width flags) store compact_ids_below (released p) w.rest

    pub freed_rests : (q : PassOf Regions) (what : Ending) → IsTable width flags (compact width flags) store → q.seat.table_id ≡ p.seat.table_id → Frees what p.seat.me q.seat.me → q ≡ record p { seat = q.seat; names_count = q.names_count }
        → q.names_count ≡ p.names_count + mark (gives_name what) → AtRest (compact width flags) store q
    freed_rests q what is same f others names =
        let v = view p in
        let told = f.told h w.held in
        let c = caught_for v (view q) told.calls is w.rest.seat.about_is told.caught in
        let given = names_given v.number v.about (view q).known what told.calls v.numbers w.rest.seat.sound.mine told.ends in
        let seat : SeatRests (compact width flags) store q.seat = record {
          table_is = same ∙ w.rest.seat.table_is;
          bare = f.slots_stay ∙ w.rest.seat.bare;
          live = ap (λ x. x.live) c.face_is ∙ w.rest.seat.live;
          idle = f.idle;
          no_olds = f.no_olds;
          about_is = c.about ∙ w.rest.seat.about_is;
          is_about = w.rest.seat.is_about;
          sound = c.sound;
        } in
        subst (AtRest (compact width flags) store) (sym others)
        (rests_caught (compact width flags) store (released p) (record p { seat = q.seat; names_count = q.names_count }) told.calls w.rest seat
        (caught_as width flags v (view q) false (record v.root { held = [] }) told.calls c) refl refl refl refl refl (names ∙ ap (λ (n : ℕ). p.names_count + n) (sym given)))

  -- a pass at rest whose root part alone changes
  pub rests_root : (p q : PassOf Regions) (t : Regions) → AtRest (compact width flags) store p → q.seat.table_id ≡ p.seat.table_id → q.seat.me.1 ≡ p.seat.me.1 → view q ≡ record (view p) { root = t } → t.held ≡ [] → q ≡ record p { seat = q.seat }
      → AtRest (compact width flags) store q
  rests_root p q t r same slots is bare others =
      let idle : view q ≡ record (view p) { busy = false; root = t } = is ∙ ap (λ (b : Bool). record (view p) { busy = b; root = t }) r.seat.idle in
      rests_as width flags store p q t r same (λ i. (idle i, slots i)) bare others

  module _ (p : PassOf Regions) (r : AtRest (compact width flags) store p) where
    pub holds_none : (view p).root.held ≡ []
    holds_none = r.seat.sound.root_sound.idle r.seat.idle

    -- a reader's steps are allowed to it
    pub peek_allowed : (key : About) (slots g word x : ℕ) → key ≡ store.about → first_root store.about + g ≡ word → g < regions store.about
        → Allows (StoreRule key ((part_of key).roots key) (Compact key)) slots p.seat.id p.seat.me word (λ n. n) (peeks_tells x (step slots word 0 0 none) p.seat.me)
    peek_allowed key slots g word x same here inside =
        subst (λ (k : About). Allows (StoreRule k ((part_of k).roots k) (Compact k)) slots p.seat.id p.seat.me word (λ n. n) (peeks_tells x (step slots word 0 0 none) p.seat.me)) (sym same)
        (peeks _ store.about slots p.seat.id p.seat.me g word x r.seat.about_is here inside)

    module _ (q : Reading) (reader : (view p).root.reader ≡ q ∷ []) where
      pub read_allowed : (key : About) (slots from i word : ℕ) → key ≡ store.about → from ≡ first_root store.about + start store.about q.region → from + i ≡ word → i < words_each store.about
          → Allows (StoreRule key ((part_of key).roots key) (Compact key)) slots p.seat.id p.seat.me word (λ n. n) (reads_tells (step slots word 0 0 none) p.seat.me)
      read_allowed key slots from i word same begins here near =
          subst (λ (k : About). Allows (StoreRule k ((part_of k).roots k) (Compact k)) slots p.seat.id p.seat.me word (λ n. n) (reads_tells (step slots word 0 0 none) p.seat.me)) (sym same)
          (reads _ store.about slots p.seat.id p.seat.me q i word r.seat.about_is reader (omega (arith, begins, here)) near)

      pub read_place : (from i word : ℕ) → from ≡ first_root store.about + start store.about q.region → from + i ≡ word → place_in (view p).about word q.region ≡ i
      read_place from i word begins here = subst (λ (y : About). place_in y word q.region ≡ i) (sym r.seat.about_is) (omega (arith, begins, here))

      pub close_allowed : (key : About) (slots word : ℕ) → key ≡ store.about → first_root store.about + q.region ≡ word
          → Allows (StoreRule key ((part_of key).roots key) (Compact key)) slots p.seat.id p.seat.me word (λ n. n) (closes_tells (step slots word 0 0 none) p.seat.me)
      close_allowed key slots word same here =
          subst (λ (k : About). Allows (StoreRule k ((part_of k).roots k) (Compact k)) slots p.seat.id p.seat.me word (λ n. n) (closes_tells (step slots word 0 0 none) p.seat.me)) (sym same)
          (closes _ store.about slots p.seat.id p.seat.me q word r.seat.live r.seat.about_is reader here)

      -- a believed second look told this, and gave no name
      record Quiet (x : V) : Type 0 where
        pub what : Ending
        pub map : List (ℕ × ℕ)
        pub told : Told q.region map what (view p) x
        pub no_name : gives_name what ≡ false

      quiet : (x : V) → Believes q (view p) x → Quiet x
      quiet x b = ⊎_elim
          (λ (t : ((f : ℕ) → Has (q.pair, f) b.map → ⊥) × Told q.region b.map None (view p) x). record { what = None; map = b.map; told = t.1; no_name = refl })
          (λ (t : ((f : ℕ) × Has (q.pair, f) b.map) × Told q.region b.map (Some (q.pair, Put false)) (view p) x). record { what = Some (q.pair, Put false); map = b.map; told = t.1; no_name = refl })
          b.answer

      pub closed_rests : (n : ℕ) (z : PassOf Regions) → IsTable width flags (compact width flags) store → z.seat.table_id ≡ p.seat.table_id → z.seat.me.1 ≡ p.seat.me.1 → Closed n q (view p) (view z) → z ≡ record p { seat = z.seat }
          → AtRest (compact width flags) store z
      closed_rests n z is same slots c others = ⊎_elim
          (λ (u : Unchanged n q).
          let b = c.believed u in
          let k = quiet (view z) b.1 in
          let caught = caught_for (view p) (view z) k.told.calls is r.seat.about_is k.told.caught in
          let given = names_given (view p).number (view p).about (view z).known k.what k.told.calls (view p).numbers r.seat.sound.mine k.told.ends ∙ ap mark k.no_name in
          let seat : SeatRests (compact width flags) store z.seat = record {
            table_is = same ∙ r.seat.table_is;
            bare = slots ∙ r.seat.bare;
            live = ap (λ x. x.live) caught.face_is ∙ r.seat.live;
            idle = c.busy_stays ∙ r.seat.idle;
            no_olds = b.0;
            about_is = caught.about ∙ r.seat.about_is;
            is_about = r.seat.is_about;
            sound = caught.sound;
          } in
          subst (AtRest (compact width flags) store) (sym others)
          (rests_caught (compact width flags) store p (record p { seat = z.seat }) k.told.calls r seat caught refl refl refl refl refl (omega (arith, given))))
          (λ (no : Unchanged n q → ⊥). rests_root p z (seconded n q (view p).root) r same slots (c.changed no) holds_none others)
          (to_believe (Unit {0}) store.about n q)
