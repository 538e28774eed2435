-- Passes whose view changed in its root part alone, and passes that hold a region.
use Rattle.std.proofs.Common.{◌≡◌, ℕ, suc, ◌+◌, ◌-◌, ◌<◌, List, [], length, Bool, true, false, refl, sym, ap, ◌∙◌, subst, eqb, arith, append-nil}
use mathlib.Core.Option.{none}
use prog.Atomic.{either}
use Rattle.atomic_table.specs.Table.{Me, step, Allows}
use Rattle.atomic_table.specs.declared.shared.Seat.{Seat}
use Rattle.pair_rule.specs.declared.view.View.{View}
use Rattle.pair_rule.specs.declared.sizes.About.{About}
use Rattle.pair_rule.specs.declared.pass.PassOf.{PassOf}
use Rattle.pair_rule.specs.Part.{Store}
use Rattle.pair_rule.specs.Plays.{Caught, first_root}
use Rattle.pair_rule.specs.Rest.{Sound, SeatRests, AtRest, view}
use Rattle.pair_rule.specs.Rule.{StoreRule}
use Rattle.pair_rule.proofs.Catches.{rests_caught}
use Rattle.pair_rule.proofs.Histories.{extends_refl}
use Rattle.region_root.specs.declared.root.Regions.{Regions}
use Rattle.region_root.specs.declared.root.Holding.{Holding}
use Rattle.region_root.specs.Layout.{regions, words_each, start, KeepsRoots, region_of}
use Rattle.region_root.specs.Compact.{IsEven, IsOdd, compact, Compact}
use Rattle.region_root.specs.Maps.{InRegion}
use Rattle.region_root.specs.Plays.{part_of, recopied, place_in, TakenRegion, takes_tells, copies_tells, stores_tells}
use Rattle.region_root.specs.Work.{released, AtWork, Locked}
use Rattle.region_root.proofs.Holders.{takes, copies, stores}

abbrev V : Type 0
V = View Regions

abbrev S : Type 0
S = Seat (Unit {0}) V

-- two seats of one table with one view are one
pub same_seat : (p q : S) → q.table_id ≡ p.table_id → q.id ≡ p.id → q.me ≡ p.me → q ≡ p
same_seat p q a b c = λ i. record p { table_id = a i; id = b i; me = c i }

module _ (width flags : ℕ) where
  pub sound_as : (v : V) (busy : Bool) (t : Regions) → (busy ≡ false → t.held ≡ []) → Sound (compact width flags) v → Sound (compact width flags) (record v { busy = busy; root = t })
  sound_as v busy t idle s = record {
    legal = s.legal;
    nodes = s.nodes;
    named = s.named;
    made = s.made;
    made_once = s.made_once;
    probed = s.probed;
    mine = s.mine;
    numbers_once = s.numbers_once;
    unborn = s.unborn;
    olds = s.olds;
    whole = λ w. let k = s.whole record { first = w.first; all = w.all } in record { callers = k.callers; made = k.made; housed = k.housed };
    root_sound = let r = s.root_sound in record { is_about = r.is_about; packed = r.packed; few = r.few; idle = idle };
  }

  module _ (store : Store) where
    pub seat_as : (p q : S) (t : Regions) → SeatRests (compact width flags) store p → q.table_id ≡ p.table_id → q.me ≡ (record p.me.0 { busy = false; root = t }, p.me.1) → t.held ≡ [] → SeatRests (compact width flags) store q
    seat_as p q t r same is bare = record {
      table_is = same ∙ r.table_is;
      bare = ap (λ (m : Me (Unit {0}) V). m.1) is ∙ r.bare;
      live = ap (λ (m : Me (Unit {0}) V). m.0.live) is ∙ r.live;
      idle = ap (λ (m : Me (Unit {0}) V). m.0.busy) is;
      no_olds = ap (λ (m : Me (Unit {0}) V). m.0.olds) is ∙ r.no_olds;
      about_is = ap (λ (m : Me (Unit {0}) V). m.0.about) is ∙ r.about_is;
      is_about = r.is_about;
      sound = subst (λ (m : Me (Unit {0}) V). Sound (compact width flags) m.0) (sym is) (sound_as p.me.0 false t (λ _. bare) r.sound);
    }

    -- the same history
    pub still : (v w : V) (busy : Bool) (t : Regions) → w ≡ record v { busy = busy; root = t } → Sound (compact width flags) w → Caught (compact width flags) [] v w
    still v w busy t is s = subst (λ (u : V). Sound (compact width flags) u → Caught (compact width flags) [] v u) (sym is) (λ sound. record {
      log = v.seen;
      seen = sym (append-nil v.seen);
      begins = extends_refl v.seen;
      own = λ c has. refl;
      about = refl;
      face_is = refl;
      made = refl;
      probing = refl;
      probes = refl;
      known = λ i x has. has;
      roots_stay = λ i x has. has;
      sound = sound;
    }) s

    -- a pass whose root part alone changed, and that holds nothing, rests
    pub rests_as : (p q : PassOf Regions) (t : Regions) → AtRest (compact width flags) store p → q.seat.table_id ≡ p.seat.table_id → q.seat.me ≡ (record (view p) { busy = false; root = t }, p.seat.me.1) → t.held ≡ []
        → q ≡ record p { seat = q.seat } → AtRest (compact width flags) store q
    rests_as p q t r same is bare others =
        let seat = seat_as p.seat q.seat t r.seat same is bare in
        let caught = still (view p) q.seat.me.0 false t (ap (λ (m : Me (Unit {0}) V). m.0) is) seat.sound in
        subst (AtRest (compact width flags) store) (sym others) (rests_caught (compact width flags) store p (record p { seat = q.seat }) [] r seat caught refl refl refl refl refl (let n = r.names_count in omega arith))

    -- taking a region is allowed to a pass at rest
    pub take_allowed : (key : About) (p : PassOf Regions) (slots g word old new : ℕ) → AtRest (compact width flags) store p → key ≡ store.about → first_root store.about + g ≡ word → g < regions store.about → new ≡ suc old → IsEven old
        → Allows (StoreRule key ((part_of key).roots key) (Compact key)) slots p.seat.id p.seat.me word (λ n. either (eqb n old) new n) (takes_tells (step slots word old new none) p.seat.me)
    take_allowed key p slots g word old new r same here inside up even =
        subst (λ (k : About). Allows (StoreRule k ((part_of k).roots k) (Compact k)) slots p.seat.id p.seat.me word (λ n. either (eqb n old) new n) (takes_tells (step slots word old new none) p.seat.me)) (sym same)
        (takes _ store.about slots p.seat.id p.seat.me g word old new r.seat.about_is (r.seat.sound.root_sound.idle r.seat.idle) here inside up even)

    -- and then it holds the region
    pub locked : (p q : PassOf Regions) (g lock : ℕ) → AtRest (compact width flags) store p → q.seat.table_id ≡ p.seat.table_id → q.seat.me.1 ≡ p.seat.me.1 → q ≡ record p { seat = q.seat } → g < regions store.about → IsOdd lock
        → TakenRegion g lock (view p) (view q) → Locked width flags store g lock p q
    locked p q g lock r same slots others inside odd t =
        let about = r.seat.about_is in
        let h : Holding = record { region = g; lock = lock; copy = t.copy; base = t.base } in
        let root : Regions = record (view p).root { held = []; locks = suc (view p).root.locks } in
        let is : (released q).seat.me ≡ (record (view p) { busy = false; root = root }, p.seat.me.1) = λ i. (record (t.view_is i) { busy = false; root = record (t.view_is i).root { held = [] } }, slots i) in
        record {
          hold = h;
          work = record {
            rest = rests_as p (released q) root r same is refl (ap released others);
            busy = ap (λ (v : V). v.busy) t.view_is;
            held = ap (λ (v : V). v.root.held) t.view_is;
            region = inside;
            odd = odd;
            long = t.long ∙ ap words_each about;
            inside = subst (λ (y : About). InRegion y g t.base) about t.inside;
          };
          region_is = refl;
          lock_is = refl;
          keeps = subst (λ (y : About). KeepsRoots y t.copy t.base) about t.keeps;
          names = λ vector id name here. t.names vector id name (subst (λ (y : About). region_of y id ≡ g) (sym about) here);
          view_is = t.view_is;
          others = others;
        }

    module _ (h : Holding) (p : PassOf Regions) (w : AtWork width flags store h p) where
      pub live_is : (view p).live ≡ true
      live_is = w.rest.seat.live

      pub about_is : (view p).about ≡ store.about
      about_is = w.rest.seat.about_is

      -- its loads and stores
      pub load_allowed : (key : About) (slots from i word : ℕ) → key ≡ store.about → from ≡ first_root store.about + start store.about h.region → from + i ≡ word → i < words_each store.about
          → Allows (StoreRule key ((part_of key).roots key) (Compact key)) slots p.seat.id p.seat.me word (λ n. n) (copies_tells (step slots word 0 0 none) p.seat.me)
      load_allowed key slots from i word same begins here near =
          subst (λ (k : About). Allows (StoreRule k ((part_of k).roots k) (Compact k)) slots p.seat.id p.seat.me word (λ n. n) (copies_tells (step slots word 0 0 none) p.seat.me)) (sym same)
          (copies _ store.about slots p.seat.id p.seat.me h i word about_is w.held (omega (arith, begins, here)) near)

      pub store_allowed : (key : About) (slots from i word new : ℕ) → key ≡ store.about → from ≡ first_root store.about + start store.about h.region → from + i ≡ word → i < words_each store.about
          → Allows (StoreRule key ((part_of key).roots key) (Compact key)) slots p.seat.id p.seat.me word (λ _. new) (λ _. stores_tells (step slots word new 0 none) p.seat.me new)
      store_allowed key slots from i word new same begins here near =
          subst (λ (k : About). Allows (StoreRule k ((part_of k).roots k) (Compact k)) slots p.seat.id p.seat.me word (λ _. new) (λ _. stores_tells (step slots word new 0 none) p.seat.me new)) (sym same)
          (stores _ store.about slots p.seat.id p.seat.me h i word new about_is w.held w.busy (omega (arith, begins, here)) near)

      pub place_here : (from i word : ℕ) → from ≡ first_root store.about + start store.about h.region → from + i ≡ word → place_in (view p).about word h.region ≡ i
      place_here from i word begins here = subst (λ (y : About). place_in y word h.region ≡ i) (sym about_is) (omega (arith, begins, here))

      -- with other words
      pub recopied_work : (q : PassOf Regions) (copy : List ℕ) → length copy ≡ length h.copy → q.seat.table_id ≡ p.seat.table_id → q.seat.me.1 ≡ p.seat.me.1 → view q ≡ recopied copy h (view p) → q ≡ record p { seat = q.seat }
          → AtWork width flags store (record h { copy = copy }) q
      recopied_work q copy long same slots is others =
          let v : V = (released p).seat.me.0 in
          let me : (released q).seat.me ≡ (record v { busy = false; root = v.root }, (released p).seat.me.1) = λ i. (record (is i) { busy = false; root = record (is i).root { held = [] } }, slots i) in
          record {
            rest = rests_as (released p) (released q) v.root w.rest same me refl (ap released others);
            busy = ap (λ (u : V). u.busy) is ∙ w.busy;
            held = ap (λ (u : V). u.root.held) is;
            region = w.region;
            odd = w.odd;
            long = long ∙ w.long;
            inside = w.inside;
          }

    pub lock_here : (p : PassOf Regions) (g word : ℕ) → AtRest (compact width flags) store p → word ≡ first_root store.about + g → word - first_root (view p).about ≡ g
    lock_here p g word r here = subst (λ (y : About). word - first_root y ≡ g) (sym r.seat.about_is) (omega (arith, here))
