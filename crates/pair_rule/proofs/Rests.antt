-- What is known of passes between calls, as they are made, split and joined.
use Rattle.std.proofs.Common.{◌≡◌, ℕ, suc, ◌+◌, ◌*◌, ◌^◌, ◌<◌, ◌≤◌, List, [], ◌∷◌, ◌++◌, length, drop, get_or, true, false, true≢false, refl, sym, ap, ◌∙◌, subst, inl, inr, ⊎_elim, arith, length-append}
use Rattle.std.proofs.lemmas.Nat.{pow_below}
use Rattle.atomic_table.specs.Table.{Me, Step, opening}
use Rattle.atomic_table.specs.declared.shared.Seat.{Seat}
use Rattle.tree_shape.specs.Tree.{Has, IsPart, Stands}
use Rattle.tree_shape.proofs.Trees.{stands_more}
use Rattle.tdb_base.specs.History.{History, calls}
use Rattle.tdb_base.specs.Legal.{Extends}
use Rattle.pair_rule.specs.declared.view.View.{View}
use Rattle.pair_rule.specs.declared.sizes.About.{About}
use Rattle.pair_rule.specs.declared.pass.PassOf.{PassOf}
use Rattle.pair_rule.specs.Numbers.{child, Descends, itself, NoRepeats}
use Rattle.pair_rule.specs.Laws.{IsAbout}
use Rattle.pair_rule.specs.Part.{Store, Part}
use Rattle.pair_rule.specs.View.{longer, parent_view, child_view, joining_view, joined_view, old_of}
use Rattle.pair_rule.specs.Paths.{node_buckets, size}
use Rattle.pair_rule.specs.Rule.{Named, StoreRule}
use Rattle.pair_rule.specs.Rest.{Sound, SeatRests, AtRest, names_of_callers}
use Rattle.pair_rule.specs.Splits.{HasTaken}
use Rattle.pair_rule.specs.Plays.{JoinTold}
use Rattle.pair_rule.proofs.Lists.{has_front, has_back}
use Rattle.pair_rule.proofs.Census.{child_above, child_same, descends_above, descends_from_child}
use Rattle.pair_rule.proofs.Sounds.{SoundOf, Houses, sound_of}
use Rattle.pair_rule.proofs.Counts.{few, few_names, names_same, names_both}

module _ {T : Type 0} (part : Part T) where
  -- a view from which a pass was split
  pub sound_left : ((about : About) (v : View T) → part.sound about v → part.sound about (parent_view v)) → (v : View T) → Sound part v → Sound part (parent_view v)
  sound_left sound_kept v s = record {
    legal = s.legal;
    nodes = s.nodes;
    named = s.named;
    made = s.made;
    made_once = s.made_once;
    probed = s.probed;
    mine = s.mine;
    numbers_once = s.numbers_once;
    unborn = λ n c le from.
        let old = s.unborn n c (omega arith) from in (
          old.0,
          (λ h. ⊎_elim (λ (is : c ≡ child v.number v.splits). other n c le is from) (λ (b : Has c v.born). old.1 b) h),
          old.2,
        );
    olds = s.olds;
    whole = λ w. let a = s.whole record { first = w.first; all = λ c h. w.all c (inr h) } in record { callers = a.callers; made = a.made; housed = a.housed };
    root_sound = sound_kept v.about v s.root_sound;
  }
    where
      other : (n c : ℕ) → suc v.splits ≤ n → c ≡ child v.number v.splits → Descends (child v.number n) c → ⊥
      other n c le is (itself e) = let y = child_same v.number v.number n v.splits (sym e ∙ is) in omega arith
      other n c le is (Rattle.pair_rule.specs.Numbers.onward parent m e from) =
          let y = child_same parent v.number m v.splits (sym e ∙ is) in
          let up = descends_above (child v.number n) parent from in
          let more = child_above v.number n in
          omega (arith, y.0)

  -- the view of the new pass
  pub sound_right : ((about : About) (v : View T) → part.sound about v → part.sound about (child_view part.split v)) → ((about : About) (h : History) (t : T) → part.roots about h (part.split t) ≡ part.roots about h t)
      → (v : View T) → Sound part v → Sound part (child_view part.split v)
  sound_right sound_kept roots_split v s = record {
    legal = s.legal;
    nodes = s.nodes;
    named = subst (λ (l : List (ℕ × ℕ)). Named v.about v.known v.seen l) (sym (roots_split v.about v.seen v.root)) s.named;
    made = λ i h. absurd h;
    made_once = tt;
    probed = omega arith;
    mine = inl refl;
    numbers_once = ((λ no. no), tt);
    unborn = λ n c le from.
        let up = descends_above (child (child v.number v.splits) n) c from in
        let more = child_above (child v.number v.splits) n in
        let old = s.unborn v.splits c (omega arith) (descends_from_child (child v.number v.splits) n c from) in (
          (λ h. ⊎_elim (λ (is : c ≡ child v.number v.splits). omega arith) (λ (no : ⊥). no) h),
          (λ h. h),
          old.2,
        );
    olds = λ o h. absurd h;
    whole = λ w. absurd (⊎_elim (λ (z : 0 ≡ child v.number v.splits). let up = child_above v.number v.splits in omega arith) (λ (no : ⊥). no) w.first);
    root_sound = sound_kept v.about v s.root_sound;
  }

  module _ {S : Type 0} (store : Store) where
    pub rests_left : ((about : About) (v : View T) → part.sound about v → part.sound about (parent_view v)) → (p q : Seat S (View T)) → SeatRests part store p → q.table_id ≡ p.table_id → q.me ≡ (parent_view p.me.0, p.me.1)
        → SeatRests part store q
    rests_left sound_kept p q r same is = record {
      table_is = same ∙ r.table_is;
      bare = ap (λ (m : Me S (View T)). m.1) is ∙ r.bare;
      live = ap (λ (m : Me S (View T)). m.0.live) is ∙ r.live;
      idle = ap (λ (m : Me S (View T)). m.0.busy) is ∙ r.idle;
      no_olds = ap (λ (m : Me S (View T)). m.0.olds) is ∙ r.no_olds;
      about_is = ap (λ (m : Me S (View T)). m.0.about) is ∙ r.about_is;
      is_about = r.is_about;
      sound = subst (Sound part) (sym (ap (λ (m : Me S (View T)). m.0) is)) (sound_left sound_kept p.me.0 r.sound);
    }

    pub rests_right : ((about : About) (v : View T) → part.sound about v → part.sound about (child_view part.split v)) → ((about : About) (h : History) (t : T) → part.roots about h (part.split t) ≡ part.roots about h t)
        → (p q : Seat S (View T)) → SeatRests part store p → q.table_id ≡ p.table_id → q.me ≡ (child_view part.split p.me.0, []) → SeatRests part store q
    rests_right sound_kept roots_split p q r same is = record {
      table_is = same ∙ r.table_is;
      bare = ap (λ (m : Me S (View T)). m.1) is;
      live = ap (λ (m : Me S (View T)). m.0.live) is;
      idle = ap (λ (m : Me S (View T)). m.0.busy) is;
      no_olds = ap (λ (m : Me S (View T)). m.0.olds) is;
      about_is = ap (λ (m : Me S (View T)). m.0.about) is ∙ r.about_is;
      is_about = r.is_about;
      sound = subst (Sound part) (sym (ap (λ (m : Me S (View T)). m.0) is)) (sound_right sound_kept roots_split p.me.0 r.sound);
    }

    -- after a join and the load that follows it
    pub rests_joined : (p q o r : Seat S (View T)) → SeatRests part store p → q.table_id ≡ p.table_id → q.me ≡ (joining_view part.join p.me.0 o.me.0, p.me.1)
        → r.table_id ≡ q.table_id → (st : Step S) → JoinTold part st q.me r.me → SeatRests part store r
    rests_joined p q o r rests same is same' st met = record {
      table_is = same' ∙ (same ∙ rests.table_is);
      bare = met.slots_stay ∙ (ap (λ (m : Me S (View T)). m.1) is ∙ rests.bare);
      live = ap (λ (v : View T). v.live) met.view_is ∙ (ap (λ (m : Me S (View T)). m.0.live) is ∙ rests.live);
      idle = ap (λ (v : View T). v.busy) met.view_is ∙ (ap (λ (m : Me S (View T)). m.0.busy) is ∙ rests.idle);
      no_olds = ap (λ (v : View T). v.olds) met.view_is;
      about_is = ap (λ (v : View T). v.about) met.view_is ∙ (ap (λ (m : Me S (View T)). m.0.about) is ∙ rests.about_is);
      is_about = rests.is_about;
      sound = met.sound;
    }

    pub view_joined : (p q o r : Seat S (View T)) → q.me ≡ (joining_view part.join p.me.0 o.me.0, p.me.1) → (st : Step S) → JoinTold part st q.me r.me → r.me.0 ≡ joined_view part.join p.me.0 o.me.0
    view_joined p q o r is st met = met.view_is ∙ ap (λ (m : Me S (View T)). record m.0 { olds = [] }) is

  -- what the load that follows a join tells of both views
  pub record Both (v w u : View T) : Type 0 where
    pub seen : Extends v.seen u.seen × Extends w.seen u.seen
    pub own : (c : ℕ) → Has c v.numbers → calls u.seen c ≡ calls v.seen c
    pub others : (c : ℕ) → Has c w.numbers → calls u.seen c ≡ calls w.seen c

  pub both_told : (v w : View T) → Sound part (joining_view part.join v w) → Both v w (joined_view part.join v w)
  both_told v w s =
      let first = s.olds (old_of v) (inl refl) in
      let second = s.olds (old_of w) (inr (inl refl)) in
      record { seen = (first.0, second.0); own = first.1; others = second.1 }

  pub told_joined : {S : Type 0} (v w : View T) (x : List (ℕ × S)) (q r : Me S (View T)) → q ≡ (joining_view part.join v w, x) → (st : Step S) → JoinTold part st q r → Both v w r.0
  told_joined {S} v w x q r is st met =
      subst (Both v w) (sym (met.view_is ∙ ap (λ (m : Me S (View T)). record m.0 { olds = [] }) is)) (both_told v w (subst (Sound part) (ap (λ (m : Me S (View T)). m.0) is) met.joined_sound))

  abbrev pub JoinsRoots : About → Type 0
  JoinsRoots about = (g h : History) (t u : T) → Extends g (longer g h) → Extends h (longer g h) → IsPart (part.roots about g t) (part.roots about (longer g h) (part.join t u)) × IsPart (part.roots about h u) (part.roots about (longer g h) (part.join t u))

  taken_here : (v w : View T) → JoinsRoots v.about → w.about ≡ v.about → Both v w (joined_view part.join v w)
      → HasTaken part v (joined_view part.join v w) × HasTaken part w (joined_view part.join v w)
  taken_here v w joins_roots same b =
      let r = joins_roots v.seen w.seen v.root w.root b.seen.0 b.seen.1 in (
        record { seen = b.seen.0; calls = b.own; known = λ i x h. has_front (i, x) v.known w.known h; roots = r.0 },
        record {
          seen = b.seen.1;
          calls = b.others;
          known = λ i x h. has_back (i, x) v.known w.known h;
          roots = subst (λ (a : About). IsPart (part.roots a w.seen w.root) (part.roots v.about (longer v.seen w.seen) (part.join v.root w.root))) (sym same) r.1;
        },
      )

  -- what one view has that was made of two
  pub taken_joined : (v w u : View T) → JoinsRoots v.about → w.about ≡ v.about → u ≡ joined_view part.join v w → Both v w u
      → HasTaken part v u × HasTaken part w u
  taken_joined v w u joins_roots same is b =
      subst (λ (x : View T). HasTaken part v x × HasTaken part w x) (sym is) (taken_here v w joins_roots same (subst (Both v w) is b))

  -- how many nodes were made, and how many names were given
  pub few_made : (v : View T) → Sound part v → length v.made ≤ size (node_buckets v.about)
  few_made v s = few v.made (size (node_buckets v.about)) s.made_once (λ i h. let m = s.made i h in (s.nodes.inside i m.0 m.1).0)

  pub few_given : ((about : About) (v : View T) → part.sound about v → (id pair : ℕ) → Has (id, pair) (part.roots about v.seen v.root) → id < 2 ^ 62) → (v : View T) → Sound part v → names_of_callers v.numbers v.seen ≤ 4611686018427387904
  few_given small v s = few_names v.about.flags 4611686018427387904 v.numbers v.seen s.legal (λ x id n. let p = s.named.each x id n in small v.about v s.root_sound id p.0 p.1)

-- the first pass of a table, whatever it knows
pub rests_first : {S T : Type 0} (part : Part T) (store : Store) (root : History → List ℕ → List (View T) → Type 0)
    → SoundOf S store.about part root → Houses S store.about part root → IsAbout part.sized part.count store.about
    → (v : View T) (words : List ℕ) (seat : Seat S (View T)) → StoreRule store.about (part.roots store.about) root {S = S} (opening words [] v)
    → v.live ≡ true → v.busy ≡ false → v.olds ≡ [] → v.about ≡ store.about
    → seat.table_id ≡ store.table → seat.me ≡ (v, []) → SeatRests part store seat
rests_first {S} {T} part store root sounds_of houses is_about v words seat kept live idle no_olds about same is =
    let sound = sound_of S store.about part root sounds_of houses (opening words [] v) kept 0 v refl live in
    record {
      table_is = same;
      bare = ap (λ (m : Me S (View T)). m.1) is;
      live = ap (λ (m : Me S (View T)). m.0.live) is ∙ live;
      idle = ap (λ (m : Me S (View T)). m.0.busy) is ∙ idle;
      no_olds = ap (λ (m : Me S (View T)). m.0.olds) is ∙ no_olds;
      about_is = ap (λ (m : Me S (View T)). m.0.about) is ∙ about;
      is_about = is_about;
      sound = subst (Sound part) (sym (ap (λ (m : Me S (View T)). m.0) is)) sound;
    }

-- a pass that has made nothing and named nothing, with buffers of their lengths and no tree
pub pass_rests : {T : Type 0} (part : Part T) (store : Store) (p : PassOf T)
    → SeatRests part store p.seat → length p.last_tree.items ≡ 2 * store.about.slots → length p.next_tree.items ≡ 2 * store.about.slots → length p.marks.items ≡ store.about.slots → p.has_last ≡ false
    → p.nodes_count ≡ length p.seat.me.0.made → p.names_count ≡ names_of_callers p.seat.me.0.numbers p.seat.me.0.seen → AtRest part store p
pass_rests part store p seat last next marks no_tree nodes names = record {
  seat = seat;
  last_length = last;
  next_length = next;
  marks_length = marks;
  last = λ tree. absurd (true≢false (sym tree ∙ no_tree));
  last_slots = λ tree. absurd (true≢false (sym tree ∙ no_tree));
  nodes_count = nodes;
  names_count = names;
}

module _ {T : Type 0} (part : Part T) (store : Store) where
  -- a pass into which another view was joined, with the counts of both
  pub pass_joined : (p q : PassOf T) (w : View T) → AtRest part store p → SeatRests part store q.seat → q.seat.me.0 ≡ joined_view part.join p.seat.me.0 w
      → ((c : ℕ) → Has c p.seat.me.0.numbers → calls q.seat.me.0.seen c ≡ calls p.seat.me.0.seen c) → ((c : ℕ) → Has c w.numbers → calls q.seat.me.0.seen c ≡ calls w.seen c)
      → q.last_tree ≡ p.last_tree → q.next_tree ≡ p.next_tree → q.marks ≡ p.marks → q.has_last ≡ p.has_last
      → q.nodes_count ≡ p.nodes_count + length w.made → q.names_count ≡ p.names_count + names_of_callers w.numbers w.seen → AtRest part store q
  pass_joined p q w r seat is own others last next marks tree nodes names =
      let v = p.seat.me.0 in
      let u = q.seat.me.0 in
      let made : u.made ≡ v.made ++ w.made = ap (λ (x : View T). x.made) is in
      let numbers : u.numbers ≡ v.numbers ++ w.numbers = ap (λ (x : View T). x.numbers) is in
      let known : u.known ≡ v.known ++ w.known = ap (λ (x : View T). x.known) is in
      let once : NoRepeats (v.numbers ++ w.numbers) = subst NoRepeats numbers seat.sound.numbers_once in
      let given : names_of_callers u.numbers u.seen ≡ names_of_callers v.numbers v.seen + names_of_callers w.numbers w.seen =
      ap (λ (l : List ℕ). names_of_callers l u.seen) numbers ∙ names_both v.numbers w.numbers v.seen w.seen u.seen once own others in
      let length_made : length u.made ≡ length v.made + length w.made = ap length made ∙ length-append v.made w.made in
      let more : IsPart v.known u.known = λ i x h. subst (Has (i, x)) (sym known) (has_front (i, x) v.known w.known h) in
      record {
        seat = seat;
        last_length = ap (λ l. length l.items) last ∙ r.last_length;
        next_length = ap (λ l. length l.items) next ∙ r.next_length;
        marks_length = ap (λ l. length l.items) marks ∙ r.marks_length;
        last = λ has position low high. subst (λ l. Stands store.about.width store.about.slots u.known (drop store.about.slots l.items) position (get_or l.items position 0)) (sym last)
            (stands_more store.about.width store.about.slots v.known u.known (drop store.about.slots p.last_tree.items) position (get_or p.last_tree.items position 0) more (r.last (sym tree ∙ has) position low high));
        last_slots = λ has slot low. subst (λ l. get_or l.items (store.about.slots + slot) 0 < 2 ^ store.about.width) (sym last) (r.last_slots (sym tree ∙ has) slot low);
        nodes_count = nodes ∙ (let a = r.nodes_count in omega (arith, a, length_made));
        names_count = names ∙ (let a = r.names_count in omega (arith, a, given));
      }

  -- a pass from which another was split, with its tree and its buffers as they were
  pub pass_split : (p q : PassOf T) → AtRest part store p → SeatRests part store q.seat → q.seat.me.0 ≡ parent_view p.seat.me.0
      → q.last_tree ≡ p.last_tree → q.next_tree ≡ p.next_tree → q.marks ≡ p.marks → q.has_last ≡ p.has_last
      → q.nodes_count ≡ p.nodes_count → q.names_count ≡ p.names_count → AtRest part store q
  pass_split p q r seat is last next marks tree nodes names = record {
    seat = seat;
    last_length = ap (λ l. length l.items) last ∙ r.last_length;
    next_length = ap (λ l. length l.items) next ∙ r.next_length;
    marks_length = ap (λ l. length l.items) marks ∙ r.marks_length;
    last = λ has position low high. subst (λ (x : List ℕ × List (ℕ × ℕ)). Stands store.about.width store.about.slots x.1 (drop store.about.slots x.0) position (get_or x.0 position 0))
        (λ i. ((ap (λ l. l.items) (sym last)) i, (ap (λ (v : View T). v.known) (sym is)) i)) (r.last (sym tree ∙ has) position low high);
    last_slots = λ has slot low. subst (λ l. get_or l.items (store.about.slots + slot) 0 < 2 ^ store.about.width) (sym last) (r.last_slots (sym tree ∙ has) slot low);
    nodes_count = nodes ∙ (r.nodes_count ∙ ap (λ (v : View T). length v.made) (sym is));
    names_count = names ∙ (r.names_count ∙ ap (λ (v : View T). names_of_callers v.numbers v.seen) (sym is));
  }

  -- a pass that was just split off has given no names
  pub no_names_given : (v : View T) → Sound part v → names_of_callers (child v.number v.splits ∷ []) v.seen ≡ 0
  no_names_given v s = names_same (child v.number v.splits ∷ []) v.seen [] ((λ no. no), tt)
      (λ c h. ⊎_elim (λ (is : c ≡ child v.number v.splits). (s.unborn v.splits c (omega arith) (itself is)).2) (λ (no : ⊥). absurd no) h)

  pub few_nodes : (p : PassOf T) → AtRest part store p → p.nodes_count < 67108864
  unfolding size
  few_nodes p r =
      let shallow = r.seat.is_about.range.most_nodes in
      let bound = few_made part p.seat.me.0 r.seat.sound in
      let here : length p.seat.me.0.made ≤ size (node_buckets store.about) = subst (λ (a : About). length p.seat.me.0.made ≤ size (node_buckets a)) r.seat.about_is bound in
      let small = pow_below store.about.sizes.nodes 26 (omega (arith, shallow)) in
      let count = r.nodes_count in
      omega (arith, here, small, count)

  pub few_names_given : ((about : About) (v : View T) → part.sound about v → (id pair : ℕ) → Has (id, pair) (part.roots about v.seen v.root) → id < 2 ^ 62) → (p : PassOf T) → AtRest part store p → p.names_count ≤ 4611686018427387904
  few_names_given small p r = let bound = few_given part small p.seat.me.0 r.seat.sound in let count = r.names_count in omega (arith, bound, count)
