-- How a pass and its view change by the steps of a probe.
use Rattle.std.proofs.Common.{◌≡◌, ◌≢◌, ℕ, suc, ◌+◌, ◌^◌, ◌<◌, ◌≤◌, List, ◌∷◌, length, drop, get_or, Bool, true, refl, sym, ap, ◌∙◌, subst, inl, inr, ⊎_elim, arith, add-zero}
use Rattle.std.proofs.lemmas.Nat.{pow_below}
use mathlib.Core.Logic.{dite}
use native.Mathlib.Decide.{ℕ_discrete}
use Rattle.tree_shape.specs.Tree.{Has, IsPart, Stands}
use Rattle.tree_shape.proofs.Trees.{stands_more}
use Rattle.pair_rule.specs.declared.view.View.{View}
use Rattle.pair_rule.specs.declared.sizes.About.{About}
use Rattle.pair_rule.specs.declared.pass.PassOf.{PassOf}
use Rattle.pair_rule.specs.Numbers.{Face}
use Rattle.pair_rule.specs.Part.{Part, Store}
use Rattle.pair_rule.specs.View.{Grown, node_word, gained, learned, begun, published}
use Rattle.pair_rule.specs.Paths.{Buckets, node_buckets, size, bucket, IsPair}
use Rattle.pair_rule.specs.Rest.{Sound, AtRest, names_of_callers}
use Rattle.pair_rule.specs.Plays.{IsWord}
use Rattle.pair_rule.proofs.Steps.{gained_none, gained_pair}
use Rattle.pair_nodes.specs.Probe.{pair_of_word, IsNodeWord, HasPassed, Probed, Underway, Ended, KeepsTree}

pub buckets_small : (b : Buckets) → b.d ≤ 25 → size b < 67108864
unfolding size
buckets_small b h = pow_below b.d 26 (omega arith)

-- a pass whose view learned of nodes, and put so many
pub rests_step : {T : Type 0} (part : Part T) (store : Store) (p q : PassOf T) (n : ℕ)
    → AtRest part store p → q.seat.table_id ≡ p.seat.table_id → q.seat.me.1 ≡ p.seat.me.1 → Grown p.seat.me.0 q.seat.me.0 → q.seat.me.0.olds ≡ p.seat.me.0.olds → Sound part q.seat.me.0
    → length q.seat.me.0.made ≡ length p.seat.me.0.made + n → q.last_tree ≡ p.last_tree → q.next_tree ≡ p.next_tree → q.marks ≡ p.marks → q.has_last ≡ p.has_last → q.nodes_count ≡ p.nodes_count + n → q.names_count ≡ p.names_count
    → AtRest part store q
rests_step {T} part store p q n r same slots g olds sound made last next marks tree nodes names =
    let v = p.seat.me.0 in
    let u = q.seat.me.0 in
    let numbers : u.numbers ≡ v.numbers = ap (λ (f : Face). f.numbers) g.face_is in
    record {
      seat = record {
        table_is = same ∙ r.seat.table_is;
        bare = slots ∙ r.seat.bare;
        live = ap (λ (f : Face). f.live) g.face_is ∙ r.seat.live;
        idle = g.busy ∙ r.seat.idle;
        no_olds = olds ∙ r.seat.no_olds;
        about_is = g.about ∙ r.seat.about_is;
        is_about = r.seat.is_about;
        sound = sound;
      };
      last_length = ap (λ l. length l.items) last ∙ r.last_length;
      next_length = ap (λ l. length l.items) next ∙ r.next_length;
      marks_length = ap (λ l. length l.items) marks ∙ r.marks_length;
      last = λ has position low high. subst (λ l. Stands store.about.width store.about.slots u.known (drop store.about.slots l.items) position (get_or l.items position 0)) (sym last)
          (stands_more store.about.width store.about.slots v.known u.known (drop store.about.slots p.last_tree.items) position (get_or p.last_tree.items position 0) g.known (r.last (sym tree ∙ has) position low high));
      last_slots = λ has slot low. subst (λ l. get_or l.items (store.about.slots + slot) 0 < 2 ^ store.about.width) (sym last) (r.last_slots (sym tree ∙ has) slot low);
      nodes_count = nodes ∙ (let a = r.nodes_count in omega (arith, a, made));
      names_count = names ∙ (r.names_count ∙ ((λ i. names_of_callers (sym numbers i) v.seen) ∙ ap (names_of_callers u.numbers) (sym g.seen)));
    }

-- two words of nodes that differ have different pairs
other_pair : (about : About) (found word : ℕ) → IsWord about found → found ≢ 0 → found ≢ word → IsNodeWord about word → pair_of_word found ≢ pair_of_word word
other_pair about found word is used other node same = ⊎_elim
    (λ (z : found ≡ 0). used z)
    (λ (t : (x : ℕ) × (found ≡ node_word x) × IsPair (node_buckets about) x). let a = node.whole in let b = t.1 in other (omega arith))
    is

module _ {T : Type 0} where
  pub keeps_trans : (p q r : PassOf T) → KeepsTree p q → KeepsTree q r → KeepsTree p r
  keeps_trans p q r a b = b ∙ ap (λ (x : PassOf T). record x { seat = r.seat; nodes_count = r.nodes_count }) a

  pub keeps_seat : (p q : PassOf T) → q ≡ record p { seat = q.seat } → KeepsTree p q
  keeps_seat p q a = a ∙ (λ i. record p { seat = q.seat; nodes_count = sym (ap (λ (x : PassOf T). x.nodes_count) a) i })

  -- the bucket i was found to have the word n
  abbrev pub shown : ℕ → ℕ → Bool → ℕ → View T → View T
  shown i n o p v = record v { known = gained i n v.known; probing = o; probes = p }

  pub shown_has : (i n x p : ℕ) (o : Bool) (v : View T) → n ≡ node_word x → Has (i, x) (shown i n o p v).known
  shown_has i n x p o v e = rw (gained_pair i n x v.known e) (inl refl)

  pub shown_more : (about : About) (i n p : ℕ) (o : Bool) (v : View T) → IsWord about n → IsPart v.known (shown i n o p v).known
  shown_more about i n p o v w j y h = ⊎_elim
      (λ (z : n ≡ 0). rw (gained_none i n v.known z) h)
      (λ (t : (x : ℕ) × (n ≡ node_word x) × IsPair (node_buckets about) x). rw (gained_pair i n t.0 v.known t.1) (inr h)) w

  pub shown_grown : (about : About) (i n p : ℕ) (o : Bool) (v : View T) → IsWord about n → Grown v (shown i n o p v)
  shown_grown about i n p o v w = record { about = refl; face_is = refl; busy = refl; seen = refl; known = shown_more about i n p o v w; root = refl }

  pub published_grown : (i x : ℕ) (v : View T) → Grown v (published i x v)
  published_grown i x v = record { about = refl; face_is = refl; busy = refl; seen = refl; known = λ j y h. inr h; root = refl }

  pub grown_refl : (v : View T) → Grown v v
  grown_refl v = record { about = refl; face_is = refl; busy = refl; seen = refl; known = λ j y h. h; root = refl }

  pub grown_trans : (u v w : View T) → Grown u v → Grown v w → Grown u w
  grown_trans u v w a b = record { about = b.about ∙ a.about; face_is = b.face_is ∙ a.face_is; busy = b.busy ∙ a.busy; seen = b.seen ∙ a.seen; known = λ i x h. b.known i x (a.known i x h); root = b.root ∙ a.root }

  pub passed_more : (v w : View T) (x n : ℕ) → Grown v w → HasPassed v x n → HasPassed w x n
  passed_more v w x n g p k h = let q = p k h in (q.0, subst (λ (a : About). Has (bucket (node_buckets a) x k, q.0) w.known) (sym g.about) (g.known _ q.0 q.1), q.2)

  -- a further bucket has another pair
  pub passed_on : (v w : View T) (x n y : ℕ) → Grown v w → HasPassed v x n → Has (bucket (node_buckets v.about) x n, y) w.known → y ≢ x → HasPassed w x (n + 1)
  passed_on v w x n y g p here other k h = dite (ℕ_discrete k n)
      (λ e. (y, subst (λ (a : About). Has (bucket (node_buckets a) x k, y) w.known) (sym g.about) (subst (λ (m : ℕ). Has (bucket (node_buckets v.about) x m, y) w.known) (sym e) here), other))
      (λ ne. passed_more v w x n g p k (omega arith))

  probed_none : (about : About) (i n : ℕ) (v : View T) → IsWord about n → Probed 0 v (learned i n v)
  probed_none about i n v word = record { grown = shown_grown about i n v.probes v.probing v word; made = refl; probes_are = sym (add-zero v.probes) }

  pub probed_same : (v : View T) → Probed 0 v v
  probed_same v = record { grown = grown_refl v; made = refl; probes_are = sym (add-zero v.probes) }

  -- another pair was known to be there
  pub settle_passes : (about : About) (v : View T) (at found word step : ℕ) → v.about ≡ about → v.probing ≡ true → IsWord about found → found ≢ 0 → found ≢ word → IsNodeWord about word → Has (at, pair_of_word found) v.known
      → bucket (node_buckets about) (pair_of_word word) step ≡ at → HasPassed v (pair_of_word word) step → Underway (pair_of_word word) (step + 1) 0 v v
  settle_passes about v at found word step is probing there used other node has lies passed = record {
    probed = probed_same v;
    probing = probing;
    passed = passed_on v v (pair_of_word word) step (pair_of_word found) (grown_refl v) passed
        (subst (λ (a : About). Has (bucket (node_buckets a) (pair_of_word word) step, pair_of_word found) v.known) (sym is) (subst (λ (i : ℕ). Has (i, pair_of_word found) v.known) (sym lies) has)) (other_pair about found word there used other node);
  }

  -- the bucket got another pair between
  pub settle_loses : (about : About) (v w : View T) (at found word step : ℕ) → v.about ≡ about → v.probing ≡ true → IsWord about found → found ≢ 0 → found ≢ word → IsNodeWord about word → w ≡ learned at found v
      → bucket (node_buckets about) (pair_of_word word) step ≡ at → HasPassed v (pair_of_word word) step → Underway (pair_of_word word) (step + 1) 0 v w
  settle_loses about v w at found word step is probing there used other node gained lies passed =
      let u = learned at found v in
      let has : Has (at, pair_of_word found) u.known = ⊎_elim
      (λ (z : found ≡ 0). absurd (used z))
      (λ (t : (x : ℕ) × (found ≡ node_word x) × IsPair (node_buckets about) x). shown_has at found (pair_of_word found) v.probes v.probing v (let b = t.1 in omega arith))
      there in
      subst (Underway (pair_of_word word) (step + 1) 0 v) (sym gained) record {
        probed = probed_none about at found v there;
        probing = probing;
        passed = passed_on v u (pair_of_word word) step (pair_of_word found) (shown_grown about at found v.probes v.probing v there) passed
            (subst (λ (a : About). Has (bucket (node_buckets a) (pair_of_word word) step, pair_of_word found) u.known) (sym is) (subst (λ (i : ℕ). Has (i, pair_of_word found) u.known) (sym lies) has)) (other_pair about found word there used other node);
      }

  -- the pair was known to be there
  pub settle_finds : (v : View T) (at found word : ℕ) → found ≡ word → Has (at, pair_of_word found) v.known → Ended (pair_of_word word) at 0 v v
  settle_finds v at found word same has = record {
    put_at = record { grown = grown_refl v; made = inl refl; probes_are = sym (add-zero v.probes) };
    there = subst (λ (n : ℕ). Has (at, pair_of_word n) v.known) same has;
  }

  -- the pair was put there, or another caller had put it there
  pub settle_wins : (v w : View T) (at pair : ℕ) → ((y : ℕ) → Has (at, y) v.known → ⊥) → w ≡ published at pair v → Ended pair at 0 v w
  settle_wins v w at pair free is = subst (Ended pair at 0 v) (sym is) record { put_at = record { grown = published_grown at pair v; made = inr (refl, free); probes_are = sym (add-zero v.probes) }; there = inl refl }

  pub settle_meets : (about : About) (v w : View T) (at found word : ℕ) → w ≡ learned at found v → IsWord about found → found ≡ word → IsNodeWord about word → Ended (pair_of_word word) at 0 v w
  settle_meets about v w at found word gained there same node = subst (Ended (pair_of_word word) at 0 v) (sym gained) record {
    put_at = record { grown = shown_grown about at found v.probes v.probing v there; made = inl refl; probes_are = sym (add-zero v.probes) };
    there = shown_has at found (pair_of_word word) v.probes v.probing v (same ∙ node.whole);
  }

  -- steps of a probe one after the other
  pub underway_then : (pair m a b : ℕ) (u v w : View T) → Probed a u v → Underway pair m b v w → Underway pair m (a + b) u w
  underway_then pair m a b u v w p o = record {
    probed = record { grown = grown_trans u v w p.grown o.probed.grown; made = o.probed.made ∙ p.made; probes_are = let x = p.probes_are in let y = o.probed.probes_are in omega arith };
    probing = o.probing;
    passed = o.passed;
  }

  pub ended_then : (pair at a b : ℕ) (u v w : View T) → Probed a u v → Ended pair at b v w → Ended pair at (a + b) u w
  ended_then pair at a b u v w p o = record {
    put_at = record {
      grown = grown_trans u v w p.grown o.put_at.grown;
      made = ⊎_elim
          (λ (z : w.made ≡ v.made). inl (z ∙ p.made))
          (λ (z : (w.made ≡ at ∷ v.made) × ((y : ℕ) → Has (at, y) v.known → ⊥)). inr (z.0 ∙ ap (λ (l : List ℕ). at ∷ l) p.made, (λ y h. z.1 y (p.grown.known at y h))))
          o.put_at.made;
      probes_are = let x = p.probes_are in let y = o.put_at.probes_are in omega arith;
    };
    there = o.there;
  }

  -- the load that begins a probe
  pub probed_begun : (about : About) (i n : ℕ) (v w : View T) → IsWord about n → w ≡ begun i n v → Probed 1 v w
  probed_begun about i n v w word is = subst (Probed 1 v) (sym is) record { grown = shown_grown about i n (suc v.probes) true v word; made = refl; probes_are = omega arith }

  pub probed_learned : (about : About) (i n : ℕ) (v w : View T) → IsWord about n → w ≡ learned i n v → Probed 0 v w
  probed_learned about i n v w word is = subst (Probed 0 v) (sym is) (probed_none about i n v word)
