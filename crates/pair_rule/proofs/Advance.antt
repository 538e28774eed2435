-- Steps on a root word, as far as the nodes, the numbers and the calls go: the stepping view changes its root part alone, or it catches up and may make calls.
use Rattle.std.proofs.Common.{◌≡◌, ◌≢◌, ℕ, suc, ◌<◌, List, [], ◌++◌, length, map, drop, set, Bool, true, refl, sym, ◌∙◌, subst, ⊎_elim}
use mathlib.Core.Option.{some}
use lib.ListN.{get_elem?}
use Rattle.atomic_table.specs.Table.{State}
use Rattle.atomic_table.proofs.Lists.{at_set, at_map}
use Rattle.tree_shape.specs.Tree.{Has, IsPart}
use Rattle.tdb_base.specs.History.{Entry, History}
use Rattle.tdb_base.specs.Legal.{IsLegal}
use Rattle.pair_rule.specs.declared.view.View.{View}
use Rattle.pair_rule.specs.declared.sizes.About.{About}
use Rattle.pair_rule.specs.Part.{Part}
use Rattle.pair_rule.specs.View.{face, made_of}
use Rattle.pair_rule.specs.Paths.{node_buckets, size}
use Rattle.pair_rule.specs.Rule.{IsNode, at, Filled, Made, Named, Fits, Numbers, Callers, StoreRule}
use Rattle.pair_rule.specs.Rest.{AreNodes}
use Rattle.pair_rule.specs.Plays.{Caught}
use Rattle.pair_rule.proofs.Lists.{has_back, has_either, set_got, each_set, map_same}
use Rattle.pair_rule.proofs.Histories.{extends_refl, extends_push, extends_trans, other_calls}
use Rattle.pair_rule.proofs.Buckets.{filled_same}
use Rattle.pair_rule.proofs.Whole.{node_one, node_used, nodes_of, node_stands}
use Rattle.pair_rule.proofs.Sounds.{SoundOf, Houses, sound_of}
use Rattle.pair_rule.proofs.Steps.{holder_same}

-- v with all that h knows, this history and this root part
abbrev pub catch : {T : Type 0} → View T → View T → History → Bool → T → View T
catch v h seen busy t = record v { busy = busy; seen = seen; known = h.known ++ v.known; olds = []; root = t }

module _ {T : Type 0} (S : Type 0) (about : About) (part : Part T)
    (root : History → List ℕ → List (View T) → Type 0) where
  abbrev Rule : State S (View T) → Type 0
  Rule = StoreRule about (part.roots about) root

  -- the nodes' words are as they were
  abbrev pub SameNodes : List ℕ → List ℕ → Type 0
  SameNodes old new = (length new ≡ length old) × ((k : ℕ) → k < size (node_buckets about) → at new k ≡ at old k)

  nodes_kept : (s : State S (View T)) (r : Rule s) (words : List ℕ) → SameNodes s.words words → Filled (node_buckets about) IsNode (at words)
  nodes_kept s r words same = filled_same (node_buckets about) IsNode node_one node_used (at s.words) (at words) r.least_nodes
      (λ k inside. ((λ z. same.1 k inside ∙ z), (λ x h. subst (λ (n : ℕ). IsNode n x) (sym (same.1 k inside)) h))) r.nodes

  made_kept : (s : State S (View T)) (r : Rule s) (words : List ℕ) (id : ℕ) (v w : View T) → SameNodes s.words words → get_elem? s.views id ≡ some v → w.made ≡ v.made
      → Made (size (node_buckets about)) (at words) (map made_of (set s.views id w))
  made_kept s r words id v w same e made = subst (Made (size (node_buckets about)) (at words)) (sym (map_same made_of s.views id v w e made))
      record { once = r.made.once; all = λ i inside used. r.made.all i inside (λ z. used (same.1 i inside ∙ z)) }

  known_kept : (s : State S (View T)) (words : List ℕ) → SameNodes s.words words → (i x : ℕ) → (i < size (node_buckets about)) × IsNode (at s.words i) x → (i < size (node_buckets about)) × IsNode (at words i) x
  known_kept s words same i x k = (k.0, subst (λ (n : ℕ). IsNode n x) (sym (same.1 i k.0)) k.1)

  -- a step on a root word that changes nothing of the stepping view but its root part, with the same root pairs
  pub stays : (s : State S (View T)) (r : Rule s) (id : ℕ) (v : View T) (words : List ℕ) (busy : Bool) (t : T)
      → get_elem? s.views id ≡ some v → SameNodes s.words words → part.roots about v.seen t ≡ part.roots about v.seen v.root
      → root r.log (drop (suc (size (node_buckets about))) words) (set s.views id (record v { busy = busy; root = t }))
      → Rule record { words = words; homes = s.homes; views = set s.views id (record v { busy = busy; root = t }) }
  stays s r id v words busy t e same pairs rooted =
      let w : View T = record v { busy = busy; root = t } in
      let f = r.each id v e in
      record {
        log = r.log;
        legal = r.legal;
        holder = holder_same r.log s.views id v w r.holder e refl;
        least_nodes = r.least_nodes;
        wide = same.0 ∙ r.wide;
        nodes = nodes_kept s r words same;
        made = made_kept s r words id v w same e refl;
        each = each_set (λ (j : ℕ) (u : View T). Fits about (part.roots about) r.log (at words) u) s.views id w
            (λ j u p. let g = r.each j u p in record { about_is = g.about_is; known = λ i x h. known_kept s words same i x (g.known i x h); made = g.made; made_once = g.made_once; probed = g.probed; seen = g.seen; own = g.own; named = g.named; olds = g.olds; spent = g.spent })
            record {
              about_is = f.about_is;
              known = λ i x h. known_kept s words same i x (f.known i x h);
              made = f.made;
              made_once = f.made_once;
              probed = f.probed;
              seen = f.seen;
              own = f.own;
              named = subst (λ (l : List (ℕ × ℕ)). Named about v.known v.seen l) (sym pairs) f.named;
              olds = f.olds;
              spent = f.spent;
            };
        numbers = subst Numbers (sym (map_same face s.views id v w e refl)) r.numbers;
        callers = subst (Callers r.log) (sym (map_same face s.views id v w e refl)) r.callers;
        rooted = rooted;
      }

  -- what two views know together are nodes
  pub united : (s : State S (View T)) (r : Rule s) (id j : ℕ) (v h : View T) → get_elem? s.views id ≡ some v → get_elem? s.views j ≡ some h → AreNodes about (h.known ++ v.known)
  united s r id j v h e eh = nodes_of S about part.roots root s r (h.known ++ v.known) (λ i x a. ⊎_elim
      (λ (b : Has (i, x) h.known). (node_stands S about part.roots root s r j h eh i x b, ((r.each j h eh).known i x b).0))
      (λ (b : Has (i, x) v.known). (node_stands S about part.roots root s r id v e i x b, ((r.each id v e).known i x b).0))
      (has_either (i, x) h.known v.known a))

  module _ (s : State S (View T)) (r : Rule s) (id j : ℕ) (v h : View T) (words : List ℕ) (more : History) (busy : Bool) (t : T)
      (e : get_elem? s.views id ≡ some v) (live : v.live ≡ true) (eh : get_elem? s.views j ≡ some h) (mine : (x : Entry) → Has x more → x.caller ≡ v.number) (same : SameNodes s.words words)
      (legal : IsLegal about.flags (r.log ++ more)) (named : Named about (h.known ++ v.known) (r.log ++ more) (part.roots about (r.log ++ more) t))
      (rooted : root (r.log ++ more) (drop (suc (size (node_buckets about))) words) (set s.views id (catch v h (r.log ++ more) busy t))) where
    abbrev w : View T
    w = catch v h (r.log ++ more) busy t

    number : Has v.number v.numbers
    number = r.numbers.mine id (face v) (at_map face s.views id v e) live

    apart : (k : ℕ) (u : View T) → k ≢ id → get_elem? s.views k ≡ some u → (c : ℕ) → Has c u.numbers → (x : Entry) → Has x more → x.caller ≢ c
    apart k u n p c has x there z = n (r.numbers.sole v.number k id (face u) (face v) (at_map face s.views k u p) (at_map face s.views id v e) (subst (λ (m : ℕ). Has m u.numbers) (sym z ∙ mine x there) has) number)

    others : (k : ℕ) (u : View T) → k ≢ id → get_elem? s.views k ≡ some u → Fits about (part.roots about) (r.log ++ more) (at words) u
    others k u n p =
        let g = r.each k u p in
        record {
          about_is = g.about_is;
          known = λ i x has. known_kept s words same i x (g.known i x has);
          made = g.made;
          made_once = g.made_once;
          probed = g.probed;
          seen = extends_trans u.seen r.log (r.log ++ more) g.seen (extends_push r.log more);
          own = λ c has. g.own c has ∙ sym (other_calls r.log more c (apart k u n p c has));
          named = g.named;
          olds = λ o has. let q = g.olds o has in
              (extends_trans o.seen r.log (r.log ++ more) q.0 (extends_push r.log more), (λ c there. ((q.1 c there).0, (q.1 c there).1 ∙ sym (other_calls r.log more c (apart k u n p c (q.1 c there).0)))), q.2);
          spent = g.spent;
        }

    itself : Fits about (part.roots about) (r.log ++ more) (at words) w
    itself =
        let f = r.each id v e in
        let fh = r.each j h eh in
        record {
          about_is = λ l. f.about_is live;
          known = λ i x has. known_kept s words same i x (⊎_elim (λ (b : Has (i, x) h.known). fh.known i x b) (λ (b : Has (i, x) v.known). f.known i x b) (has_either (i, x) h.known v.known has));
          made = λ i has. let m = f.made i has in (m.0, has_back (i, m.0) h.known v.known m.1);
          made_once = f.made_once;
          probed = f.probed;
          seen = extends_refl (r.log ++ more);
          own = λ c has. refl;
          named = named;
          olds = λ o has. absurd has;
          spent = λ dead. absurd (cc (live, dead));
        }

    pub advances : Rule record { words = words; homes = s.homes; views = set s.views id w }
    advances = record {
      log = r.log ++ more;
      legal = legal;
      holder = (id, w, set_got s.views id v w e, refl);
      least_nodes = r.least_nodes;
      wide = same.0 ∙ r.wide;
      nodes = nodes_kept s r words same;
      made = made_kept s r words id v w same e refl;
      each = λ k u p. ⊎_elim
          (λ (a : (k ≡ id) × (w ≡ u)). subst (Fits about (part.roots about) (r.log ++ more) (at words)) a.1 itself)
          (λ (a : (k ≢ id) × (get_elem? s.views k ≡ some u)). others k u a.0 a.1)
          (at_set s.views id k w u p);
      numbers = subst Numbers (sym (map_same face s.views id v w e refl)) r.numbers;
      callers = subst (Callers (r.log ++ more)) (sym (map_same face s.views id v w e refl))
          (λ c nobody. other_calls r.log more c (λ x there z. nobody id (face v) (at_map face s.views id v e) (subst (λ (m : ℕ). Has m v.numbers) (sym (mine x there) ∙ z) number)) ∙ r.callers c nobody);
      rooted = rooted;
    }

    -- a step on a root word after which the view has caught up with the view h and made these calls
    pub catches : SoundOf S about part root → Houses S about part root → IsPart (part.roots about v.seen v.root) (part.roots about (r.log ++ more) t)
        → Rule record { words = words; homes = s.homes; views = set s.views id w } × ((c : Caught part more v w) × (c.log ≡ r.log))
    catches sounds_of houses roots_part =
        let f = r.each id v e in (
          advances,
          (
            record {
              log = r.log;
              seen = refl;
              begins = f.seen;
              own = λ c has. sym (f.own c has);
              about = refl;
              face_is = refl;
              made = refl;
              probing = refl;
              probes = refl;
              known = λ i x has. has_back (i, x) h.known v.known has;
              roots_stay = subst (λ (a : About). IsPart (part.roots a v.seen v.root) (part.roots a (r.log ++ more) t)) (sym (f.about_is live)) roots_part;
              sound = sound_of S about part root sounds_of houses _ advances id w (set_got s.views id v w e) live;
            },
            refl,
          ),
        )
