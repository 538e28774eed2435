-- A step after which the view has seen the whole history, and its call on a region has ended.
use Rattle.std.proofs.Common.{◌≡◌, ◌⊎◌, ℕ, suc, ◌+◌, ◌<◌, List, [], ◌∷◌, ◌++◌, drop, set, get_or, Bool, true, refl, sym, ap, subst, inl, inr, ⊎_elim, arith, get_or-set_other}
use mathlib.Core.Option.{some}
use mathlib.Core.Logic.{dite}
use native.Mathlib.Decide.{ℕ_discrete}
use lib.ListN.{get_elem?}
use Rattle.std.proofs.lemmas.List.{get_or-drop, drop-set-add}
use Rattle.atomic_table.specs.Table.{State}
use Rattle.tree_shape.specs.Tree.{Has, IsPart}
use Rattle.tdb_base.specs.History.{History}
use Rattle.pair_rule.specs.declared.view.View.{View}
use Rattle.pair_rule.specs.declared.sizes.About.{About}
use Rattle.pair_rule.specs.Paths.{node_buckets, size}
use Rattle.pair_rule.specs.Plays.{Caught, first_root}
use Rattle.pair_rule.specs.Rule.{at, Named, StoreRule}
use Rattle.pair_rule.proofs.Advance.{catch, SameNodes, united, catches}
use Rattle.region_root.specs.declared.root.Regions.{Regions}
use Rattle.region_root.specs.Maps.{roots_of, IsMapOf, InRegion}
use Rattle.region_root.specs.Compact.{Compact}
use Rattle.region_root.specs.Names.{roots_more, roots_append}
use Rattle.region_root.specs.Laws.{compact_sounds, compact_houses}
use Rattle.region_root.specs.Plays.{part_of, Ending, Ends, MayEnd, Told}
use Rattle.region_root.proofs.Endings.{Goes, goes}

abbrev V : Type 0
V = View Regions

pub head_of : {A : Type 0} (a b : A) (l : List A) → l ≡ a ∷ [] → l ≡ b ∷ [] → a ≡ b
head_of a b l p q = cc (p, q)

pub told_of : (about : About) (v w : V) (g : ℕ) (map : List (ℕ × ℕ)) (what : Ending) (log more : History) → v.about ≡ about → (c : Caught (part_of about) more v w) → c.log ≡ log → IsMapOf about g log map → Ends v.number about w.known what more
    → Told g map what v w
told_of about v w g map what log more about_is c logs is_map ends =
    let here : (c : Caught (part_of about) more v w) × IsMapOf about g c.log map × Ends v.number about w.known what more = (c, subst (λ (h : History). IsMapOf about g h map) (sym logs) is_map, ends) in
    let there = subst (λ (y : About). (c : Caught (part_of y) more v w) × IsMapOf y g c.log map × Ends v.number y w.known what more) (sym about_is) here in
    record { calls = more; caught = there.0; is_map = there.1; ends = there.2 }

pub in_region : (about : About) (log : History) (ws : List ℕ) (views : List V) → Compact about log ws views → (g : ℕ) (map : List (ℕ × ℕ)) → IsMapOf about g log map → InRegion about g map
in_region about log ws views p g map m x flags has = let o = m.only x flags has in (o.0, p.packed o.1.0 x o.1.1)

module _ (S : Type 0) (about : About) where
  abbrev pub Rule : State S V → Type 0
  Rule = StoreRule about ((part_of about).roots about) (Compact about)

  abbrev pub behind : List ℕ → List ℕ
  behind ws = drop (suc (size (node_buckets about))) ws

  abbrev pub first : ℕ
  first = first_root about

  pub word_at : (ws : List ℕ) (k : ℕ) → get_or (behind ws) k 0 ≡ get_or ws (first + k) 0
  word_at ws k = get_or-drop (suc (size (node_buckets about))) ws k 0

  pub behind_set : (ws : List ℕ) (k x : ℕ) → behind (set ws (first + k) x) ≡ set (behind ws) k x
  behind_set ws k x = drop-set-add (suc (size (node_buckets about))) ws k x

  pub nodes_stay : (ws : List ℕ) (k x m : ℕ) → m < size (node_buckets about) → at (set ws (first + k) x) m ≡ at ws m
  nodes_stay ws k x m lt = get_or-set_other ws (first + k) (suc m) x 0 (λ z. absurd (omega (arith, z, lt)))

  -- the view after the step, and what it tells
  pub record Caught_up (s : State S V) (id : ℕ) (v : V) (words : List ℕ) (busy : Bool) (t : Regions) (g : ℕ) (map : List (ℕ × ℕ)) (what : Ending) : Type 0 where
    pub after : V
    pub rule : Rule record { words = words; homes = s.homes; views = set s.views id after }
    pub told : Told g map what v after
    pub busy_is : after.busy ≡ busy
    pub root_is : after.root ≡ t
    pub no_olds : after.olds ≡ []

  pub catches_up : (s : State S V) (r : Rule s) (id : ℕ) (v : V) (words : List ℕ) (busy : Bool) (t : Regions) (g : ℕ) (map next : List (ℕ × ℕ)) (what : Ending) → get_elem? s.views id ≡ some v → v.live ≡ true → v.about ≡ about
      → SameNodes S about (part_of about) (Compact about) s.words words → IsMapOf about g r.log map → MayEnd about v.known g map what next
      → ((x : Goes about v.number (r.holder.1.known ++ v.known) r.log g next what) → Compact about (r.log ++ x.more) (behind words) (set s.views id (catch v r.holder.1 (r.log ++ x.more) busy t)))
      → Caught_up s id v words busy t g map what
  catches_up s r id v words busy t g map next what e live about_is same is_map may rooted =
      let h = r.holder.1 in
      let named : Named about h.known r.log (roots_of r.log) = subst (λ (k : History). Named about h.known k (roots_of k)) r.holder.3 (r.each r.holder.0 h r.holder.2).named in
      let nodes = united S about (part_of about) (Compact about) s r id r.holder.0 v h e r.holder.2 in
      let x = goes about v.number h.known v.known r.log r.legal named nodes.naming r.rooted.packed g map is_map what next may in
      let w = catch v h (r.log ++ x.more) busy t in
      let roots : IsPart (roots_of v.seen) (roots_of (r.log ++ x.more)) = λ i y a. roots_append r.log x.more i y (roots_more v.seen r.log (r.each id v e).seen i y a) in
      let c = catches S about (part_of about) (Compact about) s r id r.holder.0 v h words x.more busy t e live r.holder.2 x.mine same x.legal x.named (rooted x)
      (λ log ws nodes views k u kept legal at fits alive. compact_sounds about log ws nodes views k u kept legal at fits)
      (λ log ws nodes views k u kept legal at fits alive all. compact_houses about log ws nodes views k u kept legal at fits)
      roots in
      record {
        after = w;
        rule = c.0;
        told = told_of about v w g map what r.log x.more about_is c.1.0 c.1.1 is_map x.ends;
        busy_is = refl;
        root_is = refl;
        no_olds = refl;
      }

-- the list has the root with some flags, or with none
pub has_any : (x : ℕ) (map : List (ℕ × ℕ)) → ((f : ℕ) × Has (x, f) map) ⊎ ((f : ℕ) → Has (x, f) map → ⊥)
has_any x [] = inr (λ f h. h)
has_any x (r ∷ map) = dite (ℕ_discrete x r.0)
    (λ e. inl (r.1, inl (λ i. (e i, r.1))))
    (λ ne. ⊎_elim
    (λ (t : (f : ℕ) × Has (x, f) map). inl (t.0, inr t.1))
    (λ (no : (f : ℕ) → Has (x, f) map → ⊥). inr (λ f h. ⊎_elim (λ (z : (x, f) ≡ r). ne (ap (λ (p : ℕ × ℕ). p.0) z)) (no f) h))
    (has_any x map))
