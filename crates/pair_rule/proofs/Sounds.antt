-- What each step tells of the view after it.
use Rattle.std.proofs.Common.{◌≡◌, ℕ, List, map, true, sym, subst, inl, inr}
use mathlib.Core.Option.{some}
use lib.ListN.{get_elem?}
use Rattle.atomic_table.specs.Table.{State}
use Rattle.atomic_table.proofs.Lists.{at_map}
use Rattle.tdb_base.specs.History.{History}
use Rattle.tdb_base.specs.Legal.{IsLegal}
use Rattle.pair_rule.specs.declared.view.View.{View}
use Rattle.pair_rule.specs.declared.sizes.About.{About}
use Rattle.pair_rule.specs.Part.{Part}
use Rattle.pair_rule.specs.View.{face}
use Rattle.pair_rule.specs.Rule.{at, Fits, StoreRule}
use Rattle.pair_rule.specs.Rest.{Whole, HasAll, Sound}
use Rattle.pair_rule.proofs.Histories.{legal_front, extends_shorter, calls_between, calls_none}
use Rattle.pair_rule.proofs.Census.{no_descendants}
use Rattle.pair_rule.proofs.Whole.{view_nodes, whole_callers, whole_made, whole_seen, whole_paths, node_used}
use Rattle.pair_rule.specs.Rule.{IsNode}

module _ {T : Type 0} (S : Type 0) (about : About) (part : Part T)
    (root : History → List ℕ → List (View T) → Type 0) where
  -- the rule's root part tells of a view,
  abbrev pub SoundOf : Type 0
  SoundOf = (log : History) (ws : List ℕ) (nodes : ℕ → ℕ) (views : List (View T)) (id : ℕ) (v : View T)
      → root log ws views → IsLegal about.flags log → get_elem? views id ≡ some v → Fits about (part.roots about) log nodes v → v.live ≡ true → part.sound about v

  -- and of the roots that a view knows that has seen all
  abbrev pub Houses : Type 0
  Houses = (log : History) (ws : List ℕ) (nodes : ℕ → ℕ) (views : List (View T)) (id : ℕ) (v : View T)
      → root log ws views → IsLegal about.flags log → get_elem? views id ≡ some v → Fits about (part.roots about) log nodes v → v.live ≡ true → v.seen ≡ log → part.house about (part.roots about v.seen v.root)

  module _ (sounds : SoundOf) (houses : Houses) (s : State S (View T)) (r : StoreRule about (part.roots about) root s) (id : ℕ) (v : View T) (e : get_elem? s.views id ≡ some v) (live : v.live ≡ true) where
    has_all : Whole v → HasAll part about v
    has_all whole =
        let f = r.each id v e in
        record {
          callers = λ c never. calls_none v.seen r.log c f.seen (whole_callers S about part.roots root s r id v e whole c never);
          made = λ i pair h. let k = f.known i pair h in whole_made S about part.roots root s r id v e whole i k.0 (λ z. node_used pair (subst (λ (n : ℕ). IsNode n pair) z k.1));
          housed = record {
            are_nodes = view_nodes S about part.roots root s r id v e;
            fills_paths = whole_paths S about part.roots root s r id v e whole;
            legal = legal_front about.flags v.seen r.log f.seen r.legal;
            named = f.named;
            house_is = houses r.log _ (at s.words) s.views id v r.rooted r.legal e f live (whole_seen S about part.roots root s r id v e whole);
          };
        }

    -- of a view with what the table is about in it
    sound_here : Sound part (record v { about = about })
    sound_here =
        let f = r.each id v e in
        let is = f.about_is live in
        let faces = at_map face s.views id v e in
        record {
          legal = legal_front about.flags v.seen r.log f.seen r.legal;
          nodes = view_nodes S about part.roots root s r id v e;
          named = f.named;
          made = f.made;
          made_once = f.made_once;
          probed = f.probed;
          mine = r.numbers.mine id (face v) faces live;
          numbers_once = r.numbers.once id (face v) faces;
          unborn = λ n c le from.
              let never = no_descendants (map face s.views) r.numbers id (face v) faces live n c le from in (
                (λ h. never id (face v) faces (inl h)),
                (λ h. never id (face v) faces (inr h)),
                calls_none v.seen r.log c f.seen (r.callers c (λ j g p h. never j g p (inl h))),
              );
          olds = λ o h. let p = f.olds o h in let b = extends_shorter o.seen v.seen r.log p.0 f.seen p.2 in (b, λ c k. calls_between o.seen v.seen r.log c b f.seen (p.1 c k).1);
          whole = λ w. let a = has_all (record { first = w.first; all = w.all }) in record { callers = a.callers; made = a.made; housed = a.housed };
          root_sound = subst (λ (u : View T). part.sound about u) (λ i. record v { about = is i }) (sounds r.log _ (at s.words) s.views id v r.rooted r.legal e f live);
        }

    pub sound_of : Sound part v
    sound_of =
        let back : ◌≡◌ {A = View T} (record v { about = about }) v = λ i. record v { about = sym ((r.each id v e).about_is live) i } in
        subst (Sound part) back sound_here
