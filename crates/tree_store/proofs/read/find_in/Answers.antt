use Rattle.std.proofs.Common.{arith, refl, true≢false, ◌≡◌, false, sym, subst, ap, [], ◌∷◌, length}
use Rattle.tdb_base.specs.History.{Vector}
use Rattle.tree_shape.specs.Tree.{RootStands}
use Rattle.pair_rule.specs.Rest.{AtRest, view}
use Rattle.pair_rule.specs.Calls.{call}
use Rattle.pair_nodes.specs.Roots.{RootFound, RootUnknown, IsUnlooked, pair_in}
use Rattle.tree_store.specs.Store.{Advanced}
use Rattle.tree_store.proofs.Inserts.{advanced, last_kept}
use Rattle.tree_store.proofs.Opens.{advanced_then, grown_still, puts_none}
use Rattle.tree_store.proofs.read.find_in.Goals as goal

pub find-requires : goal.find-requires
find-requires g c = subst (λ s. AtRest g.D.Part.RootPart.part s c.args.pass.now) (sym c.requires.roots) c.requires.rest

pub unfold-requires : goal.unfold-requires
unfold-requires g c =
    let store = c.args.nodes.now in
    let is = c.requires.rest.seat.about_is in
    let now = view c.find.new.pass in
    let e = subst (λ s. RootFound g.D.Part.RootPart.part s c.args.id (c.in-Some.left, c.in-Some.right) c.args.pass.now c.find.new.pass) c.requires.roots c.in-Some.ensures.found in
    let v = e.called.vector in
    let stands = subst (λ about. RootStands about.width about.slots now.known (pair_in store (c.in-Some.left, c.in-Some.right)) v) is e.called.stands in
    let long = subst (λ about. length v ≡ about.slots) is e.called.long in
    (omega arith, (e.rest, (e.parts_are, ((v, stands, long), c.requires.out))))

pub returns-in_default-clause-found : goal.returns-in_default-clause-found
returns-in_default-clause-found g c =
    let part = g.D.Part.RootPart.part in
    let p = c.args.pass.now in
    let q = c.find.new.pass in
    let e = subst (λ s. RootUnknown part s c.args.id p q) c.requires.roots c.in_default.ensures.found in
    let k = e.no_call in
    record {
      call_is = λ no. absurd (true≢false (sym no));
      no_name = λ _. e.no_name;
      no_call = λ _. advanced part [] (view p) (view p) (view q) (grown_still (view p)) k;
      unchanged = λ _. refl;
      no_look = c.in_default.ensures.no_look;
      puts_none = record { made = k.made; probes = k.probes; last_stays = last_kept p q (ap (λ x. x.has_last) e.buffers) (ap (λ x. x.last_tree) e.buffers) k.about };
    }

pub returns-clause-found : goal.returns-clause-found
returns-clause-found g c =
    let part = g.D.Part.RootPart.part in
    let is = c.requires.rest.seat.about_is in
    let p = c.args.pass.now in
    let q = c.find.new.pass in
    let r = c.unfold.new.pass in
    let e = subst (λ s. RootFound part s c.args.id (c.in-Some.left, c.in-Some.right) p q) c.requires.roots c.in-Some.ensures.found in
    let v = e.called.vector in
    let stands = subst (λ about. RootStands about.width about.slots (view q).known (pair_in c.args.nodes.now (c.in-Some.left, c.in-Some.right)) v) is e.called.stands in
    let long = subst (λ about. length v ≡ about.slots) is e.called.long in
    let same = c.unfold.ensures.vector v stands long in
    let f = c.unfold.ensures in
    record {
      call_is = λ _. subst (λ (l : Vector). Advanced part (call (view p).number false l c.args.id ∷ []) (view p) (view r)) (sym same)
          (advanced_then part (call (view p).number false v c.args.id ∷ []) (view p) (view q) (view r) e.called.caught f.puts_none.grown);
      no_name = λ no. absurd (true≢false no);
      no_call = λ no. absurd (true≢false no);
      unchanged = λ no. absurd (true≢false no);
      no_look = subst (λ t. IsUnlooked part (view p).root t) (sym f.puts_none.grown.root) c.in-Some.ensures.no_look;
      puts_none = puts_none part (call (view p).number false v c.args.id ∷ []) p q r e.called.caught e.buffers f.keeps f.puts_none;
    }
