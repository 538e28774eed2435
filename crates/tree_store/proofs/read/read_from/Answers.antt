use Rattle.std.proofs.Common.{arith, ◌≡◌, sym, subst, [], Some}
use Rattle.tdb_base.specs.History.{Vector, name_of}
use Rattle.pair_rule.specs.Rest.{AtRest, view}
use Rattle.pair_nodes.specs.Roots.{RootRead, IsUnlooked, pair_in}
use Rattle.tree_store.proofs.Roots.{root_stands_more}
use Rattle.tree_store.proofs.Opens.{named_root, advanced_then, puts_none}
use Rattle.tree_store.proofs.read.read_from.Goals as goal

pub read-left-requires : goal.read-left-requires
read-left-requires g c = record { rest = subst (λ s. AtRest g.N.Part.RootPart.part s c.args.pass.now) (sym c.requires.names) c.requires.rest; named = c.requires.named }

pub unfold-requires : goal.unfold-requires
unfold-requires g c =
    let part = g.N.Part.RootPart.part in
    let store = c.args.nodes.now in
    let about = store.about in
    let u = view c.args.pass.now in
    let now = view c.read-left.new.pass in
    let e = subst (λ s. RootRead part s c.args.id c.read-left.result c.args.pass.now c.read-left.new.pass) c.requires.names c.read-left.ensures.read in
    let pair = pair_in store c.read-left.result in
    let named = named_root part store c.args.pass.now c.args.id pair c.requires.rest e.root in
    (omega arith, (e.rest, (e.parts_are, ((named.0, root_stands_more about.width about.slots u.known now.known pair named.0 e.no_call.known named.2, named.3), c.requires.out))))

pub returns-clause-read : goal.returns-clause-read
returns-clause-read g c =
    let part = g.N.Part.RootPart.part in
    let store = c.args.nodes.now in
    let about = store.about in
    let p = c.args.pass.now in
    let q = c.read-left.new.pass in
    let r = c.unfold.new.pass in
    let e = subst (λ s. RootRead part s c.args.id c.read-left.result p q) c.requires.names c.read-left.ensures.read in
    let f = c.unfold.ensures in
    let pair = pair_in store c.read-left.result in
    let named = named_root part store p c.args.id pair c.requires.rest e.root in
    let same = f.vector named.0 (root_stands_more about.width about.slots (view p).known (view q).known pair named.0 e.no_call.known named.2) named.3 in
    record {
      vector = subst (λ (l : Vector). name_of (view p).seen l ≡ Some c.args.id) (sym same) named.1;
      no_look = subst (λ t. IsUnlooked part (view p).root t) (sym f.puts_none.grown.root) c.read-left.ensures.no_look;
      no_call = advanced_then part [] (view p) (view q) (view r) e.no_call f.puts_none.grown;
      puts_none = puts_none part [] p q r e.no_call e.buffers f.keeps f.puts_none;
    }
