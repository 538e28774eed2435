use Rattle.std.proofs.Math.Nat.{mod-lt}
use Rattle.std.proofs.lemmas.Nat.{pow_pos}
use Rattle.std.proofs.Common.{arith, ◌≡◌, ◌≢◌, ◌*◌, ◌^◌, ◌<◌, sym, subst, ap, ◌∙◌, ℕ, ⊎_elim}
use Rattle.tree_shape.specs.Tree.{Has}
use Rattle.packed_word.specs.Word.{pair_of}
use Rattle.pair_rule.specs.declared.sizes.About.{About}
use Rattle.pair_rule.specs.Part.{Store}
use Rattle.pair_rule.specs.Rest.{AtRest}
use Rattle.pair_rule.specs.View.{node_word}
use Rattle.pair_rule.specs.Paths.{node_buckets, size, IsPair}
use Rattle.pair_nodes.specs.Probe.{pair_of_word}
use Rattle.pair_rule.proofs.Widths.{layout_of, width_of, below_part}
use Rattle.pair_nodes.proofs.Views.{probed_learned, shown_more}
use Rattle.pair_nodes.proofs.Lines.{load_found, pair_of_parts}
use Rattle.pair_nodes.proofs.nodes.Nodes.pair_at.Goals as goal

pub look-word-requires : goal.look-word-requires
look-word-requires g c =
    let rest = subst (λ (s : Store). AtRest g.R.RootPart.part s c.args.pass.now) (sym c.self.view_is) c.requires.rest in
    let inside = (rest.seat.sound.nodes.inside c.args.index c.requires.known.0 c.requires.known.1).0 in
    (omega arith, (rest, subst (λ (a : About). c.args.index < size (node_buckets a)) rest.seat.about_is inside))

pub returns-clause-pair : goal.returns-clause-pair
returns-clause-pair g c =
    let about = c.self.inside.table.about in
    let is = c.self.invariant in
    let rest = subst (λ (s : Store). AtRest g.R.RootPart.part s c.args.pass.now) (sym c.self.view_is) c.requires.rest in
    let e = c.look-word.ensures in
    let n = c.look-word.result in
    let v = c.args.pass.now.seat.me.0 in
    let w = c.look-word.new.pass.seat.me.0 in
    let x = c.requires.known.0 in
    let used : n ≢ 0 = λ z. e.free z x c.requires.known.1 in
    let here = load_found about v w c.args.index n e.view e.word used in
    let old = subst (λ u. Has (c.args.index, x) u.known) (sym e.view) (shown_more about c.args.index n v.probes v.probing v e.word c.args.index x c.requires.known.1) in
    let same : x ≡ pair_of_word n = e.rest.seat.sound.nodes.naming.one_pair c.args.index x (pair_of_word n) old here in
    let word : n ≡ node_word x = ⊎_elim (λ (z : n ≡ 0). absurd (used z)) (λ (t : (y : ℕ) × (n ≡ node_word y) × IsPair (node_buckets about) y). let a = t.1 in omega (arith, same, a)) e.word in
    let inside = (rest.seat.sound.nodes.inside c.args.index x c.requires.known.1).1 in
    let small : x < 2 ^ (2 * g.row.W) = subst (λ (w : ℕ). x < 2 ^ (2 * w)) (ap (λ (a : About). a.width) rest.seat.about_is ∙ is.width_is) inside in
    let narrow = (layout_of _ _ c.self.view_is is).1 in
    let parts : pair_of g.row.W c.left.result c.right.result ≡ x = pair_of_parts g.row.W n x c.left.result c.right.result narrow word small c.left.ensures c.right.ensures in
    let width = width_of _ _ c.self.view_is is in
    subst (λ (y : ℕ). Has (c.args.index, y) v.known) (sym (ap (λ (w : ℕ). pair_of w c.left.result c.right.result) width ∙ parts)) c.requires.known.1

pub returns-clause-parts : goal.returns-clause-parts
returns-clause-parts g c =
    (below_part _ _ c.self.view_is c.self.invariant c.left.result (rw c.left.ensures (mod-lt _ (pow_pos g.row.W))), below_part _ _ c.self.view_is c.self.invariant c.right.result (rw c.right.ensures (mod-lt _ (pow_pos g.row.W))))

pub returns-clause-puts_none : goal.returns-clause-puts_none
returns-clause-puts_none g c = let e = c.look-word.ensures in probed_learned c.self.inside.table.about c.args.index c.look-word.result c.args.pass.now.seat.me.0 c.look-word.new.pass.seat.me.0 e.word e.view
