use Rattle.std.proofs.Common.{arith, ◌≡◌, ℕ, ◌+◌, ◌*◌, ◌-◌, ◌^◌, ◌<◌, ◌≤◌, sym, ap, ◌∙◌, subst}
use Rattle.packed_word.specs.Word.{pair_of}
use Rattle.packed_word.proofs.Parts.{pair_below}
use Rattle.pair_rule.specs.declared.sizes.Sizes.{Sizes}
use Rattle.probe_path.specs.Path.{walked_lines}
use Rattle.pair_rule.specs.Rest.{AtRest}
use Rattle.pair_rule.proofs.Widths.{layout_of, part_below}
use Rattle.pair_rule.specs.Part.{Store}
use Rattle.pair_rule.specs.Paths.{node_buckets, reach, Passed, Listed}
use Rattle.pair_nodes.proofs.Lines.{passed_parts}
use Rattle.pair_nodes.proofs.nodes.Nodes.find_or_put.Goals as goal

pub pack-word-requires : goal.pack-word-requires
pack-word-requires g c =
    let is = c.self.invariant in record {
      layout = layout_of _ _ c.self.view_is is;
      left = part_below _ _ c.self.view_is is c.args.left c.requires.left;
      right = part_below _ _ c.self.view_is is c.args.right c.requires.right;
    }

pub new-path-requires : goal.new-path-requires
new-path-requires g c =
    let is = c.self.invariant in
    let range = is.is_about.range in
    let layout = layout_of _ _ c.self.view_is is in
    let left = part_below _ _ c.self.view_is is c.args.left c.requires.left in
    let right = part_below _ _ c.self.view_is is c.args.right c.requires.right in
    let small = pair_below g.row.W c.args.left c.args.right left right in
    let word : c.pack-word.result ≡ 9223372036854775808 + pair_of g.row.W c.args.left c.args.right = c.pack-word.ensures.number in
    let below : c.pack-word.result - 9223372036854775808 < 2 ^ (2 * g.row.W) = omega (arith, word, small) in
    let nodes = subst (λ (s : Sizes). (3 ≤ s.nodes) × (s.nodes ≤ 25)) (sym c.sizes-sizes.ensures.sizes) (range.least_nodes, range.most_nodes) in
    let probe = subst (λ (s : Sizes). 1 ≤ s.probe) (sym c.sizes-sizes.ensures.sizes) range.least_probe in
    (omega arith, ((layout.0, layout.1), (below, (nodes, probe))))

pub probe-requires : goal.probe-requires
probe-requires g c =
    let is = c.self.invariant in
    let about = c.self.inside.table.about in
    let left = part_below _ _ c.self.view_is is c.args.left c.requires.left in
    let right = part_below _ _ c.self.view_is is c.args.right c.requires.right in
    let small = pair_below g.row.W c.args.left c.args.right left right in
    let word : c.pack-word.result ≡ 9223372036854775808 + pair_of g.row.W c.args.left c.args.right = c.pack-word.ensures.number in
    let below : c.pack-word.result - 9223372036854775808 < 2 ^ (2 * g.row.W) = omega (arith, word, small) in
    let rest = subst (λ (s : Store). AtRest g.R.RootPart.part s c.args.pass.now) (sym c.self.view_is) c.requires.rest in
    let course = c.new-path.ensures.course ∙ ap (λ (s : Sizes). record { pair = c.pack-word.result - 9223372036854775808; d = s.nodes; lines = walked_lines s.nodes s.probe }) c.sizes-sizes.ensures.sizes in
    (omega arith, (omega arith, (rest, (record { whole = omega (arith, word); is_pair = subst (λ (w : ℕ). c.pack-word.result - 9223372036854775808 < 2 ^ (2 * w)) (sym is.width_is) below }, (is.width_is, course)))))

pub returns-in-None-clause-full : goal.returns-in-None-clause-full
returns-in-None-clause-full g c =
    let e = c.in-None.ensures in
    let is = c.self.invariant in
    let word : c.pack-word.result ≡ 9223372036854775808 + pair_of g.row.W c.args.left c.args.right = c.pack-word.ensures.number in
    subst (λ (s : Store). Passed (node_buckets s.about) (Listed c.probe.new.pass.seat.me.0.known) (pair_of s.about.width c.args.left c.args.right) (reach (node_buckets s.about))) c.self.view_is
    (passed_parts c.self.inside.table.about c.probe.new.pass.seat.me.0 c.pack-word.result (pair_of c.self.inside.table.about.width c.args.left c.args.right) _ e.rest.seat.about_is
    (let same = ap (λ (w : ℕ). pair_of w c.args.left c.args.right) is.width_is in omega (arith, word, same)) e.ends.passed)
