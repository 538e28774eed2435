use Rattle.std.proofs.Common.{arith, refl, sym, ap, ◌∙◌, ◌≡◌, subst, ℕ}
use Rattle.packed_word.specs.Word.{pair_of}
use Rattle.tree_shape.specs.Tree.{Has}
use Rattle.pair_rule.specs.Rest.{view}
use Rattle.pair_rule.proofs.Calling.{caught_still}
use Rattle.pair_rule.proofs.Widths.{layout_of, below_part}
use Rattle.region_root.specs.Compact.{compact}
use Rattle.region_root.specs.Maps.{roots_of}
use Rattle.region_root.proofs.Outcomes.{name_packed}
use Rattle.region_root.proofs.find.root_pair.Goals as goal

pub parts_of-requires : goal.parts_of-requires
parts_of-requires g c =
    let k = name_packed g.row.W g.row.F c.args.nodes.now c.args.pass.now c.requires.rest c.table.ensures.store c.requires.named.0 c.args.id c.requires.named.1 in
    let narrow = (layout_of _ c.args.nodes.now refl c.table.ensures.store).1 in
    (omega (arith, narrow), k.0)

pub returns-clause-read : goal.returns-clause-read
returns-clause-read g c =
    let store = c.args.nodes.now in
    let is = c.table.ensures.store in
    let k = name_packed g.row.W g.row.F store c.args.pass.now c.requires.rest is c.requires.named.0 c.args.id c.requires.named.1 in
    let whole : pair_of store.about.width c.parts_of.result.0 c.parts_of.result.1 ≡ c.args.id = ap (λ (w : ℕ). pair_of w c.parts_of.result.0 c.parts_of.result.1) is.width_is ∙ c.parts_of.ensures.whole in
    record {
      rest = c.requires.rest;
      parts_are = (below_part _ store refl is _ c.parts_of.ensures.parts.0, below_part _ store refl is _ c.parts_of.ensures.parts.1);
      root = subst (λ (x : ℕ). Has (c.args.id, x) (roots_of (view c.args.pass.now).seen)) (sym whole) k.1;
      no_call = caught_still (compact g.row.W g.row.F) store c.args.pass.now c.requires.rest;
      buffers = refl;
    }
