use Rattle.std.proofs.Math.Nat.{mod-lt}
use Rattle.std.proofs.lemmas.Nat.{pow_pos}
use Rattle.packed_word.specs.Word.{pair_of, left_of, right_of}
use Rattle.tree_shape.specs.Tree.{Has}
use Rattle.pair_rule.proofs.Widths.{below_part}
use Rattle.std.proofs.Common.{arith, ℕ, refl, sym, subst}
use Rattle.pair_rule.specs.Rest.{AtRest, view}
use Rattle.root_plain.specs.Plain.{plain}
use Rattle.root_plain.proofs.Probing.{name_bucket, found_there}
use Rattle.root_plain.proofs.find.root_pair.Goals as goal

pub look-word-requires : goal.look-word-requires
look-word-requires g c =
    (omega arith, (omega arith, rw c.table.ensures.table (c.requires.rest, name_bucket c.args.nodes.now c.args.pass.now c.args.id c.requires.named.0 c.requires.rest c.requires.named.1)))

pub returns : goal.returns
returns g c =
    let store = c.args.nodes.now in
    let rest = subst (λ t. AtRest plain t c.look-word.new.pass) c.table.ensures.table c.look-word.ensures.rest in
    let is = c.table.ensures.store in
    let there = found_there store c.args.pass.now c.look-word.new.pass g.row.W c.args.id c.look-word.result c.requires.named.0 c.requires.rest rest is.width_is c.requires.named.1 c.look-word.ensures.shows in
    rw (c.left.ensures, c.right.ensures) (record {
      rest = rest;
      parts_are = (below_part _ store refl is _ (mod-lt _ (pow_pos g.row.W)), below_part _ store refl is _ (mod-lt _ (pow_pos g.row.W)));
      root = subst (λ (w : ℕ). Has (c.args.id, pair_of w (left_of g.row.W c.look-word.result) (right_of g.row.W c.look-word.result)) (view c.args.pass.now).root.roots) (sym is.width_is) there.1;
      no_call = there.0;
      buffers = c.look-word.ensures.tree;
    })
