use Rattle.std.proofs.Common.{arith, refl, sym, ap, ◌≡◌, ◌*◌, ◌^◌, ◌<◌, subst, ℕ}
use Rattle.packed_word.specs.Word.{pair_of}
use Rattle.packed_word.proofs.Parts.{pair_below}
use Rattle.pair_rule.proofs.Widths.{layout_of, part_below}
use Rattle.region_root.proofs.words.pack_root.Goals as goal

pub pack-requires : goal.pack-requires
pack-requires g c =
    let is = c.slots.ensures.store in
    let store = c.args.table.now in record {
      layout = layout_of _ store refl is;
      left = part_below _ store refl is c.args.left c.requires.left;
      right = part_below _ store refl is c.args.right c.requires.right;
    }

pub returns-clause-same : goal.returns-clause-same
returns-clause-same g c =
    let number = c.pack.ensures.number in
    let wide : pair_of c.args.table.now.about.width c.args.left c.args.right ≡ pair_of g.row.W c.args.left c.args.right = ap (λ (w : ℕ). pair_of w c.args.left c.args.right) c.slots.ensures.store.width_is in
    omega (arith, number, wide)

pub returns-clause-packed : goal.returns-clause-packed
returns-clause-packed g c =
    subst (λ (x : ℕ). x < 2 ^ (2 * c.args.table.now.about.width)) (sym (returns-clause-same g c)) (pair_below c.args.table.now.about.width c.args.left c.args.right c.requires.left c.requires.right)
