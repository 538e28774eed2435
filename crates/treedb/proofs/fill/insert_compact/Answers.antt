use Rattle.std.proofs.Common.{rules}
use Rattle.treedb.proofs.Parts.{compact_part}
use Rattle.treedb.proofs.fill.insert_compact.Goals as goal

pub make_ready-requires : goal.make_ready-requires
make_ready-requires g c =
    (search rules, (c.requires.valid, (compact_part g.row.W g.row.F c.args.choice.now c.requires.profile c.requires.compact, (c.requires.profile, (c.requires.layout, (c.requires.lines, c.requires.below))))))

pub fill_compact-requires : goal.fill_compact-requires
fill_compact-requires g c =
    (search rules, (search rules, (search rules, (search rules, (c.requires.valid, (c.requires.compact, (c.requires.profile, c.in_ok-store.ensures)))))))
