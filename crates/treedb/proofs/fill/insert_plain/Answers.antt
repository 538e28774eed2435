use Rattle.std.proofs.Common.{rules}
use Rattle.treedb.proofs.Parts.{plain_part}
use Rattle.treedb.proofs.fill.insert_plain.Goals as goal

pub make_ready-requires : goal.make_ready-requires
make_ready-requires g c =
    (search rules, (c.requires.valid, (plain_part c.args.choice.now c.requires.plain, (c.requires.profile, (c.requires.layout, (c.requires.lines, c.requires.below))))))

pub fill_plain-requires : goal.fill_plain-requires
fill_plain-requires g c =
    (search rules, (search rules, (search rules, (search rules, (c.requires.valid, (c.requires.plain, c.in_ok-store.ensures))))))
