use Rattle.packed_word.proofs.Parts.{packed_number, left_packed, right_packed, flags_packed, present_packed}
use Rattle.packed_word.proofs.words.Layout.pack.Goals as goal

pub returns-clause-number : goal.returns-clause-number
returns-clause-number g c = packed_number g.row.W c.args.left c.args.right c.requires.layout.1 c.requires.left c.requires.right

pub returns-clause-left : goal.returns-clause-left
returns-clause-left g c =
    rw (packed_number g.row.W c.args.left c.args.right c.requires.layout.1 c.requires.left c.requires.right) (left_packed g.row.W g.row.F c.args.left c.args.right c.requires.layout c.requires.left c.requires.right)

pub returns-clause-right : goal.returns-clause-right
returns-clause-right g c =
    rw (packed_number g.row.W c.args.left c.args.right c.requires.layout.1 c.requires.left c.requires.right) (right_packed g.row.W g.row.F c.args.left c.args.right c.requires.layout c.requires.left c.requires.right)

pub returns-clause-flags : goal.returns-clause-flags
returns-clause-flags g c =
    rw (packed_number g.row.W c.args.left c.args.right c.requires.layout.1 c.requires.left c.requires.right) (flags_packed g.row.W g.row.F c.args.left c.args.right c.requires.layout c.requires.left c.requires.right)

pub returns-clause-present : goal.returns-clause-present
returns-clause-present g c =
    rw (packed_number g.row.W c.args.left c.args.right c.requires.layout.1 c.requires.left c.requires.right) (present_packed g.row.W g.row.F c.args.left c.args.right c.requires.layout c.requires.left c.requires.right)
