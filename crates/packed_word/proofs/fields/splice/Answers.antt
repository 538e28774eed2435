use Rattle.packed_word.proofs.FieldBits.{splice_inside, splice_before, splice_after}
use Rattle.packed_word.proofs.fields.splice.Goals as goal

pub returns-clause-inside : goal.returns-clause-inside
returns-clause-inside c = rw c.ones.ensures (λ i h. splice_inside c.args.word c.args.offset c.args.width c.args.value i c.requires.value c.requires.width.1 h)

pub returns-clause-before : goal.returns-clause-before
returns-clause-before c = rw c.ones.ensures (λ i h. splice_before c.args.word c.args.offset c.args.width c.args.value i c.requires.value c.requires.width.1 h)

pub returns-clause-after : goal.returns-clause-after
returns-clause-after c = rw c.ones.ensures (λ i h k. splice_after c.args.word c.args.offset c.args.width c.args.value i c.requires.value c.requires.width.1 h k)
