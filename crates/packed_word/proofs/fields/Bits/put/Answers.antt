use Rattle.std.proofs.Common.{◌-◌, ◌+◌, ◌^◌, ◌<◌, ◌%◌, ◌/◌, ℕ, List, set, length-set, subst, arith}
use Rattle.std.proofs.lemmas.Nat.{shr_below, and_mask}
use Rattle.packed_word.proofs.FieldBits.{Spliced, put_value, put_before, put_after, across_value, across_before, across_after, field_apart}
use Rattle.packed_word.proofs.fields.Bits.put.Goals as goal
use Rattle.packed_word.proofs.fields.Bits.put.Goals.{After-splice, After-splice-else-offset-width-le64-2}

pub splice-requires-else-offset-width-le64-2-clause-value :
    goal.splice-requires-else-offset-width-le64-2-clause-value
splice-requires-else-offset-width-le64-2-clause-value c =
    let have = 64 - c.args.at % 64 in
    shr_below c.args.value (c.args.width - have) have (subst (λ (n : ℕ). c.args.value < 2 ^ n) (omega arith) c.requires.value)

-- the field lies in one word
spliced : (c : After-splice) → Spliced c.args.words.now (c.args.at / 64) (c.args.at % 64) c.args.width c.args.value c.splice.result
spliced c = record {
  there = omega arith;
  room = c.if-offset-width-le64.true;
  inside = c.splice.ensures.inside;
  before = c.splice.ensures.before;
  after = c.splice.ensures.after;
}

pub returns-then-offset-width-le64-clause-value : goal.returns-then-offset-width-le64-clause-value
returns-then-offset-width-le64-clause-value c = put_value c.args.words.now c.args.at c.args.width c.args.value c.splice.result c.requires.value (spliced c)

pub returns-then-offset-width-le64-clause-before :
    goal.returns-then-offset-width-le64-clause-before
returns-then-offset-width-le64-clause-before c = put_before c.args.words.now c.args.at c.args.width c.args.value c.splice.result c.requires.value (spliced c)

pub returns-then-offset-width-le64-clause-after : goal.returns-then-offset-width-le64-clause-after
returns-then-offset-width-le64-clause-after c = put_after c.args.words.now c.args.at c.args.width c.args.value c.splice.result c.requires.value (spliced c)

pub returns-then-offset-width-le64-clause-apart : goal.returns-then-offset-width-le64-clause-apart
returns-then-offset-width-le64-clause-apart c = λ other wide.
    field_apart c.args.words.now (set c.args.words.now (c.args.at / 64) c.splice.result) c.args.at c.args.width other wide
    (put_before c.args.words.now c.args.at c.args.width c.args.value c.splice.result c.requires.value (spliced c))
    (put_after c.args.words.now c.args.at c.args.width c.args.value c.splice.result c.requires.value (spliced c))

-- the field straddles two words
first_spliced : (c : After-splice-else-offset-width-le64-2) → Spliced c.args.words.now (c.args.at / 64) (c.args.at % 64) (64 - c.args.at % 64) (c.args.value % 2 ^ (64 - c.args.at % 64)) c.splice-else-offset-width-le64.result
first_spliced c =
    let r = c.splice-else-offset-width-le64 in
    record {
      there = omega arith;
      room = omega arith;
      inside = rw (c.ones.ensures, and_mask) at r.ensures.inside;
      before = r.ensures.before;
      after = r.ensures.after;
    }

second_spliced : (c : After-splice-else-offset-width-le64-2) → Spliced (set c.args.words.now (c.args.at / 64) c.splice-else-offset-width-le64.result) (c.args.at / 64 + 1) 0 (c.args.width - (64 - c.args.at % 64)) (c.args.value / 2 ^ (64 - c.args.at % 64)) c.splice-else-offset-width-le64-2.result
second_spliced c =
    let q = c.splice-else-offset-width-le64-2 in
    record {
      there = omega (arith, length-set c.args.words.now (c.args.at / 64) c.splice-else-offset-width-le64.result);
      room = omega arith;
      inside = q.ensures.inside;
      before = q.ensures.before;
      after = q.ensures.after;
    }

pub returns-else-offset-width-le64-clause-value : goal.returns-else-offset-width-le64-clause-value
returns-else-offset-width-le64-clause-value c =
    across_value c.args.words.now c.args.at c.args.width c.args.value (64 - c.args.at % 64) c.splice-else-offset-width-le64.result c.splice-else-offset-width-le64-2.result c.requires.value (omega arith) (omega arith) (first_spliced c) (second_spliced c)

pub returns-else-offset-width-le64-clause-before :
    goal.returns-else-offset-width-le64-clause-before
returns-else-offset-width-le64-clause-before c =
    across_before c.args.words.now c.args.at c.args.width c.args.value (64 - c.args.at % 64) c.splice-else-offset-width-le64.result c.splice-else-offset-width-le64-2.result c.requires.value (omega arith) (omega arith) (first_spliced c) (second_spliced c)

pub returns-else-offset-width-le64-clause-after : goal.returns-else-offset-width-le64-clause-after
returns-else-offset-width-le64-clause-after c =
    across_after c.args.words.now c.args.at c.args.width c.args.value (64 - c.args.at % 64) c.splice-else-offset-width-le64.result c.splice-else-offset-width-le64-2.result c.requires.value (omega arith) (omega arith) (first_spliced c) (second_spliced c)

pub returns-else-offset-width-le64-clause-apart : goal.returns-else-offset-width-le64-clause-apart
returns-else-offset-width-le64-clause-apart c =
    let have : ℕ = 64 - c.args.at % 64 in
    let r : ℕ = c.splice-else-offset-width-le64.result in
    let q : ℕ = c.splice-else-offset-width-le64-2.result in
    let new : List ℕ = set (set c.args.words.now (c.args.at / 64) r) (c.args.at / 64 + 1) q in
    λ other wide.
    field_apart c.args.words.now new c.args.at c.args.width other wide
    (across_before c.args.words.now c.args.at c.args.width c.args.value have r q c.requires.value (omega arith) (omega arith) (first_spliced c) (second_spliced c))
    (across_after c.args.words.now c.args.at c.args.width c.args.value have r q c.requires.value (omega arith) (omega arith) (first_spliced c) (second_spliced c))
