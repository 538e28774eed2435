use Rattle.std.proofs.Common.{arith, rules, ◌≡◌, ◌∙◌, ◌<◌, ◌-◌, ◌+◌, ◌*◌, ◌++◌, suc, ℕ, List, length, ap, sym, subst}
use Rattle.std.specs.Prelude.{All, replicate}
use Rattle.trace_csv.specs.Pieces.{pieces}
use Rattle.trace_csv.specs.Walk.{moved}
use Rattle.trace_csv.proofs.WalkLemmas.{all-done, first-line, go-on, walk-below, walk-each}
use Rattle.trace_csv.proofs.walk.generate.Goals as goal

pub loop-turn-init : goal.loop-turn-init
loop-turn-init c =
    let a = c.args in
    let zeros : c.in_ok-line.line.items ≡ replicate a.slots 0 = search rules in
    let first : c.extend_from_slice.new.self.items ≡ c.in_ok-line.line.items = search rules in
    record {
      each = search rules;
      size = search rules;
      drawn = first-line a.lines a.slots a.values a.seed c.seed_from_u64-random.result c.in_ok-line.line.items _ c.seed_from_u64-random.ensures zeros first;
    }

pub loop-turn-preserved : goal.loop-turn-preserved
loop-turn-preserved c =
    let a = c.args in
    let l = c.loop-turn in
    let next = moved a.slots a.values c.next_word-word.result l.line.items in
    let fewer : a.lines - l._turn ≡ suc (a.lines - (l._turn + 1)) = omega arith in
    let grown : c.extend_from_slice-in-loop-turn.new.self.items ≡ l.numbers.items ++ next = search rules in
    let size : length l.numbers.items ≡ l._turn * a.slots = search rules in
    let each : length next ≡ a.slots = search rules in
    record {
      each = search rules;
      size = search rules;
      drawn = go-on a.slots a.values l._turn _ _ l.random c.next_word-word.new.self c.next_word-word.result _ l.numbers.items _ l.line.items fewer c.next_word-word.ensures size each grown l.invariant.drawn;
    }

pub returns-clause-walk : goal.returns-clause-walk
returns-clause-walk c =
    let a = c.args in
    let l = c.loop-turn in
    let last : l._turn ≡ a.lines = omega arith in
    let none : a.lines - l._turn ≡ 0 = omega arith in
    c.of_numbers.ensures ∙ ap (λ n. pieces a.slots n l.numbers.items) (sym last) ∙ all-done a.slots a.values _ l.random _ _ l.line.items none l.invariant.drawn

pub returns-clause-each : goal.returns-clause-each
returns-clause-each c =
    let a = c.args in
    subst (All (λ (line : List ℕ). length line ≡ a.slots)) (sym (returns-clause-walk c)) (walk-each a.lines a.slots a.values a.seed)

pub returns-clause-below : goal.returns-clause-below
returns-clause-below c =
    let a = c.args in
    subst (All (λ (line : List ℕ). All (λ (n : ℕ). n < a.values) line)) (sym (returns-clause-walk c)) (walk-below a.lines a.slots a.values a.seed c.requires.valued)
