use Rattle.std.proofs.Common.{◌≡◌, ◌≢◌, ◌+◌, ◌-◌, ◌%◌, ◌∙◌, ℕ, ap, arith, get_or, length, rules, subst, sym}
use Rattle.std.proofs.lemmas.Bool.{both_ways}
use Rattle.std.proofs.lemmas.List.{get_or_read}
use Rattle.run_check.specs.Table.{key_hash, probe}
use Rattle.run_check.proofs.TableLemmas.{Seeks, none-at-full, place-free, place-line, seeks-more, seeks-none}
use Rattle.run_check.proofs.table.LineTable.find.Goals as goal

pub loop-step-init : goal.loop-step-init
loop-step-init c = seeks-none c.args.trace.now c.args.replies.now c.args.key c.args.self.now

pub returns-then-entry-eq0 : goal.returns-then-entry-eq0
returns-then-entry-eq0 c =
    let size : c.len-size.result ≡ length c.args.self.now = search rules in
    let at : (c.hash.result % c.len-size.result + c.loop-step.step) % c.len-size.result ≡ probe (length c.args.self.now) (key_hash c.args.key) c.loop-step.step =
    ap (λ n. (c.hash.result % n + c.loop-step.step) % n) size ∙ ap (λ h. probe (length c.args.self.now) h c.loop-step.step) c.hash.ensures in
    let value : c.index-entry.result.now ≡ get_or c.args.self.now ((c.hash.result % c.len-size.result + c.loop-step.step) % c.len-size.result) 0 = search (rules, get_or_read) in
    place-free c.args.trace.now c.args.replies.now c.args.key c.args.self.now c.loop-step.step _ c.index-entry.result.now c.loop-step.invariant at value c.if-entry-eq0.true (omega arith)

pub is_of-requires-clause-within : goal.is_of-requires-clause-within
is_of-requires-clause-within c =
    let size : c.len-size.result ≡ length c.args.self.now = search rules in
    let value : c.index-entry.result.now ≡ get_or c.args.self.now ((c.hash.result % c.len-size.result + c.loop-step.step) % c.len-size.result) 0 = search (rules, get_or_read) in
    let some = c.if-entry-eq0.false in
    let line : c.from-line.result - 1 + 1 ≡ c.index-entry.result.now = omega (arith, c.from-line.ensures) in
    c.requires.within _ (c.from-line.result - 1) (sym (line ∙ value))

pub returns-then-is_of : goal.returns-then-is_of
returns-then-is_of c =
    let size : c.len-size.result ≡ length c.args.self.now = search rules in
    let at : (c.hash.result % c.len-size.result + c.loop-step.step) % c.len-size.result ≡ probe (length c.args.self.now) (key_hash c.args.key) c.loop-step.step =
    ap (λ n. (c.hash.result % n + c.loop-step.step) % n) size ∙ ap (λ h. probe (length c.args.self.now) h c.loop-step.step) c.hash.ensures in
    let value : c.from-line.result ≡ get_or c.args.self.now ((c.hash.result % c.len-size.result + c.loop-step.step) % c.len-size.result) 0 =
    let entry : c.index-entry.result.now ≡ get_or c.args.self.now ((c.hash.result % c.len-size.result + c.loop-step.step) % c.len-size.result) 0 = search (rules, get_or_read) in c.from-line.ensures ∙ entry in
    let some : c.from-line.result ≢ 0 = λ e. c.if-entry-eq0.false (sym c.from-line.ensures ∙ e) in
    λ i kept. (
      place-line c.args.trace.now c.args.replies.now c.args.key c.args.self.now c.loop-step.step _ c.from-line.result c.loop-step.invariant at value some
          (c.is_of.ensures.0 c.if-is_of.true) i kept,
      tt,
    )

pub loop-step-preserved : goal.loop-step-preserved
loop-step-preserved c =
    let size : c.len-size.result ≡ length c.args.self.now = search rules in
    let at : (c.hash.result % c.len-size.result + c.loop-step.step) % c.len-size.result ≡ probe (length c.args.self.now) (key_hash c.args.key) c.loop-step.step =
    ap (λ n. (c.hash.result % n + c.loop-step.step) % n) size ∙ ap (λ h. probe (length c.args.self.now) h c.loop-step.step) c.hash.ensures in
    let value : c.from-line.result ≡ get_or c.args.self.now ((c.hash.result % c.len-size.result + c.loop-step.step) % c.len-size.result) 0 =
    let entry : c.index-entry.result.now ≡ get_or c.args.self.now ((c.hash.result % c.len-size.result + c.loop-step.step) % c.len-size.result) 0 = search (rules, get_or_read) in c.from-line.ensures ∙ entry in
    let some : c.from-line.result ≢ 0 = λ e. c.if-entry-eq0.false (sym c.from-line.ensures ∙ e) in
    seeks-more c.args.trace.now c.args.replies.now c.args.key c.args.self.now c.loop-step.step _ c.from-line.result c.loop-step.invariant at value some
    (λ has. both_ways c.is_of.result c.if-is_of.false (c.is_of.ensures.1 has))

pub returns : goal.returns
returns c =
    let size : c.len-size.result ≡ length c.args.self.now = search rules in
    let all : c.loop-step.step ≡ length c.args.self.now = omega arith in
    λ i kept. (
      none-at-full c.args.trace.now c.args.replies.now i c.args.key c.args.self.now kept
          (subst (λ (n : ℕ). Seeks c.args.trace.now c.args.replies.now c.args.key c.args.self.now n) all c.loop-step.invariant).passed,
      tt,
    )
