use Rattle.std.proofs.Common.{◌≡◌, ◌∙◌, arith, rules, length, ◌*◌, ap, sym, vec_len}
use Rattle.trace_csv.proofs.PiecesLemmas.{All-pieces, length-pieces}
use Rattle.trace_csv.proofs.trace.Trace.slots.Goals as goal

pub returns-clause-each : goal.returns-clause-each
returns-clause-each c =
    let whole : length c.self.inside.numbers.items ≡ c.self.inside.lines * c.self.inside.slots = search rules in
    rw (← c.self.view_is) (All-pieces c.self.inside.slots c.self.inside.lines c.self.inside.numbers.items whole)

pub returns-clause-numbers : goal.returns-clause-numbers
returns-clause-numbers c =
    let t = c.self.inside in
    let same : length c.args.self.now ≡ t.lines = ap length (sym c.self.view_is) ∙ length-pieces t.slots t.lines t.numbers.items in
    let size : length c.args.self.now * t.slots ≡ vec_len t.numbers = ap (λ n. n * t.slots) same ∙ sym c.self.invariant.whole in
    omega arith

pub returns-clause-some : goal.returns-clause-some
returns-clause-some c =
    let t = c.self.inside in
    let same : length c.args.self.now ≡ t.lines = ap length (sym c.self.view_is) ∙ length-pieces t.slots t.lines t.numbers.items in
    let some = c.self.invariant.some in
    omega (arith, same, some)
