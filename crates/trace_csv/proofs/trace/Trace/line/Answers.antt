use Rattle.std.proofs.Common.{◌≡◌, ◌*◌, arith, rules, ap, sym, ◌∙◌, length, take, drop, ℕ, List, Some}
use Rattle.std.specs.Prelude.{slice_get}
use Rattle.trace_csv.proofs.PiecesLemmas.{length-pieces, piece-within, slice_get-pieces}
use Rattle.trace_csv.proofs.trace.Trace.line.Goals as goal

pub overflow_mul-i : goal.overflow_mul-i
overflow_mul-i c =
    let t = c.self.inside in
    let same : length c.args.self.now ≡ t.lines = ap length (sym c.self.view_is) ∙ length-pieces t.slots t.lines t.numbers.items in
    let within = piece-within t.slots t.lines c.args.i (length c.deref.result.now) (omega arith) (omega arith) in
    search rules

pub split_at-requires : goal.split_at-requires
split_at-requires c =
    let t = c.self.inside in
    let same : length c.args.self.now ≡ t.lines = ap length (sym c.self.view_is) ∙ length-pieces t.slots t.lines t.numbers.items in
    let within = piece-within t.slots t.lines c.args.i (length c.deref.result.now) (omega arith) (omega arith) in
    omega arith

pub split_at-requires-2 : goal.split_at-requires-2
split_at-requires-2 c =
    let t = c.self.inside in
    let same : length c.args.self.now ≡ t.lines = ap length (sym c.self.view_is) ∙ length-pieces t.slots t.lines t.numbers.items in
    let within = piece-within t.slots t.lines c.args.i (length c.deref.result.now) (omega arith) (omega arith) in
    omega (arith, c.split_at.ensures.back_len)

pub returns : goal.returns
returns c =
    let t = c.self.inside in
    let same : length c.args.self.now ≡ t.lines = ap length (sym c.self.view_is) ∙ length-pieces t.slots t.lines t.numbers.items in
    let piece = slice_get-pieces t.slots t.lines t.numbers.items c.args.i (omega arith) in
    ap (λ (v : List (List ℕ)). slice_get v c.args.i) (sym c.self.view_is) ∙ piece
    ∙ ap (λ (v : List ℕ). Some v) (sym (c.split_at-2.ensures.front ∙ ap (take t.slots) (c.split_at.ensures.back ∙ ap (drop (c.args.i * t.slots)) c.deref.ensures.value)))
