use Rattle.std.proofs.Common.{◌≡◌, ◌<◌, ◌+◌, ◌*◌, ◌∙◌, ◌++◌, ◌∷◌, List, [], min, length, rules, nat_lt, Some, None, true, false, ap, sym, subst, arith}
use Rattle.std.specs.Prelude.{Option, ℕ, vec_capacity}
use Rattle.block_claims.specs.declared.share.Share.{Share}
use Rattle.block_claims.specs.Drawers.{has_ended}
use Rattle.work_run.specs.BlockLines.{LinesDrawn, IsDrawingLines, drawn_blocks}
use Rattle.work_run.specs.Giving.{Asked}
use Rattle.work_run.proofs.DrawingLines.{asked_further, drawing_ended, asked_ended, room_for_one, drawing_more, asked_more}
use Rattle.work_run.proofs.block_lines.BlockLinesSupply.next.Goals as goal

pub returns-then-self : goal.returns-then-self
returns-then-self c =
    let t = c.self.inside in
    let s : LinesDrawn = record { pool = t.claims.now; drawer = t.drawer; lines = t.lines; block = t.block; next = t.next; block_end = t.block_end } in
    subst (λ (old : LinesDrawn). Asked drawn_blocks (Some t.next) old (record s { next = t.next + 1 })) c.self.view_is (asked_further s c.self.invariant.drawing c.if-self.true)

pub invariant_of-self-in_err-block : goal.invariant_of-self-in_err-block
invariant_of-self-in_err-block c =
    let t = c.self.inside in
    let s : LinesDrawn = record { pool = t.claims.now; drawer = t.drawer; lines = t.lines; block = t.block; next = t.next; block_end = t.block_end } in
    let same = ap (λ (x : Share). x.drawn) c.in_err-block.ensures.ended in
    record {
      drawing = drawing_ended s c.self.invariant.drawing c.draw.new.drawer c.draw.ensures.of same;
      kept = c.self.invariant.kept ∙ sym same;
      room_for_all = c.self.invariant.room_for_all;
    }

pub returns-in_err-block : goal.returns-in_err-block
returns-in_err-block c =
    let t = c.self.inside in
    let s : LinesDrawn = record { pool = t.claims.now; drawer = t.drawer; lines = t.lines; block = t.block; next = t.next; block_end = t.block_end } in
    let d = c.draw.new.drawer in
    let same = ap (λ (x : Share). x.drawn) c.in_err-block.ensures.ended in
    let ended : has_ended d ≡ true = ap (λ (x : Share). nat_lt 0 x.ended) c.in_err-block.ensures.ended in
    let none : c.from_residual.result ≡ None = search rules in
    subst (λ (line : Option ℕ). Asked drawn_blocks line c.args.self.now (record s { drawer = d })) (sym none)
    (subst (λ (old : LinesDrawn). Asked drawn_blocks None old (record s { drawer = d })) c.self.view_is
    (asked_ended s c.self.invariant.drawing d c.draw.ensures.of same c.if-self.false ended))

pub unreachable-requires : goal.unreachable-requires
unreachable-requires c =
    let t = c.self.inside in
    let s : LinesDrawn = record { pool = t.claims.now; drawer = t.drawer; lines = t.lines; block = t.block; next = t.next; block_end = t.block_end } in
    let e = c.in_ok-block.ensures in
    let going : has_ended t.drawer ≡ false = search rules in
    let few = room_for_one s c.self.invariant.drawing c.in_ok-block.block c.draw.new.drawer c.draw.ensures.of e.below e.greater e.gained going in
    let kept = ap length c.self.invariant.kept in
    let lt : length t.blocks.items < vec_capacity t.blocks = omega (arith, few, kept, c.self.invariant.room_for_all) in
    search (rules, lt)

pub invariant_of-self-2 : goal.invariant_of-self-2
invariant_of-self-2 c =
    let t = c.self.inside in
    let s : LinesDrawn = record { pool = t.claims.now; drawer = t.drawer; lines = t.lines; block = t.block; next = t.next; block_end = t.block_end } in
    let e = c.in_ok-block.ensures in
    let d = c.draw.new.drawer in
    let b = c.in_ok-block.block in
    let pushed = c.in-Ok.ensures in
    let more = drawing_more s c.self.invariant.drawing b d c.draw.ensures.of e.below e.greater e.gained in
    record {
      drawing = subst (λ (n : ℕ). IsDrawingLines (record { pool = s.pool; drawer = d; lines = s.lines; block = s.block; next = b * s.block + 1; block_end = n })) (sym c.min-self-inside.ensures) more;
      kept = pushed.items ∙ (ap (λ (xs : List ℕ). xs ++ b ∷ []) c.self.invariant.kept ∙ sym (ap (λ (x : Share). x.drawn) e.gained));
      room_for_all = omega (arith, c.self.invariant.room_for_all, pushed.capacity);
    }

pub returns : goal.returns
returns c =
    let t = c.self.inside in
    let s : LinesDrawn = record { pool = t.claims.now; drawer = t.drawer; lines = t.lines; block = t.block; next = t.next; block_end = t.block_end } in
    let e = c.in_ok-block.ensures in
    let d = c.draw.new.drawer in
    let b = c.in_ok-block.block in
    let new : ℕ → LinesDrawn = λ n. record { pool = s.pool; drawer = d; lines = s.lines; block = s.block; next = b * s.block + 1; block_end = n } in
    subst (λ (n : ℕ). Asked drawn_blocks (Some (b * s.block)) c.args.self.now (new n)) (sym c.min-self-inside.ensures)
    (subst (λ (old : LinesDrawn). Asked drawn_blocks (Some (b * s.block)) old (new (min (b * s.block + s.block) s.lines))) c.self.view_is
    (asked_more s c.self.invariant.drawing b d c.draw.ensures.of e.below e.greater e.gained c.if-self.false))
