use Rattle.std.proofs.Common.{◌≡◌, ◌<◌, ◌≤◌, ◌/◌, ◌∙◌, ℕ, List, length, get_or, map, sym, subst, ap, arith}
use Rattle.std.specs.Prelude.{All, vec_len}
use Rattle.std.proofs.lemmas.List.{length-map, take_at}
use Rattle.work_run.specs.Drew.{AreDrawnBy}
use Rattle.work_run.proofs.Settling.{drawers_belong, rest_below, some_ended, told_by, told_own}
use Rattle.work_run.proofs.drew.tell_workers.Goals as goal

pub gather-requires-clause-of : goal.gather-requires-clause-of
gather-requires-clause-of g c = drawers_belong c.args.claims.now c.args.lines c.args.block c.requires.numbers c.requires.blocks c.args.all_workers.items c.requires.drawn
    c.part_from_drawers.new.drawers.items c.part_from_drawers.ensures.drawers

pub mark_all-requires-clause-below : goal.mark_all-requires-clause-below
mark_all-requires-clause-below g c =
    let below = rest_below c.args.claims.now c.args.lines c.args.block c.requires.numbers c.requires.blocks c.args.all_workers.items c.requires.drawn
    (λ w. w.lines.items) c.part_from_drawers.new.rest.items c.as_mut_slice.result.now c.part_from_drawers.ensures.blocks
    (ap (λ (xs : List ℕ). length xs) c.as_mut_slice.ensures.value ∙ c.requires.room.a_mark_each) in
    subst (λ (x : List _). All (λ w. All (λ b. b < length c.as_mut_slice.result.now) w.lines.items) x) (sym c.as_slice.ensures.value) below

pub returns-clause-drew : goal.returns-clause-drew
returns-clause-drew g c =
    let all = c.args.all_workers.items in
    let rest = c.part_from_drawers.new.rest.items in
    let e = c.part_from_drawers.ensures in
    let one = ap (λ (x : List _). length x) c.as_slice.ensures.value in
    let two = ap (λ (x : List _). length x) e.passes in
    let some : 1 ≤ length all = omega (arith, c.requires.some.0, c.args.all_workers.ok) in
    let once = c.gather.ensures.each_once (c.gather.ensures.ended ∙ some_ended c.args.claims.now c.args.lines c.args.block c.requires.numbers c.requires.blocks all c.requires.drawn c.part_from_drawers.new.drawers.items e.drawers some) in
    let same_marks : c.as_slice-2.result.now ≡ c.mark_all.new.marks = c.as_slice-2.ensures.value ∙ take_at c.mark_all.new.marks _ c.args.room.marks.len (omega (arith, c.mark_all.ensures.long, c.as_mut_slice.ensures.len)) in
    let same : length all ≡ vec_len c.args.all_workers = omega (arith, c.args.all_workers.ok) in
    subst (λ (m : ℕ). AreDrawnBy c.args.lines m c.args.block c.tell_lines.new.drawn.items) same
    (told_by c.args.claims.now c.args.lines c.args.block c.requires.numbers c.requires.blocks all c.requires.drawn
    (map (λ w. w.lines.items) c.as_slice.result.now) (ap (map (λ w. w.lines.items)) c.as_slice.ensures.value ∙ e.blocks)
    c.part_from_drawers.new.drawers.items e.drawers once c.mark_all.new.marks c.tell_lines.new.drawn.items
    (length c.as_slice.result.now) (omega (arith, one, two, length-map rest (λ w. w.pass), length-map all (λ w. w.pass))) c.mark_all.ensures.marked c.tell_lines.ensures.all
    (λ i lt. c.tell_lines.ensures.told i lt ∙ ap (λ (ms : List ℕ). get_or ms (i / c.args.block) 0) same_marks))

pub returns-clause-own : goal.returns-clause-own
returns-clause-own g c =
    let all = c.args.all_workers.items in
    let rest = c.part_from_drawers.new.rest.items in
    let e = c.part_from_drawers.ensures in
    let one = ap (λ (x : List _). length x) c.as_slice.ensures.value in
    let two = ap (λ (x : List _). length x) e.passes in
    let some : 1 ≤ length all = omega (arith, c.requires.some.0, c.args.all_workers.ok) in
    let once = c.gather.ensures.each_once (c.gather.ensures.ended ∙ some_ended c.args.claims.now c.args.lines c.args.block c.requires.numbers c.requires.blocks all c.requires.drawn c.part_from_drawers.new.drawers.items e.drawers some) in
    let same_marks : c.as_slice-2.result.now ≡ c.mark_all.new.marks = c.as_slice-2.ensures.value ∙ take_at c.mark_all.new.marks _ c.args.room.marks.len (omega (arith, c.mark_all.ensures.long, c.as_mut_slice.ensures.len)) in
    told_own c.args.claims.now c.args.lines c.args.block c.requires.numbers c.requires.blocks all c.requires.drawn
    (map (λ w. w.lines.items) c.as_slice.result.now) (ap (map (λ w. w.lines.items)) c.as_slice.ensures.value ∙ e.blocks)
    c.part_from_drawers.new.drawers.items e.drawers once c.mark_all.new.marks c.tell_lines.new.drawn.items
    (length c.as_slice.result.now) (omega (arith, one, two, length-map rest (λ w. w.pass), length-map all (λ w. w.pass))) c.mark_all.ensures.marked c.tell_lines.ensures.all
    (λ i lt. c.tell_lines.ensures.told i lt ∙ ap (λ (ms : List ℕ). get_or ms (i / c.args.block) 0) same_marks)
