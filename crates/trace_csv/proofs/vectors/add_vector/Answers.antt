use Rattle.std.proofs.Common.{arith, ◌≡◌, ◌∙◌, ◌+◌, ◌++◌, length, take, ap, length-append}
use Rattle.std.proofs.lemmas.List.{take_all}
use Rattle.std.specs.Prelude.{codes}
use Rattle.trace_csv.specs.Vectors.{form_line, texts}
use Rattle.trace_csv.proofs.OutputLemmas.{front-of, on_err}
use Rattle.trace_csv.proofs.PageLemmas.{carries-add, carries-room, carries-stop}
use Rattle.trace_csv.proofs.VectorsLemmas.{joined, texts-count, texts-more, texts-split}
use Rattle.trace_csv.proofs.vectors.add_vector.Goals as goal

pub returns-in_err-make_room-clause-front : goal.returns-in_err-make_room-clause-front
returns-in_err-make_room-clause-front g c = on_err _ _ (front-of _ _ _ (form_line c.args.form c.args.vector.now) c.in_err-make_room.ensures.front)

pub returns-in_err-make_room-2-clause-front : goal.returns-in_err-make_room-2-clause-front
returns-in_err-make_room-2-clause-front g c =
    let form = c.args.form in
    let v = c.args.vector.now in
    let l = c.loop-i in
    let count = texts-count form v in
    on_err _ _ (carries-stop _ _ _ _ _ (joined (take l.i (texts form v))) _ (form_line form v) l.invariant.carried c.in_err-make_room-2.ensures.front
    (texts-split (texts form v) l.i (omega arith) (omega (arith, count))))

pub loop-i-preserved : goal.loop-i-preserved
loop-i-preserved g c =
    let form = c.args.form in
    let v = c.args.vector.now in
    let l = c.loop-i in
    let count = texts-count form v in
    let room = c.in_ok-make_room-2.ensures.room in
    let comma : c.add.new.self ≡ c.make_room-in-loop-i.new.page ++ codes "," = c.add.ensures in
    let one : length c.add.new.self ≡ length c.make_room-in-loop-i.new.page + 1 = ap length comma ∙ length-append _ _ in
    record {
      carried = rw (texts-more (texts form v) l.i (omega arith) (omega (arith, count)))
          (carries-add _ _ _ c.add.new.self c.add_field-in-loop-i.new.page _ _
          (carries-add _ _ _ c.make_room-in-loop-i.new.page c.add.new.self _ _
          (carries-room _ _ _ _ _ _ _ l.invariant.carried c.in_ok-make_room-2.ensures.ok) comma) c.add_field-in-loop-i.ensures.text);
      room = omega (arith, c.add_field-in-loop-i.ensures.short);
      later = omega (arith, c.in_ok-make_room-2.ensures.cause.later);
    }

pub returns-clause-ok : goal.returns-clause-ok
returns-clause-ok g c =
    let form = c.args.form in
    let v = c.args.vector.now in
    let l = c.loop-i in
    let count = texts-count form v in
    let all : take l.i (texts form v) ≡ texts form v = take_all l.i (texts form v) (omega (arith, count)) in
    rw all at (carries-add _ _ _ l.page c.add-2.new.self _ _ l.invariant.carried c.add-2.ensures)
