use Rattle.cleary_core.proofs.Reaching.{first_word, second_word}
use Rattle.std.proofs.Common.{inl, inr, ⊎_elim, ◌/◌, ◌+◌, ◌∙◌, sym, arith, ◌≡◌}
use Rattle.cleary_core.specs.Cells.{word_count}
use Rattle.cleary_core.proofs.Packing.{cell_inside, field_in_one, field_in_two, marks_as}
use Rattle.cleary_core.proofs.reading.read_marks.Goals as goal

pub get-low-requires : goal.get-low-requires
get-low-requires g c =
    let inside = cell_inside c.args.sizes.now c.args.i c.start_of-at.result c.requires.region c.requires.inside c.start_of-at.ensures.value in
    (word_count c.args.sizes.now, c.requires.words, omega arith)

pub returns-then-offset-le64-clause-value : goal.returns-then-offset-le64-clause-value
returns-then-offset-le64-clause-value g c = λ words agrees.
    marks_as c.args.sizes.now words c.args.i c.start_of-at.result c.get.result c.start_of-at.ensures.value
    (c.get.ensures ∙ field_in_one words c.start_of-at.result 3 c.get-low.result c.if-offset-le64.true (agrees (c.start_of-at.result / 64) c.get-low.result c.get-low.ensures.found))
    ∙ sym c.unmark.ensures

pub get-high-requires : goal.get-high-requires
get-high-requires g c =
    let inside = cell_inside c.args.sizes.now c.args.i c.start_of-at.result c.requires.region c.requires.inside c.start_of-at.ensures.value in
    (word_count c.args.sizes.now, (g.met.A.ReadWords.keeps c.args.access.now c.get-low.new.self c.get-low.ensures.reads).0 (word_count c.args.sizes.now) c.requires.words, omega (arith, c.if-offset-le64.false))

pub returns-clause-value : goal.returns-clause-value
returns-clause-value g c = λ words agrees.
    marks_as c.args.sizes.now words c.args.i c.start_of-at.result c.get-2.result c.start_of-at.ensures.value
    (c.get-2.ensures ∙ field_in_two words c.start_of-at.result 3 c.get-low.result c.get-high.result (omega arith)
    (agrees (c.start_of-at.result / 64) c.get-low.result ((g.met.A.ReadWords.keeps c.get-low.new.self c.get-high.new.self c.get-high.ensures.reads).1 (c.start_of-at.result / 64) c.get-low.result c.get-low.ensures.found))
    (agrees (c.start_of-at.result / 64 + 1) c.get-high.result c.get-high.ensures.found))
    ∙ sym c.unmark-2.ensures

pub returns-then-offset-le64-clause-near : goal.returns-then-offset-le64-clause-near
returns-then-offset-le64-clause-near g c = λ i m found. ⊎_elim
    (λ (old : g.A.ReadWords.reached c.args.access.now i m). inl old)
    (λ (there : i ≡ c.start_of-at.result / 64). inr (first_word c.args.sizes.now c.args.i c.start_of-at.result i c.start_of-at.ensures.value there))
    (c.get-low.ensures.only i m found)

pub returns-clause-near : goal.returns-clause-near
returns-clause-near g c = λ i m found. ⊎_elim
    (λ (low : g.A.ReadWords.reached c.get-low.new.self i m). ⊎_elim
    (λ (old : g.A.ReadWords.reached c.args.access.now i m). inl old)
    (λ (there : i ≡ c.start_of-at.result / 64). inr (first_word c.args.sizes.now c.args.i c.start_of-at.result i c.start_of-at.ensures.value there))
    (c.get-low.ensures.only i m low))
    (λ (there : i ≡ c.start_of-at.result / 64 + 1). inr (second_word c.args.sizes.now c.args.i c.start_of-at.result i c.start_of-at.ensures.value there (omega (arith, c.requires.region.some, c.if-offset-le64.false))))
    (c.get-high.ensures.only i m found)
