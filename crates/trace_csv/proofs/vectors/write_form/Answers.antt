use Rattle.std.proofs.Common.{◌≡◌, ◌∙◌, ◌<◌, arith, ◌+◌, ◌++◌, [], length, take, drop, get_or, ap, subst, sym}
use Rattle.std.proofs.lemmas.List.{append-nil, get_or-map, length-map, take_all}
use Rattle.trace_csv.specs.Vectors.{AreSlots, form_line, form_text, vector_at, vectors_of}
use Rattle.trace_csv.proofs.OutputLemmas.{on_err}
use Rattle.trace_csv.proofs.PageLemmas.{carries-front, carries-more, carries-stop}
use Rattle.trace_csv.proofs.VectorsLemmas.{vectors-more, vectors-split}
use Rattle.trace_csv.proofs.vectors.write_form.Goals as goal

pub returns-in_err-add_vector-clause-front : goal.returns-in_err-add_vector-clause-front
returns-in_err-add_vector-clause-front g c =
    let form = c.args.form in
    let slots = c.args.slots in
    let flat = c.args.flat.now in
    let order = c.args.order.now in
    let i = c.loop-number.number-index in
    let vector : c.split_at-in-loop-number.result.0.now ≡ vector_at slots flat (get_or order i 0) =
    c.split_at-in-loop-number.ensures.front ∙ ap (take slots) c.split_at.ensures.back in
    let more : form_text form (vectors_of slots flat (take i order)) ++ form_line form c.split_at-in-loop-number.result.0.now ≡ form_text form (vectors_of slots flat (take (i + 1) order)) =
    ap (λ v. form_text form (vectors_of slots flat (take i order)) ++ form_line form v) vector ∙ sym (vectors-more form slots flat order i (omega arith)) in
    on_err _ _ (carries-front _ _ _ [] _ _ _ _ (form_text form (vectors_of slots flat order)) c.loop-number.invariant.carried c.in_err-add_vector.ensures.front
    (vectors-split form slots flat order (i + 1) ∙ ap (λ t. t ++ form_text form (vectors_of slots flat (drop (i + 1) order))) (sym more)))

pub loop-number-preserved : goal.loop-number-preserved
loop-number-preserved g c =
    let form = c.args.form in
    let slots = c.args.slots in
    let flat = c.args.flat.now in
    let order = c.args.order.now in
    let i = c.loop-number.number-index in
    let vector : c.split_at-in-loop-number.result.0.now ≡ vector_at slots flat (get_or order i 0) =
    c.split_at-in-loop-number.ensures.front ∙ ap (take slots) c.split_at.ensures.back in
    record {
      carried = rw (vectors-more form slots flat order i (omega arith), ← vector)
          (carries-more _ _ _ _ _ _ _ _ c.loop-number.invariant.carried c.in_ok-add_vector.ensures.ok);
      later = omega (arith, c.in_ok-add_vector.ensures.cause.later);
    }

pub returns-in_err-close-clause-front : goal.returns-in_err-close-clause-front
returns-in_err-close-clause-front g c =
    let form = c.args.form in
    let text = form_text form (vectors_of c.args.slots c.args.flat.now c.args.order.now) in
    let all : take c.loop-number.number-index c.args.order.now ≡ c.args.order.now = take_all c.loop-number.number-index c.args.order.now (omega arith) in
    let carried = rw all at c.loop-number.invariant.carried in
    on_err _ _ (carries-stop _ _ _ [] _ text [] text carried c.in_err-close.ensures.front (sym (append-nil text)))

pub add_vector-requires : goal.add_vector-requires
add_vector-requires g c =
    let form = c.args.form in
    let slots = c.args.slots in
    let flat = c.args.flat.now in
    let order = c.args.order.now in
    let i = c.loop-number.number-index in
    let vector : c.split_at-in-loop-number.result.0.now ≡ vector_at slots flat (get_or order i 0) =
    c.split_at-in-loop-number.ensures.front ∙ ap (take slots) c.split_at.ensures.back in
    let there : i < length order = c.loop-number-test.true in
    let inside : i < length (vectors_of slots flat order) = (let size = length-map order (vector_at slots flat) in omega (arith, size, there)) in
    let here : AreSlots form (vector_at slots flat (get_or order i 0)) = subst (AreSlots form) (get_or-map (vector_at slots flat) order i 0 [] there) (c.requires.halves i [] inside) in
    let long : length c.split_at-in-loop-number.result.0.now ≡ slots = c.split_at-in-loop-number.ensures.front_len in
    record { some = omega (arith, long, c.requires.slots); halves = subst (AreSlots form) (sym vector) here }
