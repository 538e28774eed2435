use Rattle.std.proofs.Common.{arith, ◌++◌, take, drop, ap, sym, ◌∙◌, append_assoc}
use Rattle.std.proofs.lemmas.List.{take-append-drop}
use Rattle.trace_csv.proofs.OutputLemmas.{appends-more}
use Rattle.trace_csv.proofs.output.put.Goals as goal

pub loop-rest-preserved : goal.loop-rest-preserved
loop-rest-preserved g c =
    let old = c.loop-rest.invariant in
    let n = c.in-Ok.count in
    let rest = c.loop-rest.rest.now in
    record {
      done = old.done ++ take n rest;
      whole = rw (c.split_at.ensures.back) (old.whole ∙ ap (λ t. old.done ++ t) (sym (take-append-drop n rest)) ∙ sym (append_assoc old.done (take n rest) (drop n rest)));
      taken = appends-more _ _ _ _ _ old.taken c.in-Ok.ensures.bytes;
      later = omega (arith, c.in-Ok.ensures.cause.later);
    }
