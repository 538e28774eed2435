use Rattle.std.proofs.Common.{◌≡◌, ◌+◌, ◌∙◌, ℕ, arith, refl, sym, ap, subst, length, take, get_or, Bool}
use Rattle.std.proofs.lemmas.List.{length-map}
use Rattle.std.proofs.lemmas.Option.{slice_get_read, slice_get-get_or}
use Rattle.std.specs.Prelude.{◌&&◌, ◌↔◌, IsTrue, Some, Vec, map, slice_get}
use Rattle.std.specs.Global.{Global}
use Rattle.tdb_base.specs.Agrees.{entry_of}
use Rattle.tdb_base.specs.History as h
use Rattle.tdb_base.specs.declared.reply.Reply.TheVariants as r
use Rattle.tdb_base.proofs.AgreesLemmas.{begins-all, nothing-there, entries-same, walk-more, dealt_entries}
use Rattle.tdb_base.proofs.DistinctLemmas.{at-map}
use Rattle.tdb_base.proofs.ListLemmas.{at-within}
use Rattle.tdb_base.proofs.plain.agrees.in_order.Goals as goal
use Rattle.tdb_base.proofs.plain.agrees.in_order.Goals.{then-is_told, else-is_told}

pub loop-i-preserved : goal.loop-i-preserved
loop-i-preserved c =
    let items = λ (v : Vec ℕ Global). v.items in
    let lines = map items c.args.trace.now in
    let mine_all = h.calls c.args.later.now c.args.caller in
    let entries = dealt_entries c.args.caller lines c.args.replies.now c.args.workers c.args.block c.args.worker in
    let reply = get_or c.args.replies.now c.loop-i.i (r.New 0) in
    let answered : slice_get c.args.replies.now c.loop-i.i ≡ Some reply = slice_get-get_or c.args.replies.now c.loop-i.i (r.New 0) (omega arith) in
    elim c.if-is_told.branch [
      | then-is_told w ↦
          (let line = w.index-trace-i.result in
          let at : slice_get lines c.loop-i.i ≡ Some line.items =
          at-map items c.args.trace.now line c.loop-i.i (slice_get_read c.args.trace.now _ c.loop-i.i line refl c.loop-i-test.true w.index-trace-i.is) in
          let next : IsTrue w.is_number-fine.result ↔ (slice_get mine_all c.loop-i.number ≡ entry_of c.args.caller line.items reply) =
          subst (λ (v : h.Vector). IsTrue w.is_number-fine.result ↔ (slice_get mine_all c.loop-i.number ≡ entry_of c.args.caller v reply)) w.deref.ensures.value w.is_number-fine.ensures in
          let more = walk-more c.args.caller lines c.args.replies.now c.args.workers c.args.block c.args.worker c.loop-i.i line.items reply mine_all c.loop-i.number c.loop-i.fine
          w.is_number-fine.result at answered (sym w.if-is_told.true ∙ c.is_told.ensures) c.loop-i.invariant.same c.loop-i.invariant.count next in
          record {
            same = subst (λ (b : Bool). IsTrue b ↔ (take c.if-is_told.number mine_all ≡ entries (c.loop-i.i + 1))) (sym w.fine-is)
                (subst (λ (k : ℕ). IsTrue (c.loop-i.fine && w.is_number-fine.result) ↔ (take k mine_all ≡ entries (c.loop-i.i + 1))) (sym w.number-is) more.0);
            count = w.number-is ∙ more.1;
            few = omega (arith, w.number-is, c.loop-i.invariant.few);
          })
      | else-is_told w ↦
          (let place = at-within c.args.trace.now c.loop-i.i c.loop-i-test.true in
          let at : slice_get lines c.loop-i.i ≡ Some place.0.items = at-map items c.args.trace.now place.0 c.loop-i.i place.1 in
          let kept = entries-same c.args.caller lines c.args.replies.now c.args.workers c.args.block c.args.worker c.loop-i.i place.0.items reply at answered (sym w.if-is_told.false ∙ c.is_told.ensures) in
          record {
            same = subst (λ (b : Bool). IsTrue b ↔ (take c.if-is_told.number mine_all ≡ entries (c.loop-i.i + 1))) (sym w.fine-is)
                (subst (λ (k : ℕ). IsTrue c.loop-i.fine ↔ (take k mine_all ≡ entries (c.loop-i.i + 1))) (sym w.number-is)
                (subst (λ (t : h.History). IsTrue c.loop-i.fine ↔ (take c.loop-i.number mine_all ≡ t)) (sym kept) c.loop-i.invariant.same));
            count = w.number-is ∙ c.loop-i.invariant.count ∙ ap length (sym kept);
            few = omega (arith, w.number-is, c.loop-i.invariant.few);
          })
    ]

pub returns-then-fine : goal.returns-then-fine
returns-then-fine c =
    let items = λ (v : Vec ℕ Global). v.items in
    let lines = map items c.args.trace.now in
    let mine_all = h.calls c.args.later.now c.args.caller in
    let end : c.loop-i.i ≡ length lines = omega (arith, length-map c.args.trace.now items) in
    let entries = dealt_entries c.args.caller lines c.args.replies.now c.args.workers c.args.block c.args.worker in
    let here : take c.loop-i.number mine_all ≡ entries (length lines) = c.loop-i.invariant.same.0 c.if-fine.true ∙ ap entries end in
    let count : c.loop-i.number ≡ length (entries (length lines)) = c.loop-i.invariant.count ∙ ap (λ (i : ℕ). length (entries i)) end in
    let all = begins-all mine_all (entries (length lines)) c.loop-i.number count in
    let none = nothing-there c.call_at.result c.is_none.result (slice_get mine_all c.loop-i.number) c.is_none.ensures c.call_at.ensures in
    (λ t. all.0 (here, none.0 t), λ same. none.1 (all.1 same).1)
