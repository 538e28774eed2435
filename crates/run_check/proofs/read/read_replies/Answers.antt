use Rattle.std.proofs.Common.{arith, refl}
use Rattle.std.proofs.lemmas.Result.{err_from_is_err_and}
use Rattle.run_check.proofs.ReadLemmas.{front-more, read-none, reply-refused}
use Rattle.run_check.proofs.read.read_replies.Goals as goal

pub returns-in_err-reply-clause-refused : goal.returns-in_err-reply-clause-refused
returns-in_err-reply-clause-refused c =
    let p = err_from_is_err_and c.from_residual.result c.from_residual.ensures.1 in
    let front = c.loop-i.invariant in
    rw (p.1, p.2) (reply-refused c.args.lines c.loop-i.i c.args.bytes.now c.loop-i.text.now front.replies c.in_err-reply.field-0.0 c.in_err-reply.ensures.0 (omega arith)
    front.read (omega arith) c.in_err-reply.ensures.1 c.in_err-reply.ensures.2)

pub loop-i-init : goal.loop-i-init
loop-i-init c = record { replies = _; read = read-none c.args.bytes.now; new_is = refl; kept_are = c.requires.empty }

pub loop-i-preserved : goal.loop-i-preserved
loop-i-preserved c =
    front-more (λ v. v.items) c.loop-i.i c.args.bytes.now c.loop-i.text.now c.in_ok-reply.rest.now c.loop-i.replies c.with_reply-replies.result c.loop-i.new c.counted-new.result c.in_ok-reply.reply
    c.loop-i.invariant c.in_ok-reply.ensures.0 c.in_ok-reply.ensures.1 c.with_reply-replies.ensures c.counted-new.ensures
