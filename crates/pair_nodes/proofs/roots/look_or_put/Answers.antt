use Rattle.std.proofs.lemmas.Result.{IfOk-weaker, on_err_weaker}
use Rattle.packed_word.specs.Word.{pair_of}
use Rattle.pair_nodes.specs.Roots.{RootPut}
use Rattle.pair_nodes.proofs.Looks.{asked_again, put_then, refused_then}
use Rattle.pair_nodes.proofs.roots.look_or_put.Goals as goal

pub put-requires-clause-stands : goal.put-requires-clause-stands
put-requires-clause-stands g c =
    let part = g.D.Part.RootPart.part in
    let store = g.D.RootTable.store c.args.roots.now in
    let pair = pair_of store.about.width c.args.left c.args.right in
    asked_again part store c.args.pass.now c.look.new.pass c.look.new.pass c.in-None.ensures.seen pair c.requires.stands

pub returns-in-None-clause-put : goal.returns-in-None-clause-put
returns-in-None-clause-put g c =
    let part = g.D.Part.RootPart.part in
    let store = g.D.RootTable.store c.args.roots.now in
    let pair = pair_of store.about.width c.args.left c.args.right in
    let before = c.args.pass.now in
    let after = c.put.new.pass in
    IfOk-weaker c.put.result (λ a. RootPut part store pair a.0 a.1 c.look.new.pass after) (λ a. RootPut part store pair a.0 a.1 before after)
    (λ a put. put_then part store before c.look.new.pass after c.in-None.ensures.seen pair a.0 a.1 put) c.put.ensures.put

pub returns-in-None-clause-refused : goal.returns-in-None-clause-refused
returns-in-None-clause-refused g c =
    let part = g.D.Part.RootPart.part in
    let store = g.D.RootTable.store c.args.roots.now in
    let pair = pair_of store.about.width c.args.left c.args.right in
    on_err_weaker c.put.result (refused_then part store c.args.pass.now c.look.new.pass c.put.new.pass c.in-None.ensures.seen pair) c.put.ensures.refused
