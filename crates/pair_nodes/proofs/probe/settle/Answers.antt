use Rattle.std.proofs.Common.{⊎_elim}
use Rattle.pair_nodes.specs.Probe.{pair_of_word}
use Rattle.pair_nodes.proofs.Views.{settle_passes, settle_loses, settle_wins, settle_meets}
use Rattle.pair_nodes.proofs.probe.settle.Goals as goal

pub returns-then-found-ne0-clause-ends : goal.returns-then-found-ne0-clause-ends
returns-then-found-ne0-clause-ends g c =
    let r = c.requires in
    λ step lies passed. settle_passes c.args.table.now.about c.args.pass.now.seat.me.0 c.args.at c.args.found c.args.word step r.rest.seat.about_is r.probing r.found.0 c.if-found-ne0.true c.if-found-word.false r.word (r.found.1 c.if-found-ne0.true) lies passed

pub returns-else-found-word-2-clause-ends : goal.returns-else-found-word-2-clause-ends
returns-else-found-word-2-clause-ends g c =
    let r = c.requires in
    let e = c.put-found.ensures in
    let no = c.if-found-word-2.false in
    λ step lies passed. settle_loses c.args.table.now.about c.args.pass.now.seat.me.0 c.put-found.new.pass.seat.me.0 c.args.at c.put-found.result c.args.word step r.rest.seat.about_is r.probing e.word no.0 no.1 r.word (e.lost no.0) lies passed

pub returns-then-found-word-2-clause-ends : goal.returns-then-found-word-2-clause-ends
returns-then-found-word-2-clause-ends g c =
    let v = c.args.pass.now.seat.me.0 in
    let w = c.put-found.new.pass.seat.me.0 in
    let e = c.put-found.ensures in
    ⊎_elim
    (λ won. settle_wins v w c.args.at (pair_of_word c.args.word) (e.free won) (e.won won))
    (λ lost. settle_meets c.args.table.now.about v w c.args.at c.put-found.result c.args.word (e.lost lost.0) e.word lost.1 c.requires.word)
    c.if-found-word-2.either
