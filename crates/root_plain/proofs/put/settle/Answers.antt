use Rattle.std.proofs.Common.{arith}
use Rattle.pair_rule.specs.Paths.{root_buckets}
use Rattle.pair_rule.specs.Rest.{view}
use Rattle.pair_rule.proofs.Calling.{called_then, some_more}
use Rattle.pair_nodes.specs.Probe.{pair_of_word}
use Rattle.root_plain.specs.Plain.{plain}
use Rattle.root_plain.proofs.Probing.{shows_then, passed_more}
use Rattle.root_plain.proofs.put.settle.Goals as goal

pub claim-lost-requires : goal.claim-lost-requires
claim-lost-requires g c =
    let about = c.args.table.now.about in
    let pair = pair_of_word c.args.word in
    let k = (c.look-found.ensures.shows.empty c.if-found-ne0.false).0 in
    let w = c.requires.passed in
    (omega arith, (omega arith, (c.look-found.ensures.rest, (c.requires.word, (c.requires.inside, ((w.0, w.1, w.2, passed_more (root_buckets about) pair w.0 (view c.args.pass.now) (view c.look-found.new.pass) k w.3), some_more plain about pair (view c.args.pass.now) (view c.look-found.new.pass) k c.requires.stands))))))

pub returns-clause-put : goal.returns-clause-put
returns-clause-put g c =
    let k = (c.look-found.ensures.shows.empty c.if-found-ne0.false).0 in
    called_then plain _ _ _ (view c.args.pass.now) (view c.look-found.new.pass) (view c.claim-lost.new.pass) k (c.claim-lost.ensures.won c.if-lost-ne0.false)

pub returns-then-lost-ne0-clause-found : goal.returns-then-lost-ne0-clause-found
returns-then-lost-ne0-clause-found g c =
    let k = (c.look-found.ensures.shows.empty c.if-found-ne0.false).0 in
    shows_then _ _ _ (view c.args.pass.now) (view c.look-found.new.pass) (view c.claim-lost.new.pass) k (c.claim-lost.ensures.lost c.if-lost-ne0.true)
