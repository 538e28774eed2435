use Rattle.std.proofs.Common.{length, map, sym}
use Rattle.std.proofs.lemmas.List.{length-map}
use Rattle.run_check.proofs.SearchLemmas.{from-nothing}
use Rattle.run_check.proofs.plain.search.has_history.Goals as goal

pub returns : goal.returns
returns c =
    from-nothing (map (λ v. v.items) c.args.trace.now) c.args.replies.now c.args.workers c.args.block c.goes_on.result c.new-history.result.items (length c.args.trace.now)
    c.requires.some c.new-history.ensures.items (sym (length-map c.args.trace.now (λ v. v.items))) c.goes_on.ensures.found
