use Rattle.std.proofs.Common.{◌∙◌, drop, ap}
use Rattle.std.proofs.lemmas.List.{drop-drop}
use Rattle.treedb.proofs.check.cut.Goals as goal

pub returns : goal.returns
returns c =
    let place = c.in_ok-place.place in
    let bytes = c.args.bytes.now in
    record {
      place = place;
      first = c.in_ok-place.ensures;
      text_is = c.split_at.ensures.front;
      report_is = c.split_at-2.ensures.back ∙ ap (drop 2) c.split_at.ensures.back ∙ drop-drop 2 place bytes;
    }
