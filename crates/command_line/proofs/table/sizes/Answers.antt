use Rattle.std.proofs.Common.{◌∙◌, ap, refl}
use Rattle.std.specs.Prelude.{unwrap_or}
use Rattle.command_line.proofs.SizeLemmas.{same-sizes}
use Rattle.command_line.proofs.table.sizes.Goals as goal

pub returns-clause-determined : goal.returns-clause-determined
returns-clause-determined c =
    λ t at. same-sizes c.args.choice.now c.args.slots c.args.lines t _ at (record {
      nodes = c.node_size-nodes.ensures;
      roots = c.root_size-roots.ensures;
      region = c.unwrap_or-region.ensures ∙ ap (unwrap_or c.args.choice.now.region) c.min.ensures;
      probe = refl;
    })
