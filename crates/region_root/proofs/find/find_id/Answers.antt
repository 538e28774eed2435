use Rattle.std.proofs.Common.{refl}
use Rattle.region_root.proofs.Outcomes.{not_packed}
use Rattle.pair_rule.proofs.Calling.{caught_still}
use Rattle.region_root.specs.Compact.{compact}
use Rattle.region_root.proofs.find.find_id.Goals as goal

pub returns-then-not-is_packed-clause-found : goal.returns-then-not-is_packed-clause-found
returns-then-not-is_packed-clause-found g c = record {
  rest = c.requires.rest;
  no_call = caught_still (compact g.row.W g.row.F) c.args.nodes.now c.args.pass.now c.requires.rest;
  no_name = not_packed g.row.W g.row.F c.args.nodes.now c.args.pass.now c.args.id c.requires.rest c.table-table.ensures.store (λ low. cc (c.is_packed.ensures.1 low, c.if-not-is_packed.true));
  buffers = refl;
}
