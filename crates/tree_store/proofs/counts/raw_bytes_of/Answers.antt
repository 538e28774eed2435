use Rattle.std.proofs.Common.{arith, ◌*◌}
use Rattle.tree_store.proofs.Census.{few_bytes}
use Rattle.tree_store.proofs.counts.raw_bytes_of.Goals as goal

pub overflow_mul-result-2 : goal.overflow_mul-result-2
overflow_mul-result-2 g c =
    let few = g.met.N.RootNames.few_names c.args.store.now c.args.pass.now c.requires.rest in
    let made = c.names_made.ensures.made in
    let count = c.requires.rest.names_count in
    let range = c.slots.ensures.range in
    let all = few_bytes (4 * c.slots.result) c.names_made.result (omega (arith, range)) (omega (arith, few, made, count)) in
    omega (arith, all)
