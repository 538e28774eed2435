use Rattle.std.proofs.Common.{arith}
use Rattle.pair_rule.proofs.Rests.{few_nodes}
use Rattle.tree_store.proofs.counts.stored_bytes_of.Goals as goal

pub overflow_mul-result : goal.overflow_mul-result
overflow_mul-result g c =
    let few = few_nodes g.N.Part.RootPart.part c.args.store.now c.args.pass.now c.requires.rest in
    let made = c.nodes_made.ensures.made in
    let count = c.requires.rest.nodes_count in
    omega (arith, few, made, count)

pub overflow_add-result : goal.overflow_add-result
overflow_add-result g c =
    let p = c.args.pass.now in
    let nodes = few_nodes g.N.Part.RootPart.part c.args.store.now p c.requires.rest in
    let names = g.met.N.RootNames.few_names c.args.store.now p c.requires.rest in
    let nodes_made = c.nodes_made.ensures.made in
    let names_made = c.names_made.ensures.made in
    let most = c.name_bytes.ensures.most in
    omega (arith, nodes, nodes_made, c.requires.rest.nodes_count, names, names_made, c.requires.rest.names_count, most)
