use Rattle.std.proofs.Common.{◌≡◌, ◌≤◌, ◌<◌, ◌*◌, ℕ, arith, ⊎_elim}
use Rattle.std.specs.Prelude.{◌⊎◌}
use Rattle.command_line.specs.Valid.{IsProfile}
use Rattle.treedb.proofs.store.store_sizes.Goals as goal

-- the number of a cell has fewer bits than a root
narrow : (width roots : ℕ) → IsProfile width → roots ≤ 24 → roots < 2 * width
narrow width roots profile most = ⊎_elim
    (λ (a : width ≡ 16). omega (arith, a, most))
    (λ (o : (width ≡ 28) ⊎ (width ≡ 31)). ⊎_elim (λ (b : width ≡ 28). omega (arith, b, most)) (λ (b : width ≡ 31). omega (arith, b, most)) o)
    profile

pub returns-clause-fit : goal.returns-clause-fit
returns-clause-fit c =
    let range = c.sizes-sizes.ensures.in_range in
    let choice = c.args.choice.now in
    record {
      nodes = (range.nodes.0, omega (arith, range.nodes.1), omega (arith, range.nodes.1));
      roots = range.roots;
      cells = λ is. (range.compact_roots is, range.roots.1, narrow choice.profile c.sizes-sizes.result.roots c.requires.in_range.profile range.roots.1);
      regions = λ is. (let region = range.region is in (region.0, omega (arith, region.1), omega (arith, region.1)));
      probe = range.probe;
    }
