use Rattle.std.proofs.Common.{arith}
use Rattle.region_root.proofs.root.CompactRootRootPart.first_out.Goals as goal

pub returns-clause-sized : goal.returns-clause-sized
returns-clause-sized g c =
    let fit = c.first_out.ensures.fit in
    let layout = c.requires in (
      (λ none. let f = fit.0 none in
          record {
            layout = layout;
            least_region = f.1.0;
            most_region = f.1.1;
            inside = f.1.2;
            most_roots = f.0.1;
            narrow = f.0.2;
          }),
      (λ sized. fit.1 ((omega (arith, sized.least_region, sized.inside), sized.most_roots, sized.narrow), (sized.least_region, sized.most_region, sized.inside))),
    )
