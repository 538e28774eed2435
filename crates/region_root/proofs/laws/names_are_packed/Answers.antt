use Rattle.std.proofs.Common.{subst}
use Rattle.pair_rule.specs.declared.sizes.About.{About}
use Rattle.region_root.specs.Layout.{IsPacked}
use Rattle.region_root.proofs.laws.names_are_packed.Goals as goal

pub returns : goal.returns
returns g c = λ store p r v id n.
    let k = r.seat.sound.named.each v id n in
    subst (λ (y : About). IsPacked y id) r.seat.about_is (r.seat.sound.root_sound.packed id k.0 k.1)
