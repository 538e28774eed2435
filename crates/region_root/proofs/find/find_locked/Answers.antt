use Rattle.std.proofs.Common.{ap, subst, ◌∙◌, None}
use Rattle.pair_rule.specs.declared.pass.PassOf.{PassOf}
use Rattle.region_root.specs.declared.root.Regions.{Regions}
use Rattle.pair_rule.specs.Rest.{view}
use Rattle.region_root.specs.Plays.{Told}
use Rattle.region_root.proofs.find.find_locked.Goals as goal

pub returns-clause-told : goal.returns-clause-told
returns-clause-told g c = λ h held.
    let same = c.has_root.ensures.same in (
      c.if-has_root.ensures.found h held,
      subst (λ p. Told h.region h.base None (view p) (view c.unlock-2.new.pass)) same (c.unlock-2.ensures.told h (ap (λ (p : PassOf Regions). (view p).root.held) same ∙ held)),
    )
