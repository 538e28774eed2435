use Rattle.std.proofs.Common.{ap}
use Rattle.pair_rule.specs.Rest.{view}
use Rattle.region_root.specs.Work.{held_words}
use Rattle.region_root.proofs.Outcomes.{told_back}
use Rattle.region_root.proofs.put.put_locked.Goals as goal

pub returns-in_default-clause-told : goal.returns-in_default-clause-told
returns-in_default-clause-told g c = λ h held.
    let v = view c.args.pass.now in
    let is = c.add_root.ensures.rewrites.view_is h held in
    let added = c.in_default.ensures.added h held in
    let told = c.unlock.ensures.told (record h { copy = held_words c.add_root.new.pass }) (ap (λ u. u.root.held) is) in
    record {
      words = held_words c.add_root.new.pass;
      keeps = added.0;
      absent = added.1;
      all = added.2;
      told = told_back v _ _ v.busy _ _ _ _ is told;
    }

pub returns-clause-told : goal.returns-clause-told
returns-clause-told g c = λ h held.
    let v = view c.args.pass.now in
    let is = c.add_root.ensures.rewrites.view_is h held in
    told_back v _ _ v.busy _ _ _ _ is (c.unlock-2.ensures.told (record h { copy = held_words c.add_root.new.pass }) (ap (λ u. u.root.held) is))
