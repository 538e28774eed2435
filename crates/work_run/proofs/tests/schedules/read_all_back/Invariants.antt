use Rattle.pair_rule.specs.Rest.{AtRest}
use Rattle.root_plain.specs.Plain.{plain}
use Rattle.work_run.proofs.tests.schedules.read_all_back.Given as goal

abbrev pub invariant-loop-i : goal.invariant-loop-i
invariant-loop-i g l = AtRest plain l.store l.pass
