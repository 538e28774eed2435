use Rattle.work_run.proofs.Dealing.{within-the-trace, one-worker-each, one-turn-each, each-has-a-worker, one-worker-has-all}
use Rattle.work_run.proofs.lines.lines_are_dealt_out.Goals as goal

pub returns-clause-within_the_trace : goal.returns-clause-within_the_trace
returns-clause-within_the_trace c = within-the-trace

pub returns-clause-one_worker_each : goal.returns-clause-one_worker_each
returns-clause-one_worker_each c = one-worker-each

pub returns-clause-one_turn_each : goal.returns-clause-one_turn_each
returns-clause-one_turn_each c = one-turn-each

pub returns-clause-each_has_a_worker : goal.returns-clause-each_has_a_worker
returns-clause-each_has_a_worker c = each-has-a-worker

pub returns-clause-one_worker_has_all : goal.returns-clause-one_worker_has_all
returns-clause-one_worker_has_all c = one-worker-has-all
