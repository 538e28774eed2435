use Rattle.std.specs.Prelude.{◌<◌, ℕ}
use Rattle.tdb_base.specs.declared.reply.Reply.TheVariants as r
use Rattle.run_check.specs.Plain.{HasMark}
use Rattle.run_check.specs.Reached.{Line}
use Rattle.run_check.proofs.plain.new_marked.Given as goal

abbrev pub invariant-loop-m : goal.invariant-loop-m
invariant-loop-m l = (k id : ℕ) → k < l.m → Line l.trace l.replies k l.vector (r.New id) → HasMark l.marks k → ⊥
