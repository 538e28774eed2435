use Rattle.std.proofs.Common.{◌<◌, sym, ap, ◌∙◌, arith, length, Option, ℕ}
use Rattle.std.specs.Prelude.{if◌then◌else◌}
use Rattle.std.proofs.lemmas.List.{take_all}
use Rattle.tdb_base.specs.History as h
use Rattle.tdb_base.proofs.NameLemmas.{flags-nil, flags-more}
use Rattle.tdb_base.proofs.plain.flags_of.Goals as goal

pub loop-call-init : goal.loop-call-init
loop-call-init c = record { same = sym (flags-nil c.args.vector.now); small = omega arith }

pub loop-call-preserved : goal.loop-call-preserved
loop-call-preserved c =
    let inside : c.loop-call.call-index < length c.args.history.now = c.loop-call-test.true in
    record {
      same = c.flags_after-flags.ensures.value
          ∙ ap (λ (now : Option ℕ). if h.same c.call-item.result.vector c.args.vector.now then h.flags_after c.call-item.result.act now else now) c.loop-call.invariant.same
          ∙ sym (flags-more c.args.history.now c.loop-call.call-index c.call-item.result c.args.vector.now inside c.call-item.is);
      small = omega (arith, c.flags_after-flags.ensures.grows, c.loop-call.invariant.small);
    }

pub returns : goal.returns
returns c = c.loop-call.invariant.same ∙ ap (λ (t : h.History). h.flags_of t c.args.vector.now) (take_all c.loop-call.call-index c.args.history.now c.loop-call-test.false)
