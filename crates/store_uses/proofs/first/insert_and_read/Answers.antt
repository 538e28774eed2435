use Rattle.std.proofs.Common.{◌∙◌}
use Rattle.root_plain.specs.Plain.{plain}
use Rattle.store_uses.proofs.Known.{answered_name, one_vector}
use Rattle.store_uses.proofs.first.insert_and_read.Goals.{in-FullNodes, in-New2}
use Rattle.store_uses.proofs.first.insert_and_read.Goals as goal

pub returns : goal.returns
returns c = record {
  same = elim c.match-insert.branch [
    | in-FullNodes w ↦ w.state-is
    | in-New2 w ↦ w.state-is ∙ one_vector plain c.in_ok-store.store c.insert.new.pass c.insert.ensures.rest w.read.new.out _ w.in-New.id w.read.ensures.read.vector
        (answered_name plain c.in_ok-store.store c.in_ok-store.pass c.insert.new.pass _ _ c.insert.result w.in-New.id c.insert.ensures.answered w.in-New.is)
  ];
}
