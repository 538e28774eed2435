use Rattle.std.specs.Prelude.{ℕ, Bool, Result, Ok, Err, IfOk, OnErr}
use Rattle.tree_shape.specs.Tree.{IsPart}
use Rattle.pair_rule.specs.declared.full.RootsFull.{RootsFull}
use Rattle.pair_rule.specs.declared.pass.PassOf.{PassOf}
use Rattle.pair_rule.specs.Calls.{IsSomeRoot}
use Rattle.pair_rule.specs.Part.{Store}
use Rattle.pair_rule.specs.Rest.{view}
use Rattle.pair_nodes.specs.Roots.{RootPut, RootRefused}
use Rattle.packed_word.specs.Word.{pair_of}
use Rattle.root_plain.specs.declared.root.Roots.{Roots}
use Rattle.root_plain.specs.Plain.{plain}
use Rattle.root_plain.proofs.table.PlainTableRootTable.put.Goals as goal

-- whatever a put answers, the roots that were known are
roots_stay : (store : Store) (pair : ℕ) (p q : PassOf Roots) (result : Result (ℕ × Bool) RootsFull)
    → IsSomeRoot store.about (view p).known pair
    → IfOk result (λ a. RootPut plain store pair a.0 a.1 p q) → OnErr result (RootRefused plain store pair p q)
    → IsPart (view p).root.roots (view q).root.roots
roots_stay store pair p q (Ok a) some put refused = (put.entry some.0 some.1 some.2).roots_stay
roots_stay store pair p q (Err e) some put refused = refused.no_call.roots_stay

pub returns-clause-call : goal.returns-clause-call
returns-clause-call g c =
    let store = c.args.self.now.nodes.now in
    roots_stay store (pair_of store.about.width c.args.left c.args.right) c.args.pass.now c.put_root.new.pass c.put_root.result c.requires.stands c.put_root.ensures.put c.put_root.ensures.refused
