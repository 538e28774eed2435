use Rattle.std.proofs.Common.{◌∙◌, ℕ, refl, sym}
use Rattle.std.proofs.lemmas.List.{length-map}
use Rattle.std.specs.Prelude.{Vec, length, map}
use Rattle.std.specs.Global.{Global}
use Rattle.tdb_base.specs.Lines as lines
use Rattle.tdb_base.proofs.AgreesLemmas.{insertion-entries}
use Rattle.tdb_base.proofs.plain.agrees.agrees_among_others.Goals as goal

pub returns-then-not-all_in_order : goal.returns-then-not-all_in_order
returns-then-not-all_in_order c =
    let trace = map (λ (v : Vec ℕ Global). v.items) c.args.trace.now in (
      λ t. cc t,
      λ agrees. c.if-not-all_in_order.ensures.1 (λ j caller at. agrees.in_order j caller at
          ∙ insertion-entries caller trace c.args.replies.now (lines.mine (length trace) c.args.workers c.args.block j)),
    )

pub returns : goal.returns
returns c =
    let trace = map (λ (v : Vec ℕ Global). v.items) c.args.trace.now in
    let as_many = length-map c.args.trace.now (λ (v : Vec ℕ Global). v.items) in (
      λ t. record {
        one_each = c.if-replies-trace.false ∙ sym as_many;
        legal = c.if-not-is_legal.ensures.0 refl;
        extends = c.if-not-extends.ensures.0 refl;
        callers_count = c.if-callers-workers.false;
        callers_differ = c.if-not-callers_differ.ensures.0 refl;
        callers_new = c.if-not-callers_new.ensures.0 refl;
        in_order = λ j caller at. c.if-not-all_in_order.ensures.0 refl j caller at
            ∙ sym (insertion-entries caller trace c.args.replies.now (lines.mine (length trace) c.args.workers c.args.block j));
        full = c.full_unnamed.ensures.0 t;
      },
      λ agrees. c.full_unnamed.ensures.1 agrees.full,
    )
