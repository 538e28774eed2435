use Rattle.std.proofs.Common.{refl, subst, sym, Option}
use Rattle.command_line.specs.declared.outcome.Job.{Job}
use Rattle.trace_csv.specs.Report.{summary_of, summary_text}
use Rattle.trace_csv.specs.declared.form.Form.{Form}
use Rattle.treedb.specs.Lines.{form_of}
use Rattle.treedb.proofs.OrderLemmas.{lists-named}
use Rattle.treedb.specs.ReadBack.{AreVectorsOf, IfPrinted, IsReadBack, listed}
use Rattle.treedb.specs.Run.{IsText, TellsOnly}
use Rattle.treedb.specs.declared.distinct.ReadBack.{ReadBack}
use Rattle.treedb.proofs.NewLemmas.{printed-distinct}
use Rattle.treedb.specs.Sharing.{report_of, treated}
use Rattle.treedb.proofs.SharingLemmas.{of-reporter, tells-replies}
use Rattle.treedb.proofs.output.write_answered.Goals as goal

pub returns-in-Insert : goal.returns-in-Insert
returns-in-Insert g c = λ h read.
    let a = c.args.answered.now in
    let replies = a.inserted.replies.items in
    let told = treated a.inserted in
    let text = report_of told replies (summary_of replies a.stats) in
    let w = c.write_replies.ensures in
    let job = c.in-Insert.is in
    record {
      text = text;
      is_text = of-reporter (λ (j : Job). IsText (form_of c.args.choice.now) j replies told h a.stats text) refl refl c.args.choice.now.job job;
      written = w.written;
      only = λ calm.
          (let tells = tells-replies c.args.choice.now replies told a.stats c.requires.workers c.requires.shared (w.fit calm) in
          of-reporter (λ (j : Job). TellsOnly j replies told text) tells tells c.args.choice.now.job job);
      settled = w.settled;
      fault = w.fault;
    }

pub write_distinct-requires : goal.write_distinct-requires
write_distinct-requires g c =
    let job = c.in-Distinct.is in
    let read = c.requires.read in
    let choice = c.args.choice.now in
    let back = c.in-Some.vectors in
    let form = form_of choice in
    let there = printed-distinct choice.job back (IsReadBack form read.0) job (subst (λ (o : Option ReadBack). IfPrinted choice.job o (IsReadBack form read.0)) c.in-Some.is read.1) in
    let numbers = printed-distinct choice.job back (AreVectorsOf form) job (subst (λ (o : Option ReadBack). IfPrinted choice.job o (AreVectorsOf form)) c.in-Some.is c.requires.numbers) in
    record { there = there.are_there; numbers = subst (λ (f : Form). AreVectorsOf f back) (sym c.form_of.ensures) numbers }

pub returns-in-Some : goal.returns-in-Some
returns-in-Some g c = λ h read.
    let choice = c.args.choice.now in
    let a = c.args.answered.now in
    let replies = a.inserted.replies.items in
    let back = c.in-Some.vectors in
    let form = form_of choice in
    let text = listed form back in
    let w = rw c.deref.ensures.value at (rw c.form_of.ensures at c.write_distinct.ensures) in
    let job = c.in-Distinct.is in
    let printed = printed-distinct choice.job back (IsReadBack form h) job (subst (λ (o : Option ReadBack). IfPrinted choice.job o (IsReadBack form h)) c.in-Some.is read) in
    let numbers = printed-distinct choice.job back (AreVectorsOf form) job (subst (λ (o : Option ReadBack). IfPrinted choice.job o (AreVectorsOf form)) c.in-Some.is c.requires.numbers) in
    record {
      text = text;
      is_text = subst (λ (j : Job). IsText (form_of c.args.choice.now) j replies (treated a.inserted) h a.stats text) (sym job) (lists-named form h back printed numbers);
      written = w.written;
      only = λ calm. subst (λ (j : Job). TellsOnly j replies (treated a.inserted) text) (sym job) tt;
      settled = w.settled;
      fault = w.fault;
    }

pub returns-in-Bench : goal.returns-in-Bench
returns-in-Bench g c = λ h read.
    let a = c.args.answered.now in
    let replies = a.inserted.replies.items in
    let text = summary_text (summary_of replies a.stats) in
    let w = rw c.deref-in-Bench.ensures.value at c.write_counts.ensures in
    let job = c.in-Bench.is in
    record {
      text = text;
      is_text = subst (λ (j : Job). IsText (form_of c.args.choice.now) j replies (treated a.inserted) h a.stats text) (sym job) refl;
      written = w.written;
      only = λ calm. subst (λ (j : Job). TellsOnly j replies (treated a.inserted) text) (sym job) tt;
      settled = w.settled;
      fault = w.fault;
    }
