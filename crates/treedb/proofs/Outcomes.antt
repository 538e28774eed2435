-- From what the parts of a run leave to what is told of its end.
use Rattle.std.proofs.Common.{◌≡◌, ◌≢◌, ℕ, zero, suc, List, [], ◌∷◌, ◌+◌, Bool, true, false, cond, Option, Some, refl, sym, ap, ◌∙◌, subst, ⊎_elim, arith, take, length}
use Rattle.std.proofs.lemmas.List.Sums.{sum_by-cons}
use Rattle.std.specs.Prelude.{◌||◌, ◌↔◌, drop, IfSome, Result, Ok, Err, count_by}
use Rattle.std.specs.List.{list_any, range_with_len}
use Rattle.std.specs.Io.KnownBytes.{Appends, IsAtEnd}
use Rattle.tdb_base.specs.Causes.{Rose}
use Rattle.tdb_base.specs.History.{Vector, History}
use Rattle.tdb_base.specs.Replies.{is_full}
use Rattle.tdb_base.specs.declared.reply.Reply.{Reply}
use Rattle.tdb_base.specs.declared.reply.Status.{Status}
use Rattle.tdb_base.specs.declared.reply.Status.TheVariants as s
use Rattle.trace_csv.specs.Output.{TakesFront}
use Rattle.trace_csv.specs.Trace.{trace_of}
use Rattle.trace_csv.specs.declared.form.Form.{Form}
use Rattle.trace_csv.specs.declared.refusal.TraceError.{TraceError}
use Rattle.trace_csv.specs.declared.report.Stats.{Stats}
use Rattle.run_check.specs.Cut.{IsCut, IsWhole}
use Rattle.run_check.specs.Text.{IsReportOf}
use Rattle.run_check.specs.declared.verdict.Verdict.{Verdict}
use Rattle.run_check.specs.declared.verdict.Verdict.TheVariants as v
use Rattle.run_check.proofs.Verdicts.{least-same}
use Rattle.command_line.specs.declared.outcome.Job.TheVariants.{Check}
use Rattle.command_line.specs.Valid.{IsValid}
use Rattle.command_line.specs.declared.outcome.Choice.{Choice}
use Rattle.treedb.specs.Check.{HasTrace, IsWrongInput, Judged, PrintsVerdict, PrintsVerdictFront, WritesVerdict, ended_with_verdict, verdict_text}
use Rattle.treedb.specs.Lines.{HasNoTrace, IsTraceFor, form_of, is_reader}
use Rattle.treedb.specs.Note.{status_of}
use Rattle.treedb.specs.Answered.{AreAnswered}
use Rattle.command_line.specs.Rules.{flag_count}
use Rattle.treedb.specs.Chosen.{is_check}
use Rattle.treedb.specs.Outcome.{EndsAs, HasNoReport, IsDetail, SinkStep, SourceStep}
use Rattle.treedb.specs.Reading.{EndsReading, GaveWithin, IsBadTrace, ReadsToEnd}
use Rattle.treedb.specs.Sharing.{AgreesTreated, IsTreated, Treated, treated}
use Rattle.treedb.specs.Run.{GivesWithin, IsOfMode, IsText, Prints, PrintsFront, Run, TellsOnly, is_of_input, is_printed, reads_to_end}
use Rattle.treedb.specs.Writing.{WritesAnswered, WritesText, ended_with, ended_with_full}
use Rattle.treedb.specs.declared.fill.Answered.{Answered}
use Rattle.treedb.specs.declared.ended.Ended.{Ended}
use Rattle.treedb.specs.declared.ended.Ended.TheVariants as e
use Rattle.treedb.proofs.LineLemmas.{none_read}
use Rattle.treedb.proofs.ReadingLemmas.{if_some}

-- bytes with a trace and a report have one trace and one text behind it
same_cut : (c : Choice) (bytes : List ℕ) (trace other : List Vector) (report rest : List ℕ) → HasTrace c bytes trace report → HasTrace c bytes other rest
    → (trace ≡ other) × (report ≡ rest)
same_cut c bytes trace other report rest one two =
    let place : one.cut.place ≡ two.cut.place = least-same (IsCut bytes) one.cut.place two.cut.place one.cut.first two.cut.first in
    let text : one.text ≡ two.text = one.cut.text_is ∙ ap (λ (n : ℕ). take n bytes) place ∙ sym two.cut.text_is in
    let lines : trace_of (form_of c) two.text ≡ Ok trace = subst (λ (t : List ℕ). trace_of (form_of c) t ≡ Ok trace) text one.lines in (
      cc (lines, two.lines),
      one.cut.report_is ∙ ap (λ (n : ℕ). drop (n + 2) bytes) place ∙ sym two.cut.report_is,
    )

-- bytes that no line cuts have no report, nor have bytes with a wrong one
whole_none : (c : Choice) (bytes : List ℕ) → IsWhole bytes → HasNoReport c bytes
whole_none c bytes whole trace replies input = whole input.has_trace.cut.place input.has_trace.cut.first.holds

wrong_none : (c : Choice) (bytes : List ℕ) (line : ℕ) → IsWrongInput c bytes line → HasNoReport c bytes
wrong_none c bytes line wrong trace replies input =
    let same = same_cut c bytes trace wrong.trace input.report wrong.report input.has_trace wrong.has_trace in
    wrong.wrong.none replies (subst (λ (t : List Vector). IsReportOf (length t) wrong.report replies) same.0
    (subst (λ (r : List ℕ). IsReportOf (length trace) r replies) same.1 input.is_report))

-- bytes whose trace is refused have no lines
bad_none : (c : Choice) (form : Form) (error : TraceError) (bytes : List ℕ) → IsBadTrace c bytes form error → HasNoTrace c bytes
bad_none c form error bytes bad = (bad.0, bad.1, none_read c bad.0 form error bad.2)

module _ {S K : Type 0} (c : Choice) (source : SourceStep S) (sink : SinkStep K) where
  -- a run that wrote nothing
  quiet : (ended : Ended) → is_printed (status_of ended) ≡ false → status_of ended ≢ s.WriteFault → status_of ended ≢ s.Usage → sink.new ≡ sink.old
      → (is_reader c.job ≡ false → source.new ≡ source.old) → (is_of_input (status_of ended) ≡ true → is_reader c.job ≡ true)
      → (status_of ended ≡ s.ReadFault → Rose (source.faults source.old) (source.faults source.new))
      → GivesWithin (source.left source.old) (source.left source.new) (status_of ended)
      → (status_of ended ≡ s.BadTrace → IfSome (source.left source.old) (λ bytes. HasNoTrace c bytes))
      → (status_of ended ≡ s.BadReport → (c.job ≡ Check) × IfSome (source.left source.old) (HasNoReport c))
      → (reads_to_end (status_of ended) ≡ true → is_reader c.job ≡ true → IsAtEnd (source.left source.new))
      → IsDetail (Some c) (source.left source.old) (sink.taken sink.old) (sink.taken sink.new) ended → EndsAs (Some c) source sink ended
  quiet ended silent unwritten taken_words same drawn reads read gave bad no_report at_end detail = record {
    outcome = record {
      usage = λ u. absurd (taken_words u);
      refused_words = λ n. cc n;
      unread = λ n. cc n;
      drawn = drawn;
      of_input = reads;
      read_fault = read;
      gave = gave;
      bad_trace = bad;
      bad_report = no_report;
      write_fault = λ w. absurd (unwritten w);
      untouched = λ a b. same;
      front = λ w. absurd (unwritten w);
      verdict_front = λ w. absurd (unwritten w);
      end = at_end;
      settled = λ p. cc (p, silent);
      replies_form_one_history = λ p. cc (p, silent);
      verdict = λ p. cc (p, silent);
    };
    detail = detail;
  }

  -- what reading its input leaves of a run that has one
  pub record HasInput : Type 0 where
    pub within : (status : Status) → status ≢ s.TooMuch → GivesWithin (source.left source.old) (source.left source.new) status
    pub at_end : is_reader c.job ≡ true → IsAtEnd (source.left source.new)
    pub drawn : is_reader c.job ≡ false → source.new ≡ source.old

  -- what the source gave in reading is what it gave in the run
  gives : {T : Type 0} (result : Result T Ended) (status : Status) → GaveWithin (source.left source.old) (source.left source.new) result
      → (status ≡ s.TooMuch → result ≡ Err e.TooMuch) → (result ≡ Err e.TooMuch → status ≡ s.TooMuch) → GivesWithin (source.left source.old) (source.left source.new) status
  gives result status g there back = record {
    gave = g.gave;
    given = g.given;
    too_much = (λ t. g.too_much.0 (there t), λ t. back (g.too_much.1 t));
  }

  pub has_input : {T : Type 0} (input : T) (result : Result T Ended) → result ≡ Ok input → GaveWithin (source.left source.old) (source.left source.new) result
      → (is_reader c.job ≡ true → IsAtEnd (source.left source.new)) → (is_reader c.job ≡ false → source.new ≡ source.old) → HasInput
  has_input input result is gave end drawn = record {
    within = λ status other. gives result status gave (λ t. absurd (other t)) (λ t. cc (t, is));
    at_end = end;
    drawn = drawn;
  }

  pub has_read : {T : Type 0} (input : T) (result : Result T Ended) → result ≡ Ok input → GaveWithin (source.left source.old) (source.left source.new) result
      → IsAtEnd (source.left source.new) → is_reader c.job ≡ true → HasInput
  has_read input result is gave end reads = has_input input result is gave (λ r. end) (λ r. cc (r, reads))

  -- a run whose input is refused, or can't be had
  pub stopped : {T : Type 0} (ended : Ended) (result : Result T Ended) → result ≡ Err ended → sink.new ≡ sink.old
      → EndsReading c (source.left source.old) ended → GaveWithin (source.left source.old) (source.left source.new) result
      → (result ≡ Err e.ReadFault → Rose (source.faults source.old) (source.faults source.new)) → (is_reader c.job ≡ true → ReadsToEnd result → IsAtEnd (source.left source.new))
      → (is_reader c.job ≡ false → source.new ≡ source.old) → (ended ≢ e.NoMemory → is_reader c.job ≡ true) → EndsAs (Some c) source sink ended
  stopped {T = T} ended result is same ends gave fault at_end drawn reads = by ended is ends reads
    where
      by : (ended : Ended) → result ≡ Err ended → EndsReading c (source.left source.old) ended → (ended ≢ e.NoMemory → is_reader c.job ≡ true) → EndsAs (Some c) source sink ended
      by (e.BadTrace form error) is ends reads =
          quiet (e.BadTrace form error) refl (λ w. cc w) (λ u. cc u) same drawn (λ r. reads (λ m. cc m)) (λ r. cc r) (gives result s.BadTrace gave (λ t. cc t) (λ t. cc (t, is)))
          (λ b. if_some (source.left source.old) (bad_none c form error) ends) (λ b. cc b) (λ t r. at_end r (subst (λ (x : Result T Ended). ReadsToEnd x) (sym is) tt)) ends
      by e.NoReport is ends reads =
          quiet e.NoReport refl (λ w. cc w) (λ u. cc u) same drawn (λ r. reads (λ m. cc m)) (λ r. cc r) (gives result s.BadReport gave (λ t. cc t) (λ t. cc (t, is)))
          (λ b. cc b) (λ b. (ends.0, if_some (source.left source.old) (whole_none c) ends.1)) (λ t r. at_end r (subst (λ (x : Result T Ended). ReadsToEnd x) (sym is) tt)) ends
      by (e.WrongReport line) is ends reads =
          quiet (e.WrongReport line) refl (λ w. cc w) (λ u. cc u) same drawn (λ r. reads (λ m. cc m)) (λ r. cc r) (gives result s.BadReport gave (λ t. cc t) (λ t. cc (t, is)))
          (λ b. cc b) (λ b. (ends.0, if_some (source.left source.old) (λ bytes wrong. wrong_none c bytes line wrong) ends.1))
          (λ t r. at_end r (subst (λ (x : Result T Ended). ReadsToEnd x) (sym is) tt)) ends
      by e.NoMemory is ends reads =
          quiet e.NoMemory refl (λ w. cc w) (λ u. cc u) same drawn (λ r. cc r) (λ r. cc r) (gives result s.NoMemory gave (λ t. cc t) (λ t. cc (t, is))) (λ b. cc b) (λ b. cc b) (λ t. cc t) tt
      by e.TooMuch is ends reads =
          quiet e.TooMuch refl (λ w. cc w) (λ u. cc u) same drawn (λ r. reads (λ m. cc m)) (λ r. cc r) (gives result s.TooMuch gave (λ t. is) (λ t. refl)) (λ b. cc b) (λ b. cc b) (λ t. cc t) tt
      by e.ReadFault is ends reads =
          quiet e.ReadFault refl (λ w. cc w) (λ u. cc u) same drawn (λ r. reads (λ m. cc m)) (λ r. fault is) (gives result s.ReadFault gave (λ t. cc t) (λ t. cc (t, is))) (λ b. cc b) (λ b. cc b) (λ t. cc t) tt
      by e.Done is ends reads = absurd ends
      by e.Usage is ends reads = absurd ends
      by (e.Full n) is ends reads = absurd ends
      by e.WriteFault is ends reads = absurd ends
      by e.Refuted is ends reads = absurd ends

  -- a run that has an input, and no memory for more
  pub out_of_memory : HasInput → sink.new ≡ sink.old → EndsAs (Some c) source sink e.NoMemory
  out_of_memory input same =
      quiet e.NoMemory refl (λ w. cc w) (λ u. cc u) same input.drawn (λ r. cc r) (λ r. cc r) (input.within s.NoMemory (λ t. cc t)) (λ b. cc b) (λ b. cc b) (λ t. cc t) tt

-- lines are full where their count is not 0
any_full : (replies : List Reply) → (count_by is_full replies ≡ 0 → list_any is_full replies ≡ false) × ((n : ℕ) → count_by is_full replies ≡ suc n → list_any is_full replies ≡ true)
any_full [] = (λ z. refl, λ n e. cc e)
any_full (x ∷ replies) = by (is_full x) refl (any_full replies)
  where
    count : count_by is_full (x ∷ replies) ≡ cond (is_full x) 1 0 + count_by is_full replies
    count = sum_by-cons (λ (y : Reply). cond (is_full y) 1 0) x replies

    by : (b : Bool) → is_full x ≡ b → (count_by is_full replies ≡ 0 → list_any is_full replies ≡ false) × ((n : ℕ) → count_by is_full replies ≡ suc n → list_any is_full replies ≡ true)
        → (count_by is_full (x ∷ replies) ≡ 0 → (is_full x || list_any is_full replies) ≡ false) × ((n : ℕ) → count_by is_full (x ∷ replies) ≡ suc n → (is_full x || list_any is_full replies) ≡ true)
    by true t rest = (λ z. (let one = count ∙ ap (λ (b : Bool). cond b 1 0 + count_by is_full replies) t in absurd (omega (arith, z, one))), λ n e. rw t refl)
    by false t rest =
        let same = count ∙ ap (λ (b : Bool). cond b 1 0 + count_by is_full replies) t in
        (λ z. rw t (rest.0 (omega (arith, z, same))), λ n e. rw t (rest.1 n (omega (arith, e, same))))

-- the run of some lines that were read or drawn
pub record HasLines (c : Choice) (told : Option (List ℕ)) (trace : List Vector) (replies : List Reply) (treatment : Treated) (stats : Option Stats) (history : History) : Type 0 where
  pub inserts : is_check c.job ≡ false
  pub valid : IsValid c
  pub read : IsTraceFor c told c.job trace
  pub shared : IsTreated c (length trace) replies treatment
  pub agrees : AgreesTreated c treatment trace replies history (range_with_len 0 c.workers)
  pub of_mode : IsOfMode c.mode c trace replies history stats

-- a text that was written is no answer to an input
not_of_input : (status : Status) → is_printed status ≡ true → is_of_input status ≡ true → ⊥
not_of_input s.Done printed of = cc of
not_of_input s.Full printed of = cc of
not_of_input s.Refuted printed of = cc of
not_of_input s.Usage printed of = cc printed
not_of_input s.BadTrace printed of = cc printed
not_of_input s.TooMuch printed of = cc printed
not_of_input s.ReadFault printed of = cc printed
not_of_input s.WriteFault printed of = cc printed
not_of_input s.NoMemory printed of = cc printed
not_of_input s.BadReport printed of = cc printed

module _ {S K : Type 0} (c : Choice) (source : SourceStep S) (sink : SinkStep K) (input : HasInput c source sink) where
  -- a run that wrote its whole text
  printed_end : (ended : Ended) → is_printed (status_of ended) ≡ true
      → (is_check c.job ≡ false → Prints (Some c) (source.left source.old) (sink.taken sink.old) (sink.taken sink.new) (status_of ended))
      → (is_check c.job ≡ true → PrintsVerdict c (source.left source.old) (sink.taken sink.old) (sink.taken sink.new) (status_of ended))
      → sink.settled sink.new ≡ true → IsDetail (Some c) (source.left source.old) (sink.taken sink.old) (sink.taken sink.new) ended → EndsAs (Some c) source sink ended
  printed_end ended printed replies verdict settles detail = record {
    outcome = record {
      usage = λ u. absurd (other s.Usage u refl);
      refused_words = λ n. cc n;
      unread = λ n. cc n;
      drawn = input.drawn;
      of_input = λ i. absurd (not_of_input (status_of ended) printed i);
      read_fault = λ r. absurd (other s.ReadFault r refl);
      gave = input.within (status_of ended) (λ t. other s.TooMuch t refl);
      bad_trace = λ b. absurd (other s.BadTrace b refl);
      bad_report = λ b. absurd (other s.BadReport b refl);
      write_fault = λ w. absurd (other s.WriteFault w refl);
      untouched = λ a b. cc (a, printed);
      front = λ w. absurd (other s.WriteFault w refl);
      verdict_front = λ w. absurd (other s.WriteFault w refl);
      end = λ t. input.at_end;
      settled = λ p. settles;
      replies_form_one_history = λ p. replies;
      verdict = λ p. verdict;
    };
    detail = detail;
  }
    where
      other : (status : Status) → status_of ended ≡ status → is_printed status ≡ false → ⊥
      other status is silent = (let same = ap is_printed is in cc (same, printed, silent))

  -- a run that wrote a front of its text
  broken_end : (is_check c.job ≡ false → PrintsFront (Some c) (source.left source.old) (sink.taken sink.old) (sink.taken sink.new))
      → (is_check c.job ≡ true → PrintsVerdictFront c (source.left source.old) (sink.taken sink.old) (sink.taken sink.new))
      → Rose (sink.faults sink.old) (sink.faults sink.new) → EndsAs (Some c) source sink e.WriteFault
  broken_end replies verdict rose = record {
    outcome = record {
      usage = λ u. cc u;
      refused_words = λ n. cc n;
      unread = λ n. cc n;
      drawn = input.drawn;
      of_input = λ i. cc i;
      read_fault = λ r. cc r;
      gave = input.within s.WriteFault (λ t. cc t);
      bad_trace = λ b. cc b;
      bad_report = λ b. cc b;
      write_fault = λ w. rose;
      untouched = λ a b. absurd (b refl);
      front = λ w. replies;
      verdict_front = λ w. verdict;
      end = λ t. input.at_end;
      settled = λ p. cc p;
      replies_form_one_history = λ p. cc p;
      verdict = λ p. cc p;
    };
    detail = tt;
  }

  module _ (trace : List Vector) (replies : List Reply) (treatment : Treated) (stats : Option Stats) (history : History)
      (lines : HasLines c (source.left source.old) trace replies treatment stats history) (text : List ℕ) (writes : IsText (form_of c) c.job replies treatment history stats text) where
    run_of : Run (Some c) (source.left source.old)
    run_of = record {
      choice = c;
      trace = trace;
      replies = replies;
      treated = treatment;
      history = history;
      stats = stats;
      chose = refl;
      valid = lines.valid;
      read = lines.read;
      shared = lines.shared;
      agrees = lines.agrees;
      of_mode = lines.of_mode;
    }

    inserts : is_check c.job ≡ true → ⊥
    inserts checks = let other = lines.inserts in cc (checks, other)

    whole : Appends (sink.taken sink.old) (sink.taken sink.new) text → TellsOnly c.job replies treatment text → sink.settled sink.new ≡ true
        → (n : ℕ) → count_by is_full replies ≡ n → EndsAs (Some c) source sink (ended_with_full n)
    unfolding run_of
    whole appends only settles zero count =
        printed_end e.Done refl (λ other. record {
          run = run_of;
          text = text;
          is_text = writes;
          taken = appends;
          only = only;
          full = (λ f. cc f, λ f. let none = (any_full replies).0 count in cc (f, none));
          never_refuted = λ r. cc r;
        })
        (λ checks. absurd (inserts checks)) settles tt
    whole appends only settles (suc n) count =
        let printed : Prints (Some c) (source.left source.old) (sink.taken sink.old) (sink.taken sink.new) s.Full = record {
          run = run_of;
          text = text;
          is_text = writes;
          taken = appends;
          only = only;
          full = (λ f. (any_full replies).1 n count, λ f. refl);
          never_refuted = λ r. cc r;
        } in
        printed_end (e.Full (suc n)) refl (λ other. printed) (λ checks. absurd (inserts checks)) settles (printed, count)

    with_no_fault : (n : ℕ) → ended_with_full n ≡ e.WriteFault → ⊥
    with_no_fault zero x = cc x
    with_no_fault (suc n) x = cc x

    pub written : (ended : Ended) → WritesText text replies (sink.taken sink.old) (sink.taken sink.new) ended → (ended ≢ e.WriteFault → TellsOnly c.job replies treatment text)
        → (ended ≢ e.WriteFault → sink.settled sink.new ≡ true) → (ended ≡ e.WriteFault → Rose (sink.faults sink.old) (sink.faults sink.new)) → EndsAs (Some c) source sink ended
    unfolding run_of
    written ended wrote only settles fault = ⊎_elim
        (λ (w : Appends (sink.taken sink.old) (sink.taken sink.new) text × (ended ≡ ended_with replies)).
        (let calm : ended ≢ e.WriteFault = λ x. with_no_fault (count_by is_full replies) (sym w.1 ∙ x) in
        subst (λ (x : Ended). EndsAs (Some c) source sink x) (sym w.1) (whole w.0 (only calm) (settles calm) (count_by is_full replies) refl)))
        (λ (w : TakesFront (sink.taken sink.old) (sink.taken sink.new) text × (ended ≡ e.WriteFault)).
        subst (λ (x : Ended). EndsAs (Some c) source sink x) (sym w.1)
        (broken_end (λ other. record { run = run_of; text = text; is_text = writes; taken = w.0 }) (λ checks. absurd (inserts checks)) (fault w.1)))
        wrote

  -- a run that wrote what its lines were answered
  pub answered_end : (trace : List Vector) (answered : Answered) (are : AreAnswered c trace answered) → is_check c.job ≡ false → IsValid c
      → IsTraceFor c (source.left source.old) c.job trace → (ended : Ended) → WritesAnswered c answered are.history sink ended → EndsAs (Some c) source sink ended
  answered_end trace answered are inserts valid read ended wrote =
      written trace answered.inserted.replies.items (treated answered.inserted) answered.stats are.history
      (record { inserts = inserts; valid = valid; read = read; shared = are.shared; agrees = are.agrees; of_mode = are.of_mode })
      wrote.text wrote.is_text ended wrote.written wrote.only wrote.settled wrote.fault

  module _ (checks : is_check c.job ≡ true) (verdict : Verdict) (judged : Judged c (source.left source.old) verdict) where
    others : is_check c.job ≡ false → ⊥
    others inserts = cc (checks, inserts)

    -- a verdict's end is one of two, and `Done` is the one of `yes`
    by_verdict : (P : Ended → Type 0) → P e.Done → P e.Refuted → (verdict : Verdict) → P (ended_with_verdict verdict)
    by_verdict P done refuted v.Yes = done
    by_verdict P done refuted (v.Twice a b) = refuted
    by_verdict P done refuted (v.Lone a) = refuted
    by_verdict P done refuted (v.FullNamed a) = refuted
    by_verdict P done refuted (v.Stuck a) = refuted

    done_where_yes : (verdict : Verdict) → (status_of (ended_with_verdict verdict) ≡ s.Done) ↔ (verdict ≡ v.Yes)
    done_where_yes v.Yes = (λ d. refl, λ y. refl)
    done_where_yes (v.Twice a b) = (λ d. cc d, λ y. cc y)
    done_where_yes (v.Lone a) = (λ d. cc d, λ y. cc y)
    done_where_yes (v.FullNamed a) = (λ d. cc d, λ y. cc y)
    done_where_yes (v.Stuck a) = (λ d. cc d, λ y. cc y)

    prints : Appends (sink.taken sink.old) (sink.taken sink.new) (verdict_text verdict)
        → PrintsVerdict c (source.left source.old) (sink.taken sink.old) (sink.taken sink.new) (status_of (ended_with_verdict verdict))
    prints appends =
        let yes = judged.yes (flag_count c.profile) in
        let done = done_where_yes verdict in
        record { verdict = verdict; judged = judged; taken = appends; status_is = refl; history = (λ d. yes.0 (done.0 d), λ h. done.1 (yes.1 h)) }

    Printed : Ended → Type 0
    Printed ended = PrintsVerdict c (source.left source.old) (sink.taken sink.old) (sink.taken sink.new) (status_of ended) → sink.settled sink.new ≡ true → EndsAs (Some c) source sink ended

    said : Printed (ended_with_verdict verdict)
    unfolding Printed
    said = by_verdict Printed (λ printed settles. printed_end e.Done refl (λ inserts. absurd (others inserts)) (λ same. printed) settles tt)
        (λ printed settles. printed_end e.Refuted refl (λ inserts. absurd (others inserts)) (λ same. printed) settles tt) verdict

    calm_verdict : (verdict : Verdict) → ended_with_verdict verdict ≢ e.WriteFault
    calm_verdict = by_verdict (λ ended. ended ≢ e.WriteFault) (λ w. cc w) (λ w. cc w)

    pub verdict_written : (ended : Ended) → WritesVerdict verdict (sink.taken sink.old) (sink.taken sink.new) ended → (ended ≢ e.WriteFault → sink.settled sink.new ≡ true)
        → (ended ≡ e.WriteFault → Rose (sink.faults sink.old) (sink.faults sink.new)) → EndsAs (Some c) source sink ended
    unfolding Printed
    verdict_written ended wrote settles fault = ⊎_elim
        (λ (w : Appends (sink.taken sink.old) (sink.taken sink.new) (verdict_text verdict) × (ended ≡ ended_with_verdict verdict)).
        subst (λ (x : Ended). EndsAs (Some c) source sink x) (sym w.1) (said (prints w.0) (settles (λ x. calm_verdict verdict (sym w.1 ∙ x)))))
        (λ (w : TakesFront (sink.taken sink.old) (sink.taken sink.new) (verdict_text verdict) × (ended ≡ e.WriteFault)).
        subst (λ (x : Ended). EndsAs (Some c) source sink x) (sym w.1)
        (broken_end (λ inserts. absurd (others inserts)) (λ same. record { verdict = verdict; judged = judged; taken = w.0 }) (fault w.1)))
        wrote
