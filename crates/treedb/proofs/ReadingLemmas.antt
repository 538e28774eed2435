-- An input that was read, and what is made of its bytes.
use Rattle.std.proofs.Common.{◌≡◌, ◌≢◌, ◌<◌, ℕ, List, [], Option, Some, None, subst, sym, arith}
use Rattle.std.specs.Prelude.{IfErr, IfOk, IfSome, Result, Ok, Err}
use Rattle.run_check.specs.Cut.{IsWhole}
use Rattle.run_check.specs.declared.verdict.Verdict.{Verdict}
use Rattle.command_line.specs.declared.outcome.Choice.{Choice}
use Rattle.command_line.specs.declared.outcome.Job.{Job}
use Rattle.command_line.specs.declared.outcome.Job.TheVariants.{Bench}
use Rattle.tdb_base.specs.History.{Vector}
use Rattle.trace_csv.specs.Input.{limit}
use Rattle.trace_csv.proofs.InputLemmas.{consumes-none}
use Rattle.treedb.specs.Lines.{IsTraceFor, drawn_lines}
use Rattle.treedb.specs.Check.{IsInput, IsWrongInput, Judged}
use Rattle.treedb.specs.Reading.{EndsReading, GaveWithin, IsBadTrace, RefusesInput}
use Rattle.treedb.specs.declared.ended.Ended.{Ended}
use Rattle.treedb.specs.declared.ended.Ended.TheVariants as e

-- what is told of an option's value, told otherwise
pub if_some : {A : Type 0} {P Q : A → Type 0} (o : Option A) → ((x : A) → P x → Q x) → IfSome o P → IfSome o Q
if_some None f p = p
if_some (Some x) f p = f x p

module _ {T : Type 0} (c : Choice) (bytes : List ℕ) (result : Result T Ended) (refused : IfErr result (RefusesInput c bytes)) where
  -- bytes that were read are not too much, and are no fault of their source
  pub not_too_much : result ≡ Err e.TooMuch → ⊥
  not_too_much is = subst (λ (r : Result T Ended). IfErr r (RefusesInput c bytes)) is refused

  pub no_read_fault : result ≡ Err e.ReadFault → ⊥
  no_read_fault is = subst (λ (r : Result T Ended). IfErr r (RefusesInput c bytes)) is refused

  -- what the source gave is what it gave in reading
  pub gave_then : {A : Type 0} (old new : Option (List ℕ)) (input : A) → GaveWithin {T = A} old new (Ok input) → GaveWithin old new result
  gave_then old new input g = record { gave = g.gave; given = g.given; too_much = (λ t. absurd (not_too_much t), λ less. let no = g.too_much.1 less in cc no) }

-- they are all that the source told
pub ends_reading : (c : Choice) (told : Option (List ℕ)) (bytes : List ℕ) → IfSome told (λ b. bytes ≡ b) → (ended : Ended) → RefusesInput c bytes ended → EndsReading c told ended
ends_reading c told bytes all (e.BadTrace form error) r = if_some told (λ b is. subst (λ (x : List ℕ). IsBadTrace c x form error) is r) all
ends_reading c told bytes all e.NoReport r = (r.0, if_some told (λ b is. subst (λ (x : List ℕ). IsWhole x) is r.1) all)
ends_reading c told bytes all (e.WrongReport line) r = (r.0, if_some told (λ b is. subst (λ (x : List ℕ). IsWrongInput c x line) is r.1) all)
ends_reading c told bytes all e.NoMemory r = r
ends_reading c told bytes all e.Done r = r
ends_reading c told bytes all e.Usage r = r
ends_reading c told bytes all e.TooMuch r = absurd r
ends_reading c told bytes all (e.Full lines) r = r
ends_reading c told bytes all e.ReadFault r = absurd r
ends_reading c told bytes all e.WriteFault r = r
ends_reading c told bytes all e.Refuted r = r

pub ends_all : {T : Type 0} (c : Choice) (told : Option (List ℕ)) (bytes : List ℕ) (result : Result T Ended) → IfSome told (λ b. bytes ≡ b) → IfErr result (RefusesInput c bytes)
    → IfErr result (EndsReading c told)
ends_all c told bytes (Ok input) all r = r
ends_all c told bytes (Err ended) all r = ends_reading c told bytes all ended r

pub judged_all : (c : Choice) (told : Option (List ℕ)) (bytes : List ℕ) (verdict : Verdict) → IfSome told (λ b. bytes ≡ b) → Judged c (Some bytes) verdict → Judged c told verdict
judged_all c told bytes verdict all judged = record {
  trace = judged.trace;
  replies = judged.replies;
  read = if_some told (λ b is. subst (λ (x : List ℕ). IsInput c x judged.trace judged.replies) is judged.read) all;
  is_verdict = judged.is_verdict;
  yes = judged.yes;
}

pub judged_result : (c : Choice) (told : Option (List ℕ)) (bytes : List ℕ) (result : Result Verdict Ended) → IfSome told (λ b. bytes ≡ b) → IfOk result (Judged c (Some bytes))
    → IfOk result (Judged c told)
judged_result c told bytes (Ok verdict) all judged = judged_all c told bytes verdict all judged
judged_result c told bytes (Err ended) all judged = judged

-- what is told of a result's value, told otherwise
pub if_ok : {T E : Type 0} {P Q : T → Type 0} (result : Result T E) → ((x : T) → P x → Q x) → IfOk result P → IfOk result Q
if_ok (Ok x) f p = f x p
if_ok (Err error) f p = p

-- what is told of a result's error is told of all of them
pub all_err : {T E : Type 0} {Q : E → Type 0} (result : Result T E) → ((x : E) → Q x) → IfErr result Q
all_err (Ok x) f = tt
all_err (Err error) f = f error

-- lines that are drawn: the source gives nothing, and only memory can be wanting
module _ {T : Type 0} (told : Option (List ℕ)) (result : Result T Ended) (refused : IfErr result (λ ended. ended ≡ e.NoMemory)) where
  no_other_end : (ended : Ended) → result ≡ Err ended → ended ≡ e.NoMemory
  no_other_end ended is = subst (λ (r : Result T Ended). IfErr r (λ x. x ≡ e.NoMemory)) is refused

  pub drawn_reads : (P : Type 0) → IfErr result (λ ended. ended ≢ e.NoMemory → P)
  drawn_reads P = by result refused
    where
      by : (result : Result T Ended) → IfErr result (λ ended. ended ≡ e.NoMemory) → IfErr result (λ ended. ended ≢ e.NoMemory → P)
      by (Ok x) was = tt
      by (Err ended) was = λ other. absurd (other was)

  pub drawn_gave : GaveWithin told told result
  drawn_gave = record {
    gave = [];
    given = consumes-none told;
    too_much = (λ t. (let no = no_other_end e.TooMuch t in cc no), λ (less : limit < 0). absurd (omega (arith, less)));
  }

  pub drawn_no_fault : result ≡ Err e.ReadFault → ⊥
  drawn_no_fault is = (let no = no_other_end e.ReadFault is in cc no)

pub drawn_refused : {T : Type 0} (c : Choice) (told : Option (List ℕ)) (result : Result T Ended) → IfErr result (λ ended. ended ≡ e.NoMemory) → IfErr result (EndsReading c told)
drawn_refused c told (Ok x) refused = refused
drawn_refused c told (Err ended) refused = subst (λ (x : Ended). EndsReading c told x) (sym refused) tt

pub drawn_trace : (c : Choice) (told : Option (List ℕ)) (result : Result (List Vector) Ended) → c.job ≡ Bench → IfOk result (λ trace. trace ≡ drawn_lines c)
    → IfOk result (IsTraceFor c told c.job)
drawn_trace c told result job = if_ok result (λ trace is. subst (λ (j : Job). IsTraceFor c told j trace) (sym job) is)
