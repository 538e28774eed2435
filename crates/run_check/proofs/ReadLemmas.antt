-- The replies of a report, one after the other, and all of it.
use Rattle.std.proofs.Common.{◌⊎◌, inl, inr, ◌≡◌, ◌≤◌, ◌<◌, ◌+◌, ◌^◌, ◌∙◌, ℕ, List, [], ◌∷◌, ◌++◌, length, refl, sym, ap, subst, arith, append_assoc, length-append}
use Rattle.std.proofs.lemmas.Bool.{cases_lt}
use Rattle.std.proofs.lemmas.List.Elements.{All-nil, All-push}
use Rattle.std.specs.Prelude.{IfErr, IfOk, IfSome, MatchResult, Ok, Option, Err, Result, count_by}
use Rattle.tdb_base.specs.Replies.{is_new}
use Rattle.tdb_base.specs.declared.reply.Reply.{Reply}
use Rattle.trace_csv.proofs.OneReportLemmas.{one-report}
use Rattle.trace_csv.proofs.ReportLemmas.{lines-append, lines-none, lines-one}
use Rattle.trace_csv.specs.OneReport.{HasWordId}
use Rattle.trace_csv.specs.Report.{no_extras, reply_line, reply_lines, summary_of}
use Rattle.run_check.specs.Reading.{Misses, wrong_line}
use Rattle.run_check.specs.Refusal.{HasReadLines, IsFront, Refuses}
use Rattle.run_check.specs.Text.{BeginsReport, IsReportOf, IsWrongAt, text_lines, to_line}
use Rattle.run_check.specs.declared.refusal.ReportError.{ReportError}
use Rattle.run_check.specs.declared.refusal.ReportError.TheVariants as e
use Rattle.run_check.specs.declared.word.Fault.{Fault}
use Rattle.run_check.proofs.RestLemmas.{reply-wrong}

pub read-none : (bytes : List ℕ) → HasReadLines 0 bytes [] bytes
read-none bytes = record { count = refl; fit = All-nil HasWordId; cut = sym (ap (λ (t : List ℕ). t ++ bytes) (lines-none no_extras 0)) }

pub read-more : (i : ℕ) (bytes text rest : List ℕ) (replies : List Reply) (reply : Reply) → HasReadLines i bytes replies text → HasWordId reply → text ≡ reply_line (i + 1) reply ++ rest
    → HasReadLines (i + 1) bytes (replies ++ reply ∷ []) rest
read-more i bytes text rest replies reply old fits here = record {
  count = (let size = length-append replies (reply ∷ []) in let count = old.count in omega arith);
  fit = All-push HasWordId replies reply old.fit fits;
  cut = old.cut ∙ ap (λ (t : List ℕ). reply_lines 0 replies ++ t) here ∙ sym (append_assoc (reply_lines 0 replies) (reply_line (i + 1) reply) rest) ∙ ap (λ (t : List ℕ). t ++ rest) (sym lines);
}
  where
    lines : reply_lines 0 (replies ++ reply ∷ []) ≡ reply_lines 0 replies ++ reply_line (i + 1) reply
    lines =
        lines-append no_extras 0 replies (reply ∷ []) ∙ ap (λ (n : ℕ). reply_lines 0 replies ++ reply_lines n (reply ∷ [])) (let count = old.count in let e : 0 + length replies ≡ i = omega arith in e)
        ∙ ap (λ (t : List ℕ). reply_lines 0 replies ++ t) (lines-one no_extras i reply)

pub reply-refused : (lines i : ℕ) (bytes text : List ℕ) (replies : List Reply) (error : ReportError) (fault : Fault) → lines + 1 < 2 ^ 64 → HasReadLines i bytes replies text → i < lines
    → error ≡ e.Syntax (wrong_line (i + 1) text fault) → Misses (reply_line (i + 1)) HasWordId text fault → Refuses lines bytes error
reply-refused lines i bytes text replies error fault few old less is misses =
    let count = old.count in
    let here = subst (λ (n : ℕ). Misses (reply_line (n + 1)) HasWordId text fault) (sym count) misses in
    let wrong = reply-wrong lines few replies old.fit (omega arith) bytes text old.cut fault here in
    subst (Refuses lines bytes) (sym is) (subst (λ (n : ℕ). IsWrongAt lines bytes (wrong_line (n + 1) text fault)) count wrong)

one-of-bytes : (lines : ℕ) (bytes : List ℕ) (replies others : List Reply) → IsReportOf lines bytes replies → IsReportOf lines bytes others → replies ≡ others
one-of-bytes lines bytes replies others a b =
    one-report replies others (summary_of replies a.stats) (summary_of others b.stats) a.fit (sym a.text ∙ b.text)

pub only-report : (lines : ℕ) (bytes : List ℕ) {V : Type 0} (items : V → List Reply) (result : Result V ReportError) → IfOk result (λ v. IsReportOf lines bytes (items v))
    → IfErr result (Refuses lines bytes) → (replies : List Reply) → IsReportOf lines bytes replies → MatchResult result (λ v. items v ≡ replies) (λ error. error ≡ e.NoMemory)
only-report lines bytes items (Ok v) read refused replies whole = one-of-bytes lines bytes (items v) replies read whole
only-report lines bytes items (Err (e.Syntax n)) read refused replies whole = absurd (refused.none replies whole)
only-report lines bytes items (Err e.NoMemory) read refused replies whole = refl

-- one text line alone is the first wrong one
not-before : (lines : ℕ) (bytes : List ℕ) (n m : ℕ) → IsWrongAt lines bytes n → IsWrongAt lines bytes m → n < m → ⊥
not-before lines bytes n m one other less = by one.here other.here
  where
    by : ((1 ≤ n) × (n ≤ length (text_lines bytes)) × (BeginsReport lines (to_line n bytes) → ⊥)) ⊎ (n ≡ length (text_lines bytes) + 1)
        → ((1 ≤ m) × (m ≤ length (text_lines bytes)) × (BeginsReport lines (to_line m bytes) → ⊥)) ⊎ (m ≡ length (text_lines bytes) + 1) → ⊥
    by (inl here) there = here.2 (other.before n less)
    by (inr last) (inl there) = let few = there.1 in omega arith
    by (inr last) (inr too) = omega arith

one-line : (lines : ℕ) (bytes : List ℕ) (n m : ℕ) → IsWrongAt lines bytes n → IsWrongAt lines bytes m → n ≡ m
one-line lines bytes n m one other = by (cases_lt n m) (cases_lt m n)
  where
    by : (n < m) ⊎ (m ≤ n) → (m < n) ⊎ (n ≤ m) → n ≡ m
    by (inl less) either = absurd (not-before lines bytes n m one other less)
    by (inr most) (inl less) = absurd (not-before lines bytes m n other one less)
    by (inr most) (inr least) = omega arith

pub only-line : (lines : ℕ) (bytes : List ℕ) {V : Type 0} (items : V → List Reply) (result : Result V ReportError) → IfOk result (λ v. IsReportOf lines bytes (items v)) → IfErr result (Refuses lines bytes)
    → (n : ℕ) → IsWrongAt lines bytes n → result ≡ Err (e.Syntax n)
only-line lines bytes items (Ok v) read refused n wrong = absurd (wrong.none (items v) read)
only-line lines bytes items (Err (e.Syntax m)) read refused n wrong = ap (λ (k : ℕ). Err (e.Syntax k)) (one-line lines bytes m n refused wrong)
only-line lines bytes items (Err e.NoMemory) read refused n wrong = absurd (wrong.none refused.0 refused.1)

-- what is read of a front, with one line more
pub front-more : {V : Type 0} (items : V → List Reply) (i : ℕ) (bytes text rest : List ℕ) (kept next : Option V) (new more : ℕ) (reply : Reply) → IsFront items i bytes kept new text → HasWordId reply
    → text ≡ reply_line (i + 1) reply ++ rest
    → ((old : List Reply) → IfSome kept (λ v. items v ≡ old) → IfSome next (λ v. items v ≡ old ++ reply ∷ []))
    → ((old : List Reply) → new ≡ count_by is_new old → more ≡ count_by is_new (old ++ reply ∷ [])) → IsFront items (i + 1) bytes next more rest
front-more items i bytes text rest kept next new more reply old fits here pushes counts = record {
  replies = old.replies ++ reply ∷ [];
  read = read-more i bytes text rest old.replies reply old.read fits here;
  new_is = counts old.replies old.new_is;
  kept_are = pushes old.replies old.kept_are;
}
