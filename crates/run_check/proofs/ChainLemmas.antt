-- The lines of a summary, one after the other.
use Rattle.std.proofs.Common.{◌≡◌, ◌<◌, ◌+◌, ◌^◌, ◌∙◌, ℕ, List, [], ◌∷◌, ◌++◌, length, Some, None, Err, codes, refl, sym, ap, subst, arith}
use Rattle.std.proofs.lemmas.List.{append-nil}
use Rattle.std.specs.Prelude.{All, count_by}
use Rattle.tdb_base.specs.Replies.{is_new}
use Rattle.tdb_base.specs.declared.reply.Reply.{Reply}
use Rattle.trace_csv.specs.OneReport.{HasWordId}
use Rattle.trace_csv.specs.Report.{named_line, reply_lines}
use Rattle.run_check.specs.Reading.{Always, IsReplyWord, Misses, ReadsWord, wrong_line}
use Rattle.run_check.specs.Refusal.{Refuses}
use Rattle.run_check.specs.Text.{IsSummary, IsWrongAt}
use Rattle.run_check.specs.declared.refusal.ReportError.{ReportError}
use Rattle.run_check.specs.declared.refusal.ReportError.TheVariants as e
use Rattle.run_check.specs.declared.word.Fault.{Fault}
use Rattle.run_check.proofs.RestLemmas.{Left, fixed-misses, left-lines, onward, past-end, stopped}
use Rattle.run_check.proofs.SummaryLemmas.{FromDistinct, FromLines, FromRaw, FromStats, FromStored, IsOver, distinct-step, lines-step, nodes-step, raw-step, stored-step}
use Rattle.run_check.proofs.SyntaxLemmas.{Step}

left-same : (lines k n : ℕ) (bytes text : List ℕ) (T : List ℕ → Type 0) → k ≡ n → Left lines k bytes text T → Left lines n bytes text T
left-same lines k n bytes text T same left = subst (λ (m : ℕ). Left lines m bytes text T) same left

-- a line that isn't there
refused : {A : Type 0} (lines k line : ℕ) (bytes text : List ℕ) (T : List ℕ → Type 0) → Left lines k bytes text T → (word : A → List ℕ) (fits : A → Type 0) (T' : A → List ℕ → Type 0) → Step T word fits T'
    → line ≡ k + 1 → (T text → 0 < length text) → (error : ReportError) (fault : Fault) → error ≡ e.Syntax (wrong_line line text fault) → Misses word fits text fault → Refuses lines bytes error
refused lines k line bytes text T left word fits T' step at some error fault is misses =
    subst (Refuses lines bytes) (sym is)
    (subst (λ (n : ℕ). IsWrongAt lines bytes (wrong_line n text fault)) (sym at) (stopped lines k bytes text T left word fits T' step fault misses some))

module _ (lines distinct : ℕ) (few : lines + 1 < 2 ^ 64) (fewer : distinct < 2 ^ 64) (bytes text : List ℕ) (replies : List Reply) (count : length replies ≡ lines)
    (new : count_by is_new replies ≡ distinct) (fit : All HasWordId replies) (whole : bytes ≡ reply_lines 0 replies ++ text) where
  at-lines-line : Left lines lines bytes text (FromLines lines distinct)
  at-lines-line = left-lines lines distinct few bytes text replies count new fit whole

  pub lines-refused : (error : ReportError) (fault : Fault) → error ≡ e.Syntax (wrong_line (lines + 1) text fault) → ReadsWord (named_line (codes "lines ") lines) text (Err fault) → Refuses lines bytes error
  lines-refused error fault is misses =
      refused lines lines (lines + 1) bytes text (FromLines lines distinct) at-lines-line (λ _. named_line (codes "lines ") lines) Always (λ _. FromDistinct distinct) (lines-step lines distinct (omega arith))
      refl (λ goes. let size = ap length goes.2 in omega arith) error fault is (fixed-misses (named_line (codes "lines ") lines) text fault misses)

  module _ (counts : List ℕ) (first : text ≡ named_line (codes "lines ") lines ++ counts) where
    at-distinct : Left lines (lines + 1) bytes counts (FromDistinct distinct)
    at-distinct =
        onward lines lines bytes text (FromLines lines distinct) at-lines-line (λ _. named_line (codes "lines ") lines) Always (λ _. FromDistinct distinct) (lines-step lines distinct (omega arith)) tt counts tt first

    pub distinct-refused : (error : ReportError) (fault : Fault) → error ≡ e.Syntax (wrong_line (lines + 2) counts fault) → ReadsWord (named_line (codes "distinct ") distinct) counts (Err fault) → Refuses lines bytes error
    distinct-refused error fault is misses =
        refused lines (lines + 1) (lines + 2) bytes counts (FromDistinct distinct) at-distinct (λ _. named_line (codes "distinct ") distinct) Always (λ _. FromStats) (distinct-step distinct fewer)
        (omega arith) (λ goes. let size = ap length goes.2 in omega arith) error fault is (fixed-misses (named_line (codes "distinct ") distinct) counts fault misses)

    module _ (stats : List ℕ) (second : counts ≡ named_line (codes "distinct ") distinct ++ stats) where
      at-stats : Left lines (lines + 2) bytes stats FromStats
      at-stats =
          left-same lines (lines + 1 + 1) (lines + 2) bytes stats FromStats (omega arith)
          (onward lines (lines + 1) bytes counts (FromDistinct distinct) at-distinct (λ _. named_line (codes "distinct ") distinct) Always (λ _. FromStats) (distinct-step distinct fewer) tt stats tt second)

      pub nodes-refused : 0 < length stats → (error : ReportError) (fault : Fault) → error ≡ e.Syntax (wrong_line (lines + 3) stats fault) → Misses (named_line (codes "nodes ")) IsReplyWord stats fault → Refuses lines bytes error
      nodes-refused some error fault is misses =
          refused lines (lines + 2) (lines + 3) bytes stats FromStats at-stats (named_line (codes "nodes ")) IsReplyWord (λ _. FromStored) nodes-step (omega arith) (λ _. some) error fault is misses

      module _ (nodes : ℕ) (stored : List ℕ) (nodes-fit : IsReplyWord nodes) (third : stats ≡ named_line (codes "nodes ") nodes ++ stored) where
        at-stored : Left lines (lines + 3) bytes stored FromStored
        at-stored =
            left-same lines (lines + 2 + 1) (lines + 3) bytes stored FromStored (omega arith)
            (onward lines (lines + 2) bytes stats FromStats at-stats (named_line (codes "nodes ")) IsReplyWord (λ _. FromStored) nodes-step nodes stored nodes-fit third)

        pub stored-refused : (error : ReportError) (fault : Fault) → error ≡ e.Syntax (wrong_line (lines + 4) stored fault) → Misses (named_line (codes "stored ")) IsReplyWord stored fault → Refuses lines bytes error
        stored-refused error fault is misses =
            refused lines (lines + 3) (lines + 4) bytes stored FromStored at-stored (named_line (codes "stored ")) IsReplyWord (λ _. FromRaw) stored-step (omega arith)
            (λ goes. let size = ap length goes.4 in omega arith) error fault is misses

        module _ (store : ℕ) (raw : List ℕ) (store-fit : IsReplyWord store) (fourth : stored ≡ named_line (codes "stored ") store ++ raw) where
          at-raw : Left lines (lines + 4) bytes raw FromRaw
          at-raw =
              left-same lines (lines + 3 + 1) (lines + 4) bytes raw FromRaw (omega arith)
              (onward lines (lines + 3) bytes stored FromStored at-stored (named_line (codes "stored ")) IsReplyWord (λ _. FromRaw) stored-step store raw store-fit fourth)

          pub raw-refused : (error : ReportError) (fault : Fault) → error ≡ e.Syntax (wrong_line (lines + 5) raw fault) → Misses (named_line (codes "raw ")) IsReplyWord raw fault → Refuses lines bytes error
          raw-refused error fault is misses =
              refused lines (lines + 4) (lines + 5) bytes raw FromRaw at-raw (named_line (codes "raw ")) IsReplyWord (λ _. IsOver) raw-step (omega arith)
              (λ goes. let size = ap length goes.2 in omega arith) error fault is misses

          pub end-refused : (plain : ℕ) (end : List ℕ) → IsReplyWord plain → raw ≡ named_line (codes "raw ") plain ++ end → 0 < length end → Refuses lines bytes (e.Syntax (lines + 6))
          end-refused plain end plain-fit fifth some =
              subst (IsWrongAt lines bytes) (omega arith) (past-end lines (lines + 5) bytes end
              (left-same lines (lines + 4 + 1) (lines + 5) bytes end IsOver (omega arith)
              (onward lines (lines + 4) bytes raw FromRaw at-raw (named_line (codes "raw ")) IsReplyWord (λ _. IsOver) raw-step plain end plain-fit fifth)) some)

-- the whole summary
pub summary-short : (lines distinct : ℕ) (text counts stats : List ℕ) → text ≡ named_line (codes "lines ") lines ++ counts → counts ≡ named_line (codes "distinct ") distinct ++ stats → length stats ≡ 0
    → IsSummary lines distinct text
summary-short lines distinct text counts [] first second none = (None, tt, first ∙ ap (λ (t : List ℕ). named_line (codes "lines ") lines ++ t) second)
summary-short lines distinct text counts (b ∷ rest) first second none = absurd (omega arith)

pub summary-long : (lines distinct nodes store plain : ℕ) (text counts stats stored raw end : List ℕ) → IsReplyWord nodes → IsReplyWord store → IsReplyWord plain
    → text ≡ named_line (codes "lines ") lines ++ counts → counts ≡ named_line (codes "distinct ") distinct ++ stats → stats ≡ named_line (codes "nodes ") nodes ++ stored
    → stored ≡ named_line (codes "stored ") store ++ raw → raw ≡ named_line (codes "raw ") plain ++ end → length end ≡ 0 → IsSummary lines distinct text
summary-long lines distinct nodes store plain text counts stats stored raw [] one two three first second third fourth fifth none = (
  Some (record { nodes = nodes; stored = store; raw = plain }),
  record { nodes = one; stored = two; raw = three },
  first ∙ ap (λ (t : List ℕ). named_line (codes "lines ") lines ++ t) (second ∙ ap (λ (t : List ℕ). named_line (codes "distinct ") distinct ++ t) (third
      ∙ ap (λ (t : List ℕ). named_line (codes "nodes ") nodes ++ t) (fourth ∙ ap (λ (t : List ℕ). named_line (codes "stored ") store ++ t) (fifth ∙ append-nil (named_line (codes "raw ") plain))))),
)
summary-long lines distinct nodes store plain text counts stats stored raw (b ∷ rest) one two three first second third fourth fifth none = absurd (omega arith)
