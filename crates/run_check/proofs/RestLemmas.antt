-- A report of which the lines of some replies are read.
use Rattle.std.proofs.Common.{◌⊎◌, inl, inr, take, ◌≡◌, ◌≤◌, ◌<◌, ◌+◌, ◌^◌, ◌∙◌, ℕ, List, [], ◌∷◌, ◌++◌, length, Option, None, codes, refl, sym, ap, subst, arith, append_assoc, length-append, replicate}
use Rattle.std.proofs.lemmas.List.{append-nil, length-replicate}
use Rattle.std.proofs.lemmas.List.Elements.{All-head, All-nil, All-replicate, All-tail}
use Rattle.std.specs.List.{concat}
use Rattle.std.specs.Prelude.{All, count_by, Err}
use Rattle.tdb_base.specs.Replies.{is_new}
use Rattle.tdb_base.specs.declared.reply.Reply.{Reply}
use Rattle.tdb_base.specs.declared.reply.Reply.TheVariants as r
use Rattle.trace_csv.specs.OneReport.{HasWordId}
use Rattle.trace_csv.specs.Report.{named_line, reply_line, reply_lines, stats_text, summary_of, summary_text}
use Rattle.run_check.specs.Reading.{Always, Misses, ReadsWord, wrong_line}
use Rattle.run_check.specs.Text.{IsWrongAt, text_lines, to_line}
use Rattle.trace_csv.specs.declared.report.Stats.{Stats}
use Rattle.run_check.specs.declared.word.Fault.{Fault}
use Rattle.run_check.specs.declared.word.Fault.TheVariants as f
use Rattle.run_check.proofs.LineLemmas.{NoFeed, first-line, lines-last, lines-none, lines-word}
use Rattle.run_check.proofs.SyntaxLemmas.{At, Step, advance, at-same, miss, wrong-here}
use Rattle.run_check.proofs.SummaryLemmas.{Follows, FromLines, IsOver, lines-cons, lines-nil, reply-step}

at-none : (lines : ℕ) → At lines [] 0 (Follows lines [])
at-none lines = record {
  lines_read = lines-none;
  from = λ t replies whole. record { rest = replies; count = (let count = whole.count in omega arith); fit = whole.fit; stats = whole.stats; stats_fit = whole.stats_fit; text = whole.text };
  to = λ t goes. (goes.rest, record { count = (let count = goes.count in omega arith); fit = goes.fit; stats = goes.stats; stats_fit = goes.stats_fit; text = goes.text });
  some = (
    reply_lines 0 all ++ summary_text (summary_of all None),
    record {
      rest = all;
      count = (let count = length-replicate lines r.FullNodes in omega arith);
      fit = All-replicate HasWordId lines r.FullNodes tt;
      stats = None;
      stats_fit = tt;
      text = refl;
    },
  );
}
  where
    all : List Reply
    all = replicate lines r.FullNodes

at-more : (lines : ℕ) → lines + 1 < 2 ^ 64 → (front : List ℕ) (done : List Reply) → At lines front (length done) (Follows lines done) → (more : List Reply) → All HasWordId more
    → length done + length more ≤ lines → At lines (front ++ reply_lines (length done) more) (length (done ++ more)) (Follows lines (done ++ more))
at-more lines few front done old [] fit within =
    subst (λ (p : List ℕ). At lines p (length (done ++ [])) (Follows lines (done ++ []))) (sym (ap (λ (t : List ℕ). front ++ t) (lines-nil (length done)) ∙ append-nil front))
    (subst (λ (ds : List Reply). At lines front (length ds) (Follows lines ds)) (sym (append-nil done)) old)
at-more lines few front done old (reply ∷ more) fit within =
    let size = length-append done (reply ∷ []) in
    let step = reply-step lines done (omega arith) few in
    let next = advance lines front (length done) (Follows lines done) old (reply_line (length done + 1)) HasWordId (λ p. Follows lines (done ++ p ∷ [])) step reply (All-head HasWordId reply more fit) in
    let counted = subst (λ (n : ℕ). At lines (front ++ reply_line (length done + 1) reply) n (Follows lines (done ++ reply ∷ []))) (sym size) next in
    let all = at-more lines few (front ++ reply_line (length done + 1) reply) (done ++ reply ∷ []) counted more (All-tail HasWordId reply more fit) (omega arith) in
    let text : (front ++ reply_line (length done + 1) reply) ++ reply_lines (length (done ++ reply ∷ [])) more ≡ front ++ reply_lines (length done) (reply ∷ more) =
    append_assoc front (reply_line (length done + 1) reply) (reply_lines (length (done ++ reply ∷ [])) more)
    ∙ ap (λ (n : ℕ). front ++ (reply_line (length done + 1) reply ++ reply_lines n more)) size
    ∙ ap (λ (t : List ℕ). front ++ t)
    (ap (λ (t : List ℕ). reply_line (length done + 1) reply ++ t) (sym (append-nil (reply_lines (length done + 1) more))) ∙ sym (lines-cons (length done) reply more []) ∙ append-nil (reply_lines (length done) (reply ∷ more))) in
    subst (λ (ds : List Reply). At lines (front ++ reply_lines (length done) (reply ∷ more)) (length ds) (Follows lines ds)) (append_assoc done (reply ∷ []) more)
    (subst (λ (p : List ℕ). At lines p (length ((done ++ reply ∷ []) ++ more)) (Follows lines ((done ++ reply ∷ []) ++ more))) text all)

pub at-replies : (lines : ℕ) → lines + 1 < 2 ^ 64 → (done : List Reply) → All HasWordId done → length done ≤ lines → At lines (reply_lines 0 done) (length done) (Follows lines done)
at-replies lines few done fit within = at-more lines few [] [] (at-none lines) done fit (omega arith)

follows-some : (lines : ℕ) (done : List Reply) (t : List ℕ) → Follows lines done t → 0 < length t
follows-some lines done t goes =
    let size = ap length goes.text ∙ length-append (reply_lines (length done) goes.rest) (summary_text (summary_of (done ++ goes.rest) goes.stats)) in
    omega arith

-- the line of the next reply is wrong
pub reply-wrong : (lines : ℕ) → lines + 1 < 2 ^ 64 → (done : List Reply) → All HasWordId done → length done < lines → (bytes text : List ℕ) → bytes ≡ reply_lines 0 done ++ text → (fault : Fault)
    → Misses (reply_line (length done + 1)) HasWordId text fault → IsWrongAt lines bytes (wrong_line (length done + 1) text fault)
reply-wrong lines few done fit less bytes text e fault misses =
    miss lines (reply_lines 0 done) (length done) (Follows lines done) (at-replies lines few done fit (omega arith)) (reply_line (length done + 1)) HasWordId (λ p. Follows lines (done ++ p ∷ []))
    (reply-step lines done less few) bytes text fault e misses (follows-some lines done text)

-- all replies are read, and the summary is left
pub at-lines : (lines distinct : ℕ) → lines + 1 < 2 ^ 64 → (done : List Reply) → length done ≡ lines → count_by is_new done ≡ distinct → All HasWordId done
    → At lines (reply_lines 0 done) lines (FromLines lines distinct)
at-lines lines distinct few done count new fit =
    subst (λ (k : ℕ). At lines (reply_lines 0 done) k (FromLines lines distinct)) count
    (at-same lines (reply_lines 0 done) (length done) (Follows lines done) (FromLines lines distinct) there back (at-replies lines few done fit (omega arith)))
  where
    text : (stats : Option Stats) → reply_lines (length done) [] ++ summary_text (summary_of (done ++ []) stats) ≡ named_line (codes "lines ") lines ++ (named_line (codes "distinct ") distinct ++ stats_text stats)
    text stats =
        ap (λ (t : List ℕ). t ++ summary_text (summary_of (done ++ []) stats)) (lines-nil (length done)) ∙ ap (λ (ds : List Reply). summary_text (summary_of ds stats)) (append-nil done)
        ∙ ap (λ (n : ℕ). named_line (codes "lines ") n ++ (named_line (codes "distinct ") (count_by is_new done) ++ stats_text stats)) count
        ∙ ap (λ (n : ℕ). named_line (codes "lines ") lines ++ (named_line (codes "distinct ") n ++ stats_text stats)) new

    of-rest : (t : List ℕ) (goes : Follows lines done t) (rest : List Reply) → goes.rest ≡ rest → FromLines lines distinct t
    of-rest t goes [] e = (goes.stats, goes.stats_fit, goes.text ∙ ap (λ (ps : List Reply). reply_lines (length done) ps ++ summary_text (summary_of (done ++ ps) goes.stats)) e ∙ text goes.stats)
    of-rest t goes (p ∷ ps) e = absurd (let some = ap length e in let all = goes.count in omega arith)

    there : (t : List ℕ) → Follows lines done t → FromLines lines distinct t
    there t goes = of-rest t goes goes.rest refl

    back : (t : List ℕ) → FromLines lines distinct t → Follows lines done t
    back t goes = record { rest = []; count = omega arith; fit = All-nil HasWordId; stats = goes.0; stats_fit = goes.1; text = goes.2 ∙ sym (text goes.0) }

-- so many whole lines are read, this text is left, and a report goes on so
pub record Left (lines k : ℕ) (bytes text : List ℕ) (T : List ℕ → Type 0) : Type 0 where
  pub front : List ℕ
  pub at : At lines front k T
  pub cut : bytes ≡ front ++ text

pub left-lines : (lines distinct : ℕ) → lines + 1 < 2 ^ 64 → (bytes text : List ℕ) (done : List Reply) → length done ≡ lines → count_by is_new done ≡ distinct → All HasWordId done
    → bytes ≡ reply_lines 0 done ++ text → Left lines lines bytes text (FromLines lines distinct)
left-lines lines distinct few bytes text done count new fit e = record { front = reply_lines 0 done; at = at-lines lines distinct few done count new fit; cut = e }

module _ (lines k : ℕ) (bytes text : List ℕ) (T : List ℕ → Type 0) (left : Left lines k bytes text T) where
  module _ {A : Type 0} (word : A → List ℕ) (fits : A → Type 0) (T' : A → List ℕ → Type 0) (step : Step T word fits T') where
    pub onward : (a : A) (rest : List ℕ) → fits a → text ≡ word a ++ rest → Left lines (k + 1) bytes rest (T' a)
    onward a rest fit e = record {
      front = left.front ++ word a;
      at = advance lines left.front k T left.at word fits T' step a fit;
      cut = left.cut ∙ ap (λ (t : List ℕ). left.front ++ t) e ∙ sym (append_assoc left.front (word a) rest);
    }

    pub stopped : (fault : Fault) → Misses word fits text fault → (T text → 0 < length text) → IsWrongAt lines bytes (wrong_line (k + 1) text fault)
    stopped fault misses some = miss lines left.front k T left.at word fits T' step bytes text fault left.cut misses some

-- a text that isn't empty has a first line, which isn't
line-some : (text : List ℕ) → 0 < length text → (0 < length (text_lines text)) × (0 < length (to_line 1 text))
line-some text some = by text some (first-line text)
  where
    by : (t : List ℕ) → 0 < length t → NoFeed t ⊎ ((body : List ℕ) × (rest : List ℕ) × NoFeed body × (t ≡ body ++ 10 ∷ rest)) → (0 < length (text_lines t)) × (0 < length (to_line 1 t))
    by [] some either = absurd (omega arith)
    by (b ∷ t) some (inl none) =
        let one = lines-last b t none in
        (let count = ap length one in omega arith, let size = ap (λ (ls : List (List ℕ)). length (concat (take 1 ls))) one in omega arith)
    by (b ∷ t) some (inr has) =
        let one = ap text_lines has.3 ∙ lines-word has.0 has.1 has.2 in (
          let count = ap length one in omega arith,
          let size = ap (λ (ls : List (List ℕ)). length (concat (take 1 ls))) one ∙ ap length (append-nil (has.0 ++ 10 ∷ [])) ∙ length-append has.0 (10 ∷ []) in omega arith,
        )

-- nothing may follow, and something does
pub past-end : (lines k : ℕ) (bytes text : List ℕ) → Left lines k bytes text IsOver → 0 < length text → IsWrongAt lines bytes (k + 1)
past-end lines k bytes text left some =
    let line = line-some text some in
    wrong-here lines left.front k IsOver left.at bytes text left.cut line.0
    (λ more over. let none = ap length over in let all = length-append (to_line 1 text) more in let first = line.1 in omega arith)

-- one word that isn't there
pub fixed-misses : (word text : List ℕ) (fault : Fault) → ReadsWord word text (Err fault) → Misses {A = Unit {0}} (λ _. word) Always text fault
fixed-misses word text f.Short ends = (tt, tt, ends)
fixed-misses word text f.Wrong differs = λ _ _. differs
