-- How a report is read on, a line after a line.
use Rattle.std.proofs.Common.{◌≡◌, ◌<◌, ◌+◌, ◌-◌, ◌^◌, ◌∙◌, ℕ, suc, List, [], ◌∷◌, ◌++◌, length, get_or, Option, Some, None, true, codes, decimal, refl, sym, ap, subst, arith, rules, append_assoc, length-append, replicate}
use Rattle.std.proofs.lemmas.Bool.{ne_eqb}
use Rattle.std.proofs.lemmas.List.{append-nil, append_cancel_left, length-replicate}
use Rattle.std.proofs.lemmas.List.Elements.{All-head, All-replicate, All-tail, All-cons}
use Rattle.std.specs.Char.{is_ascii_digit}
use Rattle.std.specs.Prelude.{All}
use Rattle.tdb_base.specs.declared.reply.Reply.{Reply}
use Rattle.tdb_base.specs.declared.reply.Reply.TheVariants as r
use Rattle.trace_csv.specs.OneReport.{HasWordId}
use Rattle.trace_csv.specs.Report.{answer, lines_with, named_line, reply_line, reply_lines, stats_text, summary_of, summary_text}
use Rattle.trace_csv.specs.declared.report.Stats.{Stats}
use Rattle.trace_csv.proofs.DecimalLemmas.{decimal-digit}
use Rattle.trace_csv.proofs.OneReportLemmas.{line-cancel, named-cancel}
use Rattle.run_check.specs.Reading.{Always, IsReplyWord}
use Rattle.run_check.specs.Text.{FitWords}
use Rattle.run_check.proofs.LineLemmas.{NoFeed, no-feed-append}
use Rattle.run_check.proofs.SyntaxLemmas.{IsLine, Step}
use Rattle.run_check.proofs.WordLemmas.{digit-range}

no-feed-digits : (xs : List ℕ) → ((k : ℕ) → k < length xs → is_ascii_digit (get_or xs k 0) ≡ true) → NoFeed xs
no-feed-digits [] digits = tt
no-feed-digits (b ∷ xs) digits =
    let range = digit-range b (digits 0 (omega arith)) in
    let low = range.0 in
    (ne_eqb b 10 (λ e. omega arith), no-feed-digits xs (λ k lt. digits (suc k) (omega arith)))

no-feed-decimal : (n : ℕ) → n < 2 ^ 64 → NoFeed (decimal n)
no-feed-decimal n fits = no-feed-digits (decimal n) (λ k lt. decimal-digit n k lt)

named-is-line : (name : List ℕ) (n : ℕ) → NoFeed name → n < 2 ^ 64 → IsLine (named_line name n)
named-is-line name n none fits = record { body = name ++ decimal n; none = no-feed-append name (decimal n) none (no-feed-decimal n fits); whole = refl }

answer-is-line : (reply : Reply) → HasWordId reply → IsLine (answer reply)
answer-is-line (r.New n) fits = record {
  body = decimal n ++ codes ",new";
  none = no-feed-append (decimal n) (codes ",new") (no-feed-decimal n fits) (search rules);
  whole = sym (append_assoc (decimal n) (codes ",new") (10 ∷ []));
}
answer-is-line (r.Seen n) fits = record {
  body = decimal n ++ codes ",seen";
  none = no-feed-append (decimal n) (codes ",seen") (no-feed-decimal n fits) (search rules);
  whole = sym (append_assoc (decimal n) (codes ",seen") (10 ∷ []));
}
answer-is-line r.FullNodes fits = record { body = codes ",full-nodes"; none = search rules; whole = refl }
answer-is-line r.FullRoots fits = record { body = codes ",full-roots"; none = search rules; whole = refl }

reply-is-line : (n : ℕ) (reply : Reply) → n < 2 ^ 64 → HasWordId reply → IsLine (reply_line n reply)
reply-is-line n reply few fits =
    let line = answer-is-line reply fits in
    record {
      body = (decimal n ++ codes ",") ++ line.body;
      none = no-feed-append (decimal n ++ codes ",") line.body (no-feed-append (decimal n) (codes ",") (no-feed-decimal n few) (search rules)) line.none;
      whole = ap (λ (t : List ℕ). (decimal n ++ codes ",") ++ t) line.whole ∙ sym (append_assoc (decimal n ++ codes ",") line.body (10 ∷ []));
    }

-- after the lines of some replies those of others follow, and the summary of all
pub record Follows (lines : ℕ) (done : List Reply) (t : List ℕ) : Type 0 where
  pub rest : List Reply
  pub count : length done + length rest ≡ lines
  pub fit : All HasWordId rest
  pub stats : Option Stats
  pub stats_fit : FitWords stats
  pub text : t ≡ reply_lines (length done) rest ++ summary_text (summary_of (done ++ rest) stats)

-- what is left of the summary
abbrev pub FromLines : ℕ → ℕ → List ℕ → Type 0
FromLines lines distinct t = (stats : Option Stats) × FitWords stats × (t ≡ named_line (codes "lines ") lines ++ (named_line (codes "distinct ") distinct ++ stats_text stats))

abbrev pub FromDistinct : ℕ → List ℕ → Type 0
FromDistinct distinct t = (stats : Option Stats) × FitWords stats × (t ≡ named_line (codes "distinct ") distinct ++ stats_text stats)

abbrev pub FromStats : List ℕ → Type 0
FromStats t = (stats : Option Stats) × FitWords stats × (t ≡ stats_text stats)

abbrev pub FromStored : List ℕ → Type 0
FromStored t = (stored : ℕ) × (raw : ℕ) × IsReplyWord stored × IsReplyWord raw × (t ≡ named_line (codes "stored ") stored ++ named_line (codes "raw ") raw)

abbrev pub FromRaw : List ℕ → Type 0
FromRaw t = (raw : ℕ) × IsReplyWord raw × (t ≡ named_line (codes "raw ") raw)

abbrev pub IsOver : List ℕ → Type 0
IsOver t = t ≡ []

-- one word that stands there in any case
fixed-step : (word : List ℕ) (T T' : List ℕ → Type 0) → IsLine word → ((t : List ℕ) → T t → (y : List ℕ) × (t ≡ word ++ y) × T' y) → ((y : List ℕ) → T' y → T (word ++ y)) → (y : List ℕ) → T' y
    → Step {A = Unit {0}} T (λ _. word) Always (λ _. T')
fixed-step word T T' line split join y there = record {
  split = λ t some goes. (let parts = split t goes in (tt, parts.0, tt, parts.1, parts.2));
  join = λ _ t _ goes. join t goes;
  more = λ _ _. (y, there);
  some = (tt, tt);
  line = λ _ _. line;
  cancel = λ a b x z _ _ e. (refl, append_cancel_left word x z e);
}

-- a name and any number
count-step : (name : List ℕ) (T T' : List ℕ → Type 0) → NoFeed name → ((t : List ℕ) → 0 < length t → T t → (n : ℕ) × (y : List ℕ) × IsReplyWord n × (t ≡ named_line name n ++ y) × T' y)
    → ((n : ℕ) (y : List ℕ) → IsReplyWord n → T' y → T (named_line name n ++ y)) → (y : List ℕ) → T' y → Step T (named_line name) IsReplyWord (λ _. T')
count-step name T T' none split join y there = record {
  split = split;
  join = join;
  more = λ _ _. (y, there);
  some = (0, omega arith);
  line = λ n fits. named-is-line name n none fits;
  cancel = λ a b x z one other e. named-cancel name a b x z one e;
}

pub lines-step : (lines distinct : ℕ) → lines < 2 ^ 64 → Step {A = Unit {0}} (FromLines lines distinct) (λ _. named_line (codes "lines ") lines) Always (λ _. FromDistinct distinct)
lines-step lines distinct few =
    fixed-step (named_line (codes "lines ") lines) (FromLines lines distinct) (FromDistinct distinct) (named-is-line (codes "lines ") lines (search rules) few)
    (λ t goes. (named_line (codes "distinct ") distinct ++ stats_text goes.0, goes.2, (goes.0, goes.1, refl)))
    (λ y goes. (goes.0, goes.1, ap (λ (t : List ℕ). named_line (codes "lines ") lines ++ t) goes.2))
    (named_line (codes "distinct ") distinct ++ []) (None, tt, refl)

pub distinct-step : (distinct : ℕ) → distinct < 2 ^ 64 → Step {A = Unit {0}} (FromDistinct distinct) (λ _. named_line (codes "distinct ") distinct) Always (λ _. FromStats)
distinct-step distinct few =
    fixed-step (named_line (codes "distinct ") distinct) (FromDistinct distinct) FromStats (named-is-line (codes "distinct ") distinct (search rules) few)
    (λ t goes. (stats_text goes.0, goes.2, (goes.0, goes.1, refl)))
    (λ y goes. (goes.0, goes.1, ap (λ (t : List ℕ). named_line (codes "distinct ") distinct ++ t) goes.2))
    [] (None, tt, refl)

pub nodes-step : Step FromStats (named_line (codes "nodes ")) IsReplyWord (λ _. FromStored)
nodes-step =
    count-step (codes "nodes ") FromStats FromStored (search rules) split
    (λ n y fits goes. (Some (record { nodes = n; stored = goes.0; raw = goes.1 }), record { nodes = fits; stored = goes.2; raw = goes.3 }, ap (λ (t : List ℕ). named_line (codes "nodes ") n ++ t) goes.4))
    (named_line (codes "stored ") 0 ++ named_line (codes "raw ") 0) (0, 0, omega arith, omega arith, refl)
  where
    split : (t : List ℕ) → 0 < length t → FromStats t → (n : ℕ) × (y : List ℕ) × IsReplyWord n × (t ≡ named_line (codes "nodes ") n ++ y) × FromStored y
    split t some (None, fit, e) = absurd (let none = ap length e in omega arith)
    split t some (Some s, fit, e) = (s.nodes, named_line (codes "stored ") s.stored ++ named_line (codes "raw ") s.raw, fit.nodes, e, (s.stored, s.raw, fit.stored, fit.raw, refl))

pub stored-step : Step FromStored (named_line (codes "stored ")) IsReplyWord (λ _. FromRaw)
stored-step =
    count-step (codes "stored ") FromStored FromRaw (search rules)
    (λ t some goes. (goes.0, named_line (codes "raw ") goes.1, goes.2, goes.4, (goes.1, goes.3, refl)))
    (λ n y fits goes. (n, goes.0, fits, goes.1, ap (λ (t : List ℕ). named_line (codes "stored ") n ++ t) goes.2))
    (named_line (codes "raw ") 0) (0, omega arith, refl)

pub raw-step : Step FromRaw (named_line (codes "raw ")) IsReplyWord (λ _. IsOver)
raw-step =
    count-step (codes "raw ") FromRaw IsOver (search rules)
    (λ t some goes. (goes.0, [], goes.1, goes.2 ∙ sym (append-nil (named_line (codes "raw ") goes.0)), refl))
    (λ n y fits over. (n, fits, ap (λ (t : List ℕ). named_line (codes "raw ") n ++ t) over ∙ append-nil (named_line (codes "raw ") n)))
    [] refl

pub lines-cons : (n : ℕ) (reply : Reply) (rest : List Reply) (s : List ℕ) → reply_lines n (reply ∷ rest) ++ s ≡ reply_line (n + 1) reply ++ (reply_lines (n + 1) rest ++ s)
unfolding lines_with
lines-cons n reply rest s = append_assoc (reply_line (n + 1) reply) (reply_lines (n + 1) rest) s

pub lines-nil : (n : ℕ) → reply_lines n [] ≡ []
unfolding lines_with
lines-nil n = refl

pub reply-step : (lines : ℕ) (done : List Reply) → length done < lines → lines + 1 < 2 ^ 64 → Step (Follows lines done) (reply_line (length done + 1)) HasWordId (λ reply. Follows lines (done ++ reply ∷ []))
reply-step lines done less few = record {
  split = λ t some goes. split t goes goes.rest refl;
  join = join;
  more = more;
  some = (r.FullNodes, tt);
  line = λ reply fits. reply-is-line (length done + 1) reply (omega arith) fits;
  cancel = λ p q x y one other e. line-cancel (length done + 1) p q x y one e;
}
  where
    size : (reply : Reply) → length (done ++ reply ∷ []) ≡ length done + 1
    size reply = length-append done (reply ∷ [])

    whole : (reply : Reply) (rest : List Reply) → (done ++ reply ∷ []) ++ rest ≡ done ++ reply ∷ rest
    whole reply rest = append_assoc done (reply ∷ []) rest

    -- the text of the others, with the reply among those done
    same : (reply : Reply) (rest : List Reply) (stats : Option Stats)
        → reply_lines (length (done ++ reply ∷ [])) rest ++ summary_text (summary_of ((done ++ reply ∷ []) ++ rest) stats)
        ≡ reply_lines (length done + 1) rest ++ summary_text (summary_of (done ++ reply ∷ rest) stats)
    same reply rest stats =
        ap (λ n. reply_lines n rest ++ summary_text (summary_of ((done ++ reply ∷ []) ++ rest) stats)) (size reply)
        ∙ ap (λ (ps : List Reply). reply_lines (length done + 1) rest ++ summary_text (summary_of ps stats)) (whole reply rest)

    split : (t : List ℕ) (goes : Follows lines done t) (rest : List Reply) → goes.rest ≡ rest
        → (reply : Reply) × (y : List ℕ) × HasWordId reply × (t ≡ reply_line (length done + 1) reply ++ y) × Follows lines (done ++ reply ∷ []) y
    split t goes [] e = absurd (let none = ap length e in let count = goes.count in omega arith)
    split t goes (reply ∷ rest) e =
        let fit = subst (λ (ps : List Reply). All HasWordId ps) e goes.fit in
        let text = goes.text ∙ ap (λ (ps : List Reply). reply_lines (length done) ps ++ summary_text (summary_of (done ++ ps) goes.stats)) e
        ∙ lines-cons (length done) reply rest (summary_text (summary_of (done ++ reply ∷ rest) goes.stats)) in (
          reply,
          reply_lines (length done + 1) rest ++ summary_text (summary_of (done ++ reply ∷ rest) goes.stats),
          All-head HasWordId reply rest fit,
          text,
          record {
            rest = rest;
            count = (let all = ap length e in let count = goes.count in let one = size reply in omega arith);
            fit = All-tail HasWordId reply rest fit;
            stats = goes.stats;
            stats_fit = goes.stats_fit;
            text = sym (same reply rest goes.stats);
          },
        )

    join : (reply : Reply) (y : List ℕ) → HasWordId reply → Follows lines (done ++ reply ∷ []) y → Follows lines done (reply_line (length done + 1) reply ++ y)
    join reply y fits goes = record {
      rest = reply ∷ goes.rest;
      count = (let count = goes.count in let one = size reply in omega arith);
      fit = All-cons HasWordId reply goes.rest fits goes.fit;
      stats = goes.stats;
      stats_fit = goes.stats_fit;
      text = ap (λ (t : List ℕ). reply_line (length done + 1) reply ++ t) (goes.text ∙ same reply goes.rest goes.stats)
          ∙ sym (lines-cons (length done) reply goes.rest (summary_text (summary_of (done ++ reply ∷ goes.rest) goes.stats)));
    }

    more : (reply : Reply) → HasWordId reply → (y : List ℕ) × Follows lines (done ++ reply ∷ []) y
    more reply fits =
        let rest = replicate (lines - (length done + 1)) r.FullNodes in (
          reply_lines (length (done ++ reply ∷ [])) rest ++ summary_text (summary_of ((done ++ reply ∷ []) ++ rest) None),
          record {
            rest = rest;
            count = (let one = size reply in let count = length-replicate (lines - (length done + 1)) r.FullNodes in omega arith);
            fit = All-replicate HasWordId (lines - (length done + 1)) r.FullNodes tt;
            stats = None;
            stats_fit = tt;
            text = refl;
          },
        )
