-- Words that stand one after another at the front of a text, and a reply's answer made of them.
use Rattle.std.proofs.Common.{◌≡◌, ◌<◌, ◌^◌, ◌∙◌, ℕ, List, [], ◌∷◌, ◌++◌, Bool, true, false, Result, Ok, Err, codes, decimal, refl, sym, ap, subst, arith, append_assoc}
use Rattle.std.proofs.lemmas.List.{append-nil, append_cancel_left}
use Rattle.std.specs.Borrow.{Bor}
use Rattle.std.specs.Prelude.{if◌then◌else◌}
use Rattle.tdb_base.specs.declared.reply.Reply.{Reply}
use Rattle.tdb_base.specs.declared.reply.Reply.TheVariants as r
use Rattle.trace_csv.specs.OneReport.{HasWordId}
use Rattle.trace_csv.specs.Report.{answer}
use Rattle.trace_csv.proofs.OneReportLemmas.{comma-first, number-cancel}
use Rattle.run_check.specs.Reading.{Always, Differs, EndsWithin, IsReplyWord, Misses, Reads, ReadsWord, number_to, one_of}
use Rattle.run_check.specs.declared.word.Fault.{Fault}
use Rattle.run_check.specs.declared.word.Fault.TheVariants as f

-- a text that ends within the front of a word, or differs from it
pub within-front : (text u v : List ℕ) → EndsWithin text u → EndsWithin text (u ++ v)
within-front text u v ends = (ends.0, ends.1 ++ v, ap (λ (t : List ℕ). t ++ v) ends.2 ∙ append_assoc text (ends.0 ∷ ends.1) v)

pub differs-front : (text u v : List ℕ) → Differs text u → Differs text (u ++ v)
differs-front text u v differs x y e = differs x (v ++ y) (e ∙ append_assoc u v y)

-- the same where the front of the word is there
pub within-rest : (text u rest v : List ℕ) → text ≡ u ++ rest → EndsWithin rest v → EndsWithin text (u ++ v)
within-rest text u rest v e ends =
    (ends.0, ends.1, ap (λ (t : List ℕ). u ++ t) ends.2 ∙ sym (append_assoc u rest (ends.0 ∷ ends.1)) ∙ ap (λ (t : List ℕ). t ++ ends.0 ∷ ends.1) (sym e))

pub differs-rest : (text u rest v : List ℕ) → text ≡ u ++ rest → Differs rest v → Differs text (u ++ v)
differs-rest text u rest v e differs x y same =
    differs x y (append_cancel_left u (rest ++ x) (v ++ y) (sym (append_assoc u rest x) ∙ ap (λ (t : List ℕ). t ++ x) (sym e) ∙ same ∙ append_assoc u v y))

-- a word of two parts
pub word-front : (text u v : List ℕ) (fault : Fault) → ReadsWord u text (Err fault) → ReadsWord (u ++ v) text (Err fault)
word-front text u v f.Short ends = within-front text u v ends
word-front text u v f.Wrong differs = differs-front text u v differs

pub word-rest : (text u v rest : List ℕ) (result : Result (Bor (List ℕ)) Fault) → text ≡ u ++ rest → ReadsWord v rest result → ReadsWord (u ++ v) text result
word-rest text u v rest (Ok more) e reads = e ∙ ap (λ (t : List ℕ). u ++ t) reads ∙ sym (append_assoc u v more.now)
word-rest text u v rest (Err f.Short) e ends = within-rest text u rest v e ends
word-rest text u v rest (Err f.Wrong) e differs = differs-rest text u rest v e differs

module _ {A : Type 0} (word : A → List ℕ) (fits : A → Type 0) (text u : List ℕ) where
  -- a word and then one of some values
  pub misses-front : (fault : Fault) → ReadsWord u text (Err fault) → (a : A) → fits a → Misses (λ a. u ++ word a) fits text fault
  misses-front f.Short ends a fit = (a, fit, within-front text u (word a) ends)
  misses-front f.Wrong differs a fit = λ b other. differs-front text u (word b) differs

  pub reads-rest : (rest : List ℕ) (result : Result (A × Bor (List ℕ)) Fault) → text ≡ u ++ rest → Reads word fits rest result → Reads (λ a. u ++ word a) fits text result
  reads-rest rest (Ok r) e reads = (reads.0, e ∙ ap (λ (t : List ℕ). u ++ t) reads.1 ∙ sym (append_assoc u (word r.0) r.1.now))
  reads-rest rest (Err f.Short) e misses = (misses.0, misses.1, within-rest text u rest (word misses.0) e misses.2)
  reads-rest rest (Err f.Wrong) e misses = λ a fit. differs-rest text u rest (word a) e (misses a fit)

-- one of two words
pub either-misses : (text first second : List ℕ) (fault : Fault) → Differs text first → ReadsWord second text (Err fault) → Misses (one_of first second) Always text fault
either-misses text first second f.Short differs ends = (false, tt, ends)
either-misses text first second f.Wrong differs other = λ is_first _. by is_first
  where
    by : (is_first : Bool) → Differs text (one_of first second is_first)
    by true = differs
    by false = other

comma-differs : (t : List ℕ) (n : ℕ) (u : List ℕ) → Differs (44 ∷ t) (decimal n ++ u)
comma-differs t n u x y e = comma-first n u (t ++ x) y (sym e)

-- a text that begins with a comma, and with neither of the words for a full table
pub full-misses : (text rest : List ℕ) (fault : Fault) → text ≡ 44 ∷ rest → Misses (one_of (codes ",full-nodes\n") (codes ",full-roots\n")) Always text fault → Misses answer HasWordId text fault
full-misses text rest f.Short e misses = by misses.0 misses.2
  where
    by : (nodes : Bool) → EndsWithin text (one_of (codes ",full-nodes\n") (codes ",full-roots\n") nodes) → (reply : Reply) × HasWordId reply × EndsWithin text (answer reply)
    by true ends = (r.FullNodes, tt, ends)
    by false ends = (r.FullRoots, tt, ends)
full-misses text rest f.Wrong e misses = by
  where
    other : (n : ℕ) (u : List ℕ) → Differs text (decimal n ++ u)
    other n u x y same = comma-differs rest n u x y (ap (λ (t : List ℕ). t ++ x) (sym e) ∙ same)

    by : (reply : Reply) → HasWordId reply → Differs text (answer reply)
    by (r.New n) fits = other n (codes ",new\n")
    by (r.Seen n) fits = other n (codes ",seen\n")
    by r.FullNodes fits = misses true tt
    by r.FullRoots fits = misses false tt

-- a text that begins otherwise differs from a word that begins with a comma, unless it is empty
no-comma : (text v : List ℕ) → ((rest : List ℕ) → text ≡ 44 ∷ rest → ⊥) → (text ≡ [] → ⊥) → Differs text (44 ∷ v)
no-comma [] v other some x y e = some refl
no-comma (b ∷ text) v other some x y e = other text (let byte : b ≡ 44 = cc e in ap (λ (n : ℕ). n ∷ text) byte)

new-word : (n : ℕ) → answer (r.New n) ≡ number_to 44 n ++ codes "new\n"
new-word n = sym (append_assoc (decimal n) (44 ∷ []) (codes "new\n"))

seen-word : (n : ℕ) → answer (r.Seen n) ≡ number_to 44 n ++ codes "seen\n"
seen-word n = sym (append_assoc (decimal n) (44 ∷ []) (codes "seen\n"))

differs-same : (text u v : List ℕ) → u ≡ v → Differs text v → Differs text u
differs-same text u v same differs x y e = differs x y (e ∙ ap (λ (t : List ℕ). t ++ y) same)

within-same : (text u v : List ℕ) → u ≡ v → EndsWithin text v → EndsWithin text u
within-same text u v same ends = (ends.0, ends.1, same ∙ ends.2)

-- a text that begins with no comma and no number
pub number-misses : (text : List ℕ) (fault : Fault) → ((rest : List ℕ) → text ≡ 44 ∷ rest → ⊥) → Misses (number_to 44) IsReplyWord text fault → Misses answer HasWordId text fault
number-misses text f.Short other misses =
    (r.New misses.0, misses.1, within-same text (answer (r.New misses.0)) (number_to 44 misses.0 ++ codes "new\n") (new-word misses.0) (within-front text (number_to 44 misses.0) (codes "new\n") misses.2))
number-misses text f.Wrong other misses = by
  where
    some : text ≡ [] → ⊥
    some none = misses 0 (omega arith) (number_to 44 0) [] (ap (λ (t : List ℕ). t ++ number_to 44 0) none ∙ sym (append-nil (number_to 44 0)))

    by : (reply : Reply) → HasWordId reply → Differs text (answer reply)
    by (r.New n) fits = differs-same text (answer (r.New n)) (number_to 44 n ++ codes "new\n") (new-word n) (differs-front text (number_to 44 n) (codes "new\n") (misses n fits))
    by (r.Seen n) fits = differs-same text (answer (r.Seen n)) (number_to 44 n ++ codes "seen\n") (seen-word n) (differs-front text (number_to 44 n) (codes "seen\n") (misses n fits))
    by r.FullNodes fits = no-comma text (codes "full-nodes\n") other some
    by r.FullRoots fits = no-comma text (codes "full-roots\n") other some

-- a number and a comma, and then none of the two words
pub named-misses : (text rest : List ℕ) (id : ℕ) (fault : Fault) → id < 2 ^ 64 → text ≡ number_to 44 id ++ rest → Misses (one_of (codes "new\n") (codes "seen\n")) Always rest fault
    → Misses answer HasWordId text fault
named-misses text rest id f.Short fits e misses = by misses.0 misses.2
  where
    by : (new : Bool) → EndsWithin rest (one_of (codes "new\n") (codes "seen\n") new) → (reply : Reply) × HasWordId reply × EndsWithin text (answer reply)
    by true ends = (r.New id, fits, within-same text (answer (r.New id)) (number_to 44 id ++ codes "new\n") (new-word id) (within-rest text (number_to 44 id) rest (codes "new\n") e ends))
    by false ends = (r.Seen id, fits, within-same text (answer (r.Seen id)) (number_to 44 id ++ codes "seen\n") (seen-word id) (within-rest text (number_to 44 id) rest (codes "seen\n") e ends))
named-misses text rest id f.Wrong fits e misses = by
  where
    whole : (x : List ℕ) → text ++ x ≡ decimal id ++ 44 ∷ (rest ++ x)
    whole x = ap (λ (t : List ℕ). t ++ x) e ∙ append_assoc (number_to 44 id) rest x ∙ append_assoc (decimal id) (44 ∷ []) (rest ++ x)

    told : (n : ℕ) (word : List ℕ) → Differs rest word → Differs text (number_to 44 n ++ word)
    told n word differs x y same =
        differs x y (number-cancel id n 44 (rest ++ x) (word ++ y) fits refl
        (sym (whole x) ∙ same ∙ append_assoc (number_to 44 n) word y ∙ append_assoc (decimal n) (44 ∷ []) (word ++ y))).1

    by : (reply : Reply) → HasWordId reply → Differs text (answer reply)
    by (r.New n) other = differs-same text (answer (r.New n)) (number_to 44 n ++ codes "new\n") (new-word n) (told n (codes "new\n") (misses true tt))
    by (r.Seen n) other = differs-same text (answer (r.Seen n)) (number_to 44 n ++ codes "seen\n") (seen-word n) (told n (codes "seen\n") (misses false tt))
    by r.FullNodes other = λ x y same. comma-first id (44 ∷ []) (codes "full-nodes\n" ++ y) (rest ++ x) (sym (append_assoc (number_to 44 id) rest x) ∙ ap (λ (t : List ℕ). t ++ x) (sym e) ∙ same)
    by r.FullRoots other = λ x y same. comma-first id (44 ∷ []) (codes "full-roots\n" ++ y) (rest ++ x) (sym (append_assoc (number_to 44 id) rest x) ∙ ap (λ (t : List ℕ). t ++ x) (sym e) ∙ same)

-- the answer that stands there
pub full-reads : (text rest : List ℕ) (nodes : Bool) (reply : Reply) → reply ≡ (if nodes then r.FullNodes else r.FullRoots) → text ≡ one_of (codes ",full-nodes\n") (codes ",full-roots\n") nodes ++ rest
    → HasWordId reply × (text ≡ answer reply ++ rest)
full-reads text rest true reply is e = subst (λ (p : Reply). HasWordId p × (text ≡ answer p ++ rest)) (sym is) (tt, e)
full-reads text rest false reply is e = subst (λ (p : Reply). HasWordId p × (text ≡ answer p ++ rest)) (sym is) (tt, e)

pub named-reads : (text middle rest : List ℕ) (id : ℕ) (new : Bool) (reply : Reply) → id < 2 ^ 64 → reply ≡ (if new then r.New id else r.Seen id) → text ≡ number_to 44 id ++ middle
    → middle ≡ one_of (codes "new\n") (codes "seen\n") new ++ rest → HasWordId reply × (text ≡ answer reply ++ rest)
named-reads text middle rest id true reply fits is e more =
    subst (λ (p : Reply). HasWordId p × (text ≡ answer p ++ rest)) (sym is)
    (fits, e ∙ ap (λ (t : List ℕ). number_to 44 id ++ t) more ∙ sym (append_assoc (number_to 44 id) (codes "new\n") rest) ∙ ap (λ (t : List ℕ). t ++ rest) (sym (new-word id)))
named-reads text middle rest id false reply fits is e more =
    subst (λ (p : Reply). HasWordId p × (text ≡ answer p ++ rest)) (sym is)
    (fits, e ∙ ap (λ (t : List ℕ). number_to 44 id ++ t) more ∙ sym (append_assoc (number_to 44 id) (codes "seen\n") rest) ∙ ap (λ (t : List ℕ). t ++ rest) (sym (seen-word id)))

-- the same words, written in another way
module _ {A : Type 0} (word other : A → List ℕ) (fits : A → Type 0) (text : List ℕ) where
  pub misses-same : (fault : Fault) → ((a : A) → other a ≡ word a) → Misses word fits text fault → Misses other fits text fault
  misses-same f.Short same misses = (misses.0, misses.1, within-same text (other misses.0) (word misses.0) (same misses.0) misses.2)
  misses-same f.Wrong same misses = λ a fit. differs-same text (other a) (word a) (same a) (misses a fit)

  pub reads-same : (result : Result (A × Bor (List ℕ)) Fault) → ((a : A) → other a ≡ word a) → Reads word fits text result → Reads other fits text result
  reads-same (Ok r) same reads = (reads.0, reads.1 ∙ ap (λ (t : List ℕ). t ++ r.1.now) (sym (same r.0)))
  reads-same (Err fault) same reads = misses-same fault same reads
