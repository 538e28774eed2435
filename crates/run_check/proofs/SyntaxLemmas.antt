-- Where a report is wrong that is read a line after a line.
use Rattle.std.proofs.Common.{◌⊎◌, inl, inr, ◌≡◌, ◌<◌, ◌+◌, ◌∙◌, ℕ, List, [], ◌∷◌, ◌++◌, length, take, drop, sym, ap, subst, arith, append_assoc, length-append}
use Rattle.std.proofs.lemmas.List.{append-nil}
use Rattle.std.specs.List.{concat}
use Rattle.tdb_base.specs.declared.reply.Reply.{Reply}
use Rattle.run_check.specs.Reading.{Differs, Misses, wrong_line}
use Rattle.run_check.specs.Text.{BeginsReport, IsReportOf, IsWrongAt, text_lines, to_line}
use Rattle.run_check.specs.declared.word.Fault.{Fault}
use Rattle.run_check.specs.declared.word.Fault.TheVariants as f
use Rattle.run_check.proofs.LineLemmas.{IsLines, NoFeed, feed-cancel, first-line, front-no-feed, lines-count, lines-last, lines-more, lines-nil, lines-word, no-feed-has, to-line-front, to-line-next, to-line-rest}

-- some bytes and a line feed
pub record IsLine (word : List ℕ) : Type 0 where
  pub body : List ℕ
  pub none : NoFeed body
  pub whole : word ≡ body ++ 10 ∷ []

pub begins-front : (lines : ℕ) (p x q : List ℕ) → q ≡ p ++ x → BeginsReport lines q → BeginsReport lines p
begins-front lines p x q e begins = record {
  more = x ++ begins.more;
  replies = begins.replies;
  whole = subst (λ (t : List ℕ). IsReportOf lines t begins.replies) (ap (λ (t : List ℕ). t ++ begins.more) e ∙ append_assoc p x begins.more) begins.whole;
}

-- so many whole lines are read, and a report goes on from there by these texts
pub record At (lines : ℕ) (front : List ℕ) (k : ℕ) (T : List ℕ → Type 0) : Type 0 where
  pub lines_read : IsLines front k
  pub from : (t : List ℕ) (replies : List Reply) → IsReportOf lines (front ++ t) replies → T t
  pub to : (t : List ℕ) → T t → (replies : List Reply) × IsReportOf lines (front ++ t) replies
  pub some : (t : List ℕ) × T t

-- such a text is over or begins with the word of a value, after which others follow
pub record Step {A : Type 0} (T : List ℕ → Type 0) (word : A → List ℕ) (fits : A → Type 0) (T' : A → List ℕ → Type 0) : Type 0 where
  pub split : (t : List ℕ) → 0 < length t → T t → (a : A) × (y : List ℕ) × fits a × (t ≡ word a ++ y) × T' a y
  pub join : (a : A) (y : List ℕ) → fits a → T' a y → T (word a ++ y)
  pub more : (a : A) → fits a → (y : List ℕ) × T' a y
  pub some : (a : A) × fits a
  pub line : (a : A) → fits a → IsLine (word a)
  pub cancel : (a b : A) (x y : List ℕ) → fits a → fits b → word a ++ x ≡ word b ++ y → (a ≡ b) × (x ≡ y)

-- the same texts, said in another way
pub at-same : (lines : ℕ) (front : List ℕ) (k : ℕ) (T T' : List ℕ → Type 0) → ((t : List ℕ) → T t → T' t) → ((t : List ℕ) → T' t → T t) → At lines front k T → At lines front k T'
at-same lines front k T T' there back old = record {
  lines_read = old.lines_read;
  from = λ t replies whole. there t (old.from t replies whole);
  to = λ t other. old.to t (back t other);
  some = (old.some.0, there old.some.0 old.some.1);
}

line-some : (word : List ℕ) → IsLine word → (y : List ℕ) → 0 < length (word ++ y)
line-some word line y = let whole = ap length line.whole in let size = length-append line.body (10 ∷ []) in let all = length-append word y in omega arith

module _ (lines : ℕ) (front : List ℕ) (k : ℕ) (T : List ℕ → Type 0) (old : At lines front k T) where
  begins-front-at : BeginsReport lines front
  begins-front-at =
      let whole = old.to old.some.0 old.some.1 in
      record { more = old.some.0; replies = whole.0; whole = whole.1 }

  -- the line that begins here is wrong
  pub wrong-here : (bytes tail : List ℕ) → bytes ≡ front ++ tail → 0 < length (text_lines tail) → ((more : List ℕ) → T (to_line 1 tail ++ more) → ⊥) → IsWrongAt lines bytes (k + 1)
  wrong-here bytes tail e some bad = subst (λ (bs : List ℕ). IsWrongAt lines bs (k + 1)) (sym e) (record {
    none = λ replies whole. bad (concat (drop 1 (text_lines tail))) (subst T (sym (to-line-rest 1 tail)) (old.from tail replies whole));
    before = λ m less. (let end = to-line-front front k old.lines_read tail m (omega arith) in begins-front lines (to_line m (front ++ tail)) end.0 front end.1 begins-front-at);
    here = inl (omega arith, (let count = lines-count front k old.lines_read tail in omega arith), λ begins. wrong begins);
  })
    where
      wrong : BeginsReport lines (to_line (k + 1) (front ++ tail)) → ⊥
      wrong begins =
          let next = to-line-next front k old.lines_read tail in
          let whole = subst (λ (p : List ℕ). IsReportOf lines (p ++ begins.more) begins.replies) next begins.whole in
          bad begins.more (old.from (to_line 1 tail ++ begins.more) begins.replies
          (subst (λ (p : List ℕ). IsReportOf lines p begins.replies) (append_assoc front (to_line 1 tail) begins.more) whole))

  -- all of it is right, and too short
  pub wrong-after : (bytes tail : List ℕ) (n : ℕ) → bytes ≡ front ++ tail → (T tail → ⊥) → BeginsReport lines bytes → n ≡ length (text_lines bytes) + 1 → IsWrongAt lines bytes n
  wrong-after bytes tail n e bad begins last = record {
    none = λ replies whole. bad (old.from tail replies (subst (λ (p : List ℕ). IsReportOf lines p replies) e whole));
    before = λ m less. begins-front lines (to_line m bytes) (concat (drop m (text_lines bytes))) bytes (sym (to-line-rest m bytes)) begins;
    here = inr last;
  }

  module _ {A : Type 0} (word : A → List ℕ) (fits : A → Type 0) (T' : A → List ℕ → Type 0) (step : Step T word fits T') where
    pub advance : (a : A) → fits a → At lines (front ++ word a) (k + 1) (T' a)
    advance a fit = record {
      lines_read = (let line = step.line a fit in subst (λ (w : List ℕ). IsLines (front ++ w) (k + 1)) (sym line.whole) (lines-more front line.body k old.lines_read line.none));
      from = λ t replies whole. from t (old.from (word a ++ t) replies (subst (λ (p : List ℕ). IsReportOf lines p replies) (append_assoc front (word a) t) whole));
      to = λ t rest. (let whole = old.to (word a ++ t) (step.join a t fit rest) in
          (whole.0, subst (λ (p : List ℕ). IsReportOf lines p whole.0) (sym (append_assoc front (word a) t)) whole.1));
      some = step.more a fit;
    }
      where
        from : (t : List ℕ) → T (word a ++ t) → T' a t
        from t rest =
            let parts = step.split (word a ++ t) (line-some (word a) (step.line a fit) t) rest in
            let same = step.cancel a parts.0 t parts.1 fit parts.2 parts.3 in
            subst (λ (b : A). T' b t) (sym same.0) (subst (T' parts.0) (sym same.1) parts.4)

    miss-wrong : (tail : List ℕ) → 0 < length tail → ((a : A) → fits a → Differs tail (word a))
        → (0 < length (text_lines tail)) × ((more : List ℕ) → T (to_line 1 tail ++ more) → ⊥)
    miss-wrong [] some differs = absurd (omega arith)
    miss-wrong (b ∷ rest) some differs = by (first-line (b ∷ rest))
      where
        by : NoFeed (b ∷ rest) ⊎ ((body : List ℕ) × (after : List ℕ) × NoFeed body × (b ∷ rest ≡ body ++ 10 ∷ after))
            → (0 < length (text_lines (b ∷ rest))) × ((more : List ℕ) → T (to_line 1 (b ∷ rest) ++ more) → ⊥)
        by (inl none) =
            let one = lines-last b rest none in
            let line : to_line 1 (b ∷ rest) ≡ b ∷ rest = ap (λ (ls : List (List ℕ)). concat (take 1 ls)) one ∙ append-nil (b ∷ rest) in (
              let count = ap length one in omega arith,
              λ more goes. (let parts = step.split ((b ∷ rest) ++ more) (omega arith) (subst (λ (p : List ℕ). T (p ++ more)) line goes) in
                  differs parts.0 parts.2 more parts.1 parts.3),
            )
        by (inr has) =
            let one = ap text_lines has.3 ∙ lines-word has.0 has.1 has.2 in
            let line : to_line 1 (b ∷ rest) ≡ has.0 ++ 10 ∷ [] = ap (λ (ls : List (List ℕ)). concat (take 1 ls)) one ∙ append-nil (has.0 ++ 10 ∷ []) in (
              let count = ap length one in omega arith,
              λ more goes. bad more (subst (λ (p : List ℕ). T (p ++ more)) line goes),
            )
          where
            bad : (more : List ℕ) → T ((has.0 ++ 10 ∷ []) ++ more) → ⊥
            bad more goes =
                let size = length-append has.0 (10 ∷ []) in
                let all = length-append (has.0 ++ 10 ∷ []) more in
                let parts = step.split ((has.0 ++ 10 ∷ []) ++ more) (omega arith) goes in
                let it = step.line parts.0 parts.2 in
                let both : has.0 ++ 10 ∷ more ≡ it.body ++ 10 ∷ parts.1 =
                sym (append_assoc has.0 (10 ∷ []) more) ∙ parts.3 ∙ ap (λ (w : List ℕ). w ++ parts.1) it.whole ∙ append_assoc it.body (10 ∷ []) parts.1 in
                let same = feed-cancel has.0 it.body more parts.1 has.2 it.none both in
                differs parts.0 parts.2 [] has.1
                (append-nil (b ∷ rest) ∙ has.3 ∙ sym (append_assoc has.0 (10 ∷ []) has.1) ∙ ap (λ (u : List ℕ). (u ++ 10 ∷ []) ++ has.1) same ∙ ap (λ (w : List ℕ). w ++ has.1) (sym it.whole))

    -- the text misses each word that may stand here
    pub miss : (bytes tail : List ℕ) (fault : Fault) → bytes ≡ front ++ tail → Misses word fits tail fault → (T tail → 0 < length tail) → IsWrongAt lines bytes (wrong_line (k + 1) tail fault)
    miss bytes [] f.Wrong e differs goes = absurd (differs step.some.0 step.some.1 (word step.some.0) [] (sym (append-nil (word step.some.0))))
    miss bytes (b ∷ rest) f.Wrong e differs goes =
        let bad = miss-wrong (b ∷ rest) (omega arith) differs in
        wrong-here bytes (b ∷ rest) e bad.0 bad.1
    miss bytes tail f.Short e ends goes = wrong-after bytes tail (wrong_line (k + 1) tail f.Short) e (λ whole. bad whole) begins (count tail e none)
      where
        it : IsLine (word ends.0)
        it = step.line ends.0 ends.1

        none : NoFeed tail
        none = front-no-feed tail it.body ends.2.0 ends.2.1 it.none (sym it.whole ∙ ends.2.2)

        bad : T tail → ⊥
        bad whole =
            let parts = step.split tail (goes whole) whole in
            let that = step.line parts.0 parts.2 in
            no-feed-has that.body parts.1 (subst NoFeed (parts.3 ∙ ap (λ (w : List ℕ). w ++ parts.1) that.whole ∙ append_assoc that.body (10 ∷ []) parts.1) none)

        begins : BeginsReport lines bytes
        begins =
            let rest = step.more ends.0 ends.1 in
            let whole = old.to (word ends.0 ++ rest.0) (step.join ends.0 rest.0 ends.1 rest.1) in
            let text : front ++ (word ends.0 ++ rest.0) ≡ bytes ++ ((ends.2.0 ∷ ends.2.1) ++ rest.0) =
            ap (λ (w : List ℕ). front ++ (w ++ rest.0)) ends.2.2 ∙ ap (λ (t : List ℕ). front ++ t) (append_assoc tail (ends.2.0 ∷ ends.2.1) rest.0)
            ∙ sym (append_assoc front tail ((ends.2.0 ∷ ends.2.1) ++ rest.0)) ∙ ap (λ (p : List ℕ). p ++ ((ends.2.0 ∷ ends.2.1) ++ rest.0)) (sym e) in
            record { more = (ends.2.0 ∷ ends.2.1) ++ rest.0; replies = whole.0; whole = subst (λ (p : List ℕ). IsReportOf lines p whole.0) text whole.1 }

        count : (t : List ℕ) → bytes ≡ front ++ t → NoFeed t → wrong_line (k + 1) t f.Short ≡ length (text_lines bytes) + 1
        count [] e none = let all = lines-count front k old.lines_read [] in let nil = ap length lines-nil in let same = ap (λ (bs : List ℕ). length (text_lines bs)) e in omega arith
        count (b ∷ rest) e none =
            let all = lines-count front k old.lines_read (b ∷ rest) in let one = ap length (lines-last b rest none) in let same = ap (λ (bs : List ℕ). length (text_lines bs)) e in omega arith
