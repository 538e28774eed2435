use Rattle.std.proofs.Common.{◌≡◌, ◌/◌, ◌+◌, ◌∙◌, ℕ, [], ◌∷◌, List, get_or, set, sym, ap, subst, arith}
use Rattle.cleary_core.specs.Cells.{word_count}
use Rattle.cleary_core.specs.Change.{BitsPut}
use Rattle.cleary_core.proofs.Splicing.{put_one, put_two}
use Rattle.cleary_core.proofs.Reaching.{bits_then, bits_at}
use Rattle.cleary_core.proofs.writing.write_bits.Goals as goal

pub word_at-low-requires-clause-inside : goal.word_at-low-requires-clause-inside
word_at-low-requires-clause-inside g c = let inside = c.requires.inside in let some = c.requires.bits in omega (arith, inside, some)

pub set_word-requires-clause-inside : goal.set_word-requires-clause-inside
set_word-requires-clause-inside g c = let inside = c.requires.inside in let some = c.requires.bits in omega (arith, inside, some)

pub returns-then-offset-bits-le64-clause-put : goal.returns-then-offset-bits-le64-clause-put
returns-then-offset-bits-le64-clause-put g c =
    let old : List ℕ = g.A.WriteWords.words c.args.access.now in
    let p : ℕ = c.args.at / 64 in
    let inside = c.requires.inside in
    let some = c.requires.bits in
    let long = (g.met.A.WriteWords.stands c.args.access.now (word_count c.args.sizes.now) c.requires.words).0 in
    subst (λ (w : List ℕ). BitsPut old w c.args.at c.args.bits c.args.number) (sym (c.set_word.ensures.put ∙ ap (λ w. set w p (get_or c.put.new.words 0 0)) c.word_at-low.ensures.same))
    (put_one old c.args.at c.args.bits c.args.number (c.word_at-low.result ∷ []) c.put.new.words c.put.ensures.value c.put.ensures.before c.put.ensures.after
    c.if-offset-bits-le64.true (omega (arith, long, inside, some)) c.word_at-low.ensures.value)

pub word_at-high-requires-clause-inside : goal.word_at-high-requires-clause-inside
word_at-high-requires-clause-inside g c = let inside = c.requires.inside in omega (arith, inside, c.if-offset-bits-le64.false)

pub set_word-requires-2-clause-inside : goal.set_word-requires-2-clause-inside
set_word-requires-2-clause-inside g c = let inside = c.requires.inside in let some = c.requires.bits in omega (arith, inside, some)

pub set_word-requires-3-clause-inside : goal.set_word-requires-3-clause-inside
set_word-requires-3-clause-inside g c = let inside = c.requires.inside in omega (arith, inside, c.if-offset-bits-le64.false)

pub returns-clause-put : goal.returns-clause-put
returns-clause-put g c =
    let old : List ℕ = g.A.WriteWords.words c.args.access.now in
    let p : ℕ = c.args.at / 64 in
    let after : List ℕ = c.put-2.new.words in
    let inside = c.requires.inside in
    let read : g.A.WriteWords.words c.word_at-high.new.access ≡ old = c.word_at-high.ensures.same ∙ c.word_at-low.ensures.same in
    let long = (g.met.A.WriteWords.stands c.args.access.now (word_count c.args.sizes.now) c.requires.words).0 in
    subst (λ (w : List ℕ). BitsPut old w c.args.at c.args.bits c.args.number)
    (sym (c.set_word-3.ensures.put ∙ ap (λ w. set w (p + 1) (get_or after 1 0)) (c.set_word-2.ensures.put ∙ ap (λ w. set w p (get_or after 0 0)) read)))
    (put_two old c.args.at c.args.bits c.args.number (c.word_at-low.result ∷ c.word_at-high.result ∷ []) after c.put-2.ensures.value c.put-2.ensures.before c.put-2.ensures.after
    c.requires.bits.1 (omega (arith, long, inside, c.if-offset-bits-le64.false))
    c.word_at-low.ensures.value (ap (λ w. get_or w (p + 1) 0) (sym c.word_at-low.ensures.same) ∙ c.word_at-high.ensures.value))

pub returns-then-offset-bits-le64-clause-near : goal.returns-then-offset-bits-le64-clause-near
returns-then-offset-bits-le64-clause-near g c =
    let some = c.requires.bits in
    bits_then (g.A.ReadWords.reached c.args.access.now) (g.A.ReadWords.reached c.word_at-low.new.access) (g.A.ReadWords.reached c.set_word.new.access) c.args.at c.args.bits
    (bits_at (g.A.ReadWords.reached c.args.access.now) (g.A.ReadWords.reached c.word_at-low.new.access) c.args.at c.args.bits (c.args.at / 64) c.word_at-low.ensures.only (omega arith, omega (arith, some)))
    (bits_at (g.A.ReadWords.reached c.word_at-low.new.access) (g.A.ReadWords.reached c.set_word.new.access) c.args.at c.args.bits (c.args.at / 64) c.set_word.ensures.only (omega arith, omega (arith, some)))

pub returns-clause-near : goal.returns-clause-near
returns-clause-near g c =
    let some = c.requires.bits in
    let past = c.if-offset-bits-le64.false in
    bits_then (g.A.ReadWords.reached c.args.access.now) (g.A.ReadWords.reached c.set_word-2.new.access) (g.A.ReadWords.reached c.set_word-3.new.access) c.args.at c.args.bits
    (bits_then (g.A.ReadWords.reached c.args.access.now) (g.A.ReadWords.reached c.word_at-high.new.access) (g.A.ReadWords.reached c.set_word-2.new.access) c.args.at c.args.bits
    (bits_then (g.A.ReadWords.reached c.args.access.now) (g.A.ReadWords.reached c.word_at-low.new.access) (g.A.ReadWords.reached c.word_at-high.new.access) c.args.at c.args.bits
    (bits_at (g.A.ReadWords.reached c.args.access.now) (g.A.ReadWords.reached c.word_at-low.new.access) c.args.at c.args.bits (c.args.at / 64) c.word_at-low.ensures.only (omega arith, omega (arith, some)))
    (bits_at (g.A.ReadWords.reached c.word_at-low.new.access) (g.A.ReadWords.reached c.word_at-high.new.access) c.args.at c.args.bits (c.args.at / 64 + 1) c.word_at-high.ensures.only (omega arith, omega (arith, past))))
    (bits_at (g.A.ReadWords.reached c.word_at-high.new.access) (g.A.ReadWords.reached c.set_word-2.new.access) c.args.at c.args.bits (c.args.at / 64) c.set_word-2.ensures.only (omega arith, omega (arith, some))))
    (bits_at (g.A.ReadWords.reached c.set_word-2.new.access) (g.A.ReadWords.reached c.set_word-3.new.access) c.args.at c.args.bits (c.args.at / 64 + 1) c.set_word-3.ensures.only (omega arith, omega (arith, past)))
