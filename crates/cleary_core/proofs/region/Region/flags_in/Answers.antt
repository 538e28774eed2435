use Rattle.std.proofs.Common.{◌≡◌, ◌∙◌, ℕ, List, length, sym, ap, subst}
use Rattle.cleary_core.specs.Access.{HasReached}
use Rattle.cleary_core.specs.Answers.{DecidesFlags}
use Rattle.cleary_core.specs.Cells.{cell_at, word_count}
use Rattle.cleary_core.specs.Map.{Key, KeepsMap}
use Rattle.cleary_core.specs.Search.{ReachesRun}
use Rattle.cleary_core.specs.declared.cells.Cell.{Cell}
use Rattle.cleary_core.specs.declared.cells.Sizes.{Sizes}
use Rattle.cleary_core.proofs.Flags.{flags_here}
use Rattle.cleary_core.proofs.Reaching.{earlier, along_run}
use Rattle.cleary_core.proofs.region.Region.flags_in.Goals as goal

pub returns-in-Some-clause-decided : goal.returns-in-Some-clause-decided
returns-in-Some-clause-decided g c =
    subst (λ (z : Sizes). DecidesFlags z (g.A.ReadWords.reached c.read_cell.new.access) c.args.home c.args.quotient c.read_cell.result.flags) c.self.view_is
    (λ words keys long agrees kept k has h q.
    let before = earlier (g.A.ReadWords.reached c.locate.new.access) (g.A.ReadWords.reached c.read_cell.new.access) words (g.met.A.ReadWords.keeps c.locate.new.access c.read_cell.new.access c.read_cell.ensures.reads).1 agrees in
    let f = c.in-Some.ensures.found words keys before kept in
    ap (λ (x : Cell). x.flags) (sym (c.read_cell.ensures.value words agrees))
    ∙ flags_here c.self.inside.sizes.cells (cell_at c.self.inside.sizes words) keys kept c.args.home c.args.quotient c.in-Some.at f.0 f.1 f.2 f.3 k has h q)

pub returns-in-None-clause-decided : goal.returns-in-None-clause-decided
returns-in-None-clause-decided g c =
    subst (λ (z : Sizes). DecidesFlags z (g.A.ReadWords.reached c.locate.new.access) c.args.home c.args.quotient 0) c.self.view_is
    (λ words keys long agrees kept k has h q. absurd (c.in-None.ensures.found words keys agrees kept (k, has, h, q)))

pub returns-in-Some-clause-near : goal.returns-in-Some-clause-near
returns-in-Some-clause-near g c =
    subst
    (λ (z : Sizes). (words : List ℕ) (keys : List Key) → length words ≡ word_count z → HasReached (g.A.ReadWords.reached c.read_cell.new.access) words → KeepsMap z words keys
    → ReachesRun (g.A.ReadWords.reached c.args.access.now) (g.A.ReadWords.reached c.read_cell.new.access) z (cell_at z words) c.args.home) c.self.view_is
    (λ words keys long agrees kept.
    let before = earlier (g.A.ReadWords.reached c.locate.new.access) (g.A.ReadWords.reached c.read_cell.new.access) words (g.met.A.ReadWords.keeps c.locate.new.access c.read_cell.new.access c.read_cell.ensures.reads).1 agrees in
    let f = c.in-Some.ensures.found words keys before kept in
    along_run (g.A.ReadWords.reached c.args.access.now) (g.A.ReadWords.reached c.locate.new.access) (g.A.ReadWords.reached c.read_cell.new.access) c.self.inside.sizes (cell_at c.self.inside.sizes words) keys kept c.args.home c.in-Some.at f.0 f.1 f.2
    (c.in-Some.ensures.near words keys before kept) c.read_cell.ensures.near)

pub returns-in-None-clause-near : goal.returns-in-None-clause-near
returns-in-None-clause-near g c =
    subst
    (λ (z : Sizes). (words : List ℕ) (keys : List Key) → length words ≡ word_count z → HasReached (g.A.ReadWords.reached c.locate.new.access) words → KeepsMap z words keys
    → ReachesRun (g.A.ReadWords.reached c.args.access.now) (g.A.ReadWords.reached c.locate.new.access) z (cell_at z words) c.args.home) c.self.view_is
    (λ words keys long agrees kept. c.in-None.ensures.near words keys agrees kept)
