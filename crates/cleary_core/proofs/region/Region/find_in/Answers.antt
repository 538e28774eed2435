use Rattle.std.proofs.Common.{true, false, subst, ◌≡◌, ℕ, List, length}
use Rattle.cleary_core.specs.Answers.{Decides}
use Rattle.cleary_core.specs.Cells.{cell_at, word_count}
use Rattle.cleary_core.specs.declared.cells.Sizes.{Sizes}
use Rattle.cleary_core.proofs.Placing.{found_here}
use Rattle.cleary_core.specs.Access.{HasReached}
use Rattle.cleary_core.specs.Map.{Key, KeepsMap}
use Rattle.cleary_core.specs.Search.{ReachesRun}
use Rattle.cleary_core.proofs.region.Region.find_in.Goals as goal

pub returns-in-Some-clause-decided : goal.returns-in-Some-clause-decided
returns-in-Some-clause-decided g c =
    let z : Sizes = c.self.inside.sizes in
    subst (λ (z : Sizes). Decides z (g.A.ReadWords.reached c.locate.new.access) c.args.home c.args.quotient true) c.self.view_is
    (λ words keys long agrees k. found_here z.cells (cell_at c.self.inside.sizes words) keys k c.args.home c.args.quotient c.in-Some.field-0 (c.in-Some.ensures.found words keys agrees k))

pub returns-in-None-clause-decided : goal.returns-in-None-clause-decided
returns-in-None-clause-decided g c =
    subst (λ (z : Sizes). Decides z (g.A.ReadWords.reached c.locate.new.access) c.args.home c.args.quotient false) c.self.view_is
    (λ words keys long agrees k. c.in-None.ensures.found words keys agrees k)

pub returns-in-Some-clause-near : goal.returns-in-Some-clause-near
returns-in-Some-clause-near g c =
    subst
    (λ (z : Sizes). (words : List ℕ) (keys : List Key) → length words ≡ word_count z → HasReached (g.A.ReadWords.reached c.locate.new.access) words → KeepsMap z words keys
    → ReachesRun (g.A.ReadWords.reached c.args.access.now) (g.A.ReadWords.reached c.locate.new.access) z (cell_at z words) c.args.home) c.self.view_is
    (λ words keys long agrees k. c.in-Some.ensures.near words keys agrees k)

pub returns-in-None-clause-near : goal.returns-in-None-clause-near
returns-in-None-clause-near g c =
    subst
    (λ (z : Sizes). (words : List ℕ) (keys : List Key) → length words ≡ word_count z → HasReached (g.A.ReadWords.reached c.locate.new.access) words → KeepsMap z words keys
    → ReachesRun (g.A.ReadWords.reached c.args.access.now) (g.A.ReadWords.reached c.locate.new.access) z (cell_at z words) c.args.home) c.self.view_is
    (λ words keys long agrees k. c.in-None.ensures.near words keys agrees k)
