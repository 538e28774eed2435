use Rattle.std.proofs.Common.{◌≡◌, ◌∙◌, ℕ, List, refl, sym, ap, subst}
use Rattle.cleary_core.specs.Access.{HasReached}
use Rattle.cleary_core.specs.Cells.{cell_at, word_count}
use Rattle.cleary_core.specs.Answers.{StayWithout, flagged}
use Rattle.cleary_core.specs.Change.{OnlyFlags}
use Rattle.cleary_core.specs.Map.{Key, KeepsMap}
use Rattle.cleary_core.specs.Search.{ReachesRun}
use Rattle.cleary_core.specs.declared.cells.Cell.{Cell}
use Rattle.cleary_core.specs.declared.cells.Sizes.{Sizes}
use Rattle.cleary_core.proofs.Flags.{keeps_flags, flagged_absent}
use Rattle.cleary_core.proofs.Placing.{found_here}
use Rattle.cleary_core.proofs.Reaching.{along_run}
use Rattle.cleary_core.proofs.region.Region.set_flags_in.Goals as goal

pub returns-in_default-clause-flagged : goal.returns-in_default-clause-flagged
returns-in_default-clause-flagged g c = subst (λ (z : Sizes). (keys : List Key) → KeepsMap z (g.A.WriteWords.words c.args.access.now) keys → KeepsMap z (g.A.WriteWords.words c.locate.new.access) (flagged c.args.home c.args.quotient c.args.value keys)) c.self.view_is
    (λ keys k.
    let old : List ℕ = g.A.WriteWords.words c.args.access.now in
    let same = (g.met.A.WriteWords.same c.args.access.now c.locate.new.access c.locate.ensures.reads).0 in
    let agrees : HasReached (g.A.ReadWords.reached c.locate.new.access) old = subst (λ (w : List ℕ). HasReached (g.A.ReadWords.reached c.locate.new.access) w) same (g.met.A.WriteWords.stands c.locate.new.access (word_count c.self.inside.sizes) c.locate.ensures.words).1 in
    let absent = c.in_default.ensures.found old keys agrees k in
    subst (λ (w : List ℕ). KeepsMap c.self.inside.sizes w (flagged c.args.home c.args.quotient c.args.value keys)) (sym same)
    (subst (λ (l : List Key). KeepsMap c.self.inside.sizes old l) (sym (flagged_absent c.args.home c.args.quotient c.args.value keys absent)) k))

pub returns-in_default-clause-kept : goal.returns-in_default-clause-kept
returns-in_default-clause-kept g c = (flagged c.args.home c.args.quotient c.args.value c.requires.kept.0, returns-in_default-clause-flagged g c c.requires.kept.0 c.requires.kept.1)

pub returns-clause-flagged : goal.returns-clause-flagged
returns-clause-flagged g c = subst (λ (z : Sizes). (keys : List Key) → KeepsMap z (g.A.WriteWords.words c.args.access.now) keys → KeepsMap z (g.A.WriteWords.words c.write_cell.new.access) (flagged c.args.home c.args.quotient c.args.value keys)) c.self.view_is
    (λ keys k.
    let old : List ℕ = g.A.WriteWords.words c.args.access.now in
    let same = (g.met.A.WriteWords.same c.args.access.now c.locate.new.access c.locate.ensures.reads).0 in
    let agrees : HasReached (g.A.ReadWords.reached c.locate.new.access) old = subst (λ (w : List ℕ). HasReached (g.A.ReadWords.reached c.locate.new.access) w) same (g.met.A.WriteWords.stands c.locate.new.access (word_count c.self.inside.sizes) c.locate.ensures.words).1 in
    let f = c.in-Some.ensures.found old keys agrees k in
    let cells : ℕ → Cell = cell_at c.self.inside.sizes (g.A.WriteWords.words c.args.access.now) in
    let read : g.A.WriteWords.words c.own_cell-here.new.access ≡ old = c.own_cell-here.ensures.same ∙ same in
    keeps_flags c.self.inside.sizes.cells cells keys k c.args.home c.args.quotient c.in-Some.at f.0 f.1 f.2 f.3
    (cell_at c.self.inside.sizes (g.A.WriteWords.words c.write_cell.new.access)) c.args.value
    (c.write_cell.ensures.here ∙ ap (λ (y : Cell). let z : Cell = record y { flags = c.args.value } in z) (c.own_cell-here.ensures.value ∙ ap (λ w. cell_at c.self.inside.sizes w c.in-Some.at) same))
    (λ j ne. c.write_cell.ensures.others j ne ∙ ap (λ w. cell_at c.self.inside.sizes w j) read))

pub returns-clause-kept : goal.returns-clause-kept
returns-clause-kept g c = (flagged c.args.home c.args.quotient c.args.value c.requires.kept.0, returns-clause-flagged g c c.requires.kept.0 c.requires.kept.1)

pub returns-in_default-clause-others : goal.returns-in_default-clause-others
returns-in_default-clause-others g c =
    let old : List ℕ = g.A.WriteWords.words c.args.access.now in
    let same = (g.met.A.WriteWords.same c.args.access.now c.locate.new.access c.locate.ensures.reads).0 in
    let z : Sizes = c.self.inside.sizes in
    let stays : OnlyFlags (cell_at z old) (cell_at z old) = record { place = 0; here = refl; others = λ j n. refl } in
    subst (λ (y : Sizes). OnlyFlags (cell_at y old) (cell_at y (g.A.WriteWords.words c.locate.new.access))) c.self.view_is
    (subst (λ (w : List ℕ). OnlyFlags (cell_at z old) (cell_at z w)) (sym same) stays)

pub returns-in_default-clause-absent : goal.returns-in_default-clause-absent
returns-in_default-clause-absent g c = record { stay = λ keys k absent. (g.met.A.WriteWords.same c.args.access.now c.locate.new.access c.locate.ensures.reads).0 }

pub returns-clause-others : goal.returns-clause-others
returns-clause-others g c =
    let old : List ℕ = g.A.WriteWords.words c.args.access.now in
    let new : List ℕ = g.A.WriteWords.words c.write_cell.new.access in
    let same = (g.met.A.WriteWords.same c.args.access.now c.locate.new.access c.locate.ensures.reads).0 in
    let z : Sizes = c.self.inside.sizes in
    let at = c.in-Some.at in
    let read : g.A.WriteWords.words c.own_cell-here.new.access ≡ old = c.own_cell-here.ensures.same ∙ same in
    let flags : cell_at z new at ≡ record (cell_at z old at) { flags = c.args.value } =
    c.write_cell.ensures.here ∙ ap (λ (y : Cell). let x : Cell = record y { flags = c.args.value } in x) (c.own_cell-here.ensures.value ∙ ap (λ w. cell_at z w at) same) in
    let only : OnlyFlags (cell_at z old) (cell_at z new) = record {
      place = at;
      here = flags ∙ ap (λ (f : ℕ). let x : Cell = record (cell_at z old at) { flags = f } in x) (sym (ap (λ (y : Cell). y.flags) flags));
      others = λ j ne. c.write_cell.ensures.others j ne ∙ ap (λ w. cell_at z w j) read;
    } in
    subst (λ (y : Sizes). OnlyFlags (cell_at y old) (cell_at y new)) c.self.view_is only

pub returns-clause-absent : goal.returns-clause-absent
returns-clause-absent g c =
    let old : List ℕ = g.A.WriteWords.words c.args.access.now in
    let new : List ℕ = g.A.WriteWords.words c.write_cell.new.access in
    subst (λ (z : Sizes). StayWithout z old new c.args.home c.args.quotient) c.self.view_is record {
      stay = λ keys k absent.
          let z : Sizes = c.self.inside.sizes in
          let same = (g.met.A.WriteWords.same c.args.access.now c.locate.new.access c.locate.ensures.reads).0 in
          let agrees : HasReached (g.A.ReadWords.reached c.locate.new.access) old = subst (λ (w : List ℕ). HasReached (g.A.ReadWords.reached c.locate.new.access) w) same (g.met.A.WriteWords.stands c.locate.new.access (word_count z) c.locate.ensures.words).1 in
          absurd (absent (found_here z.cells (cell_at z old) keys k c.args.home c.args.quotient c.in-Some.at (c.in-Some.ensures.found old keys agrees k)));
    }

pub returns-in_default-clause-near : goal.returns-in_default-clause-near
returns-in_default-clause-near g c =
    let old : List ℕ = g.A.WriteWords.words c.args.access.now in
    let same = (g.met.A.WriteWords.same c.args.access.now c.locate.new.access c.locate.ensures.reads).0 in
    let agrees : HasReached (g.A.ReadWords.reached c.locate.new.access) old = subst (λ (w : List ℕ). HasReached (g.A.ReadWords.reached c.locate.new.access) w) same (g.met.A.WriteWords.stands c.locate.new.access (word_count c.self.inside.sizes) c.locate.ensures.words).1 in
    let kept = subst (λ (z : Sizes). (keys : List Key) × KeepsMap z old keys) (sym c.self.view_is) c.requires.kept in
    subst (λ (z : Sizes). ReachesRun (g.A.ReadWords.reached c.args.access.now) (g.A.ReadWords.reached c.locate.new.access) z (cell_at z old) c.args.home) c.self.view_is
    (c.in_default.ensures.near old kept.0 agrees kept.1)

pub returns-clause-near : goal.returns-clause-near
returns-clause-near g c =
    let z : Sizes = c.self.inside.sizes in
    let old : List ℕ = g.A.WriteWords.words c.args.access.now in
    let cells : ℕ → Cell = cell_at z old in
    let same = (g.met.A.WriteWords.same c.args.access.now c.locate.new.access c.locate.ensures.reads).0 in
    let agrees : HasReached (g.A.ReadWords.reached c.locate.new.access) old = subst (λ (w : List ℕ). HasReached (g.A.ReadWords.reached c.locate.new.access) w) same (g.met.A.WriteWords.stands c.locate.new.access (word_count z) c.locate.ensures.words).1 in
    let kept = subst (λ (y : Sizes). (keys : List Key) × KeepsMap y old keys) (sym c.self.view_is) c.requires.kept in
    let f = c.in-Some.ensures.found old kept.0 agrees kept.1 in
    let read = along_run (g.A.ReadWords.reached c.args.access.now) (g.A.ReadWords.reached c.locate.new.access) (g.A.ReadWords.reached c.own_cell-here.new.access) z cells kept.0 kept.1 c.args.home c.in-Some.at f.0 f.1 f.2
    (c.in-Some.ensures.near old kept.0 agrees kept.1) c.own_cell-here.ensures.near in
    subst (λ (y : Sizes). ReachesRun (g.A.ReadWords.reached c.args.access.now) (g.A.ReadWords.reached c.write_cell.new.access) y (cell_at y old) c.args.home) c.self.view_is
    (along_run (g.A.ReadWords.reached c.args.access.now) (g.A.ReadWords.reached c.own_cell-here.new.access) (g.A.ReadWords.reached c.write_cell.new.access) z cells kept.0 kept.1 c.args.home c.in-Some.at f.0 f.1 f.2 read c.write_cell.ensures.near)
