use Rattle.std.proofs.Common.{arith, refl, sym, ap, ◌∙◌, ◌≡◌, ◌+◌, ◌<◌, subst, ◌∷◌, ℕ}
use Rattle.pair_rule.specs.Rest.{view}
use Rattle.region_root.specs.declared.root.Reading.{Reading}
use Rattle.region_root.specs.Plays.{reloaded, place_in}
use Rattle.region_root.proofs.Catching.{head_of}
use Rattle.region_root.proofs.Tables.{place_inside, words_small}
use Rattle.region_root.proofs.Resting.{read_allowed, read_place, holds_none, rests_root}
use Rattle.region_root.proofs.steps.load_peeked.Goals as goal

pub overflow_add-from : goal.overflow_add-from
overflow_add-from g c =
    let q = c.requires.reader in
    let low = place_inside g.row.W g.row.F c.args.table.now c.shared-shared.ensures.store q.0.region c.args.from c.args.place q.2 q.3 c.requires.inside in
    let small = words_small g.row.W g.row.F c.args.table.now c.shared-shared.ensures.store in
    omega (arith, low, small)

pub load-requires : goal.load-requires
load-requires g c =
    let e = c.shared-shared.ensures in
    let q = c.requires.reader in (
      c.requires.rest.seat.table_is ∙ sym e.table,
      subst (λ t. c.args.from + c.args.place < t.words) (sym e.table) (place_inside g.row.W g.row.F c.args.table.now e.store q.0.region c.args.from c.args.place q.2 q.3 c.requires.inside),
      read_allowed g.row.W g.row.F c.args.table.now c.args.pass.now c.requires.rest q.0 q.1 c.shared-shared.result.now.key.about _ c.args.from c.args.place _ e.key q.3 refl c.requires.inside,
    )

pub returns-clause-view : goal.returns-clause-view
returns-clause-view g c = λ q reader.
    let r = c.requires.reader in
    let v = view c.args.pass.now in
    let one = head_of r.0 q v.root.reader r.1 reader in
    let here = subst (λ (u : Reading). place_in v.about (c.args.from + c.args.place) u.region ≡ c.args.place) one (read_place g.row.W g.row.F c.args.table.now c.args.pass.now c.requires.rest r.0 r.1 c.args.from c.args.place _ r.3 refl) in
    c.load.ensures.2.1 q reader ∙ ap (λ (k : ℕ). reloaded ((k, c.load.result) ∷ q.loads) q v) here

pub returns-clause-rest : goal.returns-clause-rest
returns-clause-rest g c =
    let r = c.requires.reader in
    rests_root g.row.W g.row.F c.args.table.now c.args.pass.now _ _ c.requires.rest c.load.ensures.0 c.load.ensures.2.0 (c.load.ensures.2.1 r.0 r.1) (holds_none g.row.W g.row.F c.args.table.now c.args.pass.now c.requires.rest) refl
