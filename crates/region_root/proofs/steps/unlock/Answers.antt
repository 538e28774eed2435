use Rattle.std.proofs.Common.{arith, refl, sym, ap, ◌∙◌, subst, ◌≡◌, ◌+◌, ◌<◌, ℕ}
use Rattle.pair_rule.specs.Plays.{first_root}
use Rattle.region_root.specs.Layout.{regions}
use Rattle.region_root.specs.Plays.{IsNextLock}
use Rattle.region_root.specs.Work.{ending_of, gives_name}
use Rattle.region_root.proofs.Resting.{mark, free_allowed, few_names, freed_rests}
use Rattle.region_root.proofs.steps.unlock.Goals as goal

pub lock_word-word-requires : goal.lock_word-word-requires
lock_word-word-requires g c =
    let w = c.requires.work in
    (omega arith, (omega arith, subst (λ (k : ℕ). k < regions c.args.table.now.about) w.3 w.2.region))

pub swap_ending-requires-clause-rule : goal.swap_ending-requires-clause-rule
swap_ending-requires-clause-rule g c =
    let w = c.requires.work in
    let here : first_root c.args.table.now.about + w.0.region ≡ c.lock_word-word.result = ap (λ (k : ℕ). first_root c.args.table.now.about + k) w.3 ∙ sym c.lock_word-word.ensures.place in
    free_allowed g.row.W g.row.F c.args.table.now w.0 c.args.pass.now w.2 c.shared.result.now.key.about _ c.lock_word-word.result c.next_even.result (ending_of c.args.ending.now) w.1 c.shared.ensures.key here
    (subst (λ (o : ℕ). IsNextLock o c.next_even.result) (sym w.4) c.next_even.ensures) w.5 w.6

pub overflow_add-pass : goal.overflow_add-pass
overflow_add-pass g c = let w = c.requires.work in let few = few_names g.row.W g.row.F c.args.table.now w.0 c.args.pass.now w.2 in omega (arith, few)

pub returns-then-is_new-clause-rest : goal.returns-then-is_new-clause-rest
returns-then-is_new-clause-rest g c =
    let w = c.requires.work in
    let new : gives_name (ending_of c.args.ending.now) ≡ _ = sym c.is_new.ensures ∙ c.if-is_new.true in
    freed_rests g.row.W g.row.F c.args.table.now w.0 c.args.pass.now w.2 _ (ending_of c.args.ending.now) c.shared.ensures.store c.swap_ending.ensures.seat c.swap_ending.ensures.told refl (ap (λ b. c.args.pass.now.names_count + mark b) (sym new))

pub returns-else-is_new-clause-rest : goal.returns-else-is_new-clause-rest
returns-else-is_new-clause-rest g c =
    let w = c.requires.work in
    let new : gives_name (ending_of c.args.ending.now) ≡ _ = sym c.is_new.ensures ∙ c.if-is_new.false in
    freed_rests g.row.W g.row.F c.args.table.now w.0 c.args.pass.now w.2 _ (ending_of c.args.ending.now) c.shared.ensures.store c.swap_ending.ensures.seat c.swap_ending.ensures.told refl (omega (arith, ap mark new))
