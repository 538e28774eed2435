use Rattle.std.proofs.Common.{rules, ◌≡◌, ◌∙◌, map, string_bytes, sym}
use Rattle.command_line.specs.Choose.{chosen}
use Rattle.command_line.proofs.ChosenLemmas.{chosen-refused, chosen-taken, err-chosen, ok-chosen}
use Rattle.command_line.proofs.words.choose.Goals as goal

pub returns-in_err-matches-clause-refused : goal.returns-in_err-matches-clause-refused
returns-in_err-matches-clause-refused c =
    λ usage. chosen-refused (map string_bytes c.args.words.now) (c.in_err-matches.ensures.refused (search rules))

pub returns-clause-chosen : goal.returns-clause-chosen
returns-clause-chosen c =
    let found = c.in_ok-matches.ensures in
    let same : chosen (map string_bytes c.args.words.now) ≡ c.kept.result =
    chosen-taken (map string_bytes c.args.words.now) _ found.taken found.values ∙ sym c.kept.ensures.value in
    ok-chosen _ c.kept.result c.ok_or.result same c.ok_or.ensures.value

pub returns-clause-refused : goal.returns-clause-refused
returns-clause-refused c =
    let found = c.in_ok-matches.ensures in
    let same : chosen (map string_bytes c.args.words.now) ≡ c.kept.result =
    chosen-taken (map string_bytes c.args.words.now) _ found.taken found.values ∙ sym c.kept.ensures.value in
    err-chosen _ c.kept.result c.ok_or.result same c.ok_or.ensures.value
