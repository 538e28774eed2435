use Rattle.std.proofs.Common.{rules, ◌≡◌, ◌≢◌, ◌∙◌, [], ◌∷◌, map, string_bytes, sym, inl, inr}
use Rattle.clap.specs.Words.{HasKind, Kinds, app_of, fault_of, kind_of}
use Rattle.clap.specs.declared.error.Error.{Error}
use Rattle.clap.specs.declared.error.kind.ErrorKind.TheVariants.{OutOfMemory}
use Rattle.command_line.specs.Command.{simple_command}
use Rattle.command_line.proofs.ReadLemmas.{faults-of, free-of, values-read}
use Rattle.command_line.proofs.words.matches_of.Goals as goal

pub returns-in-Ok-try_get_matches_from-clause-taken : goal.returns-in-Ok-try_get_matches_from-clause-taken
returns-in-Ok-try_get_matches_from-clause-taken c =
    let words = map string_bytes c.args.words.now in
    let app : app_of c.in-Ok.command ≡ simple_command = c.in-Ok.ensures in
    sym (faults-of c.in-Ok.command words app) ∙ c.in-Ok-try_get_matches_from.ensures.kinds (free-of c.in-Ok.command app)

pub returns-in-Ok-try_get_matches_from-clause-values : goal.returns-in-Ok-try_get_matches_from-clause-values
returns-in-Ok-try_get_matches_from-clause-values c =
    let words = map string_bytes c.args.words.now in
    let app : app_of c.in-Ok.command ≡ simple_command = c.in-Ok.ensures in
    let found = c.in-Ok-try_get_matches_from in
    values-read c.in-Ok.command words found.matches app found.ensures.matches

-- an error that is no want of memory has a fault for its kind
some-fault : (faults : Kinds) (e : Error) → HasKind faults e → kind_of e ≢ OutOfMemory → faults ≢ []
some-fault [] e (inl h) other none = other h
some-fault [] e (inr h) other none = h
some-fault (f ∷ fs) e h other none = cc none

pub returns-else-eq-clause-refused : goal.returns-else-eq-clause-refused
returns-else-eq-clause-refused c =
    let words = map string_bytes c.args.words.now in
    let app : app_of c.in-Ok.command ≡ simple_command = c.in-Ok.ensures in
    let other : kind_of c.in-Err.error ≢ OutOfMemory = search rules in
    let some = some-fault (fault_of (app_of c.in-Ok.command) words) c.in-Err.error (c.in-Err.ensures.kinds (free-of c.in-Ok.command app)) other in
    λ _ none. some (faults-of c.in-Ok.command words app ∙ none)
