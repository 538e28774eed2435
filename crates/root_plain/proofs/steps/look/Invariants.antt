use Rattle.root_plain.specs.Plays.{wants}
use Rattle.root_plain.proofs.steps.look.Given as goal

abbrev pub ghosts-load_asked : goal.ghosts-load_asked
ghosts-load_asked g a = record { wanted = wants a.wanted.now }
