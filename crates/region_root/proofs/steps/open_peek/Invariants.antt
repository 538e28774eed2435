use Rattle.std.specs.Prelude.{None}
use Rattle.region_root.proofs.steps.open_peek.Given as goal

abbrev pub ghosts-load_wanted : goal.ghosts-load_wanted
ghosts-load_wanted g a = record { ending = None; wanted = a.pair }
