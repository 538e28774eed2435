use Rattle.region_root.specs.Work.{ending_of}
use Rattle.region_root.proofs.steps.unlock.Given as goal

abbrev pub ghosts-swap_ending : goal.ghosts-swap_ending
ghosts-swap_ending g a = record { ending = ending_of a.ending.now; wanted = 0 }
