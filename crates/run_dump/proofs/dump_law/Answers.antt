use Rattle.run_dump.proofs.Shown.{histories_are_shown, objects_are_shown, runs_are_shown, trees_are_shown}
use Rattle.run_dump.proofs.dump_law.Goals as goal

pub returns : goal.returns
returns c = record { objects = objects_are_shown; trees = trees_are_shown; histories = histories_are_shown; runs = runs_are_shown }
