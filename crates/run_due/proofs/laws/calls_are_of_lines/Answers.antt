use Rattle.run_due.proofs.Beginning.{calls_are_of_lines, ended_runs}
use Rattle.run_due.proofs.laws.calls_are_of_lines.Goals as goal

pub returns : goal.returns
returns c = record { so_far = calls_are_of_lines; ended = ended_runs }
