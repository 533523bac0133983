use Rattle.run_leaving.proofs.Leaving.{few_stay, limits_are_told, tokens_leave_so, younger_stay}
use Rattle.run_leaving.proofs.leaving_law.Goals as goal

pub returns : goal.returns
returns c = record { leaves = tokens_leave_so; few = few_stay; younger = younger_stay; limits = limits_are_told }
