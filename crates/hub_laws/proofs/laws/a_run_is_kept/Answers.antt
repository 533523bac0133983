use Rattle.hub_laws.proofs.Kept.{a_run_is_kept}
use Rattle.hub_laws.proofs.laws.a_run_is_kept.Goals as goal

pub returns : goal.returns
returns c = a_run_is_kept
