use Rattle.run_history.proofs.Naming.{names_are_known, names_go_on, names_start}
use Rattle.run_history.proofs.use_laws.names_lead_on.Goals as goal

pub returns : goal.returns
returns c = record { starts = names_start; known = names_are_known; goes_on = names_go_on }
