use Rattle.run_history.proofs.Asking.{changes_ask_rightly}
use Rattle.run_history.proofs.use_laws.changes_ask_rightly.Goals as goal

pub returns : goal.returns
returns c = changes_ask_rightly
