use Rattle.run_history.proofs.Meaning.{changes_are_meant}
use Rattle.run_history.proofs.use_laws.changes_are_meant.Goals as goal

pub returns : goal.returns
returns c = changes_are_meant
