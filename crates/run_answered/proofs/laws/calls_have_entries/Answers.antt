use Rattle.run_answered.proofs.Ended.{calls_have_entries}
use Rattle.run_answered.proofs.laws.calls_have_entries.Goals as goal

pub returns : goal.returns
returns c = calls_have_entries
