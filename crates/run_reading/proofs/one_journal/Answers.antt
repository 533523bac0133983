use Rattle.run_reading.proofs.Texts.{one_journal}
use Rattle.run_reading.proofs.one_journal.Goals as goal

pub returns : goal.returns
returns c = one_journal
