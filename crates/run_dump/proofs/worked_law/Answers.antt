use Rattle.run_dump.proofs.Worked.{worked_dump}
use Rattle.run_dump.proofs.worked_law.Goals as goal

pub returns : goal.returns
returns c = worked_dump
