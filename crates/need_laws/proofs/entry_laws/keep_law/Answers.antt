use Rattle.need_laws.proofs.Calls.{calls_keep_all, downs_keep_all}
use Rattle.need_laws.proofs.entry_laws.keep_law.Goals as goal

pub returns : goal.returns
returns c = record { calls = calls_keep_all; downs = downs_keep_all }
