use Rattle.need_laws.proofs.Others.{calls_leave_others}
use Rattle.need_laws.proofs.entry_laws.stay_law.Goals as goal

pub returns : goal.returns
returns c = calls_leave_others
