use Rattle.disk_log.proofs.Recovering.{ends_more, ends_still}
use Rattle.disk_log.proofs.recover.note_end.Goals as goal

pub returns-in_ok-insert : goal.returns-in_ok-insert
returns-in_ok-insert c = λ before are. ends_more before _ c.in-End.transaction _ _ c.in-End.is are c.in_ok-insert.ensures.updates.0

pub returns-in_default : goal.returns-in_default
returns-in_default c = λ before are. ends_still before _ _ _ _ _ _ c.in_default.is are
