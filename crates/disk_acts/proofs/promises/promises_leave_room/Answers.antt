use Rattle.disk_acts.proofs.Promised.{many_free}
use Rattle.disk_acts.proofs.promises.promises_leave_room.Goals as goal

pub returns : goal.returns
returns g c = λ state told rests trimmed. many_free g.D.Disk.tells g.D.Disk.view c.args.log.now state rests told trimmed
