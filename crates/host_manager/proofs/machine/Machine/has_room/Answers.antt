use Rattle.host_manager.proofs.Evictions.{room_by}
use Rattle.host_manager.specs.Spoken.{tables_of}
use Rattle.host_manager.proofs.machine.Machine.has_room.Goals as goal

pub returns-then-len-limit : goal.returns-then-len-limit
returns-then-len-limit c = room_by (tables_of c.args.self.now) c.len.result c.len.ensures c.if-len-limit.true
