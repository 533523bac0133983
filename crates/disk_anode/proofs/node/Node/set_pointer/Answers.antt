use Rattle.std.proofs.Common.{arith}
use Rattle.disk_anode.proofs.Pointers.{points_front, points_back}
use Rattle.disk_anode.proofs.node.Node.set_pointer.Goals as goal

pub returns-then-w-lt-MAPPED : goal.returns-then-w-lt-MAPPED
returns-then-w-lt-MAPPED c = points_front c.args.w c.args.pointer c.args.self.now c.put_u32.new.bytes (omega arith) c.put_u32.ensures.number c.put_u32.ensures.rest

pub returns-else-w-lt-MAPPED : goal.returns-else-w-lt-MAPPED
returns-else-w-lt-MAPPED c = points_back c.args.w c.args.pointer c.args.self.now c.put_u32-else-w-lt-MAPPED.new.bytes (omega arith) (omega arith) c.put_u32-else-w-lt-MAPPED.ensures.number c.put_u32-else-w-lt-MAPPED.ensures.rest
