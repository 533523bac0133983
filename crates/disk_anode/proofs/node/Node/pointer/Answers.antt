use Rattle.std.proofs.Common.{◌∙◌, sym, arith}
use Rattle.disk_anode.proofs.Pointers.{pointer_front, pointer_back}
use Rattle.disk_anode.proofs.node.Node.pointer.Goals as goal

pub returns-then-w-lt-MAPPED : goal.returns-then-w-lt-MAPPED
returns-then-w-lt-MAPPED c = c.u32_at.ensures ∙ sym (pointer_front c.args.self.now c.args.w (omega arith))

pub returns-else-w-lt-MAPPED : goal.returns-else-w-lt-MAPPED
returns-else-w-lt-MAPPED c = c.u32_at-else-w-lt-MAPPED.ensures ∙ sym (pointer_back c.args.self.now c.args.w (omega arith))
