use Rattle.std.proofs.Common.{take}
use Rattle.host_manager.specs.Closing.{LeavesEach}
use Rattle.host_manager.proofs.closing.leave_each.Given as goal

abbrev pub invariant-loop-token : goal.invariant-loop-token
invariant-loop-token l = LeavesEach (take l.token-index l.tokens) l.initial.tables l.initial.draft l.tables l.draft
