use Rattle.std.proofs.Common.{◌≡◌, take}
use Rattle.hub_board.specs.Ties.{with_all_sent, with_cause}
use Rattle.hub_board.proofs.tie.take_step.Given as goal

abbrev pub invariant-loop-message : goal.invariant-loop-message
invariant-loop-message l = l.ties ≡ with_all_sent (with_cause l.fn.ties l.cause) (take l.message-index l.sent)
