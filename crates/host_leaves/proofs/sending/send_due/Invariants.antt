use Rattle.std.proofs.Common.{◌≡◌, fold, take}
use Rattle.host_leaves.specs.Sending.{sending_give}
use Rattle.host_leaves.proofs.sending.send_due.Given as goal

abbrev pub invariant-loop-index : goal.invariant-loop-index
invariant-loop-index l = l.draft ≡ fold (sending_give l.tables) l.initial.draft (take l.index l.initial.draft.due)
