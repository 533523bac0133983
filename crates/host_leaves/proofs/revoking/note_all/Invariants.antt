use Rattle.std.proofs.Common.{◌≡◌, fold, take}
use Rattle.host_leaves.specs.Revoking.{with_given}
use Rattle.host_leaves.proofs.revoking.note_all.Given as goal

abbrev pub invariant-loop-left : goal.invariant-loop-left
invariant-loop-left l = l.given ≡ fold (with_given l.tables l.id) l.initial.given (take l.left-index l.leaving)
