use Rattle.std.proofs.Common.{[], take}
use Rattle.host_leaves.specs.Revoking.{AreHeldBeside, LeaveAll, others_of}
use Rattle.host_leaves.proofs.revoking.leave_others.Given as goal

abbrev pub invariant-loop-index : goal.invariant-loop-index
invariant-loop-index l = record {
  left : LeaveAll l.tokens (others_of l.fid (take l.index l.tokens)) [] l.initial.tables l.initial.draft
      l.tables l.draft;
  held : AreHeldBeside l.tables l.fid (take l.index l.tokens) l.tokens;
}
