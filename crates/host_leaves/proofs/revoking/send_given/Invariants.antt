use Rattle.std.proofs.Common.{◌≡◌, take}
use Rattle.host_leaves.specs.Revoking.{sending_given}
use Rattle.host_leaves.proofs.revoking.send_given.Given as goal

abbrev pub invariant-loop-fileset : goal.invariant-loop-fileset
invariant-loop-fileset l = l.draft ≡ sending_given l.tables (take l.fileset-index l.filesets) l.initial.draft
