use Rattle.std.proofs.Common.{◌≡◌, fold, take}
use Rattle.host_leaves.specs.Sending.{sending_give}
use Rattle.host_asks.proofs.repeating.give_again.Given as goal

abbrev pub invariant-loop-fileset : goal.invariant-loop-fileset
invariant-loop-fileset l =
    l.draft ≡ fold (sending_give l.tables) l.initial.draft (take l.fileset-index l.filesets)
