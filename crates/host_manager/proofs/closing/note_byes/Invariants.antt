use Rattle.std.proofs.Common.{◌≡◌, ◌++◌, map, take, drop}
use Rattle.host_manager.specs.Closing.{has_parted_from}
use Rattle.host_manager.proofs.closing.note_byes.Given as goal

abbrev pub invariant-loop-index : goal.invariant-loop-index
invariant-loop-index l =
    l.sites ≡ map has_parted_from (take l.index l.initial.sites) ++ drop l.index l.initial.sites
