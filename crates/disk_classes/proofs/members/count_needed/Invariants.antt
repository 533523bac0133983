use Rattle.std.proofs.Common.{◌≡◌, take}
use Rattle.disk_classes.specs.Notes.{needed_in}
use Rattle.disk_classes.proofs.members.count_needed.Given as goal

abbrev pub invariant-loop-one : goal.invariant-loop-one
invariant-loop-one l = l.needed ≡ needed_in (take l.one-index l.noted)
