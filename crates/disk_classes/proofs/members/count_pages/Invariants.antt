use Rattle.std.proofs.Common.{◌≡◌, take}
use Rattle.disk_classes.specs.Notes.{pages_in_class}
use Rattle.disk_classes.proofs.members.count_pages.Given as goal

abbrev pub invariant-loop-one : goal.invariant-loop-one
invariant-loop-one l = l.pages ≡ pages_in_class l.class (take l.one-index l.noted)
