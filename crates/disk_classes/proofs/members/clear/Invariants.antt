use Rattle.std.proofs.Common.{◌≡◌, drop}
use Rattle.disk_classes.specs.Notes.{cleared}
use Rattle.disk_classes.proofs.members.clear.Given as goal

abbrev pub invariant-loop-page : goal.invariant-loop-page
invariant-loop-page l = cleared (drop l.page-index l.pages) l.values ≡ cleared l.pages l.initial.values
