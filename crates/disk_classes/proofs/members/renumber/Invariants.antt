use Rattle.std.proofs.Common.{◌≡◌, length, drop}
use Rattle.disk_classes.specs.Notes.{renumbered}
use Rattle.disk_classes.proofs.members.renumber.Given as goal

abbrev pub invariant-loop-number : goal.invariant-loop-number
invariant-loop-number l = record {
  rest : renumbered l.class (drop l.number-index l.members) l.noted ≡ renumbered l.class l.members l.initial.noted;
  size : length l.noted ≡ length l.initial.noted;
}
