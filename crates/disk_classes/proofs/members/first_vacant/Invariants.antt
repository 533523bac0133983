use Rattle.std.proofs.Common.{◌≢◌, ◌<◌, ℕ}
use Rattle.disk_classes.specs.Notes.{noted_at}
use Rattle.disk_classes.specs.declared.member.Standing.TheVariants.{Vacant}
use Rattle.disk_classes.proofs.members.first_vacant.Given as goal

abbrev pub invariant-loop-number : goal.invariant-loop-number
invariant-loop-number l = (m : ℕ) → m < l.number → (noted_at l.noted m).standing ≢ Vacant
