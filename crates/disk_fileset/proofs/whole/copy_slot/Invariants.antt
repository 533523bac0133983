use Rattle.std.proofs.Common.{ℕ}
use Rattle.std.specs.Prelude.{Ok}
use Rattle.disk_fileset.specs.Slots.{AllVacant, CopiesNow, Turned, ChangesSlot}
use Rattle.disk_fileset.proofs.EachAnode.{copied_to}
use Rattle.disk_fileset.proofs.whole.copy_slot.Given as goal

abbrev pub invariant-loop-i : goal.invariant-loop-i
invariant-loop-i g l = record {
  kept : Turned {T = ℕ} (CopiesNow l.from l.to) g.D.Disk.tells g.D.Disk.view (AllVacant l.to) (copied_to l.from l.to l.i) (Ok 0) l.initial.log l.log;
  changes : ChangesSlot {T = ℕ} g.D.Disk.tells g.D.Disk.view l.to l.i (Ok 0) l.initial.log l.log l.initial.tx l.tx;
}
