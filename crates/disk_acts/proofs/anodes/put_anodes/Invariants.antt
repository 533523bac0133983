use Rattle.std.proofs.Common.{ℕ, ◌≤◌, ◌-◌, ◌*◌}
use Rattle.std.specs.Prelude.{Ok}
use Rattle.disk_fileset.specs.Slots.{TurnsInto, ChangesSlot}
use Rattle.disk_acts.specs.Anodes.{AreAt}
use Rattle.disk_acts.proofs.Renewing.{renewed_to}
use Rattle.disk_acts.proofs.anodes.put_anodes.Given as goal

abbrev pub invariant-loop-at : goal.invariant-loop-at
invariant-loop-at g l = record {
  room : l.room ≤ 2;
  kept : TurnsInto {T = ℕ} g.D.Disk.tells g.D.Disk.view (AreAt l.slot l.before l.after) (renewed_to l.slot l.after l.at) (Ok 0) l.initial.log l.log;
  changes : ChangesSlot {T = ℕ} g.D.Disk.tells g.D.Disk.view l.slot (72 * (2 - l.room)) (Ok 0) l.initial.log l.log l.initial.tx l.tx;
}
