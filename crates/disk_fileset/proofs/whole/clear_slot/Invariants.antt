use Rattle.std.proofs.Common.{ℕ}
use Rattle.std.specs.Prelude.{⊤, Ok}
use Rattle.disk_fileset.specs.Slots.{TurnsInto, ChangesSlot}
use Rattle.disk_fileset.proofs.EachAnode.{freed_to}
use Rattle.disk_fileset.proofs.whole.clear_slot.Given as goal

abbrev pub invariant-loop-i : goal.invariant-loop-i
invariant-loop-i g l = record {
  kept : TurnsInto {T = ℕ} g.D.Disk.tells g.D.Disk.view (λ slots. ⊤) (freed_to l.slot l.i) (Ok 0) l.initial.log l.log;
  changes : ChangesSlot {T = ℕ} g.D.Disk.tells g.D.Disk.view l.slot 0 (Ok 0) l.initial.log l.log l.initial.tx l.tx;
}
