use Rattle.std.proofs.Common.{◌≡◌, ℕ, List, take}
use Rattle.std.specs.Prelude.{Ok}
use Rattle.tree_objects.specs.declared.content.Anode.{Anode}
use Rattle.disk_fileset.specs.Slots.{Keeps}
use Rattle.disk_fileset.specs.Reading.{Looks}
use Rattle.disk_fileset.proofs.reading.kept_anodes.Given as goal

abbrev pub invariant-loop-i : goal.invariant-loop-i
invariant-loop-i g l = record {
  looks : Looks {T = ℕ} g.D.Disk.tells g.D.Disk.view (Ok 0) l.initial.log l.log;
  anodes : g.D.Disk.tells → (slots : ℕ → List Anode) → Keeps g.D.Disk.view slots l.initial.log → l.anodes ≡ take l.i (slots l.slot);
}
