use Rattle.std.proofs.Common.{◌≡◌, ℕ, List, take}
use Rattle.std.specs.Prelude.{true, Ok}
use Rattle.base_types.specs.declared.access.AccessEntry.{AccessEntry}
use Rattle.tree_filesets.specs.Laws.{lists_in}
use Rattle.tree_objects.specs.Objects.{is_dir}
use Rattle.disk_fileset.specs.Reading.{Looks, FindsOf}
use Rattle.disk_fileset.proofs.reading.lists_of.Given as goal

abbrev pub invariant-loop-which : goal.invariant-loop-which
invariant-loop-which g l = record {
  looks : Looks {T = ℕ} g.D.Disk.tells g.D.Disk.view (Ok 0) l.initial.log l.log;
  lists : FindsOf {T = List (List AccessEntry)} g.D.Disk.tells g.D.Disk.view l.slot l.anode (λ object lists. is_dir object.content ≡ true → lists ≡ take l.which (lists_in object.content)) (Ok l.lists) l.initial.log;
}
