use Rattle.std.proofs.Common.{arith}
use Rattle.std.specs.Prelude.{⊤}
use Rattle.tree_objects.specs.Changes.{anode_changed, anode_freed}
use Rattle.tree_objects.specs.Entries.{content_without_entry}
use Rattle.disk_objects.specs.Objects.{with_anode, KeepsNow}
use Rattle.disk_fileset.specs.Slots.{IsDir}
use Rattle.disk_fileset.proofs.Changing.{may_less, may_after, turned_then, changes_then}
use Rattle.disk_fileset.proofs.objects.unmake.Goals as goal

pub leave-requires-clause-may : goal.leave-requires-clause-may
leave-requires-clause-may g c = may_less KeepsNow g.D.Disk.tells g.D.Disk.view (IsDir c.args.slot c.args.directory) (IsDir c.args.slot c.args.directory) c.args.slot 7 7 c.args.log.now c.args.tx.now (omega arith) (λ slots is. is) c.requires.may

pub vacate-requires-clause-may : goal.vacate-requires-clause-may
vacate-requires-clause-may g c =
    may_after g.D.Disk.tells g.D.Disk.view c.args.slot 7 0 7 (omega arith) _ c.args.log.now c.leave.new.log c.args.tx.now c.leave.new.tx c.in_ok-leave.ensures.changes
    KeepsNow (IsDir c.args.slot c.args.directory) (IsDir c.args.slot c.args.directory) (λ slots. ⊤) (with_anode c.args.slot c.args.directory (anode_changed (content_without_entry c.args.name.now))) c.requires.may c.in_ok-leave.ensures.kept (λ slots held is. (is, tt))

pub returns-clause-kept : goal.returns-clause-kept
returns-clause-kept g c =
    turned_then KeepsNow g.D.Disk.tells g.D.Disk.view (IsDir c.args.slot c.args.directory) (IsDir c.args.slot c.args.directory) (λ slots. ⊤) (with_anode c.args.slot c.args.directory (anode_changed (content_without_entry c.args.name.now))) (with_anode c.args.slot c.args.anode anode_freed) c.vacate.result c.args.log.now c.leave.new.log c.vacate.new.log (λ slots held is. (is, tt)) c.in_ok-leave.ensures.kept c.vacate.ensures.kept

pub returns-clause-changes : goal.returns-clause-changes
returns-clause-changes g c =
    changes_then g.D.Disk.tells g.D.Disk.view c.args.slot 7 0 7 (omega arith) _ c.args.log.now c.leave.new.log c.args.tx.now c.leave.new.tx c.in_ok-leave.ensures.changes
    c.vacate.result c.vacate.new.log c.vacate.new.tx c.vacate.ensures.changes
