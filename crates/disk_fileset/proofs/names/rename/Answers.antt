use Rattle.std.proofs.Common.{arith}
use Rattle.tree_objects.specs.Changes.{anode_changed}
use Rattle.tree_objects.specs.Entries.{content_with_entry, content_without_entry}
use Rattle.disk_objects.specs.Objects.{with_anode, KeepsNow}
use Rattle.disk_fileset.specs.Slots.{MayMove, TakesName, IsDir}
use Rattle.disk_fileset.proofs.Changing.{may_less, may_after, turned_then, changes_then}
use Rattle.disk_fileset.proofs.Steps.{dir_after}
use Rattle.disk_fileset.proofs.names.rename.Goals as goal

pub enter-requires-clause-may : goal.enter-requires-clause-may
enter-requires-clause-may g c = may_less KeepsNow g.D.Disk.tells g.D.Disk.view (MayMove c.args.slot c.args.way.now) (TakesName c.args.slot c.args.way.now.to c.args.way.now.entry.name) c.args.slot 7 14 c.args.log.now c.args.tx.now (omega arith) (λ slots is. is.0) c.requires.may

pub leave-requires-clause-may : goal.leave-requires-clause-may
leave-requires-clause-may g c =
    may_after g.D.Disk.tells g.D.Disk.view c.args.slot 7 7 14 (omega arith) _ c.args.log.now c.enter.new.log c.args.tx.now c.enter.new.tx c.in_ok-enter.ensures.changes
    KeepsNow (MayMove c.args.slot c.args.way.now) (TakesName c.args.slot c.args.way.now.to c.args.way.now.entry.name) (IsDir c.args.slot c.args.way.now.from) (with_anode c.args.slot c.args.way.now.to (anode_changed (content_with_entry c.args.way.now.entry))) c.requires.may c.in_ok-enter.ensures.kept (λ slots held is. (is.0, dir_after slots c.args.slot c.args.way.now.to c.args.way.now.from c.args.way.now.entry c.requires.to c.requires.from is.1))

pub returns-clause-kept : goal.returns-clause-kept
returns-clause-kept g c =
    turned_then KeepsNow g.D.Disk.tells g.D.Disk.view (MayMove c.args.slot c.args.way.now) (TakesName c.args.slot c.args.way.now.to c.args.way.now.entry.name) (IsDir c.args.slot c.args.way.now.from) (with_anode c.args.slot c.args.way.now.to (anode_changed (content_with_entry c.args.way.now.entry))) (with_anode c.args.slot c.args.way.now.from (anode_changed (content_without_entry c.args.way.now.name))) c.leave.result c.args.log.now c.enter.new.log c.leave.new.log (λ slots held is. (is.0, dir_after slots c.args.slot c.args.way.now.to c.args.way.now.from c.args.way.now.entry c.requires.to c.requires.from is.1)) c.in_ok-enter.ensures.kept c.leave.ensures.kept

pub returns-clause-changes : goal.returns-clause-changes
returns-clause-changes g c =
    changes_then g.D.Disk.tells g.D.Disk.view c.args.slot 7 7 14 (omega arith) _ c.args.log.now c.enter.new.log c.args.tx.now c.enter.new.tx c.in_ok-enter.ensures.changes
    c.leave.result c.leave.new.log c.leave.new.tx c.leave.ensures.changes
