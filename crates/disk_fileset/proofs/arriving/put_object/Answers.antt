use Rattle.std.proofs.Common.{arith}
use Rattle.tree_filesets.specs.Creation.{occupied}
use Rattle.tree_objects.specs.Changes.{anode_changed}
use Rattle.disk_objects.specs.Objects.{with_anode, KeepsNow}
use Rattle.disk_fileset.specs.Slots.{IsVacant, IsEmptied, emptied}
use Rattle.disk_fileset.proofs.Changing.{may_less, may_after, turned_then, turned_as, changes_then}
use Rattle.disk_fileset.proofs.Arrived.{whole_listed, emptied_put, object_turn}
use Rattle.disk_fileset.proofs.arriving.put_object.Goals as goal

pub put_empty-requires-clause-listed : goal.put_empty-requires-clause-listed
put_empty-requires-clause-listed g c = whole_listed c.args.object.now.content c.requires.whole

pub put_empty-requires-clause-may : goal.put_empty-requires-clause-may
put_empty-requires-clause-may g c = may_less KeepsNow g.D.Disk.tells g.D.Disk.view (IsVacant c.args.slot c.args.anode) (IsVacant c.args.slot c.args.anode) c.args.slot 6 72 c.args.log.now c.args.tx.now (omega arith) (λ slots is. is) c.requires.may

pub fill_content-requires-clause-may : goal.fill_content-requires-clause-may
fill_content-requires-clause-may g c =
    may_after g.D.Disk.tells g.D.Disk.view c.args.slot 6 66 72 (omega arith) _ c.args.log.now c.put_empty.new.log c.args.tx.now c.put_empty.new.tx c.in_ok-put_empty.ensures.changes
    KeepsNow (IsVacant c.args.slot c.args.anode) (IsVacant c.args.slot c.args.anode) (IsEmptied c.args.slot c.args.anode c.args.object.now.content) (with_anode c.args.slot c.args.anode (occupied c.args.unique (record { owner = c.args.object.now.owner; group = c.args.object.now.group; content = emptied c.args.object.now.content }))) c.requires.may c.in_ok-put_empty.ensures.kept
    (λ slots held is. (is, emptied_put slots c.args.slot c.args.anode c.args.unique c.args.object.now.owner c.args.object.now.group c.args.object.now.content c.requires.first (let full = (held.each c.args.slot c.requires.slot).count in let few = c.requires.last in omega (arith, full, few))))

pub returns-clause-kept : goal.returns-clause-kept
returns-clause-kept g c =
    turned_as KeepsNow g.D.Disk.tells g.D.Disk.view (IsVacant c.args.slot c.args.anode) (λ slots. with_anode c.args.slot c.args.anode (anode_changed (λ empty. c.args.object.now.content)) (with_anode c.args.slot c.args.anode (occupied c.args.unique (record { owner = c.args.object.now.owner; group = c.args.object.now.group; content = emptied c.args.object.now.content })) slots))
    (with_anode c.args.slot c.args.anode (occupied c.args.unique c.args.object.now)) c.fill_content.result c.args.log.now c.fill_content.new.log
    (λ slots is. object_turn slots c.args.slot c.args.anode c.args.unique c.args.object.now.owner c.args.object.now.group c.args.object.now.content)
    (turned_then KeepsNow g.D.Disk.tells g.D.Disk.view (IsVacant c.args.slot c.args.anode) (IsVacant c.args.slot c.args.anode) (IsEmptied c.args.slot c.args.anode c.args.object.now.content) (with_anode c.args.slot c.args.anode (occupied c.args.unique (record { owner = c.args.object.now.owner; group = c.args.object.now.group; content = emptied c.args.object.now.content }))) (with_anode c.args.slot c.args.anode (anode_changed (λ empty. c.args.object.now.content))) c.fill_content.result c.args.log.now c.put_empty.new.log c.fill_content.new.log
    (λ slots held is. (is, emptied_put slots c.args.slot c.args.anode c.args.unique c.args.object.now.owner c.args.object.now.group c.args.object.now.content c.requires.first (let full = (held.each c.args.slot c.requires.slot).count in let few = c.requires.last in omega (arith, full, few))))
    c.in_ok-put_empty.ensures.kept c.fill_content.ensures.kept)

pub returns-clause-changes : goal.returns-clause-changes
returns-clause-changes g c =
    changes_then g.D.Disk.tells g.D.Disk.view c.args.slot 6 66 72 (omega arith) _ c.args.log.now c.put_empty.new.log c.args.tx.now c.put_empty.new.tx c.in_ok-put_empty.ensures.changes c.fill_content.result c.fill_content.new.log c.fill_content.new.tx c.fill_content.ensures.changes
