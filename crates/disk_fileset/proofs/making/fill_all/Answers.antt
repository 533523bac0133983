use Rattle.tree_calls.specs.declared.place.Which.TheVariants.{Own}
use Rattle.tree_objects.specs.Changes.{anode_changed}
use Rattle.tree_objects.specs.Objects.{is_dir, content_with_list}
use Rattle.disk_objects.specs.Objects.{with_anode, HeldNow}
use Rattle.disk_fileset.specs.Slots.{IsBlank, emptied}
use Rattle.disk_fileset.proofs.Changing.{turned_as}
use Rattle.disk_fileset.proofs.Steps.{blank_file, file_has, file_turn}
use Rattle.disk_fileset.proofs.making.fill_all.Goals as goal

pub returns-in-File-clause-turned : goal.returns-in-File-clause-turned
returns-in-File-clause-turned g c =
    turned_as HeldNow g.D.Disk.tells g.D.Disk.view (IsBlank c.args.slot c.args.anode (is_dir c.args.content.now)) (with_anode c.args.slot c.args.anode (anode_changed (content_with_list Own c.in-File.list)))
    (with_anode c.args.slot c.args.anode (anode_changed (λ blank. emptied c.args.content.now))) c.fill.result c.args.log.now c.fill.new.log
    (λ slots is. file_turn slots c.args.slot c.args.anode c.args.content.now c.in-File.list c.in-File.kept c.in-File.unsaved c.in-File.length c.in-File.is is)
    (λ told slots held is. c.fill.ensures.turned told slots held (file_has slots c.args.slot c.args.anode (blank_file slots c.args.slot c.args.anode c.args.content.now c.in-File.list c.in-File.kept c.in-File.unsaved c.in-File.length c.in-File.is is)))
