use Rattle.disk_log.specs.Log.{disk_of, state_of, slot_of}
use Rattle.disk_fileset.proofs.Changing.{may_in, low_in, counted_in, few_in, others_same, changes_in}
use Rattle.disk_fileset.proofs.Turns.{leave_turns, leave_any}
use Rattle.disk_fileset.proofs.names.leave.Goals as goal

pub drop_name-requires-clause-may : goal.drop_name-requires-clause-may
drop_name-requires-clause-may g c = may_in c.args.slot c.args.directory c.anode_page.result c.requires.slot c.requires.first c.requires.last c.anode_page.ensures (state_of c.args.log.now) (slot_of c.args.tx.now) c.requires.may.may

pub drop_name-requires-clause-page : goal.drop_name-requires-clause-page
drop_name-requires-clause-page g c = low_in c.args.slot c.args.directory c.anode_page.result c.requires.slot c.requires.first c.requires.last c.anode_page.ensures

pub drop_name-requires-clause-named : goal.drop_name-requires-clause-named
drop_name-requires-clause-named g c = λ told. (let held = c.requires.may.held told in counted_in c.args.slot c.args.directory c.anode_page.result c.requires.slot c.requires.first c.requires.last c.anode_page.ensures held.0 (state_of c.args.log.now) _ held.1)

pub drop_name-requires-clause-few : goal.drop_name-requires-clause-few
drop_name-requires-clause-few g c = λ told. (let held = c.requires.may.held told in few_in c.args.slot c.args.directory c.anode_page.result c.requires.slot c.requires.first c.requires.last c.anode_page.ensures held.0 (state_of c.args.log.now) _ held.1)

pub returns-clause-kept : goal.returns-clause-kept
returns-clause-kept g c = λ told slots keeps is.
    leave_turns slots c.args.slot c.args.directory c.requires.slot c.requires.first c.requires.last c.anode_page.result c.anode_page.ensures
    (state_of c.args.log.now) (state_of c.drop_name.new.log) (g.D.Disk.view (disk_of c.args.log.now)).image (g.D.Disk.view (disk_of c.drop_name.new.log)).image
    c.drop_name.ensures.puts.rest keeps c.drop_name.result c.args.name.now is (c.drop_name.ensures.wrote told).reads (c.drop_name.ensures.changed told) (c.drop_name.ensures.directory told)

pub returns-clause-changes : goal.returns-clause-changes
returns-clause-changes g c =
    changes_in g.D.Disk.tells g.D.Disk.view c.args.slot c.args.directory c.anode_page.result 7 c.drop_name.result c.args.log.now c.drop_name.new.log c.args.tx.now c.drop_name.new.tx _ c.requires.first c.requires.last c.anode_page.ensures
    c.drop_name.ensures.sound c.drop_name.ensures.tx c.drop_name.ensures.puts
    (λ told. (let held = c.requires.may.held told in others_same c.drop_name.result _ (state_of c.args.log.now) (state_of c.drop_name.new.log) (g.D.Disk.view (disk_of c.args.log.now)).image (g.D.Disk.view (disk_of c.drop_name.new.log)).image
    (leave_any held.0 c.args.slot c.args.directory c.requires.slot c.requires.first c.requires.last c.anode_page.result c.anode_page.ensures (state_of c.args.log.now) (state_of c.drop_name.new.log) (g.D.Disk.view (disk_of c.args.log.now)).image (g.D.Disk.view (disk_of c.drop_name.new.log)).image c.drop_name.ensures.puts.rest held.1 c.drop_name.result _ c.args.name.now held.2 (c.drop_name.ensures.changed told) (λ others changed. changed.turns.pages))))
    c.drop_name.ensures.room c.drop_name.ensures.wrote c.drop_name.ensures.counted c.drop_name.ensures.only
