use Rattle.disk_log.specs.Log.{disk_of, state_of, slot_of}
use Rattle.disk_fileset.proofs.Changing.{may_in, low_in, counted_in, few_in, others_same, changes_in}
use Rattle.disk_fileset.proofs.Turns.{enter_turns, enter_any}
use Rattle.disk_fileset.proofs.names.enter.Goals as goal

pub add-requires-clause-may : goal.add-requires-clause-may
add-requires-clause-may g c = may_in c.args.slot c.args.directory c.anode_page-page.result c.requires.slot c.requires.first c.requires.last c.anode_page-page.ensures (state_of c.args.log.now) (slot_of c.args.tx.now) c.requires.may.may

pub add-requires-clause-page : goal.add-requires-clause-page
add-requires-clause-page g c = low_in c.args.slot c.args.directory c.anode_page-page.result c.requires.slot c.requires.first c.requires.last c.anode_page-page.ensures

pub add-requires-clause-named : goal.add-requires-clause-named
add-requires-clause-named g c = λ told. (let held = c.requires.may.held told in counted_in c.args.slot c.args.directory c.anode_page-page.result c.requires.slot c.requires.first c.requires.last c.anode_page-page.ensures held.0 (state_of c.args.log.now) _ held.1)

pub add-requires-clause-few : goal.add-requires-clause-few
add-requires-clause-few g c = λ told. (let held = c.requires.may.held told in few_in c.args.slot c.args.directory c.anode_page-page.result c.requires.slot c.requires.first c.requires.last c.anode_page-page.ensures held.0 (state_of c.args.log.now) _ held.1)

pub returns-clause-kept : goal.returns-clause-kept
returns-clause-kept g c = λ told slots keeps takes.
    enter_turns slots c.args.slot c.args.directory c.requires.slot c.requires.first c.requires.last c.anode_page-page.result c.anode_page-page.ensures
    (state_of c.args.log.now) (state_of c.add.new.log) (g.D.Disk.view (disk_of c.args.log.now)).image (g.D.Disk.view (disk_of c.add.new.log)).image
    c.add.ensures.puts.rest keeps c.add.result c.args.entry.now takes (c.add.ensures.wrote told).reads (c.add.ensures.changed told) (c.add.ensures.directory told)

pub returns-clause-changes : goal.returns-clause-changes
returns-clause-changes g c =
    changes_in g.D.Disk.tells g.D.Disk.view c.args.slot c.args.directory c.anode_page-page.result 7 c.add.result c.args.log.now c.add.new.log c.args.tx.now c.add.new.tx _ c.requires.first c.requires.last c.anode_page-page.ensures
    c.add.ensures.sound c.add.ensures.tx c.add.ensures.puts
    (λ told. (let held = c.requires.may.held told in others_same c.add.result _ (state_of c.args.log.now) (state_of c.add.new.log) (g.D.Disk.view (disk_of c.args.log.now)).image (g.D.Disk.view (disk_of c.add.new.log)).image
    (enter_any held.0 c.args.slot c.args.directory c.requires.slot c.requires.first c.requires.last c.anode_page-page.result c.anode_page-page.ensures (state_of c.args.log.now) (state_of c.add.new.log) (g.D.Disk.view (disk_of c.args.log.now)).image (g.D.Disk.view (disk_of c.add.new.log)).image c.add.ensures.puts.rest held.1 c.add.result _ c.args.entry.now held.2 (c.add.ensures.changed told) (λ others changed. changed.turns.pages))))
    c.add.ensures.room c.add.ensures.wrote c.add.ensures.counted c.add.ensures.only
