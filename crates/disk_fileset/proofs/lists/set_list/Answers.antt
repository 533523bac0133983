use Rattle.std.proofs.lemmas.Result.{on_ok_weaker}
use Rattle.disk_log.specs.Log.{disk_of, state_of, slot_of}
use Rattle.disk_fileset.proofs.Changing.{may_in, low_in, counted_in, few_in, others_same, changes_in}
use Rattle.disk_fileset.proofs.Turns.{list_turns}
use Rattle.disk_fileset.proofs.lists.set_list.Goals as goal

pub save-requires-clause-may : goal.save-requires-clause-may
save-requires-clause-may g c = may_in c.args.slot c.args.anode c.anode_page.result c.requires.slot c.requires.first c.requires.last c.anode_page.ensures (state_of c.args.log.now) (slot_of c.args.tx.now) c.requires.may.may

pub save-requires-clause-page : goal.save-requires-clause-page
save-requires-clause-page g c = low_in c.args.slot c.args.anode c.anode_page.result c.requires.slot c.requires.first c.requires.last c.anode_page.ensures

pub save-requires-clause-named : goal.save-requires-clause-named
save-requires-clause-named g c = λ told. (let held = c.requires.may.held told in counted_in c.args.slot c.args.anode c.anode_page.result c.requires.slot c.requires.first c.requires.last c.anode_page.ensures held.0 (state_of c.args.log.now) _ held.1)

pub save-requires-clause-few : goal.save-requires-clause-few
save-requires-clause-few g c = λ told. (let held = c.requires.may.held told in few_in c.args.slot c.args.anode c.anode_page.result c.requires.slot c.requires.first c.requires.last c.anode_page.ensures held.0 (state_of c.args.log.now) _ held.1)

pub returns-clause-kept : goal.returns-clause-kept
returns-clause-kept g c = λ told slots keeps has.
    list_turns slots c.args.slot c.args.anode c.requires.slot c.requires.first c.requires.last c.anode_page.result c.anode_page.ensures
    (state_of c.args.log.now) (state_of c.save.new.log) (g.D.Disk.view (disk_of c.args.log.now)).image (g.D.Disk.view (disk_of c.save.new.log)).image
    c.save.ensures.puts.rest keeps c.save.result c.args.which c.args.list.now c.list_number.result c.list_number.ensures.value has (c.save.ensures.wrote told).reads (c.save.ensures.changed told) (c.save.ensures.list told)

pub returns-clause-changes : goal.returns-clause-changes
returns-clause-changes g c =
    changes_in g.D.Disk.tells g.D.Disk.view c.args.slot c.args.anode c.anode_page.result 2 c.save.result c.args.log.now c.save.new.log c.args.tx.now c.save.new.tx _ c.requires.first c.requires.last c.anode_page.ensures
    c.save.ensures.sound c.save.ensures.tx c.save.ensures.puts
    (λ told. others_same c.save.result _ (state_of c.args.log.now) (state_of c.save.new.log) (g.D.Disk.view (disk_of c.args.log.now)).image (g.D.Disk.view (disk_of c.save.new.log)).image (on_ok_weaker c.save.result (λ changed. changed.turns.pages) (c.save.ensures.changed told)))
    c.save.ensures.room c.save.ensures.wrote c.save.ensures.counted c.save.ensures.only
