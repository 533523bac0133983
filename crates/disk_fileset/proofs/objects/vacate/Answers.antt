use Rattle.std.proofs.lemmas.Result.{on_ok_weaker}
use Rattle.disk_log.specs.Log.{disk_of, state_of, slot_of}
use Rattle.disk_fileset.proofs.Changing.{may_in, low_in, counted_in, others_same, changes_in, no_more}
use Rattle.disk_fileset.proofs.Turns.{vacate_turns}
use Rattle.disk_fileset.proofs.objects.vacate.Goals as goal

pub remove-requires-clause-may : goal.remove-requires-clause-may
remove-requires-clause-may g c = may_in c.args.slot c.args.anode c.anode_page.result c.requires.slot c.requires.first c.requires.last c.anode_page.ensures (state_of c.args.log.now) (slot_of c.args.tx.now) c.requires.may.may

pub remove-requires-clause-page : goal.remove-requires-clause-page
remove-requires-clause-page g c = low_in c.args.slot c.args.anode c.anode_page.result c.requires.slot c.requires.first c.requires.last c.anode_page.ensures

pub remove-requires-clause-named : goal.remove-requires-clause-named
remove-requires-clause-named g c = λ told. (let held = c.requires.may.held told in counted_in c.args.slot c.args.anode c.anode_page.result c.requires.slot c.requires.first c.requires.last c.anode_page.ensures held.0 (state_of c.args.log.now) _ held.1)

pub returns-clause-kept : goal.returns-clause-kept
returns-clause-kept g c = λ told slots keeps any.
    vacate_turns slots c.args.slot c.args.anode c.requires.slot c.requires.first c.requires.last c.anode_page.result c.anode_page.ensures
    (state_of c.args.log.now) (state_of c.remove.new.log) (g.D.Disk.view (disk_of c.args.log.now)).image (g.D.Disk.view (disk_of c.remove.new.log)).image
    c.remove.ensures.puts.rest keeps c.remove.result (c.remove.ensures.wrote told).reads (c.remove.ensures.changed told) (c.remove.ensures.bare told)

pub returns-clause-changes : goal.returns-clause-changes
returns-clause-changes g c =
    changes_in g.D.Disk.tells g.D.Disk.view c.args.slot c.args.anode c.anode_page.result 0 c.remove.result c.args.log.now c.remove.new.log c.args.tx.now c.remove.new.tx _ c.requires.first c.requires.last c.anode_page.ensures
    c.remove.ensures.sound c.remove.ensures.tx c.remove.ensures.puts
    (λ told. others_same c.remove.result _ (state_of c.args.log.now) (state_of c.remove.new.log) (g.D.Disk.view (disk_of c.args.log.now)).image (g.D.Disk.view (disk_of c.remove.new.log)).image (on_ok_weaker c.remove.result (λ changed. changed.turns.pages) (c.remove.ensures.changed told)))
    (λ told. no_more c.remove.result _ _ (c.remove.ensures.room told)) c.remove.ensures.wrote c.remove.ensures.counted c.remove.ensures.only
