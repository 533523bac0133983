use Rattle.std.proofs.lemmas.Result.{on_ok_weaker}
use Rattle.disk_log.specs.Log.{disk_of, state_of, slot_of}
use Rattle.disk_fileset.proofs.Changing.{may_in, low_in, counted_in, few_in, others_same, changes_in}
use Rattle.disk_fileset.proofs.Turns.{truncate_turns}
use Rattle.disk_fileset.proofs.bytes.truncate.Goals as goal

pub cut-requires-clause-may : goal.cut-requires-clause-may
cut-requires-clause-may g c = may_in c.args.slot c.args.anode c.anode_page.result c.requires.slot c.requires.first c.requires.last c.anode_page.ensures (state_of c.args.log.now) (slot_of c.args.tx.now) c.requires.may.may

pub cut-requires-clause-page : goal.cut-requires-clause-page
cut-requires-clause-page g c = low_in c.args.slot c.args.anode c.anode_page.result c.requires.slot c.requires.first c.requires.last c.anode_page.ensures

pub cut-requires-clause-named : goal.cut-requires-clause-named
cut-requires-clause-named g c = λ told. (let held = c.requires.may.held told in counted_in c.args.slot c.args.anode c.anode_page.result c.requires.slot c.requires.first c.requires.last c.anode_page.ensures held.0 (state_of c.args.log.now) _ held.1)

pub cut-requires-clause-few : goal.cut-requires-clause-few
cut-requires-clause-few g c = λ told. (let held = c.requires.may.held told in few_in c.args.slot c.args.anode c.anode_page.result c.requires.slot c.requires.first c.requires.last c.anode_page.ensures held.0 (state_of c.args.log.now) _ held.1)

pub returns-clause-kept : goal.returns-clause-kept
returns-clause-kept g c = λ told slots keeps is.
    truncate_turns slots c.args.slot c.args.anode c.requires.slot c.requires.first c.requires.last c.anode_page.result c.anode_page.ensures
    (state_of c.args.log.now) (state_of c.cut.new.log) (g.D.Disk.view (disk_of c.args.log.now)).image (g.D.Disk.view (disk_of c.cut.new.log)).image
    c.cut.ensures.puts.rest keeps c.cut.result is c.args.length c.requires.length (c.cut.ensures.wrote told).reads (c.cut.ensures.changed told)

pub returns-clause-changes : goal.returns-clause-changes
returns-clause-changes g c =
    changes_in g.D.Disk.tells g.D.Disk.view c.args.slot c.args.anode c.anode_page.result 2 c.cut.result c.args.log.now c.cut.new.log c.args.tx.now c.cut.new.tx _ c.requires.first c.requires.last c.anode_page.ensures
    c.cut.ensures.sound c.cut.ensures.tx c.cut.ensures.puts
    (λ told. others_same c.cut.result _ (state_of c.args.log.now) (state_of c.cut.new.log) (g.D.Disk.view (disk_of c.args.log.now)).image (g.D.Disk.view (disk_of c.cut.new.log)).image (on_ok_weaker c.cut.result (λ changed. changed.turns.pages) (c.cut.ensures.changed told)))
    c.cut.ensures.room c.cut.ensures.wrote c.cut.ensures.counted c.cut.ensures.only
