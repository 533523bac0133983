use Rattle.std.proofs.lemmas.Result.{on_ok_weaker}
use Rattle.disk_log.specs.Log.{disk_of, state_of, slot_of}
use Rattle.disk_fileset.proofs.Changing.{may_page, low_in, others_same, changes_made}
use Rattle.disk_fileset.proofs.Arrived.{number_turns}
use Rattle.disk_fileset.proofs.arriving.put_number.Goals as goal

pub create_as-requires-clause-may : goal.create_as-requires-clause-may
create_as-requires-clause-may g c = may_page c.args.slot c.args.anode c.anode_page.result c.requires.slot c.requires.first c.requires.last c.anode_page.ensures (state_of c.args.log.now) (slot_of c.args.tx.now) c.requires.may.may

pub create_as-requires-clause-page : goal.create_as-requires-clause-page
create_as-requires-clause-page g c = low_in c.args.slot c.args.anode c.anode_page.result c.requires.slot c.requires.first c.requires.last c.anode_page.ensures

pub returns-clause-kept : goal.returns-clause-kept
returns-clause-kept g c = λ told slots keeps vacant.
    number_turns slots c.args.slot c.args.anode c.requires.slot c.requires.first c.requires.last c.anode_page.result c.anode_page.ensures (state_of c.args.log.now) (state_of c.create_as.new.log) (g.D.Disk.view (disk_of c.args.log.now)).image (g.D.Disk.view (disk_of c.create_as.new.log)).image
    c.create_as.ensures.puts.rest c.create_as.result keeps c.args.unique vacant c.create_as.ensures.quiet.image (c.create_as.ensures.made told) (c.create_as.ensures.bare told)

pub returns-clause-changes : goal.returns-clause-changes
returns-clause-changes g c =
    changes_made g.D.Disk.tells g.D.Disk.view c.args.slot c.args.anode c.anode_page.result c.create_as.result c.args.log.now c.create_as.new.log c.args.tx.now c.create_as.new.tx c.requires.first c.requires.last c.anode_page.ensures
    c.create_as.ensures.sound c.create_as.ensures.tx c.create_as.ensures.puts
    (λ told. others_same c.create_as.result _ (state_of c.args.log.now) (state_of c.create_as.new.log) (g.D.Disk.view (disk_of c.args.log.now)).image (g.D.Disk.view (disk_of c.create_as.new.log)).image (on_ok_weaker c.create_as.result (λ made. made.turns.pages) (c.create_as.ensures.made told)))
    c.create_as.ensures.room c.create_as.ensures.quiet c.create_as.ensures.counted c.create_as.ensures.only
