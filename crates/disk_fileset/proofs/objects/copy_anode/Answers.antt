use Rattle.std.proofs.lemmas.Result.{on_ok_weaker}
use Rattle.disk_log.specs.Log.{disk_of, state_of, slot_of}
use Rattle.std.proofs.Common.{arith}
use Rattle.disk_fileset.proofs.Changing.{may_in, low_in, counted_in, few_in, others_same, changes_in, past_more}
use Rattle.disk_objects.specs.Objects.{anode_at}
use Rattle.disk_fileset.proofs.Turns.{copy_turns}
use Rattle.disk_fileset.proofs.Copies.{clear_in, copies_turned}
use Rattle.disk_fileset.proofs.objects.copy_anode.Goals as goal

pub clone_of-requires-clause-may : goal.clone_of-requires-clause-may
clone_of-requires-clause-may g c = may_in c.args.to c.args.anode c.anode_page-2.result c.requires.slot c.requires.first c.requires.last c.anode_page-2.ensures (state_of c.args.log.now) (slot_of c.args.tx.now) c.requires.may.may

pub clone_of-requires-clause-from : goal.clone_of-requires-clause-from
clone_of-requires-clause-from g c = low_in c.args.from c.args.anode c.anode_page.result c.requires.from c.requires.first c.requires.last c.anode_page.ensures

pub clone_of-requires-clause-page : goal.clone_of-requires-clause-page
clone_of-requires-clause-page g c = low_in c.args.to c.args.anode c.anode_page-2.result c.requires.slot c.requires.first c.requires.last c.anode_page-2.ensures

pub clone_of-requires-clause-room : goal.clone_of-requires-clause-room
clone_of-requires-clause-room g c = λ told. (let room = c.requires.may.room told in omega (arith, room))

pub clone_of-requires-clause-named : goal.clone_of-requires-clause-named
clone_of-requires-clause-named g c = λ told. (let held = c.requires.may.held told in counted_in c.args.from c.args.anode c.anode_page.result c.requires.from c.requires.first c.requires.last c.anode_page.ensures held.0 (state_of c.args.log.now) (g.D.Disk.view (disk_of c.args.log.now)).image held.1.keeps)

pub clone_of-requires-clause-few : goal.clone_of-requires-clause-few
clone_of-requires-clause-few g c = λ told. (let held = c.requires.may.held told in few_in c.args.from c.args.anode c.anode_page.result c.requires.from c.requires.first c.requires.last c.anode_page.ensures held.0 (state_of c.args.log.now) (g.D.Disk.view (disk_of c.args.log.now)).image held.1.keeps)

pub returns-clause-kept : goal.returns-clause-kept
returns-clause-kept g c = λ told slots copies vacant.
    let old = state_of c.args.log.now in
    let new = state_of c.clone_of.new.log in
    let before = (g.D.Disk.view (disk_of c.args.log.now)).image in
    let after = (g.D.Disk.view (disk_of c.clone_of.new.log)).image in
    let source = c.anode_page.result in
    let page = c.anode_page-2.result in
    let rest = c.clone_of.ensures.puts.rest in
    let writes = (c.clone_of.ensures.wrote told).reads in
    copies_turned c.args.from c.args.to c.args.anode c.requires.from c.requires.slot c.requires.apart c.requires.first c.requires.last slots old before copies c.clone_of.result page source c.anode_page-2.ensures c.anode_page.ensures new after rest
    (λ free. anode_at (slots c.args.from) c.args.anode) writes
    (copy_turns slots c.args.to c.args.anode c.requires.slot c.requires.first c.requires.last page c.anode_page-2.ensures old new before after rest copies.keeps c.clone_of.result c.args.from source c.anode_page.ensures c.requires.from c.requires.apart vacant
    (clear_in c.args.from c.args.to c.args.anode c.requires.from c.requires.slot c.requires.apart c.requires.first c.requires.last slots old before copies)
    writes (c.clone_of.ensures.made told) (c.clone_of.ensures.shares told))
    (c.clone_of.ensures.made told) (c.clone_of.ensures.shares told)

pub returns-clause-changes : goal.returns-clause-changes
returns-clause-changes g c =
    changes_in g.D.Disk.tells g.D.Disk.view c.args.to c.args.anode c.anode_page-2.result 1 c.clone_of.result c.args.log.now c.clone_of.new.log c.args.tx.now c.clone_of.new.tx _ c.requires.first c.requires.last c.anode_page-2.ensures
    c.clone_of.ensures.sound c.clone_of.ensures.tx c.clone_of.ensures.puts
    (λ told. others_same c.clone_of.result _ (state_of c.args.log.now) (state_of c.clone_of.new.log) (g.D.Disk.view (disk_of c.args.log.now)).image (g.D.Disk.view (disk_of c.clone_of.new.log)).image (on_ok_weaker c.clone_of.result (λ made. made.turns.pages) (c.clone_of.ensures.made told)))
    (λ told. past_more c.clone_of.result _ _ _ (c.clone_of.ensures.room told)) c.clone_of.ensures.wrote c.clone_of.ensures.counted c.clone_of.ensures.only
