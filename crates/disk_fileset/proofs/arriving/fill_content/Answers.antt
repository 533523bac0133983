use Rattle.std.proofs.Common.{[], ◌≤◌, ◌+◌, ◌-◌, ◌/◌, ◌∙◌, length, ap, sym, arith}
use Rattle.std.proofs.lemmas.Result.{on_ok_weaker}
use Rattle.tree_objects.specs.declared.content.Content.TheVariants.{Dir, File}
use Rattle.tree_objects.specs.Sound.{names_rise}
use Rattle.disk_log.specs.Log.{disk_of, state_of, slot_of}
use Rattle.disk_fileset.proofs.Changing.{may_in, low_in, counted_in, few_in, others_same, changes_in, more_room}
use Rattle.disk_fileset.proofs.Arrived.{whole_most, whole_rise, whole_bytes, none_there, entries_turns, bytes_turns}
use Rattle.disk_fileset.proofs.arriving.fill_content.Goals as goal

pub set_entries-requires-clause-may : goal.set_entries-requires-clause-may
set_entries-requires-clause-may g c = may_in c.args.slot c.args.anode c.anode_page-page.result c.requires.slot c.requires.first c.requires.last c.anode_page-page.ensures (state_of c.args.log.now) (slot_of c.args.tx.now) c.requires.may.may

pub set_entries-requires-clause-page : goal.set_entries-requires-clause-page
set_entries-requires-clause-page g c = low_in c.args.slot c.args.anode c.anode_page-page.result c.requires.slot c.requires.first c.requires.last c.anode_page-page.ensures

pub set_entries-requires-clause-most : goal.set_entries-requires-clause-most
set_entries-requires-clause-most g c = let same = ap length c.as_slice.ensures in let most = whole_most c.args.content.now c.in-Dir.entries c.in-Dir.lists c.in-Dir.is c.requires.whole in omega (arith, same, most)

pub set_entries-requires-clause-rise : goal.set_entries-requires-clause-rise
set_entries-requires-clause-rise g c = ap names_rise c.as_slice.ensures ∙ whole_rise c.args.content.now c.in-Dir.entries c.in-Dir.lists c.in-Dir.is c.requires.whole

pub set_entries-requires-clause-named : goal.set_entries-requires-clause-named
set_entries-requires-clause-named g c = λ told. (let held = c.requires.may.held told in counted_in c.args.slot c.args.anode c.anode_page-page.result c.requires.slot c.requires.first c.requires.last c.anode_page-page.ensures held.0 (state_of c.args.log.now) _ held.1)

pub set_entries-requires-clause-few : goal.set_entries-requires-clause-few
set_entries-requires-clause-few g c = λ told. (let held = c.requires.may.held told in few_in c.args.slot c.args.anode c.anode_page-page.result c.requires.slot c.requires.first c.requires.last c.anode_page-page.ensures held.0 (state_of c.args.log.now) _ held.1)

pub returns-in-Dir-clause-kept : goal.returns-in-Dir-clause-kept
returns-in-Dir-clause-kept g c = λ told slots keeps empty.
    (let none = none_there slots c.args.slot c.args.anode c.requires.slot c.requires.first c.requires.last c.anode_page-page.result c.anode_page-page.ensures (state_of c.args.log.now) (state_of c.set_entries.new.log) (g.D.Disk.view (disk_of c.args.log.now)).image (g.D.Disk.view (disk_of c.set_entries.new.log)).image
    c.set_entries.ensures.puts.rest c.set_entries.result keeps c.args.content.now c.as_slice.result.now c.in-Dir.lists (c.in-Dir.is ∙ (λ i. Dir (sym c.as_slice.ensures i) c.in-Dir.lists)) empty in
    entries_turns slots c.args.slot c.args.anode c.requires.slot c.requires.first c.requires.last c.anode_page-page.result c.anode_page-page.ensures (state_of c.args.log.now) (state_of c.set_entries.new.log) (g.D.Disk.view (disk_of c.args.log.now)).image (g.D.Disk.view (disk_of c.set_entries.new.log)).image
    c.set_entries.ensures.puts.rest c.set_entries.result keeps c.args.content.now c.as_slice.result.now c.in-Dir.lists (c.in-Dir.is ∙ (λ i. Dir (sym c.as_slice.ensures i) c.in-Dir.lists)) empty
    (c.set_entries.ensures.wrote told).reads (c.set_entries.ensures.changed told [] none) (c.set_entries.ensures.directory told [] none))

pub returns-in-Dir-clause-changes : goal.returns-in-Dir-clause-changes
returns-in-Dir-clause-changes g c =
    changes_in g.D.Disk.tells g.D.Disk.view c.args.slot c.args.anode c.anode_page-page.result 66 c.set_entries.result c.args.log.now c.set_entries.new.log c.args.tx.now c.set_entries.new.tx _ c.requires.first c.requires.last c.anode_page-page.ensures
    c.set_entries.ensures.sound c.set_entries.ensures.tx c.set_entries.ensures.puts
    (λ told. (let held = c.requires.may.held told in
    let none = none_there held.0 c.args.slot c.args.anode c.requires.slot c.requires.first c.requires.last c.anode_page-page.result c.anode_page-page.ensures (state_of c.args.log.now) (state_of c.set_entries.new.log) (g.D.Disk.view (disk_of c.args.log.now)).image (g.D.Disk.view (disk_of c.set_entries.new.log)).image
    c.set_entries.ensures.puts.rest c.set_entries.result held.1 c.args.content.now c.as_slice.result.now c.in-Dir.lists (c.in-Dir.is ∙ (λ i. Dir (sym c.as_slice.ensures i) c.in-Dir.lists)) held.2 in
    others_same c.set_entries.result _ (state_of c.args.log.now) (state_of c.set_entries.new.log) (g.D.Disk.view (disk_of c.args.log.now)).image (g.D.Disk.view (disk_of c.set_entries.new.log)).image (on_ok_weaker c.set_entries.result (λ changed. changed.turns.pages) (c.set_entries.ensures.changed told [] none))))
    (λ told. more_room c.set_entries.result _ _ 7 66 (omega arith) (c.set_entries.ensures.room told)) c.set_entries.ensures.wrote c.set_entries.ensures.counted c.set_entries.ensures.only

pub write_at-requires-clause-may : goal.write_at-requires-clause-may
write_at-requires-clause-may g c = may_in c.args.slot c.args.anode c.anode_page-page.result c.requires.slot c.requires.first c.requires.last c.anode_page-page.ensures (state_of c.args.log.now) (slot_of c.args.tx.now) c.requires.may.may

pub write_at-requires-clause-page : goal.write_at-requires-clause-page
write_at-requires-clause-page g c = low_in c.args.slot c.args.anode c.anode_page-page.result c.requires.slot c.requires.first c.requires.last c.anode_page-page.ensures

pub write_at-requires-clause-within : goal.write_at-requires-clause-within
write_at-requires-clause-within g c = let same = ap length c.as_slice-in-File.ensures in let most = whole_bytes c.args.content.now c.in-File.list c.in-File.kept c.in-File.unsaved c.in-File.length c.in-File.is c.requires.whole in omega (arith, same, most)

pub write_at-requires-clause-named : goal.write_at-requires-clause-named
write_at-requires-clause-named g c = λ told. (let held = c.requires.may.held told in counted_in c.args.slot c.args.anode c.anode_page-page.result c.requires.slot c.requires.first c.requires.last c.anode_page-page.ensures held.0 (state_of c.args.log.now) _ held.1)

pub write_at-requires-clause-few : goal.write_at-requires-clause-few
write_at-requires-clause-few g c = λ told. (let held = c.requires.may.held told in few_in c.args.slot c.args.anode c.anode_page-page.result c.requires.slot c.requires.first c.requires.last c.anode_page-page.ensures held.0 (state_of c.args.log.now) _ held.1)

pub write_at-requires-clause-room : goal.write_at-requires-clause-room
write_at-requires-clause-room g c = λ told.
    (let same = ap length c.as_slice-in-File.ensures in
    let most = whole_bytes c.args.content.now c.in-File.list c.in-File.kept c.in-File.unsaved c.in-File.length c.in-File.is c.requires.whole in
    let room = c.requires.may.room told in
    omega (arith, same, most, room))

pub returns-in-File-clause-kept : goal.returns-in-File-clause-kept
returns-in-File-clause-kept g c = λ told slots keeps empty.
    bytes_turns slots c.args.slot c.args.anode c.requires.slot c.requires.first c.requires.last c.anode_page-page.result c.anode_page-page.ensures (state_of c.args.log.now) (state_of c.write_at.new.log) (g.D.Disk.view (disk_of c.args.log.now)).image (g.D.Disk.view (disk_of c.write_at.new.log)).image
    c.write_at.ensures.puts.rest c.write_at.result keeps c.args.content.now c.in-File.list c.as_slice-in-File.result.now c.in-File.unsaved c.in-File.length (c.in-File.is ∙ (λ i. File c.in-File.list (sym c.as_slice-in-File.ensures i) c.in-File.unsaved c.in-File.length)) c.requires.whole empty
    (c.write_at.ensures.wrote told).reads (c.write_at.ensures.changed told)

pub returns-in-File-clause-changes : goal.returns-in-File-clause-changes
returns-in-File-clause-changes g c =
    let same = ap length c.as_slice-in-File.ensures in
    let most = whole_bytes c.args.content.now c.in-File.list c.in-File.kept c.in-File.unsaved c.in-File.length c.in-File.is c.requires.whole in
    let few : (0 + length c.as_slice-in-File.result.now + 1023) / 1024 - 0 / 1024 + 2 ≤ 66 = omega (arith, same, most) in
    changes_in g.D.Disk.tells g.D.Disk.view c.args.slot c.args.anode c.anode_page-page.result 66 c.write_at.result c.args.log.now c.write_at.new.log c.args.tx.now c.write_at.new.tx _ c.requires.first c.requires.last c.anode_page-page.ensures
    c.write_at.ensures.sound c.write_at.ensures.tx c.write_at.ensures.puts
    (λ told. others_same c.write_at.result _ (state_of c.args.log.now) (state_of c.write_at.new.log) (g.D.Disk.view (disk_of c.args.log.now)).image (g.D.Disk.view (disk_of c.write_at.new.log)).image (on_ok_weaker c.write_at.result (λ changed. changed.turns.pages) (c.write_at.ensures.changed told)))
    (λ told. more_room c.write_at.result _ _ _ _ few (c.write_at.ensures.room told)) c.write_at.ensures.wrote c.write_at.ensures.counted c.write_at.ensures.only
