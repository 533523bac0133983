use Rattle.std.proofs.Common.{◌≡◌, ◌∙◌, sym}
use Rattle.std.specs.Prelude.{if◌then◌else◌}
use Rattle.std.proofs.lemmas.Result.{on_ok_weaker}
use Rattle.tree_filesets.specs.Creation.{occupied}
use Rattle.disk_log.specs.Log.{disk_of, state_of, slot_of}
use Rattle.disk_anode.specs.Anode.{bare_anode}
use Rattle.disk_fileset.specs.Slots.{blank_content}
use Rattle.disk_fileset.proofs.Changing.{may_page, low_in, others_same, changes_made}
use Rattle.disk_fileset.proofs.Arrived.{blank_kept, start_turns}
use Rattle.disk_fileset.proofs.arriving.start.Goals.{then-dir, else-dir}
use Rattle.disk_fileset.proofs.arriving.start.Goals as goal

pub create_as-requires-clause-may : goal.create_as-requires-clause-may
create_as-requires-clause-may g c = may_page c.args.slot c.args.anode c.anode_page-page.result c.requires.slot c.requires.first c.requires.last c.anode_page-page.ensures (state_of c.args.log.now) (slot_of c.args.tx.now) c.requires.may.may

pub create_as-requires-clause-page : goal.create_as-requires-clause-page
create_as-requires-clause-page g c = low_in c.args.slot c.args.anode c.anode_page-page.result c.requires.slot c.requires.first c.requires.last c.anode_page-page.ensures

pub returns-clause-turned : goal.returns-clause-turned
returns-clause-turned g c = λ told slots held vacant.
    (let kind : c.if-dir.kind ≡ (if c.args.dir then 1 else 2) = elim c.if-dir.branch [ then-dir w ↦ w.kind-is ∙ (λ i. if sym w.if-dir.true i then 1 else 2) | else-dir w ↦ w.kind-is ∙ (λ i. if sym w.if-dir.false i then 1 else 2) ] in
    start_turns slots c.args.slot c.args.anode c.requires.slot c.requires.first c.requires.last c.anode_page-page.result c.anode_page-page.ensures (state_of c.args.log.now) (state_of c.create_as.new.log) (g.D.Disk.view (disk_of c.args.log.now)).image (g.D.Disk.view (disk_of c.create_as.new.log)).image
    c.create_as.ensures.puts.rest c.create_as.result held _ (occupied c.args.unique (record { owner = c.args.owner.now; group = c.args.group.now; content = blank_content c.args.dir })) vacant c.create_as.ensures.quiet.image
    ((λ i. bare_anode (kind i) c.args.unique (c.as_bytes-owner.ensures.value i) (c.as_bytes-group.ensures.value i)) ∙ blank_kept c.args.dir c.args.unique c.args.owner.now c.args.group.now)
    (c.create_as.ensures.made told) (c.create_as.ensures.bare told))

pub returns-clause-changes : goal.returns-clause-changes
returns-clause-changes g c =
    changes_made g.D.Disk.tells g.D.Disk.view c.args.slot c.args.anode c.anode_page-page.result c.create_as.result c.args.log.now c.create_as.new.log c.args.tx.now c.create_as.new.tx c.requires.first c.requires.last c.anode_page-page.ensures
    c.create_as.ensures.sound c.create_as.ensures.tx c.create_as.ensures.puts
    (λ told. others_same c.create_as.result _ (state_of c.args.log.now) (state_of c.create_as.new.log) (g.D.Disk.view (disk_of c.args.log.now)).image (g.D.Disk.view (disk_of c.create_as.new.log)).image (on_ok_weaker c.create_as.result (λ made. made.turns.pages) (c.create_as.ensures.made told)))
    c.create_as.ensures.room c.create_as.ensures.quiet c.create_as.ensures.counted c.create_as.ensures.only
