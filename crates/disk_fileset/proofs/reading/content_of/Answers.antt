use Rattle.std.proofs.Common.{◌∙◌}
use Rattle.std.specs.Prelude.{Ok, None}
use Rattle.tree_objects.specs.declared.content.Content.TheVariants.{File}
use Rattle.disk_log.specs.Log.{disk_of, state_of}
use Rattle.disk_fileset.proofs.Changing.{low_in}
use Rattle.disk_fileset.proofs.Read.{keeps_still, fits_of, entries_held, dir_read, file_read}
use Rattle.disk_fileset.proofs.reading.content_of.Goals as goal

pub list-requires-clause-page : goal.list-requires-clause-page
list-requires-clause-page g c = low_in c.args.slot c.args.anode c.anode_page.result c.requires.slot c.requires.first c.requires.last c.anode_page.ensures

pub returns-then-dir-clause-content : goal.returns-then-dir-clause-content
returns-then-dir-clause-content g c = λ told slots keeps object there is.
    (let still = keeps_still g.D.Disk.tells g.D.Disk.view (Ok c.in_ok-lists.lists) c.args.log.now c.lists_of.new.log slots c.in_ok-lists.ensures.looks keeps in
    dir_read object.content c.in_ok-entries.entries c.in_ok-lists.lists (is ∙ c.if-dir.true) (c.in_ok-lists.ensures.lists told slots keeps object there (is ∙ c.if-dir.true))
    (λ entries others at. c.in_ok-entries.ensures.entries told entries (entries_held slots c.args.slot c.args.anode c.requires.slot c.requires.first c.requires.last c.anode_page.result c.anode_page.ensures (state_of c.lists_of.new.log) (g.D.Disk.view (disk_of c.lists_of.new.log)).image still object there entries others at)))

pub returns-clause-content : goal.returns-clause-content
returns-clause-content g c = λ told slots keeps object there is.
    (let still = keeps_still g.D.Disk.tells g.D.Disk.view (Ok c.in_ok-kept.kept) c.args.log.now c.bytes_of.new.log slots c.in_ok-kept.ensures.looks keeps in
    let fits = fits_of slots c.args.slot c.args.anode c.requires.slot c.requires.first c.requires.last (state_of c.args.log.now) (g.D.Disk.view (disk_of c.args.log.now)).image keeps object there in
    (λ i. File c.in_ok-list.list c.in_ok-kept.kept (c.new.ensures i) None)
    ∙ file_read object.content c.in_ok-list.list c.in_ok-kept.kept (is ∙ c.if-dir.false) fits.content (c.in_ok-kept.ensures.bytes told slots keeps object there (is ∙ c.if-dir.false)) (c.in_ok-list.ensures.list told slots still object there))
