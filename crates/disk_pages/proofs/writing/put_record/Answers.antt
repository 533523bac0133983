use Rattle.std.proofs.lemmas.Result.{err_from_is_err_and}
use Rattle.std.proofs.Common.{◌∙◌, ◌*◌, ap, subst, sym}
use Rattle.disk_log.specs.Log.{slot_of}
use Rattle.disk_log.specs.Contents.{contents_of, page_in}
use Rattle.disk_log.specs.State.{State}
use Rattle.disk_pages.specs.Numbers.{is_numbers_page, record_at}
use Rattle.disk_anode.specs.Room.{is_page, MayPutAll}
use Rattle.disk_pages.specs.Puts.{SaysRecord}
use Rattle.disk_pages.proofs.PutOne.{says_more, after_read, read_err, failed_is}
use Rattle.disk_pages.proofs.writing.put_record.Goals as goal

pub put_page-requires-clause-may : goal.put_page-requires-clause-may
put_page-requires-clause-may g c =
    subst (λ (s : State). MayPutAll (is_page c.args.page) s (slot_of c.args.tx.now)) (sym c.page.ensures.reads.state) c.requires.may

pub returns-in_err-page-clause-put : goal.returns-in_err-page-clause-put
returns-in_err-page-clause-put g c =
    let reads = c.page.ensures.reads in
    let blamed = c.in_err-page.ensures.reads.blamed in
    let p = err_from_is_err_and c.from_residual.result c.from_residual.ensures.1 in
    rw (p.1, p.2) (read_err g.D.Disk.tells g.D.Disk.view c.args.log.now c.page.new.self c.page.new.self reads.state reads.quiet reads.blamed.counted (slot_of c.args.tx.now) c.args.page
    (SaysRecord (page_in (contents_of g.D.Disk.view c.args.log.now) c.args.page) c.args.host c.args.kept) c.in_err-page.field-0.0 reads.sound
    (failed_is c.in_err-page.field-0.0 _ _ c.in_err-page.ensures.only blamed.cause blamed.last))

pub returns-clause-put : goal.returns-clause-put
returns-clause-put g c =
    let reads = c.page.ensures.reads in
    let before = page_in (contents_of g.D.Disk.view c.args.log.now) c.args.page in
    let bytes = c.in_ok-page.ensures.bytes in
    after_read g.D.Disk.tells g.D.Disk.view c.args.log.now c.page.new.self c.put_page.new.log reads.state reads.quiet reads.blamed.counted (slot_of c.args.tx.now) c.args.page
    (SaysRecord before c.args.host c.args.kept) c.put_page.result
    (says_more g.D.Disk.tells g.D.Disk.view (slot_of c.args.tx.now) c.args.page _ (SaysRecord before c.args.host c.args.kept) c.put_page.result c.page.new.self c.put_page.new.log
    (λ told page e. subst (SaysRecord before c.args.host c.args.kept) (sym e) (record {
      says = c.encode_record.ensures.kept;
      others = λ other lt apart. c.encode_record.ensures.others other lt apart ∙ ap (record_at (24 * other)) (bytes told);
      sound = λ is. c.encode_record.ensures.page (ap is_numbers_page (bytes told) ∙ is);
    })) c.put_page.ensures.put)
