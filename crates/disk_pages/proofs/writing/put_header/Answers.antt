use Rattle.std.proofs.Common.{subst, sym}
use Rattle.disk_log.specs.Log.{slot_of}
use Rattle.disk_pages.specs.Puts.{SaysHeader}
use Rattle.disk_pages.proofs.PutOne.{says_more}
use Rattle.disk_pages.proofs.writing.put_header.Goals as goal

pub returns-clause-put : goal.returns-clause-put
returns-clause-put g c =
    says_more g.D.Disk.tells g.D.Disk.view (slot_of c.args.tx.now) c.args.page _ (SaysHeader c.args.header.now) c.put_page.result c.args.log.now c.put_page.new.log
    (λ told bytes e. subst (SaysHeader c.args.header.now) (sym e) (record { says = c.header_page-bytes.ensures.header; sound = c.header_page-bytes.ensures.page })) c.put_page.ensures.put
