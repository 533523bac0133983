use Rattle.std.proofs.Common.{subst, sym}
use Rattle.disk_log.specs.Log.{slot_of}
use Rattle.disk_pages.specs.Puts.{SaysNumbers}
use Rattle.disk_pages.proofs.PutOne.{says_more}
use Rattle.disk_pages.proofs.writing.put_numbers.Goals as goal

pub returns-clause-put : goal.returns-clause-put
returns-clause-put g c =
    says_more g.D.Disk.tells g.D.Disk.view (slot_of c.args.tx.now) c.args.page _ (SaysNumbers c.args.kept.now) c.put_page.result c.args.log.now c.put_page.new.log
    (λ told bytes e. subst (SaysNumbers c.args.kept.now) (sym e) (record { says = c.numbers_page-bytes.ensures.kept; sound = c.numbers_page-bytes.ensures.page })) c.put_page.ensures.put
