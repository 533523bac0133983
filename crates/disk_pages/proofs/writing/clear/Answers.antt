use Rattle.std.proofs.Common.{◌≡◌, ℕ, List, subst, sym}
use Rattle.std.specs.Prelude.{true}
use Rattle.disk_pages.specs.Words.{are_zero}
use Rattle.disk_layout.proofs.Words.{no_byte}
use Rattle.disk_log.specs.Log.{slot_of}
use Rattle.disk_pages.proofs.Zeros.{zeros_at}
use Rattle.disk_pages.proofs.PutOne.{says_more}
use Rattle.disk_pages.proofs.writing.clear.Goals as goal

pub returns-clause-put : goal.returns-clause-put
returns-clause-put g c =
    says_more g.D.Disk.tells g.D.Disk.view (slot_of c.args.tx.now) c.args.page _ (λ (b : List ℕ). are_zero 0 512 b ≡ true) c.put_page.result c.args.log.now c.put_page.new.log
    (λ told bytes e. subst (λ (b : List ℕ). are_zero 0 512 b ≡ true) (sym e) (zeros_at 0 512 _ (λ k low high. no_byte 512 k))) c.put_page.ensures.put
