use Rattle.std.proofs.Common.{◌∙◌, sym, ap, length}
use Rattle.base_outside.proofs.Image.{length-bytes_from}
use Rattle.std.specs.Prelude.{List, ℕ}
use Rattle.disk_pages.proofs.server.hosts_in.Goals as goal

pub copy_from_slice-requires : goal.copy_from_slice-requires
copy_from_slice-requires c = sym (ap (λ (l : List ℕ). length l) c.piece.ensures ∙ length-bytes_from c.args.page.now 12 17)
