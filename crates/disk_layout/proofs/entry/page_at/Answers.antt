use Rattle.std.proofs.Common.{arith}
use Rattle.disk_layout.proofs.Words.{piece_bytes}
use Rattle.disk_layout.proofs.entry.page_at.Goals as goal

pub returns : goal.returns
returns c = piece_bytes c.args.bytes.now _ c.args.at 512 _ c.copy_from_slice.ensures.after (omega arith) (omega arith)
