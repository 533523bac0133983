use Rattle.base_outside.proofs.Image.{byte_at-holds}
use Rattle.disk_pages.proofs.fields.put_byte.Goals as goal

pub returns-clause-byte : goal.returns-clause-byte
returns-clause-byte c = byte_at-holds c.args.at c.args.byte _ c.put_bytes.ensures.piece
