use Rattle.disk_layout.proofs.ServerPage.{spelled_server}
use Rattle.disk_layout.proofs.server.new_server_page.Goals as goal

pub returns : goal.returns
returns c = spelled_server _ _ c.put_u32.ensures.rest c.put_u32.ensures.number c.put_bytes.ensures.rest c.put_bytes.ensures.piece
