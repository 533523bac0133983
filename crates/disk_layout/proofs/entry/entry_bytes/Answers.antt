use Rattle.std.proofs.Common.{arith}
use Rattle.disk_layout.proofs.Words.{no_byte, spelled}
use Rattle.disk_layout.proofs.entry.entry_bytes.Goals as goal

pub returns : goal.returns
returns c =
    let words = c.words_of-kind.ensures in
    spelled _ _ _ _ _ words.kind words.page words.transaction _ _ _ _ _ _ _ (no_byte 1536)
    c.put_bytes.ensures.rest c.put_bytes.ensures.piece c.put_u32.ensures.rest c.put_u32.ensures.number c.put_u64.ensures.rest c.put_u64.ensures.number
    c.put_u64-2.ensures.rest c.put_u64-2.ensures.number _ _ c.values_of.ensures.old c.values_of.ensures.new (omega arith) (omega arith)
    c.put_bytes-2.ensures.rest c.put_bytes-2.ensures.piece c.put_bytes-3.ensures.rest c.put_bytes-3.ensures.piece
