use Rattle.disk_layout.proofs.Words.{no_byte, spelled_superblock}
use Rattle.disk_layout.proofs.superblock.superblock_bytes.Goals as goal

pub returns : goal.returns
returns c =
    spelled_superblock _ _ _ _ _ _ _ (no_byte 512) c.put_bytes.ensures.rest c.put_bytes.ensures.piece c.put_bytes-2.ensures.rest c.put_bytes-2.ensures.piece
    c.put_u32.ensures.rest c.put_u32.ensures.number c.put_u32-2.ensures.rest c.put_u32-2.ensures.number c.put_bytes-3.ensures.rest c.put_bytes-3.ensures.piece
    c.requires.some_blocks c.requires.few_blocks
