use Rattle.std.proofs.Common.{refl, arith, length}
use Rattle.disk_log.proofs.Blocks.{same_but_blocks, page_beside}
use Rattle.disk_log.proofs.Calls.{block_sound}
use Rattle.disk_log.proofs.Keeping.{block_keeps}
use Rattle.disk_log.proofs.log.Log.write_block.Goals as goal

pub returns-in_err-write_at-clause-keeps : goal.returns-in_err-write_at-clause-keeps
returns-in_err-write_at-clause-keeps g c =
    block_keeps _ _ _ _ (block_sound _ _ _ _ c.requires.sound _ c.block_place.result (length c.args.piece.now) (omega arith) c.write_at.ensures.torn c.write_at.ensures.crash) refl c.write_at.ensures.faults.counted
    (λ told. same_but_blocks c.args.self.now.kept.half.pages c.block_place.result (length c.args.piece.now) _ _ (omega arith) (c.write_at.ensures.torn told))

pub returns-clause-keeps : goal.returns-clause-keeps
returns-clause-keeps g c =
    block_keeps _ _ _ _ (block_sound _ _ _ _ c.requires.sound _ c.block_place.result (length c.args.piece.now) (omega arith) c.write_at.ensures.torn c.write_at.ensures.crash) refl c.write_at.ensures.faults.counted
    (λ told. same_but_blocks c.args.self.now.kept.half.pages c.block_place.result (length c.args.piece.now) _ _ (omega arith) (c.write_at.ensures.torn told))

pub returns-in_err-write_at-clause-pages : goal.returns-in_err-write_at-clause-pages
returns-in_err-write_at-clause-pages g c = λ told p lt. page_beside c.args.self.now.kept.half _ _ (same_but_blocks _ _ _ _ _ (omega arith) (c.write_at.ensures.torn told)) _ _ p lt

pub returns-clause-pages : goal.returns-clause-pages
returns-clause-pages g c = λ told p lt. page_beside c.args.self.now.kept.half _ _ (same_but_blocks _ _ _ _ _ (omega arith) (c.write_at.ensures.torn told)) _ _ p lt
