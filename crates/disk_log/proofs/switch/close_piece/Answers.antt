use Rattle.std.proofs.Common.{refl, arith}
use Rattle.disk_log.proofs.Gates.{gate_read}
use Rattle.disk_log.proofs.switch.close_piece.Goals as goal

pub close_if_open-requires-clause-read : goal.close_if_open-requires-clause-read
close_if_open-requires-clause-read g c = λ told. gate_read c.args.start c.args.first c.loop-i.i 98304 _ _ c.args.bytes.now _ (c.requires.read told) (omega arith) (c.loop-i.invariant.same told) refl
