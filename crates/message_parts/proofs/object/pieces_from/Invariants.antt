use Rattle.std.proofs.Common.{◌≡◌, ◌-◌}
use Rattle.message_parts.specs.Objects.{pieces_from}
use Rattle.message_parts.proofs.Loop.{with_front}
use Rattle.message_parts.proofs.object.pieces_from.Given as goal

abbrev pub invariant-loop : goal.invariant-loop
invariant-loop l = with_front l.pieces (pieces_from l.left (l.count - l.counter) l.rest) ≡ pieces_from l.room l.count l.bytes
