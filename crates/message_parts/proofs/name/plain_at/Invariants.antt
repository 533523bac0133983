use Rattle.std.proofs.Common.{◌≡◌, ◌-◌}
use Rattle.message_parts.specs.Reading.{items_at, byte_at}
use Rattle.message_parts.specs.Words.{is_plain}
use Rattle.message_parts.proofs.Loop.{with_front}
use Rattle.message_parts.proofs.name.plain_at.Given as goal

abbrev pub invariant-loop : goal.invariant-loop
invariant-loop l = with_front l.text (items_at (byte_at is_plain) (l.count - l.counter) l.rest) ≡ items_at (byte_at is_plain) l.count l.bytes
