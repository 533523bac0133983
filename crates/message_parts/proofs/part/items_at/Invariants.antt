use Rattle.std.proofs.Common.{◌≡◌, ◌-◌}
use Rattle.message_parts.specs.Reading.{items_at}
use Rattle.message_parts.proofs.Loop.{with_front}
use Rattle.message_parts.proofs.part.items_at.Given as goal

abbrev pub invariant-loop : goal.invariant-loop
invariant-loop g l = with_front l.items (items_at g.T.Part.reading (l.count - l.counter) l.rest) ≡ items_at g.T.Part.reading l.count l.bytes
