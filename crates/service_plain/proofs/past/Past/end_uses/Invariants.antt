use Rattle.std.proofs.Common.{◌≡◌, ◌+◌, take}
use Rattle.service_plain.specs.Underway.{Ends}
use Rattle.service_plain.proofs.past.Past.end_uses.Given as goal

abbrev pub invariant-loop-used : goal.invariant-loop-used
invariant-loop-used l = record { ends : Ends l.host l.calls (take l.used-index l.uses) l.initial.self l.self; number : l.k ≡ l.calls + l.used-index }
