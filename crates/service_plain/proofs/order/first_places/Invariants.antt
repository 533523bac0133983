use Rattle.std.proofs.Common.{◌≡◌, ◌+◌, length}
use Rattle.base_types.specs.declared.limits.TheConstants.{HOSTS_MAX}
use Rattle.service_plain.specs.Seats.{AreAtFirst}
use Rattle.service_plain.proofs.order.first_places.Given as goal

abbrev pub invariant-loop-host : goal.invariant-loop-host
invariant-loop-host l = record { seats : length l.next ≡ l.host; first : AreAtFirst l.lines l.next }

abbrev pub invariant-loop-server : goal.invariant-loop-server
invariant-loop-server l = record { seats : length l.next ≡ HOSTS_MAX + l.server; first : AreAtFirst l.lines l.next }
