use Rattle.std.proofs.Common.{◌≡◌, length}
use Rattle.service_plain.specs.Underway.{AreNew}
use Rattle.service_plain.proofs.play.new_desks.Given as goal

abbrev pub invariant-loop-host : goal.invariant-loop-host
invariant-loop-host l = record { count : length l.desks ≡ l.host; each : AreNew l.script l.desks }
