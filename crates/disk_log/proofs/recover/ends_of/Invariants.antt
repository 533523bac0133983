use Rattle.std.proofs.Common.{take}
use Rattle.disk_log.specs.Recovered.{AreEnds}
use Rattle.disk_log.proofs.recover.ends_of.Given as goal

abbrev pub invariant-loop-entry : goal.invariant-loop-entry
invariant-loop-entry l = record { ended : AreEnds l.ended (take l.entry-index l.entries) }
