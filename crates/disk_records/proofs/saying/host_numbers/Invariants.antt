use Rattle.disk_records.proofs.Hosts.{AreSaid}
use Rattle.disk_records.proofs.saying.host_numbers.Given as goal

abbrev pub invariant-loop-host : goal.invariant-loop-host
invariant-loop-host l = AreSaid l.hosts l.host l.numbers
