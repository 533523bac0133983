use Rattle.std.proofs.Common.{◌≡◌, map, take}
use Rattle.disk_records.specs.Record.{host_known}
use Rattle.disk_records.proofs.server.hosts_in.Given as goal

abbrev pub invariant-loop-number : goal.invariant-loop-number
invariant-loop-number l = l.hosts ≡ map host_known (take l.number-index l.facts.hosts)
