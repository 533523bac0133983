use Rattle.std.proofs.Common.{◌≡◌, map, take}
use Rattle.disk_records.specs.Record.{ship_taken}
use Rattle.disk_records.proofs.server.ships_in.Given as goal

abbrev pub invariant-loop-taken : goal.invariant-loop-taken
invariant-loop-taken l = l.ships ≡ map ship_taken (take l.taken-index l.all)
