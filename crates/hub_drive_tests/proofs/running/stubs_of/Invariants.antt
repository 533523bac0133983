use Rattle.std.proofs.Common.{◌≡◌, length}
use Rattle.hub_drive_tests.specs.Stubs.{RestServers}
use Rattle.hub_drive_tests.proofs.running.stubs_of.Given as goal

abbrev pub invariant-loop-place : goal.invariant-loop-place
invariant-loop-place l = record {
  many : length l.stubs.items ≡ l.place;
  rest : RestServers l.stubs.items;
}
