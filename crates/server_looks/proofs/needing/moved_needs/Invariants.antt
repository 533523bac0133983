use Rattle.std.proofs.Common.{◌≡◌, ◌++◌, drop}
use Rattle.std.specs.List.{flat_map}
use Rattle.server_keeps.specs.Asking.{whole_of}
use Rattle.server_looks.proofs.needing.moved_needs.Given as goal

abbrev pub invariant-loop-fid : goal.invariant-loop-fid
invariant-loop-fid l = l.needs ++ flat_map whole_of (drop l.fid-index l.fids) ≡ flat_map whole_of l.fids
