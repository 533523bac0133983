use Rattle.std.proofs.Common.{◌≡◌, map, take}
use Rattle.host_dirty.specs.Files.{fid_of}
use Rattle.host_dirty.proofs.dirty.fids_of.Given as goal

abbrev pub invariant-loop-key : goal.invariant-loop-key
invariant-loop-key l = l.fids ≡ map fid_of (take l.key-index l.keys)
