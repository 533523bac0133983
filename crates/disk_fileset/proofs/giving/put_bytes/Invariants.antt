use Rattle.std.proofs.Common.{◌≡◌, ◌+◌, drop}
use Rattle.store_state.specs.Giving.{put_bytes}
use Rattle.disk_fileset.proofs.giving.put_bytes.Given as goal

-- the bytes that are left, over what was put so far
abbrev pub invariant-loop-i : goal.invariant-loop-i
invariant-loop-i l = put_bytes l.bytes (l.at + l.i) (drop l.i l.values) ≡ put_bytes l.fn.bytes l.at l.values
