use Rattle.std.proofs.Common.{◌≡◌, drop}
use Rattle.std.specs.Prelude.{fold}
use Rattle.std.specs.List.{filter_map}
use Rattle.service_starts.specs.Starting.{with_one, fileset_in}
use Rattle.service_starts.specs.Told.{placed_at}
use Rattle.service_starts.proofs.start.put_filesets.Given as goal

-- those so far, with those that are left
abbrev pub invariant-loop-slot : goal.invariant-loop-slot
invariant-loop-slot l =
    fold with_one l.filesets (filter_map (fileset_in l.all) (placed_at l.server.0 (drop l.slot-index l.slots)))
    ≡ fold with_one l.fn.filesets (filter_map (fileset_in l.all) (placed_at l.server.0 l.slots))
