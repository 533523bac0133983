use Rattle.std.proofs.Common.{◌≡◌, drop}
use Rattle.std.specs.Prelude.{fold}
use Rattle.std.specs.List.{filter_map}
use Rattle.tree_answers.specs.Away.{with_away}
use Rattle.service_starts.specs.Starting.{away_in}
use Rattle.service_starts.specs.Told.{placed_at}
use Rattle.service_starts.proofs.start.put_records.Given as goal

-- those so far, with those that are left
abbrev pub invariant-loop-slot : goal.invariant-loop-slot
invariant-loop-slot l =
    fold with_away l.records (filter_map (away_in l.all) (placed_at l.server.0 (drop l.slot-index l.slots)))
    ≡ fold with_away l.fn.records (filter_map (away_in l.all) (placed_at l.server.0 l.slots))
