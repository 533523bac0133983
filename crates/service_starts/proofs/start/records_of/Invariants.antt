use Rattle.std.proofs.Common.{◌≡◌, ◌+◌, [], drop}
use Rattle.std.specs.Prelude.{fold}
use Rattle.std.specs.List.{filter_map}
use Rattle.tree_answers.specs.Away.{with_away}
use Rattle.service_starts.specs.Starting.{away_in}
use Rattle.service_starts.specs.Told.{placed, placed_from}
use Rattle.service_starts.proofs.start.records_of.Given as goal

-- those so far, with those that are left
abbrev pub invariant-loop-place : goal.invariant-loop-place
invariant-loop-place l =
    fold with_away l.records (filter_map (away_in l.all) (placed_from (l.place + 1) (drop l.place l.all)))
    ≡ fold with_away [] (filter_map (away_in l.all) (placed l.all))
