use Rattle.std.proofs.Common.{◌≡◌, ◌≤◌, ◌+◌, ◌++◌, length}
use Rattle.std.specs.Prelude.{vec_capacity}
use Rattle.service_watch.specs.Watching.{stores_in}
use Rattle.service_watch.proofs.watching.unwatch.Given as goal

abbrev pub invariant-loop-last : goal.invariant-loop-last
invariant-loop-last g l = record {
  put : stores_in l.initial.watched.items ++ l.initial.stores.items ≡ stores_in l.watched.items ++ l.stores.items;
  room : length l.watched.items + length l.stores.items ≤ vec_capacity l.stores;
  kept : vec_capacity l.initial.stores ≤ vec_capacity l.stores;
}

abbrev pub decreases-loop-last : goal.decreases-loop-last
decreases-loop-last g l = length l.watched.items
