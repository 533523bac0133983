use Rattle.std.proofs.Common.{◌≡◌, ◌≤◌, ◌+◌, ◌++◌, length}
use Rattle.std.specs.Prelude.{vec_capacity}
use Rattle.service_watch.specs.Gone.{HaveGone}
use Rattle.service_watch.specs.Watching.{stores_in}
use Rattle.service_watch.proofs.watching.watch.Given as goal

abbrev pub invariant-loop-store : goal.invariant-loop-store
invariant-loop-store g l = record {
  watching : l.initial.stores.items ≡ l.stores.items ++ stores_in l.watched.items;
  gone : g.S.Store.tells → HaveGone g.O.Origin.from g.S.Store.view l.stores.items;
  room : length l.watched.items + length l.stores.items ≤ vec_capacity l.watched;
  kept : vec_capacity l.initial.stores ≤ vec_capacity l.stores;
}

abbrev pub decreases-loop-store : goal.decreases-loop-store
decreases-loop-store g l = length l.stores.items
