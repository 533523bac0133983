use Rattle.std.proofs.Common.{◌≡◌, length, take}
use Rattle.service_hosts.specs.Hosting.{epochs_of}
use Rattle.service_hosts.proofs.nodes.epochs_of.Given as goal

abbrev pub invariant-loop-store : goal.invariant-loop-store
invariant-loop-store g l = record {
  told : g.S.Store.tells → l.epochs ≡ epochs_of g.S.Store.view (take l.store-index l.stores);
  many : length l.epochs ≡ l.store-index;
}
