use Rattle.store_memory.specs.MapStores.{kept_in}
use Rattle.store_memory.proofs.Soundly.{entries_rise}
use Rattle.store_memory.proofs.map_store.MapStoreStore.entries.Goals as goal

pub returns-clause-order : goal.returns-clause-order
returns-clause-order c = let e = c.in_ok-entries.ensures in rw e (entries_rise (kept_in c.args.self.now) c.args.fid)
