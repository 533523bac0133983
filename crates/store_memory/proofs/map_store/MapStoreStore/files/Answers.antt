use Rattle.store_memory.specs.MapStores.{kept_in}
use Rattle.store_memory.proofs.Soundly.{files_few, files_own}
use Rattle.store_memory.proofs.map_store.MapStoreStore.files.Goals as goal

pub returns-clause-few : goal.returns-clause-few
returns-clause-few c = let e = c.in_ok-files.ensures in rw e (files_few (kept_in c.args.self.now) c.args.fileset)

pub returns-clause-own : goal.returns-clause-own
returns-clause-own c = let e = c.in_ok-files.ensures in rw e (files_own (kept_in c.args.self.now) c.args.fileset)
