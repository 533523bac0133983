use Rattle.store_memory.specs.MapStores.{kept_in}
use Rattle.store_memory.proofs.Soundly.{shipped_sound}
use Rattle.store_memory.proofs.map_store.MapStoreStore.ship_part.Goals as goal

pub returns-clause-sound : goal.returns-clause-sound
returns-clause-sound c =
    let e = c.in_ok-part.ensures in
    rw e (shipped_sound (kept_in c.args.self.now) c.args.fileset c.args.at c.args.mover.now c.args.self.now.limits
    c.requires.limit (c.requires.leaving tt) c.requires.mover)
