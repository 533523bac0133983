use Rattle.store_memory.specs.MapStores.{kept_in}
use Rattle.store_memory.proofs.Soundly.{slots_sound}
use Rattle.store_memory.proofs.map_store.MapStoreStore.slots.Goals as goal

pub returns-clause-sound : goal.returns-clause-sound
returns-clause-sound c =
    let e = c.in_ok-slots.ensures in
    rw e (slots_sound (kept_in c.args.self.now).roster (kept_in c.args.self.now).slots 0 c.args.self.now.limits.slots)
