-- How acts wear a store, and why a run stops there.
use Rattle.std.proofs.Common.{◌≡◌, ◌≤◌, ℕ, List, length, Result, Err, refl, arith}
use Rattle.base_types.specs.declared.ids.ServerId.{ServerId}
use Rattle.store_memory.specs.Views.{View}
use Rattle.store_memory.specs.declared.store.StoreFault.{StoreFault}
use Rattle.store_memory.specs.declared.store.StoreFault.TheVariants as fault
use Rattle.store_acts.specs.declared.act.Act.{Act}
use Rattle.service_moves.specs.Batches.{IsBlamedTwice, batch_count}
use Rattle.service_moves.specs.Causes.{stopped_at}
use Rattle.service_stores.specs.Stopping.{IsStoppedAt}

pub batches_few : (acts : List Act) (n : ℕ) → length acts ≤ n → batch_count acts ≤ n
batches_few acts n h = omega (arith, h)

pub stopped_here : {T : Type 0} (result : Result T StoreFault) (server : ServerId) (old new : View) (why : StoreFault) →
    result ≡ Err why → IsBlamedTwice result old new → IsStoppedAt server old new (stopped_at server why)
stopped_here result server old new fault.Failed e b = (let c = b.cause e in (refl, c.0, c.1))
stopped_here result server old new fault.Memory e b = tt
