-- What stops a run over stores.
use Rattle.base_types.specs.declared.ids.ServerId.{ServerId}
use Rattle.store_memory.specs.declared.store.StoreFault.{StoreFault}
use Rattle.store_memory.specs.declared.store.StoreFault.TheVariants as store
use Rattle.service_starts.specs.declared.fitting.FitRefused.{FitRefused}
use Rattle.service_starts.specs.declared.fitting.FitRefused.TheVariants as fit
use Rattle.service_moves.specs.declared.stopped.RunStopped.{RunStopped}
use Rattle.service_moves.specs.declared.stopped.RunStopped.TheVariants.{Failed, Unfit, Memory}

-- a fault of the store of a server
abbrev pub stopped_at : ServerId → StoreFault → RunStopped
stopped_at server store.Failed = Failed server
stopped_at server store.Memory = Memory

-- disks that don't fit
abbrev pub stopped_by : FitRefused → RunStopped
stopped_by (fit.Unfit disk slot) = Unfit disk slot
stopped_by fit.Memory = Memory
