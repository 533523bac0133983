-- Why a run stops at the store of a server.
use Rattle.std.specs.Prelude.{◌≡◌, ⊤, IsTrue}
use Rattle.base_types.specs.Faults.{RoseBy}
use Rattle.base_types.specs.declared.ids.ServerId.{ServerId}
use Rattle.store_memory.specs.Views.{View}
use Rattle.service_moves.specs.declared.stopped.RunStopped.{RunStopped}
use Rattle.service_moves.specs.declared.stopped.RunStopped.TheVariants.{Failed, Unfit, Memory}

-- its disk failed twice, the second time at its last call; or memory ran out
abbrev pub IsStoppedAt : ServerId → View → View → RunStopped → Type 0
IsStoppedAt server old new (Failed at) = (at ≡ server) × RoseBy 2 old.faults new.faults × IsTrue new.last_failed
IsStoppedAt server old new (Unfit disk slot) = ⊥
IsStoppedAt server old new Memory = ⊤
