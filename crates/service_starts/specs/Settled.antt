-- What the stores of servers tell once the unfinished moves are settled.
use Rattle.std.specs.Prelude.{if◌then◌else◌, ◌&&◌, List, map}
use Rattle.store_memory.specs.declared.told.Slot.{Slot}
use Rattle.store_acts.specs.Moving.{is_unsettled, stay_settled}
use Rattle.store_state.specs.declared.state.Stay.{Stay}
use Rattle.service_starts.specs.declared.told.Told.{Told}
use Rattle.service_starts.specs.Told.{stands_as}

-- how a fileset stays in a slot then
abbrev pub stay_after : List Told → Slot → Stay → Stay
stay_after all slot stay = if is_unsettled stay && stands_as all slot stay then stay_settled stay else stay

-- the slot
abbrev pub slot_after : List Told → Slot → Slot
slot_after all slot = record slot { stay = stay_after all slot slot.stay }

-- what is told of a server
abbrev pub told_after : List Told → Told → Told
told_after all told = record told { slots = map (slot_after all) told.slots }

-- what is told of all
abbrev pub settled : List Told → List Told
settled all = map (told_after all) all
