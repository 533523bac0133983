-- The record of a store that the image of a disk is.
use Rattle.std.specs.Prelude.{ℕ, ◌-◌, ◌==◌, if◌then◌else◌, List, [], map, take, Option}
use Rattle.std.specs.List.{find}
use Rattle.std.specs.Option.{option_map}
use Rattle.base_types.specs.declared.ids.ServerId.{ServerId}
use Rattle.tree_calls.specs.declared.roster.Roster.{Roster}
use Rattle.tree_objects.specs.declared.content.Anode.{Anode}
use Rattle.store_state.specs.declared.state.Holding.{Holding}
use Rattle.store_state.specs.declared.state.HostState.{HostState}
use Rattle.store_state.specs.declared.state.HostState.TheVariants.{Unknown as Unheard, Live, IsDown, Ended}
use Rattle.store_state.specs.declared.state.Stay.{Stay}
use Rattle.store_state.specs.declared.state.Stay.TheVariants as stays
use Rattle.store_state.specs.declared.state.StoreState.{StoreState}
use Rattle.store_state.specs.declared.state.TakenShip.{TakenShip}
use Rattle.disk_pages.specs.declared.header.SlotHeader.{SlotHeader}
use Rattle.disk_pages.specs.declared.header.SlotState.{SlotState}
use Rattle.disk_pages.specs.declared.header.SlotState.TheVariants.{
  Free,
  Writable,
  Clone,
  Leaving,
  Arriving,
  Gone,
  Unknown,
}
use Rattle.disk_pages.specs.declared.server.TakenShip.{TakenShip as TakenFrom}
use Rattle.disk_image.specs.Image.{SlotImage, Image, image_of}
use Rattle.disk_image.specs.Joined.{listed}

-- the other server that a header names
abbrev pub other_of : SlotHeader → ServerId
other_of header = record { 0 = header.other }

-- how a fileset stays; a slot without one isn't held
abbrev pub stay_for : SlotState → SlotHeader → Stay
stay_for Writable header = stays.Writable
stay_for Clone header = stays.Clone
stay_for Leaving header = stays.Leaving (other_of header) header.ship
stay_for Arriving header = stays.Arriving (other_of header) header.ship header.parts
stay_for Gone header = stays.Gone (other_of header)
stay_for Free header = stays.Gone (other_of header)
stay_for Unknown header = stays.Gone (other_of header)

abbrev pub stay_of : SlotHeader → Stay
stay_of header = stay_for header.state header

-- the anodes that are held: of a fileset that arrives those of the parts behind its head, and none of one that is gone
abbrev pub anodes_held : SlotState → SlotHeader → List Anode → List Anode
anodes_held Arriving header anodes = take (header.parts - 1) anodes
anodes_held Gone header anodes = []
anodes_held _ header anodes = anodes

abbrev pub holding_of : SlotImage → Holding
holding_of slot = record {
  stay = stay_of slot.header;
  fileset = record slot.fileset { anodes = anodes_held slot.header.state slot.header slot.fileset.anodes };
  records = slot.numbers;
}

-- what is held in slot s of the table
abbrev pub held_in : List SlotImage → ℕ → Option Holding
held_in slots s = option_map holding_of (find (λ one. one.slot == s) slots)

-- what is known of a host, by its number on the server's page
abbrev pub host_known : ℕ → HostState
host_known number =
    if number == 0 then Unheard else if number == 1 then Live else if number == 2 then IsDown else Ended

abbrev pub ship_taken : TakenFrom → TakenShip
ship_taken taken = record { ship = taken.ship; code = taken.code }

-- the record of a store
abbrev pub record_of : Roster → Image → StoreState
record_of roster image = record {
  server = record { 0 = image.server };
  roster = roster;
  capacity = image.capacity;
  next = image.facts.next;
  slots = listed (held_in image.slots) 16;
  records = image.numbers;
  hosts = map host_known image.facts.hosts;
  epoch = image.facts.epoch;
  ship = image.facts.ship;
  taken = map ship_taken image.facts.taken;
}

-- and that of the bytes of a server's disk, where these have an image
abbrev pub record_in : Roster → ServerId → List ℕ → Option StoreState
record_in roster server bytes = option_map (record_of roster) (image_of server.0 bytes)
