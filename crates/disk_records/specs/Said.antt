-- What the pages of a disk say of a store's record.
use Rattle.std.specs.Prelude.{ℕ, map}
use Rattle.store_state.specs.declared.state.Holding.{Holding}
use Rattle.store_state.specs.declared.state.HostState.{HostState}
use Rattle.store_state.specs.declared.state.HostState.TheVariants.{Unknown as Unheard, Live, IsDown, Ended}
use Rattle.store_state.specs.declared.state.Stay.{Stay}
use Rattle.store_state.specs.declared.state.Stay.TheVariants as stays
use Rattle.store_state.specs.declared.state.StoreState.{StoreState}
use Rattle.store_state.specs.declared.state.TakenShip.{TakenShip}
use Rattle.disk_pages.specs.declared.header.SlotHeader.{SlotHeader}
use Rattle.disk_pages.specs.declared.header.SlotState.{SlotState}
use Rattle.disk_pages.specs.declared.header.SlotState.TheVariants.{Writable, Clone, Leaving, Arriving, Gone}
use Rattle.disk_pages.specs.declared.server.ServerFacts.{ServerFacts}
use Rattle.disk_pages.specs.declared.server.TakenShip.{TakenShip as TakenFrom}

-- of a stay: the state of its slot, the other server, its ship number, and how many parts were taken
pub record Said : Type 0 where
  pub state : SlotState
  pub other : ℕ
  pub ship : ℕ
  pub parts : ℕ

abbrev pub stay_said : Stay → Said
stay_said stays.Writable = record { state = Writable; other = 0; ship = 0; parts = 0 }
stay_said stays.Clone = record { state = Clone; other = 0; ship = 0; parts = 0 }
stay_said (stays.Leaving to ship) = record { state = Leaving; other = to.0; ship = ship; parts = 0 }
stay_said (stays.Arriving from ship parts) = record { state = Arriving; other = from.0; ship = ship; parts = parts }
stay_said (stays.Gone to) = record { state = Gone; other = to.0; ship = 0; parts = 0 }

-- of a holding, in the header of its slot
abbrev pub header_said : Holding → SlotHeader
header_said holding = record {
  state = (stay_said holding.stay).state;
  id = holding.fileset.id;
  objects = holding.fileset.objects;
  name = holding.fileset.name;
  other = (stay_said holding.stay).other;
  moves = holding.fileset.moves;
  ship = (stay_said holding.stay).ship;
  parts = (stay_said holding.stay).parts;
}

-- of a host
abbrev pub host_said : HostState → ℕ
host_said Unheard = 0
host_said Live = 1
host_said IsDown = 2
host_said Ended = 3

abbrev pub taken_said : TakenShip → TakenFrom
taken_said taken = record { ship = taken.ship; code = taken.code }

-- of all else, on the server's page of format 2
abbrev pub facts_said : StoreState → ServerFacts
facts_said state = record {
  epoch = state.epoch;
  next = state.next;
  hosts = map host_said state.hosts;
  format = 2;
  ship = state.ship;
  taken = map taken_said state.taken;
}
