-- What the log of an aggregate holds of a store, and how its pages are read.
use Rattle.std.specs.Prelude.{◌≡◌, ℕ, ◌-◌, ◌&&◌, min, nat_le, Bool, true, List, map, Option}
use Rattle.base_types.specs.View.{View}
use Rattle.base_types.specs.declared.ids.ServerId.{ServerId}
use Rattle.tree_calls.specs.declared.roster.Roster.{Roster}
use Rattle.tree_objects.specs.declared.content.Anode.{Anode}
use Rattle.store_state.specs.declared.state.Holding.{Holding}
use Rattle.store_state.specs.declared.state.StoreState.{StoreState}
use Rattle.disk_layout.specs.Numbers.{number_at}
use Rattle.disk_log.specs.Contents.{contents_of, page_in}
use Rattle.disk_log.specs.Log.{state_of}
use Rattle.disk_log.specs.declared.log.Log.{Log}
use Rattle.disk_pages.specs.Header.{state_of as state_in, header_of}
use Rattle.disk_pages.specs.Server.{server_of}
use Rattle.disk_pages.specs.Words.{name_at}
use Rattle.disk_pages.specs.declared.header.SlotState.{SlotState}
use Rattle.disk_pages.specs.declared.header.SlotState.TheVariants.{Free, Arriving, Leaving, Gone, Unknown}
use Rattle.disk_image.specs.Image.{is_clone, records_of}
use Rattle.disk_fileset.specs.Slots.{Keeps}
use Rattle.disk_records.specs.Record.{stay_of, host_known, ship_taken}
use Rattle.disk_records.specs.Stored.{SaysRecord}
use Rattle.store_records.specs.Stored.{IsStorable}

-- The log holds a record of a store that a disk can have: its slots keep anodes, and its pages say the rest.
pub record KeepsRecord {D : Type 0} (view : D → View) (state : StoreState) (log : Log D) : Type 0 where
  pub slots : ℕ → List Anode
  pub keeps : Keeps view slots log
  pub says : SaysRecord state slots (λ p. page_in (contents_of view log) p)
  pub storable : IsStorable state

-- it is that of a server of a roster, whose aggregate has the blocks of its capacity and the spare ones
pub record IsOf {D : Type 0} (server : ServerId) (roster : Roster) (state : StoreState) (log : Log D) : Type 0 where
  pub server_is : server ≡ state.server
  pub roster_is : roster ≡ state.roster
  pub capacity : (state_of log).superblock.blocks - 1024 ≡ state.capacity

-- how many anodes are held in a slot in a state, with this header
abbrev pub held_most : SlotState → List ℕ → ℕ
held_most Arriving header = min 64 (number_at 4 88 header - 1)
held_most Gone header = 0
held_most Free header = 0
held_most Unknown header = 0
held_most _ header = min 64 (number_at 4 8 header)

abbrev pub count_held : List ℕ → List ℕ → ℕ
count_held server header = held_most (state_in server header) header

-- what is held in a slot with these pages and anodes, at a server with this page
abbrev pub holding_in : ServerId → List ℕ → List ℕ → List ℕ → List Anode → Holding
holding_in home server header numbers anodes = record {
  stay = stay_of (header_of server header);
  fileset = record {
    server = home;
    id = record { 0 = number_at 4 4 header };
    name = name_at 12 header;
    read_only = is_clone (state_in server header);
    objects = number_at 4 8 header;
    moves = number_at 4 76 header;
    anodes = anodes;
  };
  records = records_of numbers;
}

-- whether a server is one of so many
abbrev pub is_declared : ℕ → ℕ → Bool
is_declared servers other = nat_le 1 other && nat_le other servers

-- whether the other server of a slot in a state is one
abbrev pub is_other_declared : ℕ → SlotState → ℕ → Bool
is_other_declared servers Leaving other = is_declared servers other
is_other_declared servers Arriving other = is_declared servers other
is_other_declared servers Gone other = is_declared servers other
is_other_declared servers Free other = is_declared servers other
is_other_declared servers Unknown other = is_declared servers other
is_other_declared servers _ other = true

-- the record with a table of filesets, by the pages of the server and of its call numbers
abbrev pub state_with : ServerId → Roster → ℕ → List ℕ → List ℕ → List (Option Holding) → StoreState
state_with server roster blocks page numbers slots = record {
  server = server;
  roster = roster;
  capacity = blocks - 1024;
  next = (server_of page).next;
  slots = slots;
  records = records_of numbers;
  hosts = map host_known (server_of page).hosts;
  epoch = (server_of page).epoch;
  ship = (server_of page).ship;
  taken = map ship_taken (server_of page).taken;
}
