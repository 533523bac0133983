-- How filesets leave a store and arrive in one.
use Rattle.std.specs.Prelude.{
  ℕ,
  ◌+◌,
  ◌-◌,
  ◌==◌,
  nat_lt,
  nat_le,
  Bool,
  true,
  false,
  ◌&&◌,
  ◌||◌,
  not,
  if◌then◌else◌,
  List,
  [],
  ◌∷◌,
  ◌++◌,
  length,
  map,
  slice_get,
  slice_set,
  Option,
  Some,
  None,
  unwrap_or,
  Result,
  Ok,
  Err,
}
use Rattle.std.specs.List.{list_any}
use Rattle.std.specs.Option.{option_map, option_map_or}
use Rattle.base_types.specs.Lists.{changed_at}
use Rattle.base_types.specs.Outcomes.{either}
use Rattle.base_types.specs.declared.ids.FilesetId.{FilesetId}
use Rattle.base_types.specs.declared.ids.HostId.{HostId}
use Rattle.base_types.specs.declared.ids.ServerId.{ServerId}
use Rattle.tree_calls.specs.declared.reply.Refusal.{Refusal}
use Rattle.tree_calls.specs.declared.reply.Refusal.TheVariants.{Exists}
use Rattle.tree_calls.specs.declared.reply.Reply.{Reply}
use Rattle.tree_calls.specs.declared.reply.Reply.TheVariants.{Ok as Accepted, Refused}
use Rattle.tree_calls.specs.declared.ship.Mover.{Mover}
use Rattle.tree_calls.specs.declared.ship.Record.{Record}
use Rattle.tree_calls.specs.declared.ship.ShipPart.{ShipPart}
use Rattle.tree_calls.specs.declared.ship.ShipPart.TheVariants.{Head, Object as ObjectPart}
use Rattle.tree_objects.specs.declared.content.Anode.{Anode}
use Rattle.tree_filesets.specs.declared.fileset.Fileset.{Fileset}
use Rattle.tree_filesets.specs.Checks.{unless}
use Rattle.tree_filesets.specs.Promises.{new_promise}
use Rattle.store_state.specs.declared.state.Stay.{Stay}
use Rattle.store_state.specs.declared.state.Stay.TheVariants.{Writable, Clone, Leaving, Arriving, Gone}
use Rattle.store_state.specs.declared.state.Holding.{Holding}
use Rattle.store_state.specs.declared.state.StoreState.{StoreState}
use Rattle.store_state.specs.declared.state.TakenShip.{TakenShip}
use Rattle.store_state.specs.Founding.{free_slot, slot_for}
use Rattle.store_state.specs.Outcomes.{Outcome, fresh, stale, change_decided, decided_once}
use Rattle.store_acts.specs.declared.leaving.Turn.{Turn}
use Rattle.store_acts.specs.declared.leaving.Turn.TheVariants.{Leaves, Returns, HasLeft, Settles}
use Rattle.store_acts.specs.Parts.{anode_of_part}
use Rattle.store_state.specs.Replies.{reply_of, reply_code}
use Rattle.store_state.specs.Sought.{is_past, is_other, awaits}
use Rattle.store_state.specs.State.{
  forgotten,
  no_ship,
  is_writable,
  is_leaving,
  is_arriving,
  is_used_so,
  is_of,
  slot_so,
  held_so,
  with_held,
  with_record,
}

-- how a fileset stays, if it has a slot
abbrev pub stay_of : StoreState → FilesetId → Option Stay
stay_of state id = option_map (λ holding. holding.stay) (held_so (is_of id) state.slots)

-- whether it stays so
abbrev pub stays_so : StoreState → FilesetId → (Stay → Bool) → Bool
stays_so state id test = option_map_or test (stay_of state id) false

-- a store in which the holding of a fileset is changed
abbrev pub with_holding : StoreState → FilesetId → (Holding → Holding) → StoreState
with_holding state id change = with_held state (slot_so (is_of id) state.slots) change

-- an act that is done where a condition holds, and changes nothing else
abbrev pub done_where : Bool → StoreState → StoreState → Outcome
done_where condition state next = if condition then fresh Accepted next else stale Accepted state

-- a holding that stays otherwise
abbrev pub held_as : Stay → Holding → Holding
held_as stay holding = record holding { stay = stay }

-- Leave: a writable fileset, where none is leaving, is leaving under the next ship number
unfoldable pub leave_outcome : StoreState → FilesetId → ServerId → Outcome
leave_outcome state id to =
    done_where (stays_so state id is_writable
    && not (list_any (is_used_so (λ holding. is_leaving holding.stay)) state.slots)) state
    (record (with_holding state id (held_as (Leaving to (state.ship + 1)))) { ship = state.ship + 1 })

-- a holding that is writable again, if it was leaving
abbrev pub returned : Holding → Holding
returned holding = if is_leaving holding.stay then held_as Writable holding else holding

-- Back: the number and the refusal are kept, and a fileset that was leaving is writable again
unfoldable pub back_outcome : StoreState → HostId → ℕ → FilesetId → Refusal → Outcome
back_outcome state host number id refusal =
    decided_once state id host number (
    fresh (Refused refusal)
    (with_record (with_holding state id returned) id host (change_decided number (Refused refusal))))

-- where it has left for
abbrev pub stay_left : Stay → Stay
stay_left Writable = Writable
stay_left Clone = Clone
stay_left (Leaving to ship) = Gone to
stay_left (Arriving from ship parts) = Arriving from ship parts
stay_left (Gone to) = Gone to

-- what is left of a fileset that has left: its id, name, limit and moves
abbrev pub held_left : Holding → Holding
held_left holding = record holding {
  stay = stay_left holding.stay;
  fileset = record holding.fileset { anodes = [] };
  records = forgotten holding.records;
}

-- Left: a fileset that was leaving has left
unfoldable pub left_outcome : StoreState → FilesetId → Outcome
left_outcome state id = done_where (stays_so state id is_leaving) state (with_holding state id held_left)

-- whether a fileset is on its way: leaving, or arriving with more than its head
abbrev pub is_unsettled : Stay → Bool
is_unsettled Writable = false
is_unsettled Clone = false
is_unsettled (Leaving to ship) = true
is_unsettled (Arriving from ship parts) = not (parts == 1)
is_unsettled (Gone to) = false

-- a move is undone: one that was leaving is writable again, and of one that was arriving the head alone is left
abbrev pub stay_settled : Stay → Stay
stay_settled Writable = Writable
stay_settled Clone = Clone
stay_settled (Leaving to ship) = Writable
stay_settled (Arriving from ship parts) = Arriving from ship 1
stay_settled (Gone to) = Gone to

abbrev pub anodes_settled : Stay → List Anode → List Anode
anodes_settled stay anodes = if is_arriving stay then [] else anodes

abbrev pub held_settled : Holding → Holding
held_settled holding = record holding {
  stay = stay_settled holding.stay;
  fileset = record holding.fileset { anodes = anodes_settled holding.stay holding.fileset.anodes };
}

-- Settle: an unfinished move is undone
unfoldable pub settle_outcome : StoreState → FilesetId → Outcome
settle_outcome state id = done_where (stays_so state id is_unsettled) state (with_holding state id held_settled)

-- a holding once its fileset took a turn
abbrev pub turned : Turn → Holding → Holding
turned (Leaves to ship) = held_as (Leaving to ship)
turned Returns = returned
turned HasLeft = held_left
turned Settles = held_settled

-- the last ship that was taken from a server; servers are counted from 1
abbrev pub taken_from : StoreState → ServerId → TakenShip
taken_from state from = unwrap_or (slice_get state.taken (from.0 - 1)) no_ship

-- a store that has taken a ship of a server, with this reply to its head
abbrev pub with_taken : StoreState → ServerId → ℕ → Reply → StoreState
with_taken state from ship reply =
    record state { taken = slice_set state.taken (from.0 - 1) (record { ship = ship; code = reply_code reply }) }

-- the slot for a fileset that arrives: the one that it had, or else a free one
abbrev pub arrival_slot : StoreState → FilesetId → ℕ
arrival_slot state id =
    let own = slot_so (is_of id) state.slots in
    if nat_lt own (length state.slots) then own else free_slot state.slots

-- whether a fileset may arrive: Exists (another one of its name); TooMany (slots); NoRoom
abbrev pub arrival : StoreState → FilesetId → List ℕ → ℕ → Result ℕ Refusal
arrival state id name objects =
    unless (list_any (is_used_so (is_other id name)) state.slots) Exists (
    slot_for state (arrival_slot state id) (new_promise objects))

-- a fileset that arrives, before its first object
abbrev pub arriving : ServerId → FilesetId → List ℕ → ℕ → ℕ → Fileset
arriving server id name objects moves = record {
  server = server;
  id = id;
  name = name;
  read_only = false;
  objects = objects;
  moves = moves;
  anodes = [];
}

-- a record that came: it tells a right only where its code is that of a denial
abbrev pub received : Record → Record
received kept = record kept { right = if kept.code == 6 then kept.right else 0 }

-- what is held of it: its records come with it, and its mover's call is done
abbrev pub held_arriving : Stay → Fileset → List Record → Mover → Holding
held_arriving stay fileset records mover = record {
  stay = stay;
  fileset = fileset;
  records = changed_at (map received records) mover.host.0 (change_decided mover.number Accepted);
}

-- a new head is taken or refused, and the ship is taken
unfoldable pub head_outcome : StoreState → ServerId → ℕ → FilesetId → ℕ → List ℕ → ℕ → List Record → Mover → Outcome
head_outcome state from ship id moves name objects records mover =
    either (arrival state id name objects)
    (λ slot. fresh Accepted (record (with_taken state from ship Accepted) {
      slots = slice_set state.slots slot
          (Some (held_arriving (Arriving from ship 1) (arriving state.server id name objects moves) records mover));
    }))
    (λ refusal. fresh (Refused refusal) (with_taken state from ship (Refused refusal)))

-- A head is taken once: one that comes too late changes nothing, and one of a ship that was taken gets the kept reply.
abbrev pub head_once : StoreState → ServerId → ℕ → FilesetId → ℕ → Outcome → Outcome
head_once state from ship id moves outcome =
    if list_any (is_used_so (is_past id moves)) state.slots then stale Accepted state
    else if nat_lt (taken_from state from).ship ship then outcome
    else stale (reply_of (taken_from state from).code 0) state

-- a holding with an anode more; the last one makes the fileset writable
abbrev pub held_with : ServerId → ℕ → ℕ → Anode → Holding → Holding
held_with from ship at anode holding = record holding {
  stay = if at == holding.fileset.objects then Writable else Arriving from ship (at + 1);
  fileset = record holding.fileset { anodes = holding.fileset.anodes ++ anode ∷ [] };
}

-- an anode comes: the one that is next is taken
abbrev pub anode_outcome : StoreState → ServerId → ℕ → FilesetId → ℕ → ℕ → Anode → Outcome
anode_outcome state from ship id moves at anode =
    let place = slot_so (awaits id from ship moves at) state.slots in
    done_where (nat_lt place (length state.slots)) state (with_held state place (held_with from ship at anode))

-- Part: the head, or an anode
unfoldable pub part_outcome : StoreState → ServerId → ℕ → FilesetId → ℕ → ℕ → ShipPart → Outcome
part_outcome state from ship id moves at (Head name objects records mover) =
    if at == 0
    then head_once state from ship id moves (head_outcome state from ship id moves name objects records mover)
    else stale Accepted state
part_outcome state from ship id moves at (ObjectPart anode unique status pieces entries) =
    anode_outcome state from ship id moves at (anode_of_part unique status pieces entries)
