-- What each act leaves of what a store is made for, and of its counts.
use Rattle.std.proofs.Common.{
  ◌≡◌,
  ◌≤◌,
  ◌<◌,
  ℕ,
  zero,
  suc,
  ◌+◌,
  ◌==◌,
  nat_lt,
  nat_le,
  Bool,
  true,
  false,
  ◌&&◌,
  if◌then◌else◌,
  IsTrue,
  List,
  [],
  ◌∷◌,
  ◌++◌,
  length,
  set,
  Option,
  Some,
  None,
  Result,
  Ok,
  Err,
  refl,
  sym,
  ap,
  ◌∙◌,
  subst,
  arith,
}
use Rattle.std.specs.Prelude.{IfSome}
use Rattle.std.specs.List.{list_any}
use Rattle.std.proofs.lemmas.Bool.{leb-true}
use Rattle.std.specs.Option.{option_map, option_map_or}
use Rattle.base_types.specs.Outcomes.{and_then, either}
use Rattle.base_types.specs.declared.ids.Fid.{Fid}
use Rattle.base_types.specs.declared.ids.FilesetId.{FilesetId}
use Rattle.base_types.specs.declared.ids.HostId.{HostId}
use Rattle.base_types.specs.declared.ids.ServerId.{ServerId}
use Rattle.base_types.specs.declared.limits.TheConstants.{OBJECTS_MAX}
use Rattle.base_types.specs.declared.user.User.{User}
use Rattle.tree_calls.specs.Limits.{is_between, keeps_limit}
use Rattle.tree_calls.specs.Rosters.{user_of}
use Rattle.tree_calls.specs.declared.call.Call.{Call}
use Rattle.tree_calls.specs.declared.call.Call.TheVariants.{
  NewFileset,
  Create,
  MakeDir,
  Remove,
  Rename,
  Truncate,
  SetAcl,
  CloneFileset,
  Read,
  Write,
  List as ListNames,
  Stat,
  GetAcl,
  Sync,
  Lock,
  Unlock,
  OpenFile,
  CloseFile,
  MoveFileset,
}
use Rattle.tree_calls.specs.declared.part.Piece.{Piece}
use Rattle.tree_calls.specs.declared.place.Place.{Place}
use Rattle.tree_calls.specs.declared.reply.Refusal.{Refusal}
use Rattle.tree_calls.specs.declared.reply.Refusal.TheVariants.{Denied, NoFileset}
use Rattle.tree_calls.specs.declared.reply.Reply.TheVariants.{Ok as Accepted, Refused}
use Rattle.tree_calls.specs.declared.roster.Roster.{Roster}
use Rattle.tree_calls.specs.declared.ship.Mover.{Mover}
use Rattle.tree_calls.specs.declared.ship.Record.{Record}
use Rattle.tree_calls.specs.declared.ship.ShipPart.{ShipPart}
use Rattle.tree_calls.specs.declared.ship.ShipPart.TheVariants.{Head, Object as ObjectPart}
use Rattle.tree_filesets.specs.declared.fileset.Fileset.{Fileset}
use Rattle.tree_objects.specs.declared.content.Anode.{Anode}
use Rattle.tree_filesets.specs.Laws.{is_file_at}
use Rattle.tree_filesets.specs.Updates.{changed, updated}
use Rattle.tree_filesets.specs.Founding.{control_check, new_fileset, cloned}
use Rattle.message_types.specs.Soundness.{IsServer, IsKept, IsPart}
use Rattle.store_acts.specs.declared.act.Act.{Act}
use Rattle.store_acts.specs.declared.act.Act.TheVariants.{
  Boot,
  Epoch,
  Host,
  Do,
  Refuse,
  Give,
  Leave,
  Back,
  Left,
  Settle,
  Part,
}
use Rattle.store_state.specs.declared.state.Holding.{Holding}
use Rattle.store_state.specs.declared.state.Stay.{Stay}
use Rattle.store_state.specs.declared.state.Stay.TheVariants.{Writable, Clone, Leaving, Arriving, Gone}
use Rattle.store_state.specs.declared.state.StoreState.{StoreState}
use Rattle.store_acts.specs.Acts.{held_booted, do_outcome, refuse_outcome, act_done}
use Rattle.store_state.specs.Founding.{
  room_for,
  why_absent,
  source_named,
  clone_target,
  clone_answer,
  new_fileset_answer,
  next_id,
  with_new,
}
use Rattle.store_state.specs.Giving.{content_given, held_given, give_outcome}
use Rattle.store_acts.specs.Moving.{
  leave_outcome,
  back_outcome,
  left_outcome,
  settle_outcome,
  part_outcome,
  head_outcome,
  returned,
  stay_left,
  held_left,
  stay_settled,
  held_settled,
  held_with,
  held_as,
  done_where,
  head_once,
  anode_outcome,
  arrival,
  arriving,
  held_arriving,
  with_taken,
  taken_from,
  received,
}
use Rattle.store_state.specs.Sought.{is_past}
use Rattle.store_state.specs.Outcomes.{
  Answer,
  Outcome,
  refuse,
  fresh,
  stale,
  change_decided,
  give_applied,
  decided,
  decided_once,
  decided_before,
  applied_before,
}
use Rattle.store_acts.specs.Parts.{anode_of_part}
use Rattle.store_state.specs.Replies.{reply_of}
use Rattle.store_state.specs.Rows.{
  answer_to,
  answer_for,
  named_row,
  rename_row,
  move_check,
  held_answered,
  numbered_id,
  numbered_name,
}
use Rattle.store_acts.specs.Sound.{IsAct, HasNext, AreRecords, IsHolding, IsStay, KeepsLimits}
use Rattle.store_state.specs.State.{
  is_here_as,
  is_of,
  is_writable,
  is_leaving,
  is_gone_as,
  is_used_so,
  slot_so,
  held_so,
  held_at,
  with_held,
  with_record,
}
use Rattle.store_acts.proofs.Limits.{
  IsQuiet,
  Keeps,
  quiet_self,
  quiet_then,
  quiet_held,
  quiet_record,
  quiet_before,
  quiet_either,
  answered_keeps,
  kept_change,
  kept_give,
  records_forgotten,
  records_changed,
  records_mapped,
  no_records_fit,
  slots_mapped,
  slots_set,
  held_fits,
  length_set,
  length_map,
}

-- what is said of a store after an act
pub record IsNext (old new : StoreState) : Type 0 where
  pub limits : KeepsLimits new
  pub server : new.server ≡ old.server
  pub roster : new.roster ≡ old.roster
  pub counts : new.epoch + new.ship ≤ old.epoch + old.ship + 1

next_of : (old new : StoreState) → IsQuiet old new → IsNext old new
next_of old new h = record {
  limits = h.limits;
  server = h.server;
  roster = h.roster;
  counts = let e = h.epoch in let f = h.ship in omega (arith, e, f);
}

-- both sides of a pair of tests
and_both : (a b : Bool) → (a && b) ≡ true → (a ≡ true) × (b ≡ true)
and_both true true h = (refl, refl)
and_both true false h = absurd (cc)
and_both false b h = absurd (cc)

-- a limit of objects
objects_fit : (objects : ℕ) → IsTrue (is_between 1 OBJECTS_MAX objects) → (1 ≤ objects) × (objects ≤ OBJECTS_MAX)
objects_fit objects h =
    let (a, b) = and_both (nat_le 1 objects) (nat_le objects OBJECTS_MAX) h in
    (leb-true 1 objects a, leb-true objects OBJECTS_MAX b)

-- new filesets and clones

new_held : (state : StoreState) (slot : ℕ) (stay : Stay) (fileset : Fileset) → IsStay state.roster stay →
    1 ≤ fileset.objects → fileset.objects ≤ OBJECTS_MAX →
    KeepsLimits state → IsQuiet state (with_new state slot stay fileset)
new_held state slot stay fileset s a b h = record {
  limits = record {
    table = length_set state.slots slot _ ∙ h.table;
    records = h.records;
    slots =
        slots_set state.roster state.slots slot _ h.slots
        (record { stay = s; least = a; most = b; records = no_records_fit });
  };
  server = refl;
  roster = refl;
  epoch = refl;
  ship = refl;
}

new_quiet : (state : StoreState) (name : List ℕ) (objects : ℕ) (owner : User) → 1 ≤ objects → objects ≤ OBJECTS_MAX →
    KeepsLimits state →
    IsQuiet state (new_fileset_answer state name objects owner).state
unfolding new_fileset_answer new_fileset
new_quiet state name objects owner a b h =
    quiet_either (room_for state name _) state _ h (λ slot e. new_held state slot Writable _ tt a b h)

and_then_ok : {A B E : Type 0} (first : Result A E) (next : A → Result B E) (b : B) → and_then first next ≡ Ok b →
    (a : A) × (first ≡ Ok a) × (next a ≡ Ok b)
and_then_ok (Ok a) next b e = (a, refl, e)
and_then_ok (Err x) next b e = absurd (cc)

-- a limit of objects that a fileset may have
abbrev AreFit : Fileset → Type 0
AreFit fileset = (1 ≤ fileset.objects) × (fileset.objects ≤ OBJECTS_MAX)

source_held : (state : StoreState) (name : List ℕ) (fileset : Fileset) → KeepsLimits state →
    source_named state name ≡ Ok fileset → (1 ≤ fileset.objects) × (fileset.objects ≤ OBJECTS_MAX)
source_held state name fileset h e = by (held_so (is_here_as name) state.slots) refl e
  where
    by : (o : Option Holding) → held_so (is_here_as name) state.slots ≡ o →
        option_map_or (λ holding. Ok holding.fileset) o (Err (why_absent state name)) ≡ Ok fileset →
        (1 ≤ fileset.objects) × (fileset.objects ≤ OBJECTS_MAX)
    by None k e = absurd (cc)
    by (Some holding) k e =
        let same : holding.fileset ≡ fileset = cc in
        let fits = held_fits state.roster state.slots (slot_so (is_here_as name) state.slots) holding h.slots k in
        subst AreFit same (fits.least, fits.most)

clone_quiet : (state : StoreState) (user : User) (source new : List ℕ) → KeepsLimits state →
    IsQuiet state (clone_answer state user source new).state
unfolding clone_answer clone_target cloned
clone_quiet state user source new h =
    quiet_either (clone_target state user source new) state _ h (λ (fileset, slot) e.
    let (found, is_found, rest) = and_then_ok (source_named state source) _ (fileset, slot) e in
    let (checked, is_checked, more) = and_then_ok (control_check found user) _ (fileset, slot) rest in
    let (place, is_place, last) = and_then_ok (room_for state new _) _ (fileset, slot) more in
    let same : found ≡ fileset = cc in
    let fits = source_held state source found h is_found in
    let most : AreFit fileset = subst AreFit same fits in
    new_held state slot Clone _ tt most.0 most.1 h)

-- calls

named_quiet : (state : StoreState) (name : List ℕ) (host : HostId) (user : User) (call : Call) → KeepsLimits state →
    IsQuiet state (named_row state name host user call).state
unfolding named_row
named_quiet state name host user call h =
    quiet_held state (slot_so (is_here_as name) state.slots) (held_answered host user call)
    (answered_keeps state.roster host user call) h

rename_quiet : (state : StoreState) (host : HostId) (user : User) (from to : Place) → KeepsLimits state →
    IsQuiet state (rename_row state host user from to).state
unfolding rename_row
rename_quiet state host user from to h =
    quiet_either (move_check state from to) state _ h
    (λ a e. named_quiet state from.fileset host user (Rename from to) h)

for_quiet : (state : StoreState) (host : HostId) (call : Call) (user : User) → IsTrue (keeps_limit call) →
    KeepsLimits state → IsQuiet state (answer_for state host call user).state
unfolding answer_for
for_quiet state host (NewFileset server name objects owner) user l h =
    let (a, b) = objects_fit objects l in new_quiet state name objects owner a b h
for_quiet state host (CloneFileset server source new) user l h = clone_quiet state user source new h
for_quiet state host (MoveFileset server name to) user l h = quiet_self state h
for_quiet state host (Lock label place writing from len) user l h = quiet_self state h
for_quiet state host (Unlock label) user l h = quiet_self state h
for_quiet state host (OpenFile label place kind) user l h = quiet_self state h
for_quiet state host (CloseFile label) user l h = quiet_self state h
for_quiet state host (Create place) user l h = named_quiet state place.fileset host user (Create place) h
for_quiet state host (MakeDir place) user l h = named_quiet state place.fileset host user (MakeDir place) h
for_quiet state host (Remove place) user l h = named_quiet state place.fileset host user (Remove place) h
for_quiet state host (Rename from to) user l h = rename_quiet state host user from to h
for_quiet state host (Truncate place len) user l h = named_quiet state place.fileset host user (Truncate place len) h
for_quiet state host (SetAcl place which list) user l h =
    named_quiet state place.fileset host user (SetAcl place which list) h
for_quiet state host (Read place from len) user l h = named_quiet state place.fileset host user (Read place from len) h
for_quiet state host (Write place from bytes) user l h =
    named_quiet state place.fileset host user (Write place from bytes) h
for_quiet state host (ListNames place) user l h = named_quiet state place.fileset host user (ListNames place) h
for_quiet state host (Stat place) user l h = named_quiet state place.fileset host user (Stat place) h
for_quiet state host (GetAcl place which) user l h = named_quiet state place.fileset host user (GetAcl place which) h
for_quiet state host (Sync place) user l h = named_quiet state place.fileset host user (Sync place) h

to_quiet : (state : StoreState) (host : HostId) (call : Call) → IsTrue (keeps_limit call) → KeepsLimits state →
    IsQuiet state (answer_to state host call).state
unfolding answer_to
to_quiet state host call l h = by (user_of state.roster host)
  where
    by : (o : Option User) →
        IsQuiet state (option_map_or (answer_for state host call) o (refuse state (Denied 0))).state
    by None = quiet_self state h
    by (Some user) = for_quiet state host call user l h

decided_quiet : (state : StoreState) (id : FilesetId) (host : HostId) (number : ℕ) (answer : Answer) →
    IsQuiet state answer.state → IsQuiet state (decided id host number answer).state
decided_quiet state id host number answer h =
    quiet_then state answer.state (decided id host number answer).state h
    (quiet_record answer.state id host (change_decided number answer.reply) (kept_change number answer.reply) h.limits)

do_quiet : (state : StoreState) (host : HostId) (number : ℕ) (call : Call) → IsTrue (keeps_limit call) →
    KeepsLimits state → IsQuiet state (do_outcome state host number call).state
unfolding do_outcome
do_quiet state host number call l h = by (numbered_id state (numbered_name call))
  where
    by : (o : Option FilesetId) →
        IsQuiet state (option_map_or (λ id. decided_once state id host number
        (decided id host number (answer_to state host call))) o (stale (Refused NoFileset) state)).state
    by None = quiet_self state h
    by (Some id) =
        quiet_before (decided_before state id host number) state (decided id host number (answer_to state host call)) h
        (decided_quiet state id host number (answer_to state host call) (to_quiet state host call l h))

refuse_quiet : (state : StoreState) (host : HostId) (number : ℕ) (id : FilesetId) (refusal : Refusal) →
    KeepsLimits state → IsQuiet state (refuse_outcome state host number id refusal).state
unfolding refuse_outcome
refuse_quiet state host number id refusal h =
    quiet_before (decided_before state id host number) state _ h
    (quiet_record state id host (change_decided number (Refused refusal)) (kept_change number (Refused refusal)) h)

-- what is given back

given_keeps : (roster : Roster) (fid : Fid) (pieces : List Piece) (given : Option ℕ) →
    Keeps roster (held_given fid pieces given)
unfolding updated
given_keeps roster fid pieces given holding h = by (is_writable holding.stay && is_file_at holding.fileset fid)
  where
    by : (b : Bool) → IsHolding roster (if b then record holding
        { fileset = changed holding.fileset fid.anode (content_given pieces given) } else holding)
    by true = record { stay = h.stay; least = h.least; most = h.most; records = h.records }
    by false = h

give_quiet : (state : StoreState) (host : HostId) (number : ℕ) (fid : Fid) (pieces : List Piece) (given : Option ℕ) →
    KeepsLimits state →
    IsQuiet state (give_outcome state host number fid pieces given).state
unfolding give_outcome
give_quiet state host number fid pieces given h =
    let at = slot_so (is_of fid.fileset) state.slots in
    let first = quiet_held state at (held_given fid pieces given) (given_keeps state.roster fid pieces given) h in
    quiet_before (applied_before state fid.fileset host number) state _ h
    (quiet_then state _ _ first (quiet_record (with_held state at (held_given fid pieces given)) fid.fileset host
    (give_applied number) (kept_give number) first.limits))

-- moves

-- an act that is done where a condition holds
where_next : (b : Bool) (state next : StoreState) → KeepsLimits state → IsNext state next →
    IsNext state (done_where b state next).state
where_next true state next h k = k
where_next false state next h k = next_of state state (quiet_self state h)

as_keeps : (roster : Roster) (stay : Stay) → IsStay roster stay → Keeps roster (held_as stay)
as_keeps roster stay s holding h = record { stay = s; least = h.least; most = h.most; records = h.records }

leave_next : (state : StoreState) (id : FilesetId) (to : ServerId) → IsServer state.roster to → KeepsLimits state →
    IsNext state (leave_outcome state id to).state
unfolding leave_outcome
leave_next state id to s h =
    let at = slot_so (is_of id) state.slots in
    let q = quiet_held state at (held_as (Leaving to (state.ship + 1)))
    (as_keeps state.roster (Leaving to (state.ship + 1)) s) h in
    where_next _ state _ h (record {
      limits = record { table = q.limits.table; records = q.limits.records; slots = q.limits.slots };
      server = refl;
      roster = refl;
      counts = omega arith;
    })

returned_keeps : (roster : Roster) → Keeps roster returned
returned_keeps roster holding h = by (is_leaving holding.stay)
  where
    by : (b : Bool) → IsHolding roster (if b then held_as Writable holding else holding)
    by true = as_keeps roster Writable tt holding h
    by false = h

back_quiet : (state : StoreState) (host : HostId) (number : ℕ) (id : FilesetId) (refusal : Refusal) →
    KeepsLimits state → IsQuiet state (back_outcome state host number id refusal).state
unfolding back_outcome
back_quiet state host number id refusal h =
    let at = slot_so (is_of id) state.slots in
    let first = quiet_held state at returned (returned_keeps state.roster) h in
    quiet_before (decided_before state id host number) state _ h
    (quiet_then state _ _ first (quiet_record (with_held state at returned) id host
    (change_decided number (Refused refusal)) (kept_change number (Refused refusal)) first.limits))

left_stay : (roster : Roster) (stay : Stay) → IsStay roster stay → IsStay roster (stay_left stay)
left_stay roster Writable s = s
left_stay roster Clone s = s
left_stay roster (Leaving to ship) s = s
left_stay roster (Arriving from ship parts) s = s
left_stay roster (Gone to) s = s

left_keeps : (roster : Roster) → Keeps roster held_left
left_keeps roster holding h =
    record {
      stay = left_stay roster holding.stay h.stay;
      least = h.least;
      most = h.most;
      records = records_forgotten holding.records h.records;
    }

left_next : (state : StoreState) (id : FilesetId) → KeepsLimits state → IsNext state (left_outcome state id).state
unfolding left_outcome
left_next state id h =
    where_next _ state _ h (next_of state _
    (quiet_held state (slot_so (is_of id) state.slots) held_left (left_keeps state.roster) h))

settled_stay : (roster : Roster) (stay : Stay) → IsStay roster stay → IsStay roster (stay_settled stay)
settled_stay roster Writable s = s
settled_stay roster Clone s = s
settled_stay roster (Leaving to ship) s = tt
settled_stay roster (Arriving from ship parts) s = s
settled_stay roster (Gone to) s = s

settled_keeps : (roster : Roster) → Keeps roster held_settled
settled_keeps roster holding h =
    record { stay = settled_stay roster holding.stay h.stay; least = h.least; most = h.most; records = h.records }

settle_next : (state : StoreState) (id : FilesetId) → KeepsLimits state → IsNext state (settle_outcome state id).state
unfolding settle_outcome
settle_next state id h =
    where_next _ state _ h (next_of state _
    (quiet_held state (slot_so (is_of id) state.slots) held_settled (settled_keeps state.roster) h))

-- parts

with_keeps : (roster : Roster) (from : ServerId) (ship at : ℕ) (anode : Anode) → IsServer roster from →
    Keeps roster (held_with from ship at anode)
with_keeps roster from ship at anode s holding h =
    record { stay = by (at == holding.fileset.objects); least = h.least; most = h.most; records = h.records }
  where
    by : (b : Bool) → IsStay roster (if b then Writable else Arriving from ship (at + 1))
    by true = tt
    by false = s

anode_next : (state : StoreState) (from : ServerId) (ship : ℕ) (id : FilesetId) (moves at : ℕ) (anode : Anode) →
    IsServer state.roster from → KeepsLimits state →
    IsNext state (anode_outcome state from ship id moves at anode).state
anode_next state from ship id moves at anode s h =
    where_next _ state _ h (next_of state _
    (quiet_held state _ (held_with from ship at anode) (with_keeps state.roster from ship at anode s) h))

received_fits : (kept : Record) → IsKept kept → IsKept (received kept)
received_fits kept h = record { code = h.code; rights = by (kept.code == 6) }
  where
    by : (b : Bool) → (if b then kept.right else 0) < 64
    by true = h.rights
    by false = omega arith

head_next : (state : StoreState) (from : ServerId) (ship : ℕ) (id : FilesetId) (moves : ℕ) (name : List ℕ)
    (objects : ℕ) (records : List Record) (mover : Mover) →
    IsServer state.roster from → 1 ≤ objects → objects ≤ OBJECTS_MAX → AreRecords records → KeepsLimits state →
    IsNext state (head_outcome state from ship id moves name objects records mover).state
unfolding head_outcome
head_next state from ship id moves name objects records mover s a b r h = by (arrival state id name objects)
  where
    by : (checked : Result ℕ Refusal) → IsNext state (either checked
        (λ slot. fresh Accepted (record (with_taken state from ship Accepted) {
          slots =
              set state.slots slot (Some (held_arriving (Arriving from ship 1)
              (arriving state.server id name objects moves) records mover));
        }))
        (λ refusal. fresh (Refused refusal) (with_taken state from ship (Refused refusal)))).state
    by (Ok slot) = record {
      limits = record {
        table = length_set state.slots slot _ ∙ h.table;
        records = h.records;
        slots = slots_set state.roster state.slots slot _ h.slots (record {
          stay = s;
          least = a;
          most = b;
          records =
              records_changed _ mover.host.0 (change_decided mover.number Accepted) (kept_change mover.number Accepted)
              (records_mapped records received received_fits r);
        });
      };
      server = refl;
      roster = refl;
      counts = omega arith;
    }
    by (Err refusal) =
        record {
          limits = record { table = h.table; records = h.records; slots = h.slots };
          server = refl;
          roster = refl;
          counts = omega arith;
        }

once_next : (state : StoreState) (from : ServerId) (ship : ℕ) (id : FilesetId) (moves : ℕ) (outcome : Outcome) →
    KeepsLimits state → IsNext state outcome.state →
    IsNext state (head_once state from ship id moves outcome).state
once_next state from ship id moves outcome h k =
    by (list_any (is_used_so (is_past id moves)) state.slots) (nat_lt (taken_from state from).ship ship)
  where
    self : IsNext state state
    self = next_of state state (quiet_self state h)

    by : (late new : Bool) → IsNext state
        (if late then stale Accepted state else if new then outcome else stale
        (reply_of (taken_from state from).code 0) state).state
    by true new = self
    by false true = k
    by false false = self

part_next : (state : StoreState) (from : ServerId) (ship : ℕ) (id : FilesetId) (moves at : ℕ) (part : ShipPart) →
    IsServer state.roster from → IsPart state.roster at part → KeepsLimits state →
    IsNext state (part_outcome state from ship id moves at part).state
unfolding part_outcome
part_next state from ship id moves at (Head name objects records mover) s p h = by (at == 0)
  where
    by : (b : Bool) → IsNext state (if b
        then head_once state from ship id moves (head_outcome state from ship id moves name objects records mover)
        else stale Accepted state).state
    by true = once_next state from ship id moves _ h
        (head_next state from ship id moves name objects records mover s p.1.least p.1.most
        (record { count = p.1.hosts; each = p.1.kept }) h)
    by false = next_of state state (quiet_self state h)
part_next state from ship id moves at (ObjectPart anode unique status pieces entries) s p h =
    anode_next state from ship id moves at (anode_of_part unique status pieces entries) s h

-- each act
booted_keeps : (roster : Roster) → Keeps roster held_booted
booted_keeps roster holding h =
    record { stay = h.stay; least = h.least; most = h.most; records = records_forgotten holding.records h.records }

pub act_next : (state : StoreState) (act : Act) → KeepsLimits state → IsAct state.roster state.server act →
    IsNext state (act_done state act).state
unfolding act_done
act_next state Boot h k = record {
  limits = record {
    table = length_map (option_map held_booted) state.slots ∙ h.table;
    records = records_forgotten state.records h.records;
    slots = slots_mapped state.roster state.slots held_booted (booted_keeps state.roster) h.slots;
  };
  server = refl;
  roster = refl;
  counts = omega arith;
}
act_next state Epoch h k =
    record {
      limits = record { table = h.table; records = h.records; slots = h.slots };
      server = refl;
      roster = refl;
      counts = omega arith;
    }
act_next state (Host host known) h k =
    record {
      limits = record { table = h.table; records = h.records; slots = h.slots };
      server = refl;
      roster = refl;
      counts = omega arith;
    }
act_next state (Do host number call) h k = next_of state _ (do_quiet state host number call k.3.objects h)
act_next state (Refuse host id number refusal) h k = next_of state _ (refuse_quiet state host number id refusal h)
act_next state (Give host number fid pieces given) h k =
    next_of state _ (give_quiet state host number fid pieces given h)
act_next state (Leave id to) h k = leave_next state id to k h
act_next state (Back host number id refusal) h k = next_of state _ (back_quiet state host number id refusal h)
act_next state (Left id) h k = left_next state id h
act_next state (Settle id) h k = settle_next state id h
act_next state (Part from ship id moves at part) h k = part_next state from ship id moves at part k.0 k.1 h

-- a part has a next one in 32 bits
pub has_next : (roster : Roster) (server : ServerId) (act : Act) → IsAct roster server act → HasNext act
has_next roster server Boot k = tt
has_next roster server Epoch k = tt
has_next roster server (Host host known) k = tt
has_next roster server (Do host number call) k = tt
has_next roster server (Refuse host id number refusal) k = tt
has_next roster server (Give host number fid pieces given) k = tt
has_next roster server (Leave id to) k = tt
has_next roster server (Back host number id refusal) k = tt
has_next roster server (Left id) k = tt
has_next roster server (Settle id) k = tt
has_next roster server (Part from ship id moves at (Head name objects records mover)) k =
    let z = k.1.0 in omega (arith, z)
has_next roster server (Part from ship id moves at (ObjectPart anode unique status pieces entries)) k =
    let z = k.1.1 in omega (arith, z)
