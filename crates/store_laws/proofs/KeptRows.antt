-- A call that one fileset decides, and that is accepted, in a tree and in the store that has the fileset.
use Rattle.store_laws.proofs.Rows.{moves_same, some_same}
use Rattle.std.proofs.Common.{◌≡◌, ◌≢◌, ℕ, ◌==◌, nat_lt, Bool, true, false, ◌||◌, ◌&&◌, not, List, Some, None, Result, Ok, Err, refl, sym, ap, ◌∙◌, subst, arith}
use Rattle.std.specs.Prelude.{slice_get, slice_set, if◌then◌else◌, option_and_then}
use Rattle.std.specs.List.{find}
use Rattle.std.specs.Option.{option_map, option_map_or}
use Rattle.std.proofs.lemmas.Grind.{common_steps}
use Rattle.base_types.specs.Lists.{changed_at}
use Rattle.base_types.specs.Name.{same_name}
use Rattle.base_types.specs.Outcomes.{and_then}
use Rattle.base_types.specs.declared.ids.FilesetId.{FilesetId}
use Rattle.base_types.specs.declared.ids.HostId.{HostId}
use Rattle.base_types.specs.declared.ids.ServerId.{ServerId}
use Rattle.base_types.specs.declared.user.User.{User}
use Rattle.tree_calls.specs.Rosters.{user_of}
use Rattle.tree_calls.specs.declared.call.Call.{Call}
use Rattle.tree_calls.specs.declared.call.Call.TheVariants.{
  NewFileset,
  Create,
  MakeDir,
  Remove,
  Rename,
  Truncate,
  SetAcl,
  CloneFileset,
  Read,
  Write,
  List as ListNames,
  Stat,
  GetAcl,
  Sync,
  Lock,
  Unlock,
  OpenFile,
  CloseFile,
  MoveFileset,
}
use Rattle.tree_calls.specs.declared.place.Place.{Place}
use Rattle.tree_calls.specs.declared.reply.Refusal.{Refusal}
use Rattle.tree_calls.specs.declared.reply.Refusal.TheVariants.{CrossFileset, NoFileset}
use Rattle.tree_calls.specs.declared.reply.Reply.{Reply}
use Rattle.tree_calls.specs.declared.reply.Reply.TheVariants.{Ok as Accepted, Refused}
use Rattle.tree_calls.specs.declared.ship.Record.{Record}
use Rattle.tree_filesets.specs.declared.fileset.Fileset.{Fileset}
use Rattle.tree_filesets.specs.Checks.{unless}
use Rattle.tree_filesets.specs.Rows.{fileset_answer}
use Rattle.tree_filesets.proofs.Names.{same_self}
use Rattle.tree_filesets.proofs.Stays.{stays_itself}
use Rattle.tree_answers.specs.declared.tree.Tree.{Tree}
use Rattle.tree_answers.specs.Answers.{deciding_place, answer_to as tree_answer}
use Rattle.tree_answers.specs.Away.{is_away}
use Rattle.tree_answers.specs.Finding.{Answer as TreeAnswer, has_id, fileset_place, move_place}
use Rattle.tree_answers.specs.Founding.{room_of}
use Rattle.tree_answers.specs.WellFormed.{IsWellFormed}
use Rattle.tree_answers.proofs.Places.{find_put, find_put_other, find_at_place}
use Rattle.store_records.specs.Stored.{IsStorable}
use Rattle.store_records.proofs.Acts.{acts_keep_storable}
use Rattle.store_acts.specs.Acts.{act_done, do_outcome}
use Rattle.store_acts.specs.Sound.{IsDecided, IsAct, Fits}
use Rattle.store_acts.specs.declared.act.Act.TheVariants.{Do}
use Rattle.store_state.specs.Outcomes.{Answer, Outcome, change_decided, decided, decided_before, decided_by, fresh, not_fresh}
use Rattle.store_state.specs.Replies.{kept_reply}
use Rattle.store_state.specs.Rows.{
  same_fileset,
  nothing_used,
  held_answered,
  held_reply,
  named_row,
  rename_row,
  answer_for,
  answer_to,
  numbered_name,
}
use Rattle.store_state.specs.State.{is_here, is_gone, is_here_as, is_of, is_server, held_at, held_so, held_noted, record_of, records_of, slot_so, unless_gone, with_held}
use Rattle.store_state.specs.declared.state.Holding.{Holding}
use Rattle.store_state.specs.declared.state.Stay.{Stay}
use Rattle.store_state.specs.declared.state.Stay.TheVariants.{Writable, Clone, Leaving, Arriving, Gone}
use Rattle.store_state.specs.declared.state.StoreState.{StoreState}
use Rattle.store_laws.specs.TreeKeeping.{if_at, fileset_at, if_gone, gone_from, left_for, KeepsOf}
use Rattle.store_laws.specs.Calls.{IsNewChange, IsDecidedBy, DoesKeep, RowsAreKept}
use Rattle.store_laws.proofs.Called.{leads_so, Accepts, accepts_so, led_there, led_name, same_id}
use Rattle.store_laws.proofs.Keys.{same_key, keys_sym}
use Rattle.store_laws.proofs.Slots.{Table, ChangesOne, changes_one, changes_then, only_slot}
use Rattle.store_laws.proofs.KeptSteps.{
  IsPart,
  same_found,
  SameAt,
  IsHeld,
  part_of,
  keeps_parts,
  parts_step,
  same_part,
  held_here,
  at_server,
  not_server,
}

-- no such call makes a fileset
row_fits : (tree : Tree) (state : StoreState) (host : HostId) (number : ℕ) (call : Call) (place : ℕ) →
    deciding_place tree call ≡ Ok place → Fits state (Do host number call)
row_fits tree state host number (Create at) place e = tt
row_fits tree state host number (MakeDir at) place e = tt
row_fits tree state host number (Remove at) place e = tt
row_fits tree state host number (Rename from to) place e = tt
row_fits tree state host number (Truncate at len) place e = tt
row_fits tree state host number (SetAcl at which list) place e = tt
row_fits tree state host number (Read at from len) place e = tt
row_fits tree state host number (Write at from bytes) place e = tt
row_fits tree state host number (ListNames at) place e = tt
row_fits tree state host number (Stat at) place e = tt
row_fits tree state host number (GetAcl at which) place e = tt
row_fits tree state host number (Sync at) place e = tt
row_fits tree state host number (NewFileset server name objects owner) place e = absurd (cc)
row_fits tree state host number (CloneFileset server source new) place e = absurd (cc)
row_fits tree state host number (MoveFileset server name to) place e = absurd (cc)
row_fits tree state host number (Lock label at writing from len) place e = absurd (cc)
row_fits tree state host number (Unlock label) place e = absurd (cc)
row_fits tree state host number (OpenFile label at kind) place e = absurd (cc)
row_fits tree state host number (CloseFile label) place e = absurd (cc)

-- a store finds the fileset of a name in the slot of its id
pub named_slot : (state : StoreState) (fileset : Fileset) (holding : Holding) (name : List ℕ) → IsStorable state →
    IsHeld state fileset holding → fileset.name ≡ name →
    slot_so (is_here_as name) state.slots ≡ slot_so (is_of fileset.id) state.slots
named_slot state fileset holding name s h e =
    only_slot (is_here_as name) state.slots (slot_so (is_of fileset.id) state.slots) holding h.held passes fails
  where
    named : holding.fileset.name ≡ name
    named = ap (λ (f : Fileset). f.name) h.same ∙ e

    passes : is_here_as name holding ≡ true
    passes = ap (λ b. b && same_name holding.fileset.name name) h.here
        ∙ ap (λ n. same_name n name) named ∙ same_self name

    fails : (other : ℕ) (b : Holding) → other ≢ slot_so (is_of fileset.id) state.slots →
        held_at state.slots other ≡ Some b → is_here_as name b ≡ false
    fails other b apart there =
        let two = s.apart other (slot_so (is_of fileset.id) state.slots) b holding apart there h.held in
        let differs : same_name b.fileset.name name ≡ false =
        ap (same_name b.fileset.name) (sym named) ∙ two.names in
        ap (λ t. is_here b.stay && t) differs ∙ none (is_here b.stay)
      where
        none : (t : Bool) → (t && false) ≡ false
        none true = refl
        none false = refl

store_row : (tree : Tree) (state : StoreState) (host : HostId) (user : User) (call : Call) (place : ℕ) (name : List ℕ)
    (holding : Holding) → IsDecided call → numbered_name call ≡ Some name → deciding_place tree call ≡ Ok place →
    held_so (is_here_as name) state.slots ≡ Some holding →
    answer_for state host call user ≡ named_row state name host user call
unfolding answer_for rename_row
store_row tree state host user (Create at) place name holding d n p h =
    ap (λ x. named_row state x host user (Create at)) (some_same _ _ n)
store_row tree state host user (MakeDir at) place name holding d n p h =
    ap (λ x. named_row state x host user (MakeDir at)) (some_same _ _ n)
store_row tree state host user (Remove at) place name holding d n p h =
    ap (λ x. named_row state x host user (Remove at)) (some_same _ _ n)
store_row tree state host user (Rename from to) place name holding d n p h =
    let e : from.fileset ≡ name = some_same _ _ n in
    let here : held_so (is_here_as from.fileset) state.slots ≡ Some holding = rw e h in
    let same = moves_same tree from to place p in
    rw here (rw same (ap (λ x. named_row state x host user (Rename from to)) e))
store_row tree state host user (Truncate at len) place name holding d n p h =
    ap (λ x. named_row state x host user (Truncate at len)) (some_same _ _ n)
store_row tree state host user (SetAcl at which list) place name holding d n p h =
    ap (λ x. named_row state x host user (SetAcl at which list)) (some_same _ _ n)
store_row tree state host user (NewFileset server new objects owner) place name holding d n p h = absurd (cc)
store_row tree state host user (CloneFileset server source new) place name holding d n p h = absurd (cc)
store_row tree state host user (Read at from len) place name holding d n p h = absurd d
store_row tree state host user (Write at from bytes) place name holding d n p h = absurd d
store_row tree state host user (ListNames at) place name holding d n p h = absurd d
store_row tree state host user (Stat at) place name holding d n p h = absurd d
store_row tree state host user (GetAcl at which) place name holding d n p h = absurd d
store_row tree state host user (Sync at) place name holding d n p h = absurd d
store_row tree state host user (Lock label at writing from len) place name holding d n p h = absurd d
store_row tree state host user (Unlock label) place name holding d n p h = absurd d
store_row tree state host user (OpenFile label at kind) place name holding d n p h = absurd d
store_row tree state host user (CloseFile label) place name holding d n p h = absurd d
store_row tree state host user (MoveFileset server fileset to) place name holding d n p h = absurd d

-- the table after a call on the fileset of an id, and once the call is noted
abbrev answered_slots : Table → FilesetId → HostId → User → Call → Table
answered_slots slots id host user call =
    changed_at slots (slot_so (is_of id) slots) (option_map (held_answered host user call))

abbrev pub noted_slots : Table → FilesetId → HostId → (Record → Record) → Table
noted_slots slots id host change =
    changed_at slots (slot_so (is_of id) slots) (option_map (held_noted host change))

abbrev row_slots : Table → FilesetId → HostId → ℕ → User → Call → Table
row_slots slots id host number user call =
    noted_slots (answered_slots slots id host user call) id host (change_decided number Accepted)

-- the row of the fileset answers so
named_so : (state : StoreState) (fileset : Fileset) (holding : Holding) (name : List ℕ) (host : HostId) (user : User)
    (call : Call) → IsHeld state fileset holding →
    slot_so (is_here_as name) state.slots ≡ slot_so (is_of fileset.id) state.slots →
    (fileset_answer fileset nothing_used host user call).reply ≡ Accepted →
    named_row state name host user call
    ≡ record { reply = Accepted; state = record state { slots = answered_slots state.slots fileset.id host user call } }
unfolding named_row
named_so state fileset holding name host user call h slot accepted =
    ap answer_in slot ∙ ap after (told ∙ ap (λ f. (fileset_answer f nothing_used host user call).reply) h.same ∙ accepted)
  where
    answer_in : ℕ → Answer
    answer_in at = record {
      reply = held_reply host user call (held_at state.slots at);
      state = with_held state at (held_answered host user call);
    }

    after : Reply → Answer
    after reply = record {
      reply = reply;
      state = record state { slots = answered_slots state.slots fileset.id host user call };
    }

    told : held_reply host user call (held_at state.slots (slot_so (is_of fileset.id) state.slots))
        ≡ (fileset_answer holding.fileset nothing_used host user call).reply
    told = ap (held_reply host user call) h.held

-- a number that is new is decided
new_number : (state : StoreState) (id : FilesetId) (holding : Holding) (host : HostId) (number : ℕ) →
    held_so (is_of id) state.slots ≡ Some holding → is_server id ≡ false → is_gone holding.stay ≡ false →
    IsNewChange state id host number → decided_before state id host number ≡ None
new_number state id holding host number e server gone new =
    ap (λ o. option_map_or (λ records. decided_by (record_of records host) number) o
    (Some (record { fresh = false; reply = Refused NoFileset }))) there
    ∙ ap (λ b. if b then None else Some (not_fresh (kept_reply (record_of holding.records host)))) low
  where
    there : records_of state id ≡ Some holding.records
    there = ap (λ b. if b then Some state.records else option_and_then unless_gone (held_so (is_of id) state.slots)) server
        ∙ ap (option_and_then unless_gone) e ∙ ap (λ b. if b then None else Some holding.records) gone

    low : nat_lt (record_of holding.records host).change number ≡ true
    low = let below = new holding.records there in grind (arith, common_steps, below)

pub not_gone : (stay : Stay) → is_here stay ≡ true → is_gone stay ≡ false
not_gone Writable h = refl
not_gone Clone h = refl
not_gone (Leaving to ship) h = refl
not_gone (Arriving from ship parts) h = refl
not_gone (Gone to) h = absurd (cc)

pub not_left : (stay : Stay) → is_here stay ≡ true → left_for stay ≡ None
not_left Writable h = refl
not_left Clone h = refl
not_left (Leaving to ship) h = absurd (cc)
not_left (Arriving from ship parts) h = absurd (cc)
not_left (Gone to) h = absurd (cc)

-- a call that is decided now on a fileset
pub decided_now : (state : StoreState) (id : FilesetId) (host : HostId) (number : ℕ) (slots : Table) →
    is_server id ≡ false →
    decided id host number (record { reply = Accepted; state = record state { slots = slots } })
    ≡ fresh Accepted (record state { slots = noted_slots slots id host (change_decided number Accepted) })
decided_now state id host number slots e =
    ap (λ b. fresh Accepted (
    if b then record state { slots = slots; records = changed_at state.records host.0 (change_decided number Accepted) }
    else record state { slots = noted_slots slots id host (change_decided number Accepted) })) e

row_done : (tree : Tree) (state : StoreState) (host : HostId) (number : ℕ) (call : Call) (place : ℕ)
    (fileset : Fileset) (user : User) (holding : Holding) → IsWellFormed tree → KeepsOf tree state → IsDecided call →
    deciding_place tree call ≡ Ok place → slice_get tree.filesets place ≡ Some fileset →
    Accepts tree host call place fileset user → IsHeld state fileset holding →
    IsNewChange state fileset.id host number →
    act_done state (Do host number call)
    ≡ fresh Accepted (record state { slots = row_slots state.slots fileset.id host number user call })
unfolding act_done do_outcome answer_to
row_done tree state host number call place fileset user holding w k d decides there accepts h new =
    let l = leads_so tree call place decides in
    let name = led_name tree l.server l.name fileset w
    (led_there tree l.server l.name place fileset l.led there) in
    let slot = named_slot state fileset holding l.name k.storable h name in
    let held : held_so (is_here_as l.name) state.slots ≡ Some holding = ap (held_at state.slots) slot ∙ h.held in
    let server = not_server state fileset.id holding k.storable h.held in
    let its : holding.fileset.id ≡ fileset.id = ap (λ (f : Fileset). f.id) h.same in
    let before = new_number state fileset.id holding host number h.held server (not_gone holding.stay h.here) new in
    let row = store_row tree state host user call place l.name holding d l.numbered decides held in
    let says = named_so state fileset holding l.name host user call h slot accepts.reply in
    let one : user_of state.roster host ≡ Some user = ap (λ r. user_of r host) k.roster ∙ accepts.user_is in
    let numbered = l.numbered in
    let now = decided_now state fileset.id host number
    (answered_slots state.slots fileset.id host user call) server in
    rw numbered (rw held (rw its (rw before (rw one (rw row (rw says now))))))

-- what is found of the fileset then
held_twice : (slots : Table) (fileset : Fileset) (holding : Holding) (host : HostId) (number : ℕ) (user : User)
    (call : Call) → held_so (is_of fileset.id) slots ≡ Some holding →
    ChangesOne slots (row_slots slots fileset.id host number user call) fileset.id
    (Some (held_noted host (change_decided number Accepted) (held_answered host user call holding)))
held_twice slots fileset holding host number user call e =
    let first = changes_one slots fileset.id holding (held_answered host user call)
    (λ any h. ap (λ (i : FilesetId). i.0 == any.0)
    (stays_itself h.fileset nothing_used host user call).id) e in
    let second = changes_one (answered_slots slots fileset.id host user call) fileset.id
    (held_answered host user call holding) (held_noted host (change_decided number Accepted)) (λ any h. refl) first.here in
    changes_then slots (answered_slots slots fileset.id host user call)
    (row_slots slots fileset.id host number user call) fileset.id
    (Some (held_answered host user call holding)) _ first second

-- A fileset is put in the place of one, with its id, at its server.
pub record IsPut (old new : Tree) (place : ℕ) (fileset after : Fileset) : Type 0 where
  pub there : slice_get old.filesets place ≡ Some fileset
  pub filesets : new.filesets ≡ slice_set old.filesets place after
  pub away : new.away ≡ old.away
  pub id : after.id ≡ fileset.id
  pub server : after.server ≡ fileset.server
  pub moves : after.moves ≡ fileset.moves

pub put_found : (old new : Tree) (place : ℕ) (fileset after : Fileset) → IsWellFormed old →
    IsPut old new place fileset after → find (has_id fileset.id) new.filesets ≡ Some after
put_found old new place fileset after w p =
    ap (find (has_id fileset.id)) p.filesets
    ∙ find_put fileset.id old.filesets place fileset after (sym p.there) w.ordered p.id (same_key fileset.id.0)

pub put_others : (old new : Tree) (place : ℕ) (fileset after : Fileset) (server : ServerId) →
    IsPut old new place fileset after → (other : FilesetId) → (other.0 == fileset.id.0) ≡ false →
    SameAt old new server other
put_others old new place fileset after server p other apart = record {
  fileset = ap (option_and_then (if_at server)) (ap (find (has_id other)) p.filesets
      ∙ find_put_other other old.filesets place fileset after (sym p.there) p.id (keys_sym other.0 fileset.id.0 apart));
  record_is = ap (find (is_away server other)) p.away;
  moves = same_found old new other (ap (find (has_id other)) p.filesets
      ∙ find_put_other other old.filesets place fileset after (sym p.there) p.id (keys_sym other.0 fileset.id.0 apart));
}

-- elsewhere nothing changes
pub put_elsewhere : (old new : Tree) (place : ℕ) (fileset after : Fileset) (server : ServerId) → IsWellFormed old →
    IsPut old new place fileset after → (fileset.server.0 == server.0) ≡ false → (id : FilesetId) →
    SameAt old new server id
put_elsewhere old new place fileset after server w p apart id = by (id.0 == fileset.id.0) refl
  where
    none : (f : Fileset) → f.server ≡ fileset.server → if_at server f ≡ None
    none f e = ap (λ b. if b then Some f else None) (ap (λ (s : ServerId). s.0 == server.0) e ∙ apart)

    was : find (has_id fileset.id) old.filesets ≡ Some fileset
    was = find_at_place fileset.id old.filesets place fileset (sym p.there) w.ordered (same_key fileset.id.0)

    same : fileset_at new server fileset.id ≡ fileset_at old server fileset.id
    same = ap (option_and_then (if_at server)) (put_found old new place fileset after w p) ∙ none after p.server
        ∙ sym (ap (option_and_then (if_at server)) was ∙ none fileset refl)

    by : (t : Bool) → (id.0 == fileset.id.0) ≡ t → SameAt old new server id
    by true e =
        subst (SameAt old new server) (sym (same_id id fileset.id e)) (record {
          fileset = same;
          record_is = ap (find (is_away server fileset.id)) p.away;
          moves = λ found there. (
            fileset,
            was,
            (let its : after ≡ found =
                (let e : Some after ≡ Some found = sym (put_found old new place fileset after w p) ∙ there in cc) in
                let same = sym (ap (λ (f : Fileset). f.moves) its) ∙ p.moves in
                omega (arith, same)),
          );
        })
    by false e = put_others old new place fileset after server p id e

-- what is held of it is what is put
pub put_part : (old new : Tree) (state : StoreState) (fileset after : Fileset) (holding next : Holding) →
    KeepsOf old state → find (has_id fileset.id) new.filesets ≡ Some after → new.away ≡ old.away →
    after.server ≡ state.server → IsHeld state fileset holding → next.stay ≡ holding.stay → next.fileset ≡ after →
    IsPart new state.server fileset.id (Some next)
put_part old new state fileset after holding next k found away at h stay its = record {
  fileset = ap (λ b. if b then Some next.fileset else None) here ∙ ap Some its
      ∙ sym (ap (option_and_then (if_at state.server)) found ∙ at_server after state.server at);
  gone = none next here
      ∙ sym (ap (find (is_away state.server fileset.id)) away ∙ sym (k.records fileset.id)
      ∙ ap (option_and_then (if_gone state.server)) h.held ∙ none holding h.here);
  still = λ holding same.
      ap (λ (h : Holding). is_here h.stay || is_gone h.stay) (sym (some_same next holding same))
      ∙ ap (λ b. b || is_gone next.stay) here;
  older = λ holding fileset same gone there.
      (let not_so = ap (λ (h : Holding). is_gone h.stay) (sym (some_same next holding same))
      ∙ not_gone next.stay here in
      let wrong : true ≡ false = sym gone ∙ not_so in absurd (cc));
}
  where
    here : is_here next.stay ≡ true
    here = ap is_here stay ∙ h.here

    none : (held : Holding) → is_here held.stay ≡ true → if_gone state.server held ≡ None
    none held e = ap (option_map (gone_from state.server held.fileset)) (not_left held.stay e)

-- the tree after the call
row_put : (tree : Tree) (host : HostId) (call : Call) (place : ℕ) (fileset : Fileset) (user : User) →
    slice_get tree.filesets place ≡ Some fileset → Accepts tree host call place fileset user →
    IsPut tree (tree_answer tree host call).tree place fileset
    (fileset_answer fileset nothing_used host user call).fileset
row_put tree host call place fileset user there a =
    let same = stays_itself fileset nothing_used host user call in
    record {
      there = there;
      filesets = ap (λ (t : TreeAnswer). t.tree.filesets) a.answer;
      away = ap (λ (t : TreeAnswer). t.tree.away) a.answer;
      id = same.id;
      server = same.server;
      moves = same.moves;
    }

row_here : (tree : Tree) (state : StoreState) (host : HostId) (number : ℕ) (call : Call) (fileset : Fileset) →
    IsWellFormed tree → KeepsOf tree state → IsDecidedBy tree call fileset → fileset.server ≡ state.server →
    (tree_answer tree host call).reply ≡ Accepted → IsNewChange state fileset.id host number →
    IsAct state.roster state.server (Do host number call) →
    DoesKeep (tree_answer tree host call).tree state (Do host number call)
row_here tree state host number call fileset w k by at accepted new fits =
    let (user, a) = accepts_so tree host call by.place fileset by.decides by.there accepted in
    let known = find_at_place fileset.id tree.filesets by.place fileset (sym by.there) w.ordered
    (same_key fileset.id.0) in
    let (holding, h) = held_here tree state fileset k known at in
    let does = row_done tree state host number call by.place fileset user holding w k fits.1 by.decides by.there a h new in
    let put = row_put tree host call by.place fileset user by.there a in
    let changes = held_twice state.slots fileset holding host number user call h.held in
    let after = λ (f : Fileset). (fileset_answer f nothing_used host user call).fileset in
    let part = put_part tree (tree_answer tree host call).tree state fileset (after fileset) holding
    (held_noted host (change_decided number Accepted) (held_answered host user call holding)) k
    (put_found tree (tree_answer tree host call).tree by.place fileset (after fileset) w put) put.away
    (put.server ∙ at) h refl (ap after h.same) in
    let storable = acts_keep_storable state (Do host number call) k.storable fits
    (row_fits tree state host number call by.place by.decides) in
    let next : KeepsOf (tree_answer tree host call).tree
    (record state { slots = row_slots state.slots fileset.id host number user call }) =
    keeps_parts (tree_answer tree host call).tree
    (record state { slots = row_slots state.slots fileset.id host number user call })
    (subst IsStorable (ap (λ (o : Outcome). o.state) does) storable)
    (k.roster ∙ sym (ap (λ (t : TreeAnswer). t.tree.roster) a.answer))
    (ap (λ (t : TreeAnswer). room_of t.tree.servers state.server) a.answer ∙ k.room)
    (parts_step tree (tree_answer tree host call).tree state.server state.slots
    (row_slots state.slots fileset.id host number user call) fileset.id _ (λ id. part_of tree state id k) changes
    (put_others tree (tree_answer tree host call).tree by.place fileset (after fileset) state.server put) part) in
    record {
      done = ap (λ (o : Outcome). o.done) does;
      keeps = subst (KeepsOf (tree_answer tree host call).tree) (sym (ap (λ (o : Outcome). o.state) does)) next;
    }

row_elsewhere : (tree : Tree) (state : StoreState) (host : HostId) (call : Call) (fileset : Fileset) →
    IsWellFormed tree → KeepsOf tree state → IsDecidedBy tree call fileset →
    (fileset.server.0 == state.server.0) ≡ false → (tree_answer tree host call).reply ≡ Accepted →
    KeepsOf (tree_answer tree host call).tree state
row_elsewhere tree state host call fileset w k by apart accepted =
    let (user, a) = accepts_so tree host call by.place fileset by.decides by.there accepted in
    let put = row_put tree host call by.place fileset user by.there a in
    let after = (fileset_answer fileset nothing_used host user call).fileset in
    keeps_parts (tree_answer tree host call).tree state k.storable
    (k.roster ∙ sym (ap (λ (t : TreeAnswer). t.tree.roster) a.answer))
    (ap (λ (t : TreeAnswer). room_of t.tree.servers state.server) a.answer ∙ k.room)
    (λ id. same_part tree (tree_answer tree host call).tree state.server id _
    (put_elsewhere tree (tree_answer tree host call).tree by.place fileset after state.server w put apart id)
    (part_of tree state id k))

pub rows_are_kept : RowsAreKept
rows_are_kept = record { here = row_here; elsewhere = row_elsewhere }
