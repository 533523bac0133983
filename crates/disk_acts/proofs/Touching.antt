-- Which slots an act changes.
use Rattle.std.proofs.Common.{◌≡◌, ◌≢◌, ◌⊎◌, ℕ, zero, suc, ◌+◌, List, [], ◌∷◌, length, set, inl, inr, refl, sym, subst, ◌∙◌, ap, arith}
use Rattle.std.specs.Prelude.{Bool, true, false, ◌==◌, ◌&&◌, nat_le, nat_lt, slice_set, if◌then◌else◌, Option, Some, None, Result, Ok, Err, ⊤}
use Rattle.std.specs.List.{list_any}
use Rattle.std.specs.Option.{option_map, option_map_or}
use Rattle.std.proofs.lemmas.Bool.{cases_eq, false≢true}
use Rattle.std.proofs.lemmas.Bool.Decides.{nat_tests}
use Rattle.message_types.specs.Soundness.{IsPart}
use Rattle.base_types.specs.Lists.{changed_at}
use Rattle.base_types.specs.Outcomes.{either}
use Rattle.base_types.specs.declared.ids.Fid.{Fid}
use Rattle.base_types.specs.declared.ids.FilesetId.{FilesetId}
use Rattle.base_types.specs.declared.ids.HostId.{HostId}
use Rattle.base_types.specs.declared.ids.ServerId.{ServerId}
use Rattle.base_types.specs.declared.user.User.{User}
use Rattle.tree_calls.specs.Rosters.{user_of}
use Rattle.tree_calls.specs.declared.call.Call.{Call}
use Rattle.tree_calls.specs.declared.call.Call.TheVariants.{NewFileset, Create, MakeDir, Remove, Rename, Truncate, SetAcl, CloneFileset, Read, Write, List as ListNames, Stat, GetAcl, Sync, Lock, Unlock, OpenFile, CloseFile, MoveFileset}
use Rattle.tree_calls.specs.declared.part.Piece.{Piece}
use Rattle.tree_calls.specs.declared.place.Place.{Place}
use Rattle.tree_calls.specs.declared.reply.Refusal.{Refusal}
use Rattle.tree_calls.specs.declared.reply.Refusal.TheVariants.{Denied, NoFileset, Exists, TooMany, NoRoom}
use Rattle.tree_calls.specs.declared.reply.Reply.TheVariants.{Ok as Accepted, Refused}
use Rattle.tree_calls.specs.declared.ship.Mover.{Mover}
use Rattle.tree_calls.specs.declared.ship.Record.{Record}
use Rattle.tree_calls.specs.declared.ship.ShipPart.{ShipPart}
use Rattle.tree_calls.specs.declared.ship.ShipPart.TheVariants.{Head, Object as ObjectPart}
use Rattle.tree_filesets.specs.Founding.{control_check, new_fileset, cloned}
use Rattle.tree_filesets.specs.Laws.{is_file_at}
use Rattle.tree_filesets.specs.Promises.{clone_promise, new_promise}
use Rattle.tree_filesets.specs.Updates.{changed, updated}
use Rattle.tree_objects.specs.declared.content.Anode.{Anode}
use Rattle.tree_filesets.specs.declared.fileset.Fileset.{Fileset}
use Rattle.tree_filesets.proofs.Stays.{stays_itself}
use Rattle.tree_filesets.proofs.Targets.{then_ok, unless_ok, ok_is}
use Rattle.store_acts.specs.Acts.{act_done, do_outcome, refuse_outcome}
use Rattle.store_acts.specs.Moving.{leave_outcome, back_outcome, left_outcome, settle_outcome, part_outcome, head_outcome, head_once, anode_outcome, arrival, arrival_slot, held_as, returned, held_left, held_settled, held_with, held_arriving, arriving, with_taken, done_where, taken_from}
use Rattle.store_acts.specs.Parts.{anode_of_part}
use Rattle.store_acts.specs.Sound.{IsAct, IsDecided}
use Rattle.store_acts.specs.declared.act.Act.{Act}
use Rattle.store_acts.specs.declared.act.Act.TheVariants.{Boot, Epoch, Host, Do, Refuse, Give, Leave, Back, Left, Settle, Part}
use Rattle.base_types.specs.declared.limits.TheConstants.{FILESET_NUMBER_MAX}
use Rattle.store_state.specs.Founding.{free_slot, promised, slot_for, room_for, source_named, clone_target, clone_answer, new_fileset_answer, next_id, with_new}
use Rattle.store_state.specs.Giving.{held_given, give_outcome, content_given}
use Rattle.store_state.specs.Replies.{reply_of}
use Rattle.store_state.specs.Outcomes.{Outcome, fresh, unless_before, decided, decided_before, decided_once, applied_before, change_decided, give_applied, refuse, stale}
use Rattle.store_state.specs.Rows.{answer_to, answer_for, numbered_id, numbered_name, named_row, rename_row, move_check, held_answered, nothing_used}
use Rattle.store_state.specs.Sought.{is_named, is_other, awaits, is_past}
use Rattle.store_state.specs.State.{held_at, held_noted, is_here_as, is_arriving, is_leaving, is_writable, is_of, is_server, is_used_so, slot_so, with_held, with_record}
use Rattle.store_state.specs.declared.done.Done.{Done}
use Rattle.store_state.specs.declared.state.Holding.{Holding}
use Rattle.store_state.specs.declared.state.Stay.TheVariants as stays
use Rattle.store_state.specs.declared.state.StoreState.{StoreState}
use Rattle.store_state.proofs.Slots.{slot_first, first_changed, held_changed}
use Rattle.store_records.proofs.Tables.{held_changed_other, held_set_other}
use Rattle.disk_acts.specs.Touched.{anodes_before, called_name, called_slot, slot_touched, other_touched, renews}
use Rattle.disk_acts.proofs.FreeSlot.{free_none}
use Rattle.disk_acts.proofs.Seeing.{AllTold, all_itself, all_gone, all_more, all_fresh, told_answer}

-- the same anodes, where something is held
abbrev pub SameAnodes : Option Holding → Option Holding → Type 0
SameAnodes None None = ⊤
SameAnodes None (Some is) = ⊥
SameAnodes (Some was) None = ⊥
SameAnodes (Some was) (Some is) = is.fileset.anodes ≡ was.fileset.anodes

-- what is seen of the anodes before tells what is held next
abbrev pub HeldTold : Option Holding → Option Holding → Type 0
HeldTold was None = ⊤
HeldTold was (Some is) = AllTold (anodes_before was) is.fileset.anodes

-- Tables differ at a slot, and at another one beside its anodes. Where it is to be told, what is seen tells what is next.
pub record Touches (tells : Bool) (at other : ℕ) (old new : List (Option Holding)) : Type 0 where
  pub others : (s : ℕ) → s ≢ at → s ≢ other → held_at new s ≡ held_at old s
  pub beside : other ≢ at → SameAnodes (held_at old other) (held_at new other)
  pub there : held_at new at ≡ None → held_at old at ≡ None
  pub told : tells ≡ true → HeldTold (held_at old at) (held_at new at)

same_itself : (o : Option Holding) → SameAnodes o o
same_itself None = tt
same_itself (Some holding) = refl

told_itself : (o : Option Holding) → HeldTold o o
told_itself None = tt
told_itself (Some holding) = all_itself holding.fileset.anodes

told_same : (o is : Option Holding) → is ≡ o → HeldTold o is
told_same o is e = subst (HeldTold o) (sym e) (told_itself o)

pub touch_none : (tells : Bool) (at other : ℕ) (slots : List (Option Holding)) → Touches tells at other slots slots
touch_none tells at other slots = record { others = λ s a b. refl; beside = λ apart. same_itself (held_at slots other); there = λ e. e; told = λ on. told_itself (held_at slots at) }

-- anodes of which what is next is told
abbrev pub FilesetTold : (Holding → Holding) → Type 0
FilesetTold f = (h : Holding) → AllTold h.fileset.anodes (f h).fileset.anodes

told_mapped : (o : Option Holding) (f : Holding → Holding) → FilesetTold f → HeldTold o (option_map f o)
told_mapped None f each = tt
told_mapped (Some holding) f each = each holding

-- the same anodes
told_still : (was is : Option Holding) (g : Holding → Holding) → ((h : Holding) → (g h).fileset.anodes ≡ h.fileset.anodes) → HeldTold was is → HeldTold was (option_map g is)
told_still was None g keeps told = tt
told_still was (Some is) g keeps told = subst (AllTold (anodes_before was)) (sym (keeps is)) told

mapped_none : (o : Option Holding) (f : Holding → Holding) → option_map f o ≡ None → o ≡ None
mapped_none None f e = refl
mapped_none (Some holding) f e = absurd (cc)

pub touch_at : (tells : Bool) (at other : ℕ) (slots : List (Option Holding)) (f : Holding → Holding) → (tells ≡ true → FilesetTold f) → Touches tells at other slots (changed_at slots at (option_map f))
touch_at tells at other slots f each = record {
  others = λ s a b. held_changed_other slots at s f a;
  beside = λ apart. subst (λ (o : Option Holding). SameAnodes (held_at slots other) o) (sym (held_changed_other slots at other f apart)) (same_itself (held_at slots other));
  there = λ e. mapped_none (held_at slots at) f (sym (held_changed slots at f) ∙ e);
  told = λ on. subst (HeldTold (held_at slots at)) (sym (held_changed slots at f)) (told_mapped (held_at slots at) f (each on));
}

set_there : (slots : List (Option Holding)) (at : ℕ) (holding : Holding) → held_at (set slots at (Some holding)) at ≡ None → held_at slots at ≡ None
set_there [] at holding e = refl
set_there (slot ∷ slots) zero holding e = absurd (cc)
set_there (slot ∷ slots) (suc at) holding e = set_there slots at holding e

told_set : (slots : List (Option Holding)) (at : ℕ) (holding : Holding) → AllTold (anodes_before (held_at slots at)) holding.fileset.anodes → HeldTold (held_at slots at) (held_at (set slots at (Some holding)) at)
told_set [] at holding all = tt
told_set (slot ∷ slots) zero holding all = all
told_set (slot ∷ slots) (suc at) holding all = told_set slots at holding all

pub touch_set : (tells : Bool) (at other : ℕ) (slots : List (Option Holding)) (holding : Holding) → (tells ≡ true → AllTold (anodes_before (held_at slots at)) holding.fileset.anodes) → Touches tells at other slots (set slots at (Some holding))
touch_set tells at other slots holding all = record {
  others = λ s a b. held_set_other slots at s holding a;
  beside = λ apart. subst (λ (o : Option Holding). SameAnodes (held_at slots other) o) (sym (held_set_other slots at other holding apart)) (same_itself (held_at slots other));
  there = set_there slots at holding;
  told = λ on. told_set slots at holding (all on);
}

same_mapped : (was is : Option Holding) (g : Holding → Holding) → ((h : Holding) → (g h).fileset.anodes ≡ h.fileset.anodes) → SameAnodes was is → SameAnodes was (option_map g is)
same_mapped None None g keeps same = tt
same_mapped None (Some is) g keeps same = same
same_mapped (Some was) None g keeps same = same
same_mapped (Some was) (Some is) g keeps same = keeps is ∙ same

pub touch_then : (tells : Bool) (at other : ℕ) (old mid : List (Option Holding)) (g : Holding → Holding) → ((h : Holding) → (g h).fileset.anodes ≡ h.fileset.anodes) → Touches tells at other old mid
    → Touches tells at other old (changed_at mid other (option_map g))
touch_then tells at other old mid g keeps touch = record {
  others = λ s a b. held_changed_other mid other s g b ∙ touch.others s a b;
  beside = λ apart. subst (λ (o : Option Holding). SameAnodes (held_at old other) o) (sym (held_changed mid other g)) (same_mapped (held_at old other) (held_at mid other) g keeps (touch.beside apart));
  there = λ e. by (cases_eq at other) e;
  told = λ on. still (cases_eq at other) (touch.told on);
}
  where
    still : (at ≡ other) ⊎ (at ≢ other) → HeldTold (held_at old at) (held_at mid at) → HeldTold (held_at old at) (held_at (changed_at mid other (option_map g)) at)
    still (inl same) told =
        subst (λ (n : ℕ). HeldTold (held_at old at) (held_at (changed_at mid n (option_map g)) at)) same
        (subst (HeldTold (held_at old at)) (sym (held_changed mid at g)) (told_still (held_at old at) (held_at mid at) g keeps told))
    still (inr apart) told = subst (HeldTold (held_at old at)) (sym (held_changed_other mid other at g apart)) told

    by : (at ≡ other) ⊎ (at ≢ other) → held_at (changed_at mid other (option_map g)) at ≡ None → held_at old at ≡ None
    by (inl same) e = touch.there (mapped_none (held_at mid at) g (sym (held_changed mid at g) ∙ (λ i. held_at (changed_at mid (same i) (option_map g)) at) ∙ e))
    by (inr apart) e = touch.there (sym (held_changed_other mid other at g apart) ∙ e)

-- what is kept of requests
pub touch_noted : (tells : Bool) (at other : ℕ) (old : List (Option Holding)) (mid : StoreState) (id : FilesetId) (host : HostId) (change : Record → Record) → slot_so (is_of id) mid.slots ≡ other
    → Touches tells at other old mid.slots → Touches tells at other old (with_record mid id host change).slots
touch_noted tells at other old mid id host change is touch = by (is_server id)
  where
    by : (b : Bool) → Touches tells at other old (if b then record mid { records = changed_at mid.records host.0 change } else with_held mid (slot_so (is_of id) mid.slots) (held_noted host change)).slots
    by true = touch
    by false = subst (λ (n : ℕ). Touches tells at other old (changed_at mid.slots n (option_map (held_noted host change)))) (sym is) (touch_then tells at other old mid.slots (held_noted host change) (λ h. refl) touch)

-- a fileset is where it was
pub found_still : (id : FilesetId) (slots : List (Option Holding)) (at : ℕ) (f : Holding → Holding) → ((h : Holding) → (f h).fileset.id ≡ h.fileset.id)
    → slot_so (is_of id) (changed_at slots at (option_map f)) ≡ slot_so (is_of id) slots
found_still id slots at f keeps =
    slot_first (is_of id) (changed_at slots at (option_map f))
    ∙ first_changed (is_of id) f (λ h. ap (λ (i : FilesetId). i.0 == id.0) (keeps h)) slots at
    ∙ sym (slot_first (is_of id) slots)

-- an act that was done before
pub touch_before : (tells : Bool) (at other : ℕ) (before : Option Done) (state : StoreState) (outcome : Outcome) → Touches tells at other state.slots outcome.state.slots
    → Touches tells at other state.slots (unless_before before state outcome).state.slots
touch_before tells at other None state outcome touch = touch
touch_before tells at other (Some done) state outcome touch = touch_none tells at other state.slots

touch_where : (tells : Bool) (at other : ℕ) (condition : Bool) (state next : StoreState) → Touches tells at other state.slots next.slots → Touches tells at other state.slots (done_where condition state next).state.slots
touch_where tells at other true state next touch = touch
touch_where tells at other false state next touch = touch_none tells at other state.slots

-- what is held of a fileset changes, but its anodes
touch_beside : (tells : Bool) (at other : ℕ) (slots : List (Option Holding)) (g : Holding → Holding) → ((h : Holding) → (g h).fileset.anodes ≡ h.fileset.anodes) → Touches tells at other slots (changed_at slots other (option_map g))
touch_beside tells at other slots g keeps = touch_then tells at other slots slots g keeps (touch_none tells at other slots)

-- in a slot that is free
free_told : (slots : List (Option Holding)) (new : List Anode) → AllTold (anodes_before (held_at slots (free_slot slots))) new
free_told slots new = subst (λ (o : Option Holding). AllTold (anodes_before o) new) (sym (free_none slots)) (all_fresh 64 new)

-- calls about filesets themselves
slot_place : (state : StoreState) (at blocks slot : ℕ) → slot_for state at blocks ≡ Ok slot → at ≡ slot
slot_place state at blocks slot e =
    let (few, a) = unless_ok (nat_le (length state.slots) at) TooMany _ slot e in
    let (room, b) = unless_ok (nat_lt state.capacity (promised state.slots + blocks)) NoRoom _ slot a in
    ok_is at slot b

pub room_slot : (state : StoreState) (name : List ℕ) (blocks slot : ℕ) → room_for state name blocks ≡ Ok slot → free_slot state.slots ≡ slot
room_slot state name blocks slot e =
    let (named, a) = unless_ok (list_any (is_used_so (is_named name)) state.slots) Exists _ slot e in
    let (number, b) = unless_ok (nat_lt FILESET_NUMBER_MAX state.next) TooMany _ slot a in
    slot_place state (free_slot state.slots) blocks slot b

arrival_place : (state : StoreState) (id : FilesetId) (name : List ℕ) (objects slot : ℕ) → arrival state id name objects ≡ Ok slot → arrival_slot state id ≡ slot
arrival_place state id name objects slot e =
    let (named, a) = unless_ok (list_any (is_used_so (is_other id name)) state.slots) Exists _ slot e in
    slot_place state (arrival_slot state id) (new_promise objects) slot a

touch_founded : (other : ℕ) (state : StoreState) (name : List ℕ) (objects : ℕ) (owner : User) → Touches true (free_slot state.slots) other state.slots (new_fileset_answer state name objects owner).state.slots
unfolding new_fileset_answer
touch_founded other state name objects owner = by (room_for state name (new_promise objects)) refl
  where
    by : (room : Result ℕ Refusal) → room_for state name (new_promise objects) ≡ room
        → Touches true (free_slot state.slots) other state.slots (either room (λ slot. record {
          reply = Accepted;
          state = with_new state slot stays.Writable (new_fileset state.server (next_id state) name objects owner);
        }) (refuse state)).state.slots
    by (Err refusal) e = touch_none true (free_slot state.slots) other state.slots
    by (Ok slot) e = subst (λ (n : ℕ). Touches true (free_slot state.slots) other state.slots (with_new state n stays.Writable (new_fileset state.server (next_id state) name objects owner)).slots) (room_slot state name (new_promise objects) slot e)
        (touch_set true (free_slot state.slots) other state.slots _ (λ on. free_told state.slots _))

touch_cloned : (other : ℕ) (state : StoreState) (user : User) (source new : List ℕ) → Touches true (free_slot state.slots) other state.slots (clone_answer state user source new).state.slots
unfolding clone_answer clone_target
touch_cloned other state user source new = by (clone_target state user source new) refl
  where
    place : (fileset : Fileset) (slot : ℕ) → clone_target state user source new ≡ Ok (fileset, slot) → free_slot state.slots ≡ slot
    place fileset slot e =
        let (found, is_found, a) = then_ok (source_named state source) _ (fileset, slot) e in
        let (checked, is_checked, b) = then_ok (control_check found user) _ (fileset, slot) a in
        let (at, is_at, c) = then_ok (room_for state new (clone_promise found)) _ (fileset, slot) b in
        let pair : (found, at) ≡ (fileset, slot) = ok_is _ _ c in
        room_slot state new (clone_promise found) at is_at ∙ ap (λ (p : Fileset × ℕ). p.1) pair

    by : (target : Result (Fileset × ℕ) Refusal) → clone_target state user source new ≡ target
        → Touches true (free_slot state.slots) other state.slots (either target (λ (fileset, slot). record { reply = Accepted; state = with_new state slot stays.Clone (cloned fileset (next_id state) new) }) (refuse state)).state.slots
    by (Err refusal) e = touch_none true (free_slot state.slots) other state.slots
    by (Ok (fileset, slot)) e = subst (λ (n : ℕ). Touches true (free_slot state.slots) other state.slots (with_new state n stays.Clone (cloned fileset (next_id state) new)).slots) (place fileset slot e)
        (touch_set true (free_slot state.slots) other state.slots _ (λ on. free_told state.slots _))

-- calls on a fileset
record Answered (at : ℕ) (state next : StoreState) : Type 0 where
  touch : (other : ℕ) → Touches true at other state.slots next.slots
  still : (id : FilesetId) → slot_so (is_of id) next.slots ≡ slot_so (is_of id) state.slots

refused_answered : (at : ℕ) (state : StoreState) → Answered at state state
refused_answered at state = record { touch = λ other. touch_none true at other state.slots; still = λ id. refl }

named_answered : (state : StoreState) (name : List ℕ) (host : HostId) (user : User) (call : Call) → IsDecided call → Answered (slot_so (is_here_as name) state.slots) state (named_row state name host user call).state
unfolding named_row
named_answered state name host user call d = record {
  touch = λ other. touch_at true (slot_so (is_here_as name) state.slots) other state.slots (held_answered host user call) (λ on h. told_answer h.fileset nothing_used host user call d);
  still = λ id. found_still id state.slots (slot_so (is_here_as name) state.slots) (held_answered host user call) (λ h. (stays_itself h.fileset nothing_used host user call).id);
}

renamed_answered : (state : StoreState) (host : HostId) (user : User) (from to : Place) → Answered (slot_so (is_here_as from.fileset) state.slots) state (rename_row state host user from to).state
unfolding rename_row
renamed_answered state host user from to = by (move_check state from to)
  where
    by : (checked : Result (Unit {0}) Refusal) → Answered (slot_so (is_here_as from.fileset) state.slots) state (either checked (λ _. named_row state from.fileset host user (Rename from to)) (refuse state)).state
    by (Ok done) = named_answered state from.fileset host user (Rename from to) tt
    by (Err refusal) = refused_answered (slot_so (is_here_as from.fileset) state.slots) state

-- of a user, or of nobody
user_answered : (state : StoreState) (host : HostId) (call : Call) (at : ℕ) → ((user : User) → Answered at state (answer_for state host call user).state) → Answered at state (answer_to state host call).state
unfolding answer_to
user_answered state host call at each = by (user_of state.roster host)
  where
    by : (o : Option User) → Answered at state (option_map_or (answer_for state host call) o (refuse state (Denied 0))).state
    by None = refused_answered at state
    by (Some user) = each user

user_touch : (state : StoreState) (host : HostId) (call : Call) (at other : ℕ) → ((user : User) → Touches true at other state.slots (answer_for state host call user).state.slots) → Touches true at other state.slots (answer_to state host call).state.slots
unfolding answer_to
user_touch state host call at other each = by (user_of state.roster host)
  where
    by : (o : Option User) → Touches true at other state.slots (option_map_or (answer_for state host call) o (refuse state (Denied 0))).state.slots
    by None = touch_none true at other state.slots
    by (Some user) = each user

-- a call that is decided under the number of its fileset
do_named : (state : StoreState) (host : HostId) (number : ℕ) (call : Call) (at : ℕ) → Answered at state (answer_to state host call).state
    → Touches true at (option_map_or (λ id. slot_so (is_of id) state.slots) (numbered_id state (numbered_name call)) 16) state.slots (do_outcome state host number call).state.slots
unfolding do_outcome
do_named state host number call at answered = by (numbered_id state (numbered_name call))
  where
    by : (o : Option FilesetId) → Touches true at (option_map_or (λ id. slot_so (is_of id) state.slots) o 16) state.slots
        (option_map_or (λ id. decided_once state id host number (decided id host number (answer_to state host call))) o (stale (Refused NoFileset) state)).state.slots
    by None = touch_none true at 16 state.slots
    by (Some id) = touch_before true at (slot_so (is_of id) state.slots) (decided_before state id host number) state (decided id host number (answer_to state host call))
        (touch_noted true at (slot_so (is_of id) state.slots) state.slots (answer_to state host call).state id host (change_decided number (answer_to state host call).reply)
        (answered.still id) (answered.touch (slot_so (is_of id) state.slots)))

pub do_touch : (state : StoreState) (host : HostId) (number : ℕ) (call : Call) → IsDecided call
    → Touches true (called_slot state (called_name call)) (option_map_or (λ id. slot_so (is_of id) state.slots) (numbered_id state (numbered_name call)) 16) state.slots (do_outcome state host number call).state.slots
unfolding do_outcome answer_for
do_touch state host number (NewFileset server name objects owner) d =
    touch_before true (free_slot state.slots) _ (decided_before state (record { 0 = 0 }) host number) state (decided (record { 0 = 0 }) host number (answer_to state host (NewFileset server name objects owner)))
    (user_touch state host (NewFileset server name objects owner) (free_slot state.slots) _ (λ user. touch_founded _ state name objects owner))
do_touch state host number (CloneFileset server source new) d =
    touch_before true (free_slot state.slots) _ (decided_before state (record { 0 = 0 }) host number) state (decided (record { 0 = 0 }) host number (answer_to state host (CloneFileset server source new)))
    (user_touch state host (CloneFileset server source new) (free_slot state.slots) _ (λ user. touch_cloned _ state user source new))
do_touch state host number (Create place) d = do_named state host number (Create place) _ (user_answered state host (Create place) _ (λ user. named_answered state place.fileset host user (Create place) tt))
do_touch state host number (MakeDir place) d = do_named state host number (MakeDir place) _ (user_answered state host (MakeDir place) _ (λ user. named_answered state place.fileset host user (MakeDir place) tt))
do_touch state host number (Remove place) d = do_named state host number (Remove place) _ (user_answered state host (Remove place) _ (λ user. named_answered state place.fileset host user (Remove place) tt))
do_touch state host number (Rename from to) d = do_named state host number (Rename from to) _ (user_answered state host (Rename from to) _ (λ user. renamed_answered state host user from to))
do_touch state host number (Truncate place len) d = do_named state host number (Truncate place len) _ (user_answered state host (Truncate place len) _ (λ user. named_answered state place.fileset host user (Truncate place len) tt))
do_touch state host number (SetAcl place which list) d = do_named state host number (SetAcl place which list) _ (user_answered state host (SetAcl place which list) _ (λ user. named_answered state place.fileset host user (SetAcl place which list) tt))
do_touch state host number (Read place from len) d = absurd d
do_touch state host number (Write place from bytes) d = absurd d
do_touch state host number (ListNames place) d = absurd d
do_touch state host number (Stat place) d = absurd d
do_touch state host number (GetAcl place which) d = absurd d
do_touch state host number (Sync place) d = absurd d
do_touch state host number (Lock label place writing from len) d = absurd d
do_touch state host number (Unlock label) d = absurd d
do_touch state host number (OpenFile label place kind) d = absurd d
do_touch state host number (CloseFile label) d = absurd d
do_touch state host number (MoveFileset server name to) d = absurd d

-- what hosts give back
pub given_id : (fid : Fid) (pieces : List Piece) (given : Option ℕ) (h : Holding) → (held_given fid pieces given h).fileset.id ≡ h.fileset.id
unfolding updated
given_id fid pieces given h = by (is_writable h.stay && is_file_at h.fileset fid)
  where
    by : (b : Bool) → (if b then record h { fileset = changed h.fileset fid.anode (content_given pieces given) } else h).fileset.id ≡ h.fileset.id
    by true = refl
    by false = refl

give_touch : (state : StoreState) (host : HostId) (number : ℕ) (fid : Fid) (pieces : List Piece) (given : Option ℕ)
    → Touches false (slot_so (is_of fid.fileset) state.slots) (slot_so (is_of fid.fileset) state.slots) state.slots (give_outcome state host number fid pieces given).state.slots
unfolding give_outcome
give_touch state host number fid pieces given =
    let at = slot_so (is_of fid.fileset) state.slots in
    let mid = with_held state at (held_given fid pieces given) in
    touch_before false at at (applied_before state fid.fileset host number) state _
    (touch_noted false at at state.slots mid fid.fileset host (give_applied number) (found_still fid.fileset state.slots at (held_given fid pieces given) (given_id fid pieces given))
    (touch_at false at at state.slots (held_given fid pieces given) (λ on. absurd (false≢true on))))

-- moves
returned_fileset : (h : Holding) → (returned h).fileset ≡ h.fileset
returned_fileset h = by (is_leaving h.stay)
  where
    by : (b : Bool) → (if b then held_as stays.Writable h else h).fileset ≡ h.fileset
    by true = refl
    by false = refl

back_touch : (state : StoreState) (host : HostId) (number : ℕ) (id : FilesetId) (refusal : Refusal) → Touches false 16 (slot_so (is_of id) state.slots) state.slots (back_outcome state host number id refusal).state.slots
unfolding back_outcome
back_touch state host number id refusal =
    let other = slot_so (is_of id) state.slots in
    let mid = with_held state other returned in
    touch_before false 16 other (decided_before state id host number) state _
    (touch_noted false 16 other state.slots mid id host (change_decided number (Refused refusal)) (found_still id state.slots other returned (λ h. ap (λ (f : Fileset). f.id) (returned_fileset h)))
    (touch_beside false 16 other state.slots returned (λ h. ap (λ (f : Fileset). f.anodes) (returned_fileset h))))

-- a part that comes
head_touch : (state : StoreState) (from : ServerId) (ship : ℕ) (id : FilesetId) (moves : ℕ) (name : List ℕ) (objects : ℕ) (records : List Record) (mover : Mover)
    → Touches true (arrival_slot state id) (arrival_slot state id) state.slots (head_outcome state from ship id moves name objects records mover).state.slots
unfolding head_outcome
head_touch state from ship id moves name objects records mover = by (arrival state id name objects) refl
  where
    by : (room : Result ℕ Refusal) → arrival state id name objects ≡ room → Touches true (arrival_slot state id) (arrival_slot state id) state.slots
        (either room (λ slot. fresh Accepted (record (with_taken state from ship Accepted) {
          slots = slice_set state.slots slot
              (Some (held_arriving (stays.Arriving from ship 1) (arriving state.server id name objects moves) records mover));
        })) (λ refusal. fresh (Refused refusal) (with_taken state from ship (Refused refusal)))).state.slots
    by (Err refusal) e = touch_none true (arrival_slot state id) (arrival_slot state id) state.slots
    by (Ok slot) e = subst (λ (n : ℕ). Touches true (arrival_slot state id) (arrival_slot state id) state.slots
        (set state.slots n (Some (held_arriving (stays.Arriving from ship 1) (arriving state.server id name objects moves) records mover)))) (arrival_place state id name objects slot e)
        (touch_set true (arrival_slot state id) (arrival_slot state id) state.slots _ (λ on. all_gone (anodes_before (held_at state.slots (arrival_slot state id)))))

once_touch : (at : ℕ) (state : StoreState) (from : ServerId) (ship : ℕ) (id : FilesetId) (moves : ℕ) (outcome : Outcome) → Touches true at at state.slots outcome.state.slots
    → Touches true at at state.slots (head_once state from ship id moves outcome).state.slots
once_touch at state from ship id moves outcome touch = by (list_any (is_used_so (is_past id moves)) state.slots) (nat_lt (taken_from state from).ship ship)
  where
    by : (a b : Bool) → Touches true at at state.slots (if a then stale Accepted state else if b then outcome else stale (reply_of (taken_from state from).code 0) state).state.slots
    by true b = touch_none true at at state.slots
    by false true = touch
    by false false = touch_none true at at state.slots

part_touch : (state : StoreState) (from : ServerId) (ship : ℕ) (id : FilesetId) (moves n : ℕ) (part : ShipPart) → IsPart state.roster n part
    → Touches true (if n == 0 then arrival_slot state id else slot_so (awaits id from ship moves n) state.slots) (if n == 0 then arrival_slot state id else slot_so (awaits id from ship moves n) state.slots)
    state.slots (part_outcome state from ship id moves n part).state.slots
unfolding part_outcome
part_touch state from ship id moves n (Head name objects records mover) is = by (n == 0)
  where
    by : (b : Bool) → Touches true (if b then arrival_slot state id else slot_so (awaits id from ship moves n) state.slots) (if b then arrival_slot state id else slot_so (awaits id from ship moves n) state.slots) state.slots
        (if b then head_once state from ship id moves (head_outcome state from ship id moves name objects records mover) else stale Accepted state).state.slots
    by true = once_touch (arrival_slot state id) state from ship id moves _ (head_touch state from ship id moves name objects records mover)
    by false = touch_none true _ _ state.slots
part_touch state from ship id moves n (ObjectPart anode unique status pieces entries) is = by (n == 0) refl
  where
    by : (b : Bool) → (n == 0) ≡ b → Touches true (if b then arrival_slot state id else slot_so (awaits id from ship moves n) state.slots) (if b then arrival_slot state id else slot_so (awaits id from ship moves n) state.slots)
        state.slots (anode_outcome state from ship id moves n (anode_of_part unique status pieces entries)).state.slots
    by true e = (let none : n ≡ 0 = grind (arith, nat_tests, e) in let some = is.0 in absurd (omega (arith, none, some)))
    by false e =
        let at = slot_so (awaits id from ship moves n) state.slots in
        touch_where true at at (nat_lt at (length state.slots)) state (with_held state at (held_with from ship n (anode_of_part unique status pieces entries)))
        (touch_at true at at state.slots (held_with from ship n (anode_of_part unique status pieces entries)) (λ on h. all_more h.fileset.anodes (anode_of_part unique status pieces entries ∷ [])))

left_told : FilesetTold held_left
left_told h = all_gone h.fileset.anodes

settled_told : FilesetTold held_settled
settled_told h = by (is_arriving h.stay)
  where
    by : (b : Bool) → AllTold h.fileset.anodes (if b then [] else h.fileset.anodes)
    by true = all_gone h.fileset.anodes
    by false = all_itself h.fileset.anodes

pub act_touches : (state : StoreState) (act : Act) → IsAct state.roster state.server act → (act ≡ Boot → ⊥) → Touches (renews act) (slot_touched state act) (other_touched state act) state.slots (act_done state act).state.slots
unfolding act_done refuse_outcome leave_outcome left_outcome settle_outcome
act_touches state Boot is apart = absurd (apart refl)
act_touches state Epoch is apart = touch_none false 16 16 state.slots
act_touches state (Host host known) is apart = touch_none false 16 16 state.slots
act_touches state (Do host number call) is apart = do_touch state host number call is.1
act_touches state (Refuse host id number refusal) is apart =
    touch_before false 16 (slot_so (is_of id) state.slots) (decided_before state id host number) state _
    (touch_noted false 16 (slot_so (is_of id) state.slots) state.slots state id host (change_decided number (Refused refusal)) refl (touch_none false 16 (slot_so (is_of id) state.slots) state.slots))
act_touches state (Give host number fid pieces given) is apart = give_touch state host number fid pieces given
act_touches state (Leave id to) is apart = touch_where false 16 (slot_so (is_of id) state.slots) _ state _ (touch_beside false 16 (slot_so (is_of id) state.slots) state.slots _ (λ h. refl))
act_touches state (Back host number id refusal) is apart = back_touch state host number id refusal
act_touches state (Left id) is apart = touch_where true (slot_so (is_of id) state.slots) (slot_so (is_of id) state.slots) _ state _ (touch_at true (slot_so (is_of id) state.slots) (slot_so (is_of id) state.slots) state.slots held_left (λ on. left_told))
act_touches state (Settle id) is apart = touch_where true (slot_so (is_of id) state.slots) (slot_so (is_of id) state.slots) _ state _ (touch_at true (slot_so (is_of id) state.slots) (slot_so (is_of id) state.slots) state.slots held_settled (λ on. settled_told))
act_touches state (Part from ship id moves at part) is apart = part_touch state from ship id moves at part is.1
