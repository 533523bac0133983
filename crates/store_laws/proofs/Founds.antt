-- A fileset comes about in a store as in a tree.
use Rattle.std.proofs.Common.{
  ◌≡◌,
  ℕ,
  zero,
  suc,
  ◌+◌,
  ◌==◌,
  nat_lt,
  nat_le,
  Bool,
  true,
  false,
  ◌&&◌,
  not,
  List,
  length,
  Some,
  Result,
  Ok,
  Err,
  inl,
  inr,
  refl,
  sym,
  ap,
  ◌∙◌,
}
use Rattle.std.specs.List.{find, list_any}
use Rattle.std.proofs.lemmas.Bool.Decides.{eqb_tells}
use Rattle.base_types.specs.Outcomes.{and_then, either}
use Rattle.base_types.specs.declared.ids.ServerId.{ServerId}
use Rattle.base_types.specs.declared.limits.TheConstants.{FILESETS_MAX, FILESET_NUMBER_MAX}
use Rattle.base_types.specs.declared.user.User.{User}
use Rattle.tree_calls.specs.declared.reply.Refusal.{Refusal}
use Rattle.tree_calls.specs.declared.reply.Refusal.TheVariants.{Exists, TooMany, NoRoom}
use Rattle.tree_calls.specs.declared.reply.Reply.TheVariants.{Ok as Accepted}
use Rattle.tree_filesets.specs.declared.fileset.Fileset.{Fileset}
use Rattle.tree_filesets.specs.Checks.{unless}
use Rattle.tree_filesets.specs.Founding.{new_fileset, cloned, control_check}
use Rattle.tree_filesets.specs.Promises.{new_promise, clone_promise}
use Rattle.tree_answers.specs.declared.tree.Away.{Away}
use Rattle.tree_answers.specs.declared.tree.ServerRoom.{ServerRoom}
use Rattle.tree_answers.specs.declared.tree.Tree.{Tree}
use Rattle.tree_answers.specs.Finding.{fileset_named, is_taken, has_id, Answer as TreeAnswer, refuse as tree_refuse}
use Rattle.tree_answers.specs.Founding.{
  room_of,
  count_at,
  promised_at,
  with_fileset,
  room_for as tree_room_for,
  next_id as tree_next_id,
  new_fileset_target,
  new_fileset_answer as tree_new_fileset,
  clone_source,
  clone_target as tree_clone_target,
  clone_answer as tree_clone,
}
use Rattle.store_acts.specs.Acts.{act_done}
use Rattle.store_acts.specs.Moving.{with_holding, stay_left, held_left, left_outcome}
use Rattle.store_acts.specs.declared.act.Act.TheVariants.{Left}
use Rattle.store_state.specs.Founding.{
  free_slot,
  promised,
  room_for,
  next_id,
  with_new,
  source_named,
  new_fileset_answer,
  clone_target,
  clone_answer,
}
use Rattle.store_state.specs.Outcomes.{Answer, refuse, fresh}
use Rattle.store_state.specs.Sought.{is_named}
use Rattle.store_state.specs.State.{is_of, is_used_so, held_so}
use Rattle.store_state.specs.declared.state.Holding.{Holding}
use Rattle.store_state.specs.declared.state.Stay.{Stay}
use Rattle.store_state.specs.declared.state.Stay.TheVariants.{Writable, Clone}
use Rattle.store_state.specs.declared.state.StoreState.{StoreState}
use Rattle.store_laws.specs.Founds.{
  room_in,
  HaveRoom,
  BothMake,
  BothRefuse,
  FoundAlike,
  StoresFoundAsTrees,
  IsAwayOf,
  LeavesAsTree,
  StoresLeaveAsTrees,
}

-- the checks of a store and of a tree, by what each of them tells
abbrev kept_room : Bool → Bool → Bool → Bool → ℕ → Result ℕ Refusal
kept_room taken past full much slot =
    unless taken Exists (unless past TooMany (unless full TooMany (unless much NoRoom (Ok slot))))

abbrev told_room : Bool → Bool → Bool → ServerRoom → Result ServerRoom Refusal
told_room past full much room =
    and_then (unless full TooMany (Ok room)) (λ room. unless past TooMany (unless much NoRoom (Ok room)))

refused : (tree : Tree) (state : StoreState) (stay : Stay) (fileset : Fileset) (refusal : Refusal) →
    FoundAlike tree state stay fileset (refuse state refusal) (tree_refuse tree refusal)
refused tree state stay fileset refusal = inr (refusal, record { in_store = refl; in_tree = refl })

-- whatever they tell, both answer alike
new_alike : (tree : Tree) (state : StoreState) (make : ServerRoom → Fileset) (taken past full much : Bool) →
    FoundAlike tree state Writable (make (room_in state))
    (either (kept_room taken past full much (free_slot state.slots))
    (λ slot. record { reply = Accepted; state = with_new state slot Writable (make (room_in state)) }) (refuse state))
    (either (unless taken Exists (told_room past full much (room_in state)))
    (λ room. record { reply = Accepted; tree = with_fileset tree state.server room (make room) }) (tree_refuse tree))
new_alike tree state make true past full much = refused tree state Writable (make (room_in state)) Exists
new_alike tree state make false true true much = refused tree state Writable (make (room_in state)) TooMany
new_alike tree state make false true false much = refused tree state Writable (make (room_in state)) TooMany
new_alike tree state make false false true much = refused tree state Writable (make (room_in state)) TooMany
new_alike tree state make false false false true = refused tree state Writable (make (room_in state)) NoRoom
new_alike tree state make false false false false = inl (record { in_store = refl; in_tree = refl })

clone_alike : (tree : Tree) (state : StoreState) (fileset : Fileset) (name : List ℕ) (taken past full much : Bool) →
    FoundAlike tree state Clone (cloned fileset (next_id state) name)
    (either (and_then (kept_room taken past full much (free_slot state.slots)) (λ slot. Ok (fileset, slot)))
    (λ (fileset, slot).
    record { reply = Accepted; state = with_new state slot Clone (cloned fileset (next_id state) name) })
    (refuse state))
    (either (unless taken Exists (and_then (told_room past full much (room_in state)) (λ room. Ok (fileset, room))))
    (λ (fileset, room). record {
      reply = Accepted;
      tree = with_fileset tree state.server room (cloned fileset (tree_next_id state.server room) name);
    })
    (tree_refuse tree))
clone_alike tree state fileset name true past full much = inr (Exists, record { in_store = refl; in_tree = refl })
clone_alike tree state fileset name false true true much = inr (TooMany, record { in_store = refl; in_tree = refl })
clone_alike tree state fileset name false true false much = inr (TooMany, record { in_store = refl; in_tree = refl })
clone_alike tree state fileset name false false true much = inr (TooMany, record { in_store = refl; in_tree = refl })
clone_alike tree state fileset name false false false true = inr (NoRoom, record { in_store = refl; in_tree = refl })
clone_alike tree state fileset name false false false false = inl (record { in_store = refl; in_tree = refl })

-- what a store tells of its room
abbrev is_past_numbers : StoreState → Bool
is_past_numbers state = nat_lt FILESET_NUMBER_MAX state.next

abbrev is_full : StoreState → Bool
is_full state = nat_le (length state.slots) (free_slot state.slots)

abbrev is_much : StoreState → ℕ → Bool
is_much state blocks = nat_lt state.capacity (promised state.slots + blocks)

abbrev has_name : StoreState → List ℕ → Bool
has_name state name = list_any (is_used_so (is_named name)) state.slots

-- the tree tells the same
same_room : (tree : Tree) (state : StoreState) (blocks : ℕ) → HaveRoom tree state →
    tree_room_for tree state.server blocks
    ≡ told_room (is_past_numbers state) (is_full state) (is_much state blocks) (room_in state)
unfolding tree_room_for
same_room tree state blocks h =
    let room = h.room in let full = h.full in let much = h.blocks in
    rw full (rw room (rw much (by (is_full state))))
  where
    by : (full : Bool) → and_then (unless full TooMany (Ok (room_in state))) (λ room.
        unless (nat_lt FILESET_NUMBER_MAX room.next) TooMany (
        unless (nat_lt room.capacity (promised state.slots + blocks)) NoRoom (Ok room)))
        ≡ told_room (is_past_numbers state) full (is_much state blocks) (room_in state)
    by true = refl
    by false = refl

made_alike : (tree : Tree) (state : StoreState) (name : List ℕ) (objects : ℕ) (owner : User) → HaveRoom tree state →
    FoundAlike tree state Writable (new_fileset state.server (next_id state) name objects owner)
    (new_fileset_answer state name objects owner) (tree_new_fileset tree state.server name objects owner)
unfolding new_fileset_answer tree_new_fileset new_fileset_target
made_alike tree state name objects owner h =
    let names = h.names name in
    let room = same_room tree state (new_promise objects) h in
    rw names (rw room
    (new_alike tree state (λ room. new_fileset state.server (tree_next_id state.server room) name objects owner)
    (has_name state name) (is_past_numbers state) (is_full state) (is_much state (new_promise objects))))

pub same_number : (n : ℕ) → (n == n) ≡ true
same_number n = elim (eqb_tells n n) as (λ _. (n == n) ≡ true) [ inl (e, k) ↦ e | inr (e, k) ↦ absurd (k refl) ]

same_server : (a b : ServerId) → a ≡ b → (a.0 == b.0) ≡ true
same_server a b e = ap (λ c. c.0 == b.0) e ∙ same_number b.0

copied_alike : (tree : Tree) (state : StoreState) (user : User) (source new : List ℕ) (fileset : Fileset) →
    HaveRoom tree state → source_named state source ≡ Ok fileset →
    fileset_named tree state.server source ≡ Ok fileset → fileset.server ≡ state.server →
    FoundAlike tree state Clone (cloned fileset (next_id state) new) (clone_answer state user source new)
    (tree_clone tree user state.server source new)
unfolding clone_answer clone_target tree_clone tree_clone_target clone_source
copied_alike tree state user source new fileset h kept told at =
    let names = h.names new in
    let here = same_server fileset.server state.server at in
    rw kept (rw told (rw here (rw names (by (control_check fileset user)))))
  where
    by : (checked : Result (Unit {0}) Refusal) → FoundAlike tree state Clone (cloned fileset (next_id state) new)
        (either (and_then checked (λ _. and_then (room_for state new (clone_promise fileset))
        (λ slot. Ok (fileset, slot)))) (λ (fileset, slot).
        record { reply = Accepted; state = with_new state slot Clone (cloned fileset (next_id state) new) })
        (refuse state))
        (either (and_then (and_then checked (λ _. Ok fileset)) (λ fileset. unless (has_name state new) Exists (and_then
        (tree_room_for tree state.server (clone_promise fileset)) (λ room. Ok (fileset, room)))))
        (λ (fileset, room). record {
          reply = Accepted;
          tree = with_fileset tree state.server room (cloned fileset (tree_next_id state.server room) new);
        })
        (tree_refuse tree))
    by (Err refusal) = inr (refusal, record { in_store = refl; in_tree = refl })
    by (Ok done) =
        let room = same_room tree state (clone_promise fileset) h in
        rw room (clone_alike tree state fileset new (has_name state new) (is_past_numbers state) (is_full state)
        (is_much state (clone_promise fileset)))

pub stores_found_as_trees : StoresFoundAsTrees
stores_found_as_trees = record { made = made_alike; copied = copied_alike }

-- a fileset leaves
left_done : (state : StoreState) (holding : Holding) (to : ServerId) (filesets : List Fileset) (away : Away) →
    held_so (is_of away.fileset) state.slots ≡ Some holding → IsAwayOf filesets away holding to →
    act_done state (Left away.fileset) ≡ fresh Accepted (with_holding state away.fileset held_left)
unfolding act_done left_outcome
left_done state holding to filesets away e h =
    let (ship, stay) = h.leaving in rw e (rw stay refl)

left_room : (holding : Holding) (to : ServerId) (filesets : List Fileset) (away : Away) →
    IsAwayOf filesets away holding to → LeavesAsTree holding to filesets away
left_room holding to filesets away h =
    let (ship, stay) = h.leaving in
    let (fileset, found, objects, moved) = h.moved in
    let writable = h.writable in
    let kept = h.kept in
    record {
      before = rw stay (rw writable (rw kept (rw found (rw moved (sym (ap new_promise objects))))));
      after = rw stay refl;
      named = λ name. refl;
      gone = ap stay_left stay;
    }

pub stores_leave_as_trees : StoresLeaveAsTrees
stores_leave_as_trees = record { left = left_done; room = left_room }
