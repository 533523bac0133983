-- New filesets and clones that are accepted, in a tree and in the store of their server.
use Rattle.store_laws.proofs.Exact.{is_taken_slot}
use Rattle.std.proofs.Common.{
  ◌≡◌,
  ◌≢◌,
  ◌≤◌,
  ◌<◌,
  ℕ,
  zero,
  suc,
  ◌+◌,
  ◌-◌,
  ◌*◌,
  ◌/◌,
  ◌%◌,
  ◌==◌,
  ◌&&◌,
  nat_lt,
  nat_le,
  Bool,
  true,
  false,
  ◌||◌,
  not,
  cond,
  List,
  [],
  ◌∷◌,
  length,
  insert,
  set,
  Option,
  Some,
  None,
  Result,
  Ok,
  Err,
  inl,
  inr,
  refl,
  sym,
  ap,
  ◌∙◌,
  subst,
  arith,
}
use Rattle.std.specs.Prelude.{slice_get, slice_set, is_none, if◌then◌else◌, option_and_then}
use Rattle.std.specs.List.{find, prefix_len}
use Rattle.std.specs.Option.{option_map, option_map_or}
use Rattle.std.proofs.lemmas.Grind.{common_steps}
use Rattle.base_types.specs.Lists.{changed_at}
use Rattle.base_types.specs.Name.{same_name}
use Rattle.base_types.specs.Outcomes.{either}
use Rattle.base_types.specs.declared.ids.FilesetId.{FilesetId}
use Rattle.base_types.specs.declared.ids.HostId.{HostId}
use Rattle.base_types.specs.declared.ids.ServerId.{ServerId}
use Rattle.base_types.specs.declared.limits.TheConstants.{FILESETS_MAX, FILESET_NUMBER_MAX}
use Rattle.base_types.specs.declared.user.User.{User}
use Rattle.tree_calls.specs.Rosters.{user_of}
use Rattle.tree_calls.specs.declared.call.Call.{Call}
use Rattle.tree_calls.specs.declared.call.Call.TheVariants.{
  NewFileset,
  Create,
  MakeDir,
  Remove,
  Rename,
  Truncate,
  SetAcl,
  CloneFileset,
  Read,
  Write,
  List as ListNames,
  Stat,
  GetAcl,
  Sync,
  Lock,
  Unlock,
  OpenFile,
  CloseFile,
  MoveFileset,
}
use Rattle.tree_calls.specs.declared.reply.Refusal.{Refusal}
use Rattle.tree_calls.specs.declared.reply.Refusal.TheVariants.{Exists}
use Rattle.tree_calls.specs.declared.reply.Reply.TheVariants.{Ok as Accepted, Refused}
use Rattle.tree_filesets.specs.Founding.{new_fileset, cloned}
use Rattle.tree_filesets.specs.Promises.{new_promise, clone_promise}
use Rattle.tree_filesets.specs.declared.fileset.Fileset.{Fileset}
use Rattle.tree_filesets.proofs.Targets.{unless_ok}
use Rattle.tree_answers.specs.declared.tree.Away.{Away}
use Rattle.tree_answers.specs.declared.tree.ServerRoom.{ServerRoom}
use Rattle.tree_answers.specs.declared.tree.Tree.{Tree}
use Rattle.tree_answers.specs.Away.{is_away}
use Rattle.tree_answers.specs.Answers.{answer_for as tree_answer_for, answer_to as tree_answer, for_user}
use Rattle.tree_answers.specs.Finding.{Answer as TreeAnswer, refuse as tree_refuse, fileset_named, has_id, id_place, is_taken}
use Rattle.tree_answers.specs.Founding.{room_of, count_at, next_id as tree_next_id, with_fileset, new_fileset_target, new_fileset_answer as tree_new_fileset, clone_target, clone_answer as tree_clone}
use Rattle.tree_answers.specs.WellFormed.{IsWellFormed, is_elsewhere}
use Rattle.tree_answers.proofs.Inserted.{IsFresh, find_insert, fresh_id, position_or_end, room_within, set_here, set_other}
use Rattle.tree_answers.proofs.Kept.{IsRoom, room_ok, cloned_so, cloned_parts, named_is}
use Rattle.tree_answers.proofs.Places.{find_all, found_by_id}
use Rattle.store_records.specs.Stored.{IsStorable}
use Rattle.store_records.proofs.Acts.{acts_keep_storable}
use Rattle.store_acts.specs.Acts.{act_done, do_outcome}
use Rattle.store_acts.specs.Sound.{IsAct, HasName}
use Rattle.store_acts.specs.declared.act.Act.TheVariants.{Do}
use Rattle.store_laws.specs.Founds.{room_in, HaveRoom, FoundAlike}
use Rattle.store_laws.proofs.Founds.{stores_found_as_trees}
use Rattle.store_state.specs.Founding.{
  free_slot,
  next_id,
  with_new,
  source_named,
  why_absent,
  new_fileset_answer,
  clone_answer,
}
use Rattle.store_state.specs.Outcomes.{Outcome, change_decided, decided_before, fresh, not_fresh}
use Rattle.store_state.specs.Replies.{kept_reply}
use Rattle.store_state.specs.Rows.{itself, answer_for, answer_to}
use Rattle.store_state.specs.State.{is_here, is_gone, is_of, held_at, held_so, no_records, record_of, slot_so}
use Rattle.store_state.specs.declared.state.Holding.{Holding}
use Rattle.store_state.specs.declared.state.Stay.{Stay}
use Rattle.store_state.specs.declared.state.Stay.TheVariants.{Writable, Clone, Leaving, Arriving, Gone}
use Rattle.store_state.specs.declared.state.StoreState.{StoreState}
use Rattle.store_laws.specs.Calls.{IsNewChange, DoesKeep, made_at, FoundsAreKept}
use Rattle.store_laws.specs.TreeKeeping.{if_at, if_gone, left_for, gone_from, fileset_at, record_at, KeepsOf}
use Rattle.store_laws.proofs.Called.{led_name, same_id}
use Rattle.store_laws.proofs.Exact.{have_room}
use Rattle.store_laws.proofs.Keys.{found_passes, same_key, equal_keys, keys_sym}
use Rattle.store_laws.proofs.KeptRows.{named_slot, not_gone, not_left}
use Rattle.store_laws.proofs.Slots.{Table, takes_one, held_passes}
use Rattle.store_laws.proofs.KeptSteps.{IsPart, SameAt, part_of, keeps_parts, parts_step, same_found, same_part, at_server, held_here}

-- What an accepted call makes of a tree: a fileset more at a server that has room for it.
pub record IsMade (tree : Tree) (host : HostId) (call : Call) (server : ServerId) (fileset : Fileset) : Type 0 where
  pub room : ServerRoom
  pub blocks : ℕ
  pub there : IsRoom tree server blocks room
  pub id : fileset.id ≡ tree_next_id server room
  pub server_is : fileset.server ≡ server
  pub answer : tree_answer tree host call ≡ record { reply = Accepted; tree = with_fileset tree server room fileset }

pub accepted_ok : {A : Type 0} (tree : Tree) (checked : Result A Refusal) (effect : A → Tree) →
    (either checked (λ a. let answer : TreeAnswer = record { reply = Accepted; tree = effect a } in answer)
    (tree_refuse tree)).reply ≡ Accepted → (a : A) × (checked ≡ Ok a)
accepted_ok tree (Ok a) effect h = (a, refl)
accepted_ok tree (Err e) effect h = absurd (cc)

-- the user for whom a host calls
pub user_is : (tree : Tree) (host : HostId) (call : Call) → (tree_answer tree host call).reply ≡ Accepted →
    (user : User) × (user_of tree.roster host ≡ Some user)
    × (tree_answer tree host call ≡ tree_answer_for tree host call user)
unfolding tree_answer
user_is tree host call h = by (user_of tree.roster host) refl h
  where
    by : (found : Option User) → user_of tree.roster host ≡ found →
        (for_user tree found (tree_answer_for tree host call)).reply ≡ Accepted →
        (user : User) × (user_of tree.roster host ≡ Some user)
        × (tree_answer tree host call ≡ tree_answer_for tree host call user)
    by None e h = absurd (cc)
    by (Some user) e h = (user, e, ap (λ o. for_user tree o (tree_answer_for tree host call)) e)

new_parts : (server : ServerId) (id : FilesetId) (name : List ℕ) (objects : ℕ) (owner : User) →
    ((new_fileset server id name objects owner).id ≡ id) × ((new_fileset server id name objects owner).server ≡ server)
unfolding new_fileset
new_parts server id name objects owner = (refl, refl)

-- a new fileset in a tree
pub record IsNewIn (tree : Tree) (host : HostId) (server : ServerId) (name : List ℕ) (objects : ℕ) (owner : User)
    (room : ServerRoom) : Type 0 where
  pub made : IsMade tree host (NewFileset server name objects owner) server
      (new_fileset server (tree_next_id server room) name objects owner)
  pub same : made.room ≡ room

new_made : (tree : Tree) (host : HostId) (server : ServerId) (name : List ℕ) (objects : ℕ) (owner : User) →
    (tree_answer tree host (NewFileset server name objects owner)).reply ≡ Accepted →
    (room : ServerRoom) × IsNewIn tree host server name objects owner room
unfolding tree_answer_for tree_new_fileset new_fileset_target
new_made tree host server name objects owner h =
    let (user, one, told) = user_is tree host (NewFileset server name objects owner) h in
    let accepted : (tree_new_fileset tree server name objects owner).reply ≡ Accepted =
    ap (λ (a : TreeAnswer). a.reply) (sym told) ∙ h in
    let (room, ok) = accepted_ok tree (new_fileset_target tree server name objects) _ accepted in
    let (free, rest) = unless_ok (is_taken tree server name) Exists _ room ok in
    let (id, at) = new_parts server (tree_next_id server room) name objects owner in (
      room,
      record {
        made = record {
          room = room;
          blocks = new_promise objects;
          there = room_ok tree server (new_promise objects) room rest;
          id = id;
          server_is = at;
          answer = told ∙ ap (λ checked. either checked (λ room. let answer : TreeAnswer = record {
            reply = Accepted;
            tree = with_fileset tree server room (new_fileset server (tree_next_id server room) name objects owner);
          } in answer) (tree_refuse tree)) ok;
        };
        same = refl;
      },
    )

-- a clone
pub record IsCloneIn (tree : Tree) (host : HostId) (server : ServerId) (source new : List ℕ) (user : User)
    (fileset : Fileset) (room : ServerRoom) : Type 0 where
  pub caller : user_of tree.roster host ≡ Some user
  pub from : fileset_named tree server source ≡ Ok fileset
  pub at : fileset.server ≡ server
  pub made : IsMade tree host (CloneFileset server source new) server
      (cloned fileset (tree_next_id server room) new)
  pub same : made.room ≡ room

clone_made : (tree : Tree) (host : HostId) (server : ServerId) (source new : List ℕ) →
    (tree_answer tree host (CloneFileset server source new)).reply ≡ Accepted →
    (user : User) × (fileset : Fileset) × (room : ServerRoom)
    × IsCloneIn tree host server source new user fileset room
unfolding tree_answer_for tree_clone
clone_made tree host server source new h =
    let (user, one, told) = user_is tree host (CloneFileset server source new) h in
    let accepted : (tree_clone tree user server source new).reply ≡ Accepted =
    ap (λ (a : TreeAnswer). a.reply) (sym told) ∙ h in
    let (found, ok) = accepted_ok tree (clone_target tree user server source new)
    (λ (fileset, room). with_fileset tree server room (cloned fileset (tree_next_id server room) new)) accepted in
    let so = cloned_so tree user server source new found ok in
    let (id, at, named, kind) = cloned_parts found.0 (tree_next_id server found.1) new in (
      user,
      found.0,
      found.1,
      record {
        caller = one;
        from = so.from;
        at = so.at;
        made = record {
          room = found.1;
          blocks = clone_promise found.0;
          there = so.room;
          id = id;
          server_is = at ∙ so.at;
          answer = told ∙ ap (λ checked. either checked (λ (fileset, room). let answer : TreeAnswer = record {
            reply = Accepted;
            tree = with_fileset tree server room (cloned fileset (tree_next_id server room) new);
          } in answer) (tree_refuse tree)) ok;
        };
        same = refl;
      },
    )

-- what is found once one more is there
pub find_new : {X : Type 0} (p : X → Bool) (x : X) (i : ℕ) (xs : List X) → find p xs ≡ None → p x ≡ true →
    find p (insert xs i x) ≡ Some x
find_new p x zero xs n h = ap (λ t. cond t (Some x) (find p xs)) h
find_new p x (suc i) [] n h = ap (λ t. cond t (Some x) None) h
find_new p x (suc i) (y ∷ ys) n h = by (p y) n (λ k. find_new p x i ys k h)
  where
    by : (t : Bool) → cond t (Some y) (find p ys) ≡ None → (find p ys ≡ None → find p (insert ys i x) ≡ Some x) →
        cond t (Some y) (find p (insert ys i x)) ≡ Some x
    by true n rest = absurd (cc)
    by false n rest = rest n

none_fresh : (filesets : List Fileset) (id : FilesetId) → IsFresh filesets id → find (has_id id) filesets ≡ None
none_fresh filesets id f = by (find (has_id id) filesets) refl
  where
    by : (found : Option Fileset) → find (has_id id) filesets ≡ found → found ≡ None
    by None e = refl
    by (Some y) e =
        let its : (y.id.0 == id.0) ≡ true = found_passes (has_id id) filesets y e in
        let other : not (y.id.0 == id.0) ≡ true =
        find_all (has_id id) (λ (x : Fileset). not (x.id.0 == id.0)) filesets y e f in
        let wrong : false ≡ true = sym (ap not its) ∙ other in
        absurd (cc)

-- the tree with the fileset
abbrev made_tree : Tree → ServerId → ServerRoom → Fileset → Tree
made_tree tree server room fileset = with_fileset tree server room fileset

made_fresh : (tree : Tree) (host : HostId) (call : Call) (server : ServerId) (fileset : Fileset) → IsWellFormed tree →
    (m : IsMade tree host call server fileset) → find (has_id fileset.id) tree.filesets ≡ None
made_fresh tree host call server fileset w m =
    none_fresh tree.filesets fileset.id (subst (IsFresh tree.filesets) (sym m.id)
    (fresh_id tree.servers server m.room tree.filesets m.there.number m.there.there w.given))

made_others : (tree : Tree) (at server : ServerId) (room : ServerRoom) (fileset : Fileset) (other : FilesetId) →
    (other.0 == fileset.id.0) ≡ false → SameAt tree (with_fileset tree at room fileset) server other
made_others tree at server room fileset other apart = record {
  fileset = ap (option_and_then (if_at server))
      (find_insert (has_id other) fileset (id_place tree.filesets fileset.id) tree.filesets
      (keys_sym other.0 fileset.id.0 apart));
  record_is = refl;
  moves = same_found tree (with_fileset tree at room fileset) other
      (find_insert (has_id other) fileset (id_place tree.filesets fileset.id) tree.filesets
      (keys_sym other.0 fileset.id.0 apart));
}

-- in the store
abbrev made_slots : StoreState → Stay → Fileset → Table
made_slots state stay fileset =
    set state.slots (free_slot state.slots) (Some (record { stay = stay; fileset = fileset; records = no_records }))

abbrev made_state : StoreState → HostId → ℕ → Stay → Fileset → StoreState
made_state state host number stay fileset = record state {
  next = state.next + 1;
  slots = made_slots state stay fileset;
  records = changed_at state.records host.0 (change_decided number Accepted);
}

free_there : (slots : Table) → prefix_len is_taken_slot slots < length slots →
    slice_get slots (prefix_len is_taken_slot slots) ≡ Some None
free_there [] h = absurd (omega (arith, h))
free_there (None ∷ slots) h = refl
free_there (Some x ∷ slots) h =
    let one : 1 + prefix_len is_taken_slot slots ≡ suc (prefix_len is_taken_slot slots) = omega arith in
    ap (slice_get (Some x ∷ slots)) one ∙ free_there slots (omega (arith, h))

has_free : (tree : Tree) (state : StoreState) (blocks : ℕ) (room : ServerRoom) → HaveRoom tree state →
    IsRoom tree state.server blocks room → slice_get state.slots (free_slot state.slots) ≡ Some None
has_free tree state blocks room h r =
    let few : count_at tree state.server < FILESETS_MAX = r.counted in
    let told : nat_le FILESETS_MAX (count_at tree state.server) ≡ false = grind (arith, common_steps, few) in
    let fits : nat_le (length state.slots) (free_slot state.slots) ≡ false = sym h.full ∙ told in
    let place = position_or_end is_none state.slots in
    let at : nat_le (length state.slots) (prefix_len is_taken_slot state.slots) ≡ false =
    ap (nat_le (length state.slots)) (sym place) ∙ fits in
    let below : prefix_len is_taken_slot state.slots < length state.slots = grind (arith, common_steps, at) in
    ap (slice_get state.slots) place ∙ free_there state.slots below

-- no number is given twice
never_held : (state : StoreState) → IsStorable state → state.next ≤ FILESET_NUMBER_MAX →
    held_so (is_of (next_id state)) state.slots ≡ None
never_held state s most = by (held_so (is_of (next_id state)) state.slots) refl
  where
    by : (found : Option Holding) → held_so (is_of (next_id state)) state.slots ≡ found → found ≡ None
    by None e = refl
    by (Some b) e =
        let number : b.fileset.id.0 ≡ state.server.0 * 65536 + state.next =
        equal_keys b.fileset.id.0 (next_id state).0 (held_passes (is_of (next_id state)) state.slots b e) in
        let of : (state.server.0 * 65536 + state.next) / 65536 ≡ state.server.0 = omega (arith, most) in
        let last : (state.server.0 * 65536 + state.next) % 65536 ≡ state.next = omega (arith, most) in
        let below = (s.each (slot_so (is_of (next_id state)) state.slots) b e).id.given
        (ap (λ n. n / 65536) number ∙ of) in
        let is : b.fileset.id.0 % 65536 ≡ state.next = ap (λ n. n % 65536) number ∙ last in
        absurd (omega (arith, below, is))

-- its part is kept
made_part : (tree : Tree) (state : StoreState) (host : HostId) (call : Call) (stay : Stay) (fileset : Fileset) →
    IsWellFormed tree → KeepsOf tree state → (m : IsMade tree host call state.server fileset) →
    held_so (is_of fileset.id) state.slots ≡ None → is_here stay ≡ true →
    IsPart (with_fileset tree state.server m.room fileset) state.server fileset.id
    (Some (record { stay = stay; fileset = fileset; records = no_records }))
made_part tree state host call stay fileset w k m none here = record {
  fileset = ap (λ b. if b then Some fileset else None) here
      ∙ sym (ap (option_and_then (if_at state.server))
      (find_new (has_id fileset.id) fileset (id_place tree.filesets fileset.id) tree.filesets
      (made_fresh tree host call state.server fileset w m) (same_key fileset.id.0))
      ∙ at_server fileset state.server m.server_is);
  gone = ap (option_map (gone_from state.server fileset)) (not_left stay here)
      ∙ sym (sym (k.records fileset.id) ∙ ap (option_and_then (if_gone state.server)) none);
  still = λ holding same.
      (let its : record { stay = stay; fileset = fileset; records = no_records } ≡ holding = cc in
      ap (λ (h : Holding). is_here h.stay || is_gone h.stay) (sym its) ∙ ap (λ b. b || is_gone stay) here);
  older = λ holding other same gone there.
      (let its : record { stay = stay; fileset = fileset; records = no_records } ≡ holding = cc in
      let not_so = ap (λ (h : Holding). is_gone h.stay) (sym its) ∙ not_gone stay here in
      let wrong : true ≡ false = sym gone ∙ not_so in absurd (cc));
}

made_room : (servers : List ServerRoom) (server : ServerId) (room : ServerRoom) → room_of servers server ≡ Some room →
    room_of (slice_set servers (server.0 - 1) (record room { next = room.next + 1 })) server
    ≡ Some (record room { next = room.next + 1 })
made_room servers server room r =
    let (some, there) = room_within servers server room r in
    let zero_not : (server.0 == 0) ≡ false = grind (arith, common_steps, some) in
    ap (λ t. cond t None (slice_get (slice_set servers (server.0 - 1) (record room { next = room.next + 1 }))
    (server.0 - 1))) zero_not
    ∙ set_here servers (server.0 - 1) room (record room { next = room.next + 1 }) there

pub found_keeps : (tree : Tree) (state : StoreState) (host : HostId) (number : ℕ) (call : Call) (stay : Stay)
    (fileset : Fileset) → IsWellFormed tree → KeepsOf tree state → IsMade tree host call state.server fileset →
    is_here stay ≡ true → IsStorable (made_state state host number stay fileset) →
    KeepsOf (tree_answer tree host call).tree (made_state state host number stay fileset)
found_keeps tree state host number call stay fileset w k m here storable =
    let same : m.room ≡ room_in state = (let e : Some m.room ≡ Some (room_in state) = sym m.there.there ∙ k.room in cc) in
    let next : ServerRoom = record (room_in state) { next = state.next + 1 } in
    let room : room_of (slice_set tree.servers (state.server.0 - 1) (record m.room { next = m.room.next + 1 }))
    state.server ≡ Some next =
    made_room tree.servers state.server m.room m.there.there
    ∙ ap (λ (r : ServerRoom). Some (record r { next = r.next + 1 })) same in
    let its : fileset.id ≡ next_id state = m.id ∙ ap (tree_next_id state.server) same in
    let few : state.next ≤ FILESET_NUMBER_MAX = subst (λ (r : ServerRoom). r.next ≤ FILESET_NUMBER_MAX) same m.there.number in
    let none : held_so (is_of fileset.id) state.slots ≡ None =
    ap (λ i. held_so (is_of i) state.slots) its ∙ never_held state k.storable few in
    let free = has_free tree state m.blocks m.room (have_room tree state w k) m.there in
    let changes = takes_one state.slots (free_slot state.slots) fileset.id
    (record { stay = stay; fileset = fileset; records = no_records }) free none refl in
    let tree_next = with_fileset tree state.server m.room fileset in
    let keeps : KeepsOf tree_next (made_state state host number stay fileset) =
    keeps_parts tree_next (made_state state host number stay fileset) storable k.roster room
    (parts_step tree tree_next state.server state.slots (made_slots state stay fileset) fileset.id _
    (λ id. part_of tree state id k) changes
    (λ other apart. made_others tree state.server state.server m.room fileset other apart)
    (made_part tree state host call stay fileset w k m none here)) in
    subst (λ t. KeepsOf t (made_state state host number stay fileset)) (sym (ap (λ (a : TreeAnswer). a.tree) m.answer)) keeps

-- the act
new_number : (state : StoreState) (host : HostId) (number : ℕ) → IsNewChange state itself host number →
    decided_before state itself host number ≡ None
new_number state host number new =
    let low : nat_lt (record_of state.records host).change number ≡ true
    = (let below = new state.records refl in grind (arith, common_steps, below)) in
    ap (λ b. if b then None else Some (not_fresh (kept_reply (record_of state.records host)))) low

new_done : (state : StoreState) (host : HostId) (number : ℕ) (server : ServerId) (name : List ℕ) (objects : ℕ)
    (owner user : User) (stay : Stay) (fileset : Fileset) → user_of state.roster host ≡ Some user →
    IsNewChange state itself host number →
    new_fileset_answer state name objects owner
    ≡ record { reply = Accepted; state = with_new state (free_slot state.slots) stay fileset } →
    act_done state (Do host number (NewFileset server name objects owner))
    ≡ fresh Accepted (made_state state host number stay fileset)
unfolding act_done do_outcome answer_to answer_for
new_done state host number server name objects owner user stay fileset one new made =
    let before = new_number state host number new in
    rw before (rw one (rw made refl))

clone_done : (state : StoreState) (host : HostId) (number : ℕ) (server : ServerId) (source new : List ℕ)
    (user : User) (stay : Stay) (fileset : Fileset) → user_of state.roster host ≡ Some user →
    IsNewChange state itself host number →
    clone_answer state user source new
    ≡ record { reply = Accepted; state = with_new state (free_slot state.slots) stay fileset } →
    act_done state (Do host number (CloneFileset server source new))
    ≡ fresh Accepted (made_state state host number stay fileset)
unfolding act_done do_outcome answer_to answer_for
clone_done state host number server source new user stay fileset one fresh_one made =
    let before = new_number state host number fresh_one in
    rw before (rw one (rw made refl))

done_keeps : (tree : Tree) (state : StoreState) (host : HostId) (number : ℕ) (call : Call) (stay : Stay)
    (fileset : Fileset) → IsWellFormed tree → KeepsOf tree state → IsMade tree host call state.server fileset →
    is_here stay ≡ true → IsAct state.roster state.server (Do host number call) → HasName call →
    act_done state (Do host number call) ≡ fresh Accepted (made_state state host number stay fileset) →
    DoesKeep (tree_answer tree host call).tree state (Do host number call)
done_keeps tree state host number call stay fileset w k m here fits named does =
    let storable = subst IsStorable (ap (λ (o : Outcome). o.state) does)
    (acts_keep_storable state (Do host number call) k.storable fits named) in
    let next = found_keeps tree state host number call stay fileset w k m here storable in
    record {
      done = ap (λ (o : Outcome). o.done) does;
      keeps = subst (KeepsOf (tree_answer tree host call).tree) (sym (ap (λ (o : Outcome). o.state) does)) next;
    }

-- the room that the tree found is the store's
its_room : (tree : Tree) (state : StoreState) (host : HostId) (call : Call) (fileset : Fileset) → KeepsOf tree state →
    (m : IsMade tree host call state.server fileset) → m.room ≡ room_in state
its_room tree state host call fileset k m =
    let e : Some m.room ≡ Some (room_in state) = sym m.there.there ∙ k.room in cc

-- a new fileset
new_here : (tree : Tree) (state : StoreState) (host : HostId) (number : ℕ) (name : List ℕ) (objects : ℕ)
    (owner : User) → IsWellFormed tree → KeepsOf tree state →
    (tree_answer tree host (NewFileset state.server name objects owner)).reply ≡ Accepted →
    IsNewChange state itself host number →
    IsAct state.roster state.server (Do host number (NewFileset state.server name objects owner)) →
    HasName (NewFileset state.server name objects owner) →
    DoesKeep (tree_answer tree host (NewFileset state.server name objects owner)).tree state
    (Do host number (NewFileset state.server name objects owner))
unfolding tree_answer_for
new_here tree state host number name objects owner w k accepted new fits named =
    let (room, n) = new_made tree host state.server name objects owner accepted in
    let (user, one, told) = user_is tree host (NewFileset state.server name objects owner) accepted in
    let same : room ≡ room_in state =
    sym n.same ∙ its_room tree state host (NewFileset state.server name objects owner)
    (new_fileset state.server (tree_next_id state.server room) name objects owner) k n.made in
    let made : IsMade tree host (NewFileset state.server name objects owner) state.server
    (new_fileset state.server (next_id state) name objects owner) =
    subst (λ (r : ServerRoom). IsMade tree host (NewFileset state.server name objects owner) state.server
    (new_fileset state.server (tree_next_id state.server r) name objects owner)) same n.made in
    let answers : (tree_new_fileset tree state.server name objects owner).reply ≡ Accepted =
    ap (λ (a : TreeAnswer). a.reply) (sym told) ∙ accepted in
    done_keeps tree state host number (NewFileset state.server name objects owner) Writable
    (new_fileset state.server (next_id state) name objects owner) w k made refl fits named
    (new_done state host number state.server name objects owner user Writable
    (new_fileset state.server (next_id state) name objects owner) (ap (λ r. user_of r host) k.roster ∙ one) new
    (kept (stores_found_as_trees.made tree state name objects owner (have_room tree state w k)) answers))
  where
    kept : FoundAlike tree state Writable (new_fileset state.server (next_id state) name objects owner)
        (new_fileset_answer state name objects owner) (tree_new_fileset tree state.server name objects owner) →
        (tree_new_fileset tree state.server name objects owner).reply ≡ Accepted →
        new_fileset_answer state name objects owner ≡ record {
          reply = Accepted;
          state = with_new state (free_slot state.slots) Writable
              (new_fileset state.server (next_id state) name objects owner);
        }
    kept (inl both) answers = both.in_store
    kept (inr (refusal, both)) answers =
        let wrong : Refused refusal ≡ Accepted = ap (λ (a : TreeAnswer). a.reply) (sym both.in_tree) ∙ answers in
        absurd (cc)

-- a clone
source_held : (tree : Tree) (state : StoreState) (source : List ℕ) (fileset : Fileset) → IsWellFormed tree →
    KeepsOf tree state → fileset_named tree state.server source ≡ Ok fileset → fileset.server ≡ state.server →
    source_named state source ≡ Ok fileset
source_held tree state source fileset w k e at =
    let found = named_is tree state.server source fileset e in
    let name = led_name tree state.server source fileset w found in
    let known = found_by_id _ tree.filesets fileset found w.ordered in
    let (holding, h) = held_here tree state fileset k known at in
    let slot = named_slot state fileset holding source k.storable h name in
    ap (λ o. option_map_or (λ (h : Holding). Ok h.fileset) o (Err (why_absent state source)))
    (ap (held_at state.slots) slot ∙ h.held) ∙ ap Ok h.same

clone_here : (tree : Tree) (state : StoreState) (host : HostId) (number : ℕ) (source new : List ℕ) →
    IsWellFormed tree → KeepsOf tree state →
    (tree_answer tree host (CloneFileset state.server source new)).reply ≡ Accepted →
    IsNewChange state itself host number →
    IsAct state.roster state.server (Do host number (CloneFileset state.server source new)) →
    HasName (CloneFileset state.server source new) →
    DoesKeep (tree_answer tree host (CloneFileset state.server source new)).tree state
    (Do host number (CloneFileset state.server source new))
unfolding tree_answer_for
clone_here tree state host number source new w k accepted fresh_one fits named =
    let (user, fileset, room, n) = clone_made tree host state.server source new accepted in
    let (other, one, told) = user_is tree host (CloneFileset state.server source new) accepted in
    let caller : other ≡ user = (let e : Some other ≡ Some user = sym one ∙ n.caller in cc) in
    let same : room ≡ room_in state =
    sym n.same ∙ its_room tree state host (CloneFileset state.server source new)
    (cloned fileset (tree_next_id state.server room) new) k n.made in
    let made : IsMade tree host (CloneFileset state.server source new) state.server
    (cloned fileset (next_id state) new) =
    subst (λ (r : ServerRoom). IsMade tree host (CloneFileset state.server source new) state.server
    (cloned fileset (tree_next_id state.server r) new)) same n.made in
    let answers : (tree_clone tree user state.server source new).reply ≡ Accepted =
    ap (λ u. (tree_clone tree u state.server source new).reply) (sym caller)
    ∙ ap (λ (a : TreeAnswer). a.reply) (sym told) ∙ accepted in
    done_keeps tree state host number (CloneFileset state.server source new) Clone
    (cloned fileset (next_id state) new) w k made refl fits named
    (clone_done state host number state.server source new user Clone (cloned fileset (next_id state) new)
    (ap (λ r. user_of r host) k.roster ∙ n.caller) fresh_one
    (kept user fileset (stores_found_as_trees.copied tree state user source new fileset (have_room tree state w k)
    (source_held tree state source fileset w k n.from n.at) n.from n.at) answers))
  where
    kept : (user : User) (fileset : Fileset) →
        FoundAlike tree state Clone (cloned fileset (next_id state) new) (clone_answer state user source new)
        (tree_clone tree user state.server source new) →
        (tree_clone tree user state.server source new).reply ≡ Accepted →
        clone_answer state user source new ≡ record {
          reply = Accepted;
          state = with_new state (free_slot state.slots) Clone (cloned fileset (next_id state) new);
        }
    kept user fileset (inl both) answers = both.in_store
    kept user fileset (inr (refusal, both)) answers =
        let wrong : Refused refusal ≡ Accepted = ap (λ (a : TreeAnswer). a.reply) (sym both.in_tree) ∙ answers in
        absurd (cc)

-- elsewhere
pub not_equal : (a b : ℕ) → (a == b) ≡ false → a ≢ b
not_equal a b e same = let wrong : (a == b) ≡ true = ap (λ n. n == b) same ∙ same_key b in absurd (cc)

other_room : (servers : List ServerRoom) (at server : ServerId) (room found raised : ServerRoom) →
    room_of servers at ≡ Some room → room_of servers server ≡ Some found → (at.0 == server.0) ≡ false →
    room_of (slice_set servers (at.0 - 1) raised) server ≡ Some found
other_room servers at server room found raised r f apart =
    let (at_some, at_there) = room_within servers at room r in
    let (some, there) = room_within servers server found f in
    let differ = not_equal at.0 server.0 apart in
    let places : server.0 - 1 ≢ at.0 - 1 = λ e. differ (omega (arith, e, at_some, some)) in
    let zero_not : (server.0 == 0) ≡ false = grind (arith, common_steps, some) in
    ap (λ t. cond t None (slice_get (slice_set servers (at.0 - 1) raised) (server.0 - 1))) zero_not
    ∙ set_other servers (at.0 - 1) (server.0 - 1) raised places ∙ there

-- what a store remembers is there elsewhere
pub gone_left : (stay : Stay) → is_gone stay ≡ true → (to : ServerId) × (left_for stay ≡ Some to)
gone_left Writable h = absurd (cc)
gone_left Clone h = absurd (cc)
gone_left (Leaving to ship) h = absurd (cc)
gone_left (Arriving from ship parts) h = absurd (cc)
gone_left (Gone to) h = (to, refl)

never_gone : (tree : Tree) (state : StoreState) (id : FilesetId) (holding : Holding) → IsWellFormed tree →
    KeepsOf tree state → find (has_id id) tree.filesets ≡ None → held_so (is_of id) state.slots ≡ Some holding →
    is_gone holding.stay ≡ true → ⊥
never_gone tree state id holding w k none held gone =
    let (to, left) = gone_left holding.stay gone in
    let told : Away = gone_from state.server holding.fileset to in
    let there : record_at tree state.server id ≡ Some told =
    sym (k.records id) ∙ ap (option_and_then (if_gone state.server)) held
    ∙ ap (option_map (gone_from state.server holding.fileset)) left in
    let its = same_id holding.fileset.id id
    (let n = held_passes (is_of id) state.slots holding held in n) in
    let elsewhere : is_elsewhere tree.filesets told ≡ true =
    find_all (is_away state.server id) (is_elsewhere tree.filesets) tree.away told there w.away.elsewhere in
    let wrong : false ≡ true =
    sym (ap (λ o. option_map_or (λ (f : Fileset).
    not (f.server.0 == state.server.0) && same_name f.name holding.fileset.name) o false)
    (ap (λ i. find (has_id i) tree.filesets) its ∙ none)) ∙ elsewhere in
    absurd (cc)

made_elsewhere : (tree : Tree) (state : StoreState) (host : HostId) (call : Call) (server : ServerId)
    (fileset : Fileset) → IsWellFormed tree → KeepsOf tree state → IsMade tree host call server fileset →
    (server.0 == state.server.0) ≡ false → KeepsOf (tree_answer tree host call).tree state
made_elsewhere tree state host call server fileset w k m apart =
    let tree_next = with_fileset tree server m.room fileset in
    let keeps : KeepsOf tree_next state =
    keeps_parts tree_next state k.storable k.roster
    (other_room tree.servers server state.server m.room (room_in state) (record m.room { next = m.room.next + 1 })
    m.there.there k.room apart)
    each in
    subst (λ t. KeepsOf t state) (sym (ap (λ (a : TreeAnswer). a.tree) m.answer)) keeps
  where
    after : Tree
    after = with_fileset tree server m.room fileset

    here : fileset_at after state.server fileset.id ≡ fileset_at tree state.server fileset.id
    here =
        ap (option_and_then (if_at state.server)) (find_new (has_id fileset.id) fileset
        (id_place tree.filesets fileset.id) tree.filesets (made_fresh tree host call server fileset w m)
        (same_key fileset.id.0))
        ∙ ap (λ b. if b then Some fileset else None) (ap (λ (s : ServerId). s.0 == state.server.0) m.server_is ∙ apart)
        ∙ sym (ap (option_and_then (if_at state.server)) (made_fresh tree host call server fileset w m))

    fresh_one : find (has_id fileset.id) tree.filesets ≡ None
    fresh_one = made_fresh tree host call server fileset w m

    each : (id : FilesetId) → IsPart after state.server id (held_so (is_of id) state.slots)
    each id = by (id.0 == fileset.id.0) refl
      where
        part : IsPart tree state.server fileset.id (held_so (is_of fileset.id) state.slots)
        part = part_of tree state fileset.id k

        by : (t : Bool) → (id.0 == fileset.id.0) ≡ t → IsPart after state.server id (held_so (is_of id) state.slots)
        by true e =
            subst (λ i. IsPart after state.server i (held_so (is_of i) state.slots)) (sym (same_id id fileset.id e))
            (record {
              fileset = part.fileset ∙ sym here;
              gone = part.gone;
              still = part.still;
              older = λ holding other found gone there.
                  absurd (never_gone tree state fileset.id holding w k fresh_one found gone);
            })
        by false e =
            same_part tree after state.server id (held_so (is_of id) state.slots)
            (made_others tree server state.server m.room fileset id e) (part_of tree state id k)

-- each such call
some_server : (a b : ServerId) → Some a ≡ Some b → a ≡ b
some_server a b e = cc

founds_here : (tree : Tree) (state : StoreState) (host : HostId) (number : ℕ) (call : Call) →
    IsWellFormed tree → KeepsOf tree state → made_at call ≡ Some state.server →
    (tree_answer tree host call).reply ≡ Accepted → IsNewChange state itself host number →
    IsAct state.roster state.server (Do host number call) → HasName call →
    DoesKeep (tree_answer tree host call).tree state (Do host number call)
founds_here tree state host number (NewFileset server name objects owner) w k e =
    subst (λ s. (tree_answer tree host (NewFileset s name objects owner)).reply ≡ Accepted →
    IsNewChange state itself host number →
    IsAct state.roster state.server (Do host number (NewFileset s name objects owner)) →
    HasName (NewFileset s name objects owner) →
    DoesKeep (tree_answer tree host (NewFileset s name objects owner)).tree state
    (Do host number (NewFileset s name objects owner))) (sym (some_server server state.server e))
    (new_here tree state host number name objects owner w k)
founds_here tree state host number (CloneFileset server source new) w k e =
    subst (λ s. (tree_answer tree host (CloneFileset s source new)).reply ≡ Accepted →
    IsNewChange state itself host number →
    IsAct state.roster state.server (Do host number (CloneFileset s source new)) →
    HasName (CloneFileset s source new) →
    DoesKeep (tree_answer tree host (CloneFileset s source new)).tree state
    (Do host number (CloneFileset s source new))) (sym (some_server server state.server e))
    (clone_here tree state host number source new w k)
founds_here tree state host number (Create place) w k e = absurd (cc)
founds_here tree state host number (MakeDir place) w k e = absurd (cc)
founds_here tree state host number (Remove place) w k e = absurd (cc)
founds_here tree state host number (Rename from to) w k e = absurd (cc)
founds_here tree state host number (Truncate place len) w k e = absurd (cc)
founds_here tree state host number (SetAcl place which list) w k e = absurd (cc)
founds_here tree state host number (Read place from len) w k e = absurd (cc)
founds_here tree state host number (Write place from bytes) w k e = absurd (cc)
founds_here tree state host number (ListNames place) w k e = absurd (cc)
founds_here tree state host number (Stat place) w k e = absurd (cc)
founds_here tree state host number (GetAcl place which) w k e = absurd (cc)
founds_here tree state host number (Sync place) w k e = absurd (cc)
founds_here tree state host number (Lock label place writing from len) w k e = absurd (cc)
founds_here tree state host number (Unlock label) w k e = absurd (cc)
founds_here tree state host number (OpenFile label place kind) w k e = absurd (cc)
founds_here tree state host number (CloseFile label) w k e = absurd (cc)
founds_here tree state host number (MoveFileset server name to) w k e = absurd (cc)

founds_elsewhere : (tree : Tree) (state : StoreState) (host : HostId) (call : Call) (server : ServerId) →
    IsWellFormed tree → KeepsOf tree state → made_at call ≡ Some server →
    (server.0 == state.server.0) ≡ false → (tree_answer tree host call).reply ≡ Accepted →
    KeepsOf (tree_answer tree host call).tree state
founds_elsewhere tree state host (NewFileset at name objects owner) server w k e apart accepted =
    let (room, n) = new_made tree host at name objects owner accepted in
    made_elsewhere tree state host (NewFileset at name objects owner) at
    (new_fileset at (tree_next_id at room) name objects owner) w k n.made
    (ap (λ (s : ServerId). s.0 == state.server.0) (some_server at server e) ∙ apart)
founds_elsewhere tree state host (CloneFileset at source new) server w k e apart accepted =
    let (user, fileset, room, n) = clone_made tree host at source new accepted in
    made_elsewhere tree state host (CloneFileset at source new) at (cloned fileset (tree_next_id at room) new) w k n.made
    (ap (λ (s : ServerId). s.0 == state.server.0) (some_server at server e) ∙ apart)
founds_elsewhere tree state host (Create place) server w k e apart accepted = absurd (cc)
founds_elsewhere tree state host (MakeDir place) server w k e apart accepted = absurd (cc)
founds_elsewhere tree state host (Remove place) server w k e apart accepted = absurd (cc)
founds_elsewhere tree state host (Rename from to) server w k e apart accepted = absurd (cc)
founds_elsewhere tree state host (Truncate place len) server w k e apart accepted = absurd (cc)
founds_elsewhere tree state host (SetAcl place which list) server w k e apart accepted = absurd (cc)
founds_elsewhere tree state host (Read place from len) server w k e apart accepted = absurd (cc)
founds_elsewhere tree state host (Write place from bytes) server w k e apart accepted = absurd (cc)
founds_elsewhere tree state host (ListNames place) server w k e apart accepted = absurd (cc)
founds_elsewhere tree state host (Stat place) server w k e apart accepted = absurd (cc)
founds_elsewhere tree state host (GetAcl place which) server w k e apart accepted = absurd (cc)
founds_elsewhere tree state host (Sync place) server w k e apart accepted = absurd (cc)
founds_elsewhere tree state host (Lock label place writing from len) server w k e apart accepted = absurd (cc)
founds_elsewhere tree state host (Unlock label) server w k e apart accepted = absurd (cc)
founds_elsewhere tree state host (OpenFile label place kind) server w k e apart accepted = absurd (cc)
founds_elsewhere tree state host (CloseFile label) server w k e apart accepted = absurd (cc)
founds_elsewhere tree state host (MoveFileset at name to) server w k e apart accepted = absurd (cc)

pub founds_are_kept : FoundsAreKept
founds_are_kept = record { here = founds_here; elsewhere = founds_elsewhere }
