-- A fileset that moves, in a tree and in the stores of both servers.
use Rattle.std.proofs.Common.{◌≡◌, ◌≢◌, ◌≤◌, ℕ, zero, suc, ◌+◌, ◌==◌, nat_lt, Bool, true, false, ◌||◌, not, cond, List, [], ◌∷◌, length, set, Option, Some, None, Result, Ok, Err, inl, inr, refl, sym, ap, ◌∙◌, subst, arith}
use Rattle.std.specs.Prelude.{is_none, map, if◌then◌else◌, option_and_then}
use Rattle.std.specs.List.{find, list_any, prefix_len}
use Rattle.std.specs.Option.{option_map}
use Rattle.std.proofs.lemmas.Bool.Decides.{eqb_tells}
use Rattle.base_types.specs.Lists.{changed_at}
use Rattle.base_types.specs.Outcomes.{either}
use Rattle.base_types.specs.declared.ids.FilesetId.{FilesetId}
use Rattle.base_types.specs.declared.ids.HostId.{HostId}
use Rattle.base_types.specs.declared.ids.ServerId.{ServerId}
use Rattle.tree_calls.specs.declared.reply.Refusal.{Refusal}
use Rattle.tree_calls.specs.declared.reply.Refusal.TheVariants.{Exists}
use Rattle.tree_calls.specs.declared.reply.Reply.TheVariants.{Ok as Accepted, Refused}
use Rattle.tree_calls.specs.declared.ship.Mover.{Mover}
use Rattle.tree_calls.specs.declared.ship.Record.{Record}
use Rattle.tree_calls.specs.declared.ship.ShipPart.{ShipPart}
use Rattle.tree_calls.specs.declared.ship.ShipPart.TheVariants.{Head, Object as ObjectPart}
use Rattle.tree_objects.specs.declared.content.Anode.{Anode}
use Rattle.tree_objects.proofs.Observed.{and_left}
use Rattle.tree_filesets.specs.Founding.{moved}
use Rattle.tree_filesets.specs.Promises.{new_promise}
use Rattle.tree_filesets.specs.WellFormed.{is_at_rest}
use Rattle.tree_filesets.specs.declared.fileset.Fileset.{Fileset}
use Rattle.tree_filesets.proofs.Targets.{unless_ok}
use Rattle.tree_answers.specs.declared.tree.Tree.{Tree}
use Rattle.tree_answers.specs.Founding.{room_of}
use Rattle.tree_answers.specs.Moving.{left_tree}
use Rattle.tree_answers.specs.WellFormed.{IsWellFormed}
use Rattle.tree_answers.proofs.AfterMove.{IsMove, formed_get, moved_parts}
use Rattle.tree_answers.proofs.Inserted.{position_or_end}
use Rattle.tree_answers.proofs.Places.{find_at_place}
use Rattle.store_records.specs.Stored.{IsStorable}
use Rattle.store_records.proofs.Acts.{acts_keep_storable}
use Rattle.store_records.proofs.Founds.{slot_ok}
use Rattle.message_types.specs.Soundness.{Each}
use Rattle.store_acts.specs.Acts.{act_done, state_after}
use Rattle.store_acts.specs.Moving.{anode_outcome, arrival, arrival_slot, arriving, done_where, head_outcome, held_arriving, held_as, held_left, held_with, leave_outcome, left_outcome, part_outcome, received, taken_from, with_holding, with_taken}
use Rattle.store_acts.specs.Parts.{anode_of_part, part_of as told_part}
use Rattle.store_acts.specs.Sound.{AllFit, IsAct}
use Rattle.store_acts.specs.declared.act.Act.{Act}
use Rattle.store_acts.specs.declared.act.Act.TheVariants.{Leave, Left, Part}
use Rattle.store_acts.proofs.Limits.{held_fits}
use Rattle.store_acts.proofs.Next.{act_next}
use Rattle.store_laws.specs.Founds.{room_in}
use Rattle.store_laws.specs.Moves.{MayArrive, MayLeave, all_parts, are_tellable, parts_from}
use Rattle.store_laws.proofs.Moves.{arrives_as_moved}
use Rattle.store_state.specs.Founding.{free_slot}
use Rattle.store_state.specs.Outcomes.{Outcome, change_decided, fresh, now_done, stale}
use Rattle.store_state.specs.Replies.{reply_of}
use Rattle.store_state.specs.Sought.{awaits, is_past}
use Rattle.store_state.specs.State.{
  is_here,
  is_gone,
  is_leaving,
  is_of,
  is_used_so,
  is_writable,
  held_at,
  held_so,
  slot_so,
  with_held,
}
use Rattle.store_state.specs.declared.state.Holding.{Holding}
use Rattle.store_state.specs.declared.state.Stay.{Stay}
use Rattle.store_state.specs.declared.state.Stay.TheVariants.{Writable, Clone, Leaving, Arriving, Gone}
use Rattle.store_state.specs.declared.state.StoreState.{StoreState}
use Rattle.store_laws.specs.Calls.{DoesKeep}
use Rattle.store_laws.specs.TreeKeeping.{if_at, gone_from, record_at, KeepsOf}
use Rattle.store_laws.specs.KeptMoves.{Moves, after_move, leaving_state}
use Rattle.store_laws.proofs.Exact.{held_self}
use Rattle.store_laws.proofs.KeptFounds.{not_equal}
use Rattle.store_laws.proofs.KeptGives.{here_writable}
use Rattle.store_laws.proofs.Keys.{same_key, equal_keys, keys_sym}
use Rattle.store_laws.proofs.Moved.{
  IsMoving,
  has_parts,
  moved_tree,
  moving_so,
  moved_others,
  moved_elsewhere,
  fileset_moved,
  one_more,
  record_arrived,
  record_left,
}
use Rattle.store_laws.proofs.Slots.{
  Table,
  ChangesOne,
  changes_one,
  changes_then,
  found_beside,
  found_changed,
  found_is,
  held_passes,
}
use Rattle.store_laws.proofs.KeptSteps.{IsPart, IsHeld, at_server, held_here, keeps_parts, part_of, parts_step, same_part}

-- the tree after the move
next_tree : (tree : Tree) (host : HostId) (server : ServerId) (name : List ℕ) (to : ServerId) (fileset : Fileset) →
    (m : IsMoving tree host server name to fileset) →
    after_move tree host server name to fileset ≡ moved_tree tree m.place fileset to
next_tree tree host server name to fileset m =
    ap (λ t. left_tree t fileset.server fileset.id) m.answer

-- other stores
pub others_kept : (tree : Tree) (state : StoreState) (host : HostId) (server : ServerId) (name : List ℕ) (to : ServerId)
    (fileset : Fileset) → IsWellFormed tree → KeepsOf tree state → Moves tree host server name to fileset →
    (fileset.server.0 == state.server.0) ≡ false → (to.0 == state.server.0) ≡ false →
    KeepsOf (after_move tree host server name to fileset) state
others_kept tree state host server name to fileset w k moves from goes =
    let m = moving_so tree host server name to fileset moves in
    let next = moved_tree tree m.place fileset to in
    let rest = has_parts tree m.place fileset to in
    let keeps : KeepsOf next state =
    keeps_parts next state k.storable (k.roster ∙ sym rest.roster)
    (ap (λ rooms. room_of rooms state.server) rest.servers ∙ k.room)
    (λ id. same_part tree next state.server id _
    (moved_elsewhere tree m.place fileset to state.server w m.is from goes id) (part_of tree state id k)) in
    subst (λ t. KeepsOf t state) (sym (next_tree tree host server name to fileset m)) keeps

-- the store that the fileset leaves
pub none_such : (test : Holding → Bool) (slots : Table) →
    ((s : ℕ) (h : Holding) → held_at slots s ≡ Some h → test h ≡ false) → list_any (is_used_so test) slots ≡ false
none_such test [] k = refl
none_such test (None ∷ slots) k = none_such test slots (λ s h e. k (suc s) h e)
none_such test (Some b ∷ slots) k =
    ap (λ t. t || list_any (is_used_so test) slots) (k zero b refl) ∙ none_such test slots (λ s h e. k (suc s) h e)

not_leaving : (stay : Stay) → (is_here stay || is_gone stay) ≡ true → is_leaving stay ≡ false
not_leaving Writable h = refl
not_leaving Clone h = refl
not_leaving (Leaving to ship) h = absurd (cc)
not_leaving (Arriving from ship parts) h = refl
not_leaving (Gone to) h = refl

none_leaving : (tree : Tree) (state : StoreState) → KeepsOf tree state →
    list_any (is_used_so (λ holding. is_leaving holding.stay)) state.slots ≡ false
none_leaving tree state k =
    none_such (λ holding. is_leaving holding.stay) state.slots
    (λ s h e. not_leaving h.stay (k.still h.fileset.id h (held_self state s h k.storable e)))

abbrev left_slots : StoreState → FilesetId → ServerId → Table
left_slots state id to =
    changed_at state.slots (slot_so (is_of id) state.slots) (option_map (held_as (Leaving to (state.ship + 1))))

abbrev leaving : StoreState → FilesetId → ServerId → StoreState
leaving state id to = record state { slots = left_slots state id to; ship = state.ship + 1 }

leave_done : (state : StoreState) (id : FilesetId) (to : ServerId) (holding : Holding) →
    held_so (is_of id) state.slots ≡ Some holding → is_writable holding.stay ≡ true →
    list_any (is_used_so (λ holding. is_leaving holding.stay)) state.slots ≡ false →
    act_done state (Leave id to) ≡ fresh Accepted (leaving state id to)
unfolding act_done leave_outcome
leave_done state id to holding e writable none = rw e (rw writable (rw none refl))

left_done : (state : StoreState) (id : FilesetId) (holding : Holding) → held_so (is_of id) state.slots ≡ Some holding →
    is_leaving holding.stay ≡ true →
    act_done state (Left id) ≡ fresh Accepted (with_holding state id held_left)
unfolding act_done left_outcome
left_done state id holding e l = rw e (rw l refl)

-- a fileset that may leave is held so
pub record MayGo (tree : Tree) (state : StoreState) (fileset : Fileset) (to : ServerId) : Type 0 where
  pub holding : Holding
  pub held : IsHeld state fileset holding
  pub rest : is_at_rest fileset ≡ true
  pub least : 1 ≤ fileset.objects
  pub does : act_done state (Leave fileset.id to) ≡ fresh Accepted (leaving state fileset.id to)
  pub changes : ChangesOne state.slots (left_slots state fileset.id to) fileset.id
      (Some (held_as (Leaving to (state.ship + 1)) holding))

may_go : (tree : Tree) (state : StoreState) (fileset : Fileset) (to : ServerId) (place : ℕ) → IsWellFormed tree →
    KeepsOf tree state → IsMove tree place fileset to → fileset.server ≡ state.server → MayGo tree state fileset to
may_go tree state fileset to place w k m at =
    let known = find_at_place fileset.id tree.filesets place fileset m.there w.ordered (same_key fileset.id.0) in
    let (holding, h) = held_here tree state fileset k known at in
    let each = k.storable.each (slot_so (is_of fileset.id) state.slots) holding h.held in
    let read_only : holding.fileset.read_only ≡ false = ap (λ (f : Fileset). f.read_only) h.same ∙ m.writable in
    let writable = here_writable state holding.fileset holding.stay each.stay h.here read_only in
    let fits = held_fits state.roster state.slots (slot_so (is_of fileset.id) state.slots) holding
    k.storable.limits.slots h.held in
    record {
      holding = holding;
      held = h;
      rest = subst (λ (f : Fileset). is_at_rest f ≡ true) h.same each.rest;
      least = subst (λ (f : Fileset). 1 ≤ f.objects) h.same fits.least;
      does = leave_done state fileset.id to holding h.held writable (none_leaving tree state k);
      changes = changes_one state.slots fileset.id holding (held_as (Leaving to (state.ship + 1))) (λ any h. refl) h.held;
    }

gone_part : (tree : Tree) (state : StoreState) (place : ℕ) (fileset : Fileset) (to : ServerId) → IsWellFormed tree →
    IsMove tree place fileset to → fileset.server ≡ state.server → (go : MayGo tree state fileset to) →
    IsPart (moved_tree tree place fileset to) state.server fileset.id
    (Some (held_left (held_as (Leaving to (state.ship + 1)) go.holding)))
gone_part tree state place fileset to w m at go = record {
  fileset = sym (ap (option_and_then (if_at state.server)) (fileset_moved tree place fileset to w m)
      ∙ ap (λ b. if b then Some (moved fileset to) else None)
      (ap (λ (s : ServerId). s.0 == state.server.0) (moved_parts fileset to).1
      ∙ ap (λ (s : ServerId). to.0 == s.0) (sym at) ∙ keys_sym fileset.server.0 to.0 m.goes));
  gone = ap (λ (f : Fileset). Some (gone_from state.server f to)) go.held.same
      ∙ sym (ap (λ s. record_at (moved_tree tree place fileset to) s fileset.id) (sym at)
      ∙ record_left tree place fileset to w
      (find_at_place fileset.id tree.filesets place fileset m.there w.ordered (same_key fileset.id.0)) m.goes
      ∙ ap (λ s. Some (gone_from s fileset to)) at);
  still = λ holding same.
      (let its : held_left (held_as (Leaving to (state.ship + 1)) go.holding) ≡ holding = cc in
      ap (λ (h : Holding). is_here h.stay || is_gone h.stay) (sym its));
  older = λ holding after same gone there.
      (let its : held_left (held_as (Leaving to (state.ship + 1)) go.holding) ≡ holding = cc in
      let had = ap (λ (h : Holding). h.fileset.moves) (sym its) ∙ ap (λ (f : Fileset). f.moves) go.held.same in
      let new : moved fileset to ≡ after =
      (let e : Some (moved fileset to) ≡ Some after = sym (fileset_moved tree place fileset to w m) ∙ there in cc) in
      let has = sym (ap (λ (f : Fileset). f.moves) new) ∙ one_more fileset to in
      omega (arith, had, has));
}

pub from_kept : (tree : Tree) (state : StoreState) (host : HostId) (server : ServerId) (name : List ℕ) (to : ServerId)
    (fileset : Fileset) → IsWellFormed tree → KeepsOf tree state → Moves tree host server name to fileset →
    fileset.server ≡ state.server → IsAct state.roster state.server (Leave fileset.id to) →
    ((act_done state (Leave fileset.id to)).done ≡ now_done Accepted)
    × DoesKeep (after_move tree host server name to fileset) (leaving_state state fileset to) (Left fileset.id)
from_kept tree state host server name to fileset w k moves at fits =
    let m = moving_so tree host server name to fileset moves in
    let go = may_go tree state fileset to m.place w k m.is at in
    let next = moved_tree tree m.place fileset to in
    let rest = has_parts tree m.place fileset to in
    let gone = leaving state fileset.id to in
    let last = with_holding gone fileset.id held_left in
    let apart : to.0 ≢ state.server.0 = λ e. not_equal fileset.server.0 to.0 m.is.goes
    (ap (λ (s : ServerId). s.0) at ∙ sym e) in
    let first = acts_keep_storable state (Leave fileset.id to) k.storable fits apart in
    let storable : IsStorable gone = subst IsStorable (ap (λ (o : Outcome). o.state) go.does) first in
    let does = left_done gone fileset.id (held_as (Leaving to (state.ship + 1)) go.holding) go.changes.here refl in
    let second : IsStorable last = subst IsStorable (ap (λ (o : Outcome). o.state) does)
    (acts_keep_storable gone (Left fileset.id) storable tt tt) in
    let changes = changes_then state.slots (left_slots state fileset.id to) last.slots fileset.id _ _ go.changes
    (changes_one (left_slots state fileset.id to) fileset.id (held_as (Leaving to (state.ship + 1)) go.holding)
    held_left (λ any h. refl) go.changes.here) in
    let keeps : KeepsOf next last =
    keeps_parts next last second (k.roster ∙ sym rest.roster)
    (ap (λ rooms. room_of rooms state.server) rest.servers ∙ k.room)
    (parts_step tree next state.server state.slots last.slots fileset.id _ (λ id. part_of tree state id k) changes
    (λ other apart. moved_others tree m.place fileset to state.server m.is other apart)
    (gone_part tree state m.place fileset to w m.is at go)) in
    let here : KeepsOf (after_move tree host server name to fileset) last =
    subst (λ t. KeepsOf t last) (sym (next_tree tree host server name to fileset m)) keeps in
    let its : leaving_state state fileset to ≡ gone = ap (λ (o : Outcome). o.state) go.does in
    let ends : DoesKeep (after_move tree host server name to fileset) gone (Left fileset.id) = record {
      done = ap (λ (o : Outcome). o.done) does;
      keeps = subst (KeepsOf (after_move tree host server name to fileset))
          (sym (ap (λ (o : Outcome). o.state) does)) here;
    } in (
      ap (λ (o : Outcome). o.done) go.does,
      subst (λ s. DoesKeep (after_move tree host server name to fileset) s (Left fileset.id)) (sym its) ends,
    )

-- what a part leaves of a store: all but the fileset's slot, and which ship was taken
pub record LeavesRest (state next : StoreState) (id : FilesetId) : Type 0 where
  pub server : next.server ≡ state.server
  pub roster : next.roster ≡ state.roster
  pub room : room_in next ≡ room_in state
  pub others : (other : FilesetId) → (other.0 == id.0) ≡ false →
      held_so (is_of other) next.slots ≡ held_so (is_of other) state.slots

leaves_itself : (state : StoreState) (id : FilesetId) → LeavesRest state state id
leaves_itself state id = record { server = refl; roster = refl; room = refl; others = λ other apart. refl }

leaves_then : (a b c : StoreState) (id : FilesetId) → LeavesRest a b id → LeavesRest b c id → LeavesRest a c id
leaves_then a b c id x y = record {
  server = y.server ∙ x.server;
  roster = y.roster ∙ x.roster;
  room = y.room ∙ x.room;
  others = λ other apart. y.others other apart ∙ x.others other apart;
}

-- a slot that doesn't pass, put anew or changed
find_beside : (test : Holding → Bool) (slots : Table) (at : ℕ) (holding : Holding) → test holding ≡ false →
    ((h : Holding) → held_at slots at ≡ Some h → test h ≡ false) →
    find (is_used_so test) (set slots at (Some holding)) ≡ find (is_used_so test) slots
find_beside test [] at holding t k = refl
find_beside test (None ∷ slots) zero holding t k =
    ap (λ b. cond b (Some (Some holding)) (find (is_used_so test) slots)) t
find_beside test (Some x ∷ slots) zero holding t k =
    ap (λ b. cond b (Some (Some holding)) (find (is_used_so test) slots)) t
    ∙ sym (ap (λ b. cond b (Some (Some x)) (find (is_used_so test) slots)) (k x refl))
find_beside test (slot ∷ slots) (suc at) holding t k =
    ap (λ o. cond (is_used_so test slot) (Some slot) o) (find_beside test slots at holding t k)

put_beside : (test : Holding → Bool) (slots : Table) (at : ℕ) (holding : Holding) → test holding ≡ false →
    ((h : Holding) → held_at slots at ≡ Some h → test h ≡ false) →
    held_so test (set slots at (Some holding)) ≡ held_so test slots
put_beside test slots at holding t k =
    found_is test (set slots at (Some holding))
    ∙ ap (option_and_then (λ slot. slot)) (find_beside test slots at holding t k) ∙ sym (found_is test slots)

kept_beside : (test : Holding → Bool) (f : Holding → Holding) → ((h : Holding) → test (f h) ≡ test h) →
    (slots : Table) (at : ℕ) → ((h : Holding) → held_at slots at ≡ Some h → test h ≡ false) →
    held_so test (changed_at slots at (option_map f)) ≡ held_so test slots
kept_beside test f keeps slots at k =
    elim (eqb_tells (slot_so test slots) at) as
    (λ _. held_so test (changed_at slots at (option_map f)) ≡ held_so test slots) [
      | inl (e, same) ↦
          subst (λ n. held_so test (changed_at slots n (option_map f)) ≡ held_so test slots) same
          (found_changed test f keeps slots ∙ by same (held_so test slots) refl)
      | inr (e, apart) ↦ found_beside test f keeps slots at apart
    ]
  where
    by : slot_so test slots ≡ at → (found : Option Holding) → held_so test slots ≡ found → option_map f found ≡ found
    by same None e = refl
    by same (Some h) e =
        let passes = held_passes test slots h e in
        let fails = k h (ap (held_at slots) (sym same) ∙ e) in
        absurd (let wrong : true ≡ false = sym passes ∙ fails in cc)

other_id : (h : Holding) (id other : FilesetId) → is_of id h ≡ true → (other.0 == id.0) ≡ false → is_of other h ≡ false
other_id h id other its apart =
    ap (λ n. n == other.0) (equal_keys h.fileset.id.0 id.0 its) ∙ keys_sym other.0 id.0 apart

free_none : (slots : Table) → held_at slots (prefix_len (λ slot. not (is_none slot)) slots) ≡ None
free_none [] = refl
free_none (None ∷ slots) = refl
free_none (Some x ∷ slots) =
    let one : 1 + prefix_len (λ slot. not (is_none slot)) slots ≡ suc (prefix_len (λ slot. not (is_none slot)) slots)
    = omega arith in
    ap (held_at (Some x ∷ slots)) one ∙ free_none slots

-- in the slot for a fileset that arrives no other one is held
arrival_own : (state : StoreState) (id other : FilesetId) → (other.0 == id.0) ≡ false → (h : Holding) →
    held_at state.slots (arrival_slot state id) ≡ Some h → is_of other h ≡ false
arrival_own state id other apart h e = by (nat_lt (slot_so (is_of id) state.slots) (length state.slots)) e
  where
    by : (b : Bool) →
        held_at state.slots (if b then slot_so (is_of id) state.slots else free_slot state.slots) ≡ Some h →
        is_of other h ≡ false
    by true e = other_id h id other (held_passes (is_of id) state.slots h e) apart
    by false e =
        let none : held_at state.slots (free_slot state.slots) ≡ None =
        ap (held_at state.slots) (position_or_end is_none state.slots) ∙ free_none state.slots in
        absurd (let wrong : None ≡ Some h = sym none ∙ e in cc)

head_rest : (state : StoreState) (from : ServerId) (ship : ℕ) (id : FilesetId) (moves : ℕ) (name : List ℕ)
    (objects : ℕ) (records : List Record) (mover : Mover) →
    LeavesRest state (head_outcome state from ship id moves name objects records mover).state id
unfolding head_outcome
head_rest state from ship id moves name objects records mover = by (arrival state id name objects) refl
  where
    new : Holding
    new = held_arriving (Arriving from ship 1) (arriving state.server id name objects moves) records mover

    by : (checked : Result ℕ Refusal) → arrival state id name objects ≡ checked →
        LeavesRest state (either checked
        (λ slot. fresh Accepted (record (with_taken state from ship Accepted) {
          slots = set state.slots slot (Some
              (held_arriving (Arriving from ship 1) (arriving state.server id name objects moves) records mover));
        }))
        (λ refusal. fresh (Refused refusal) (with_taken state from ship (Refused refusal)))).state id
    by (Err refusal) e = record { server = refl; roster = refl; room = refl; others = λ other apart. refl }
    by (Ok slot) e =
        let (free, rest) = unless_ok _ Exists _ slot e in
        let (same, room) = slot_ok state (arrival_slot state id) (new_promise objects) slot rest in
        record {
          server = refl;
          roster = refl;
          room = refl;
          others = λ other apart.
              subst (λ n. held_so (is_of other) (set state.slots n (Some
              (held_arriving (Arriving from ship 1) (arriving state.server id name objects moves) records mover)))
              ≡ held_so (is_of other) state.slots) same
              (put_beside (is_of other) state.slots (arrival_slot state id)
              (held_arriving (Arriving from ship 1) (arriving state.server id name objects moves) records mover)
              (keys_sym other.0 id.0 apart) (arrival_own state id other apart));
        }

anode_rest : (state : StoreState) (from : ServerId) (ship : ℕ) (id : FilesetId) (moves at : ℕ) (anode : Anode) →
    LeavesRest state (anode_outcome state from ship id moves at anode).state id
anode_rest state from ship id moves at anode =
    by (nat_lt (slot_so (awaits id from ship moves at) state.slots) (length state.slots))
  where
    by : (b : Bool) → LeavesRest state (done_where b state (with_held state
        (slot_so (awaits id from ship moves at) state.slots) (held_with from ship at anode))).state id
    by false = leaves_itself state id
    by true = record {
      server = refl;
      roster = refl;
      room = refl;
      others = λ other apart.
          kept_beside (is_of other) (held_with from ship at anode) (λ h. refl) state.slots
          (slot_so (awaits id from ship moves at) state.slots)
          (λ h e. other_id h id other (and_left _ _ (and_left _ _
          (held_passes (awaits id from ship moves at) state.slots h e))) apart);
    }

part_rest : (state : StoreState) (from : ServerId) (ship : ℕ) (id : FilesetId) (moves at : ℕ) (part : ShipPart) →
    LeavesRest state (act_done state (Part from ship id moves at part)).state id
unfolding act_done part_outcome
part_rest state from ship id moves at (Head name objects records mover) =
    by (at == 0) (list_any (is_used_so (is_past id moves)) state.slots) (nat_lt (taken_from state from).ship ship)
  where
    by : (a b c : Bool) → LeavesRest state (if a
        then (if b then stale Accepted state
        else if c then head_outcome state from ship id moves name objects records mover
        else stale (reply_of (taken_from state from).code 0) state)
        else stale Accepted state).state id
    by false b c = leaves_itself state id
    by true true c = leaves_itself state id
    by true false true = head_rest state from ship id moves name objects records mover
    by true false false = leaves_itself state id
part_rest state from ship id moves at (ObjectPart anode unique status pieces entries) =
    anode_rest state from ship id moves at (anode_of_part unique status pieces entries)

parts_rest : (holding : Holding) (from : ServerId) (ship : ℕ) (mover : Mover) (at : ℕ) (anodes : List Anode)
    (state : StoreState) →
    LeavesRest state (state_after state (parts_from holding from ship mover at anodes)) holding.fileset.id
parts_rest holding from ship mover at [] state = leaves_itself state holding.fileset.id
parts_rest holding from ship mover at (anode ∷ anodes) state =
    let next = (act_done state (Part from ship holding.fileset.id (holding.fileset.moves + 1) at
    (told_part holding at mover))).state in
    leaves_then state next (state_after next (parts_from holding from ship mover (at + 1) anodes)) holding.fileset.id
    (part_rest state from ship holding.fileset.id (holding.fileset.moves + 1) at (told_part holding at mover))
    (parts_rest holding from ship mover (at + 1) anodes next)

all_rest : (holding : Holding) (from : ServerId) (ship : ℕ) (mover : Mover) (state : StoreState) →
    LeavesRest state (state_after state (all_parts holding from ship mover)) holding.fileset.id
all_rest holding from ship mover state =
    let next = (act_done state (Part from ship holding.fileset.id (holding.fileset.moves + 1) 0
    (told_part holding 0 mover))).state in
    leaves_then state next (state_after next (parts_from holding from ship mover 1 holding.fileset.anodes))
    holding.fileset.id
    (part_rest state from ship holding.fileset.id (holding.fileset.moves + 1) 0 (told_part holding 0 mover))
    (parts_rest holding from ship mover 1 holding.fileset.anodes next)

-- acts that fit, one after the other
pub storable_after : (state : StoreState) (acts : List Act) → IsStorable state →
    Each (IsAct state.roster state.server) acts → AllFit state acts → IsStorable (state_after state acts)
storable_after state [] s a f = s
storable_after state (act ∷ acts) s a f =
    let next = act_next state act s.limits a.0 in
    let is_act : Each (IsAct (act_done state act).state.roster (act_done state act).state.server) acts =
    subst (λ r. Each (IsAct r (act_done state act).state.server) acts) (sym next.roster)
    (subst (λ (at : ServerId). Each (IsAct state.roster at) acts) (sym next.server) a.1) in
    storable_after (act_done state act).state acts (acts_keep_storable state act s a.0 f.0) is_act f.1

-- the store that it arrives at
arrived_part : (tree : Tree) (state : StoreState) (place : ℕ) (fileset : Fileset) (records : List Record) →
    IsWellFormed tree → IsMove tree place fileset state.server →
    IsPart (moved_tree tree place fileset state.server) state.server fileset.id
    (Some (record { stay = Writable; fileset = moved fileset state.server; records = records }))
arrived_part tree state place fileset records w m = record {
  fileset = sym (ap (option_and_then (if_at state.server)) (fileset_moved tree place fileset state.server w m)
      ∙ at_server (moved fileset state.server) state.server (moved_parts fileset state.server).1);
  gone = sym (record_arrived tree place fileset state.server);
  still = λ holding same.
      (let its : record { stay = Writable; fileset = moved fileset state.server; records = records } ≡ holding = cc in
      ap (λ (h : Holding). is_here h.stay || is_gone h.stay) (sym its));
  older = λ holding other same gone there.
      (let its : record { stay = Writable; fileset = moved fileset state.server; records = records } ≡ holding = cc in
      let not_so : is_gone holding.stay ≡ false = ap (λ (h : Holding). is_gone h.stay) (sym its) in
      let wrong : true ≡ false = sym gone ∙ not_so in absurd (cc));
}

pub to_kept : (tree : Tree) (other state : StoreState) (host : HostId) (server : ServerId) (name : List ℕ)
    (fileset : Fileset) (holding : Holding) (ship slot : ℕ) (mover : Mover) → IsWellFormed tree →
    KeepsOf tree other → KeepsOf tree state → Moves tree host server name state.server fileset →
    fileset.server ≡ other.server →
    held_so (is_of fileset.id) (leaving_state other fileset state.server).slots ≡ Some holding →
    are_tellable fileset.anodes ≡ true → MayArrive state fileset other.server ship slot →
    IsStorable (state_after state (all_parts holding other.server ship mover)) →
    KeepsOf (after_move tree host server name state.server fileset)
    (state_after state (all_parts holding other.server ship mover))
to_kept tree other state host server name fileset holding ship slot mover w kept k moves at held tell may storable =
    let m = moving_so tree host server name state.server fileset moves in
    let go = may_go tree other fileset state.server m.place w kept m.is at in
    let next = moved_tree tree m.place fileset state.server in
    let parts = has_parts tree m.place fileset state.server in
    let last = state_after state (all_parts holding other.server ship mover) in
    let leaves : Holding = held_as (Leaving state.server (other.ship + 1)) go.holding in
    let found : Some leaves ≡ Some holding =
    sym (ap (λ (o : Outcome). held_so (is_of fileset.id) o.state.slots) go.does ∙ go.changes.here) ∙ held in
    let same : holding.fileset ≡ fileset =
    (let its : leaves ≡ holding = cc in ap (λ (h : Holding). h.fileset) (sym its)) ∙ go.held.same in
    let formed = formed_get tree.filesets m.place fileset m.is.there w.filesets in
    let leave : MayLeave fileset =
    record { least = go.least; count = formed.count; writable = m.is.writable; settled = go.rest } in
    let records = changed_at (map received holding.records) mover.host.0 (change_decided mover.number Accepted) in
    let arrives = arrives_as_moved.arrives holding state other.server ship slot mover
    (subst MayLeave (sym same) leave)
    (ap (λ (f : Fileset). are_tellable f.anodes) same ∙ tell)
    (subst (λ f. MayArrive state f other.server ship slot) (sym same) may) in
    let final : Holding = record { stay = Writable; fileset = moved fileset state.server; records = records } in
    let here : held_so (is_of fileset.id) last.slots ≡ Some final =
    ap (λ (f : Fileset). held_so (is_of f.id) last.slots) (sym same) ∙ arrives
    ∙ ap (λ (f : Fileset).
    Some (record { stay = Writable; fileset = moved f state.server; records = records })) same in
    let rest = all_rest holding other.server ship mover state in
    let changes : ChangesOne state.slots last.slots fileset.id (Some final) = record {
      here = here;
      others = λ any apart. rest.others any (ap (λ (f : Fileset). any.0 == f.id.0) same ∙ apart);
    } in
    let each = parts_step tree next state.server state.slots last.slots fileset.id (Some final)
    (λ id. part_of tree state id k) changes
    (λ any apart. moved_others tree m.place fileset state.server state.server m.is any apart)
    (arrived_part tree state m.place fileset records w m.is) in
    let keeps : KeepsOf next last =
    keeps_parts next last storable (rest.roster ∙ k.roster ∙ sym parts.roster)
    (ap (room_of next.servers) rest.server ∙ ap (λ rooms. room_of rooms state.server) parts.servers ∙ k.room
    ∙ ap Some (sym rest.room))
    (λ id. subst (λ s. IsPart next s id (held_so (is_of id) last.slots)) (sym rest.server) (each id)) in
    subst (λ t. KeepsOf t last) (sym (next_tree tree host server name state.server fileset m)) keeps
