-- A move goes over the stores of two servers.
use Rattle.std.proofs.Common.{◌≡◌, ◌≢◌, ◌≤◌, ◌<◌, ◌⊎◌, nat_le, nat_lt, ℕ, zero, suc, ◌+◌, ◌-◌, ◌/◌, ◌%◌, true, false, ◌&&◌, ◌||◌, List, [], ◌∷◌, length, set, Option, Some, None, unwrap_or, inl, inr, refl, sym, ap, ◌∙◌, subst, arith}
use Rattle.std.specs.Prelude.{slice_get}
use Rattle.std.specs.Option.{option_map_or}
use Rattle.std.proofs.lemmas.Bool.{leb-true, ltb-true, ne_eqb}
use Rattle.std.proofs.lemmas.Bool.Decides.{eqb_tells}
use Rattle.base_types.specs.declared.ids.FilesetId.{FilesetId}
use Rattle.base_types.specs.declared.ids.HostId.{HostId}
use Rattle.base_types.specs.declared.ids.ServerId.{ServerId}
use Rattle.tree_calls.specs.declared.entry.Entry.TheVariants.{Left as LeftEntry}
use Rattle.tree_calls.specs.declared.roster.Roster.{Roster}
use Rattle.tree_calls.specs.declared.ship.Mover.{Mover}
use Rattle.tree_filesets.specs.declared.fileset.Fileset.{Fileset}
use Rattle.tree_objects.proofs.Observed.{and_left, and_right}
use Rattle.store_memory.specs.Sound.{IsMover}
use Rattle.store_memory.proofs.Soundly.{shipped_sound}
use Rattle.tree_answers.specs.declared.tree.ServerRoom.{ServerRoom}
use Rattle.tree_answers.specs.declared.tree.Tree.{Tree}
use Rattle.tree_answers.specs.Founding.{room_of}
use Rattle.tree_answers.specs.WellFormed.{IsWellFormed, is_declared, is_given}
use Rattle.tree_answers.proofs.AfterMove.{formed_get}
use Rattle.tree_answers.proofs.Inserted.{declared_by_room}
use Rattle.tree_answers.proofs.Places.{find_at_place, get_all}
use Rattle.message_types.specs.Soundness.{IsPart, IsServer}
use Rattle.store_acts.specs.Acts.{act_done, state_after}
use Rattle.store_acts.specs.Moving.{arrival_slot, held_as, taken_from}
use Rattle.store_acts.specs.Parts.{object_part, part_of}
use Rattle.store_acts.specs.Sound.{IsAllowed}
use Rattle.store_acts.specs.declared.act.Act.TheVariants.{Left}
use Rattle.store_laws.specs.Founds.{room_in}
use Rattle.store_laws.specs.Moves.{all_parts}
use Rattle.store_state.specs.Outcomes.{Outcome}
use Rattle.store_state.specs.Sought.{awaits, is_due}
use Rattle.store_state.specs.State.{held_so, is_gone, is_here, is_of, no_ship, slot_so}
use Rattle.store_state.specs.declared.state.Holding.{Holding}
use Rattle.store_state.specs.declared.state.Stay.{Stay}
use Rattle.store_state.specs.declared.state.Stay.TheVariants.{Writable, Clone, Leaving, Arriving, Gone}
use Rattle.store_state.specs.declared.state.StoreState.{StoreState}
use Rattle.store_state.specs.declared.state.TakenShip.{TakenShip}
use Rattle.store_laws.specs.TreeKeeping.{KeepsOf}
use Rattle.store_laws.specs.KeptMoves.{Moves, after_move, leaving_state}
use Rattle.store_laws.proofs.Arrives.{may_arrive, moves_are_kept}
use Rattle.store_laws.proofs.Exact.{held_self}
use Rattle.store_laws.proofs.KeptFounds.{not_equal}
use Rattle.store_laws.proofs.Keys.{same_key}
use Rattle.store_laws.proofs.Moved.{moving_so}
use Rattle.store_laws.proofs.Slots.{held_passes}
use Rattle.store_laws.proofs.KeptSteps.{held_here}
use Rattle.store_laws.specs.HistoryLaws.{AreBelow, IsBehind}
use Rattle.store_laws.proofs.HistoryNumbers.{behind_more}
use Rattle.store_laws.specs.MoveKeeping.{KeepAll}
use Rattle.store_laws.specs.MovedLaws.{AreReplaced, GoesOver, IsLeavingAs, MayDo, MovesGoOver, move_entry}
use Rattle.store_laws.proofs.Leaving.{leaves, leaving_now, left_then, sends_so}
use Rattle.store_laws.proofs.MovedNumbers.{behind_changed, behind_left, below_moved, later_of, later_own, later_risen}
use Rattle.store_laws.proofs.HistoryNumbers.{above_none}
use Rattle.store_laws.proofs.Parts.{IsSent, all_come, held_first}
use Rattle.store_laws.proofs.Pieces.{roster_after}
use Rattle.store_laws.proofs.Told.{tellable_if_formed}

-- what stands in a list
there_at : {X : Type 0} (xs : List X) (i : ℕ) → i < length xs → (x : X) × (slice_get xs i ≡ Some x)
there_at [] i h = absurd (omega (arith, h))
there_at (x ∷ xs) zero h = (x, refl)
there_at (x ∷ xs) (suc i) h = there_at xs i (omega (arith, h))

inside : {X : Type 0} (xs : List X) (i : ℕ) (x : X) → slice_get xs i ≡ Some x → i < length xs
inside [] i x e = absurd (cc)
inside (y ∷ xs) zero x e = omega arith
inside (y ∷ xs) (suc i) x e = let rest = inside xs i x e in omega (arith, rest)

-- a ship that was taken
set_taken : (ships : List TakenShip) (i j : ℕ) (ship : TakenShip) →
    (unwrap_or (slice_get (set ships i ship) j) no_ship ≡ unwrap_or (slice_get ships j) no_ship)
    ⊎ ((j ≡ i) × (unwrap_or (slice_get (set ships i ship) j) no_ship ≡ ship))
set_taken [] i j ship = inl refl
set_taken (other ∷ ships) zero zero ship = inr (refl, refl)
set_taken (other ∷ ships) zero (suc j) ship = inl refl
set_taken (other ∷ ships) (suc i) zero ship = inl refl
set_taken (other ∷ ships) (suc i) (suc j) ship = by (set_taken ships i j ship)
  where
    by : (unwrap_or (slice_get (set ships i ship) j) no_ship ≡ unwrap_or (slice_get ships j) no_ship)
        ⊎ ((j ≡ i) × (unwrap_or (slice_get (set ships i ship) j) no_ship ≡ ship)) →
        (unwrap_or (slice_get (set ships i ship) j) no_ship ≡ unwrap_or (slice_get ships j) no_ship)
        ⊎ ((suc j ≡ suc i) × (unwrap_or (slice_get (set ships i ship) j) no_ship ≡ ship))
    by (inl e) = inl e
    by (inr (same, e)) = inr (ap suc same, e)

-- A state takes the place of another: it keeps the tree, it sent no fewer ships, and what it has taken of a server was
-- taken before, or is this ship of this server.
record Follows (later : HostId → ℕ) (tree : Tree) (from : ServerId) (ship : ℕ) (old new : StoreState) : Type 0 where
  server : new.server ≡ old.server
  keeps : KeepsOf tree new
  behind : IsBehind later new
  sent : old.ship ≤ new.ship
  taken : (s : ServerId) → ((taken_from new s).ship ≡ (taken_from old s).ship)
      ⊎ ((s.0 - 1 ≡ from.0 - 1) × ((taken_from new s).ship ≡ ship))

all_follow : (next later : HostId → ℕ) (tree last : Tree) (states after : List StoreState) (from : ServerId) (ship : ℕ)
    (sender : StoreState) → KeepAll next tree states → last.roster ≡ tree.roster → length after ≡ length states →
    slice_get after (from.0 - 1) ≡ Some sender → sender.ship ≡ ship →
    ((k : ℕ) (old new : StoreState) → slice_get states k ≡ Some old → slice_get after k ≡ Some new →
    Follows later last from ship old new) → KeepAll later last after
all_follow next later tree last states after from ship sender all roster count there ship_is each = record {
  count = count ∙ all.count ∙ ap (λ (r : Roster). length r.capacity) (sym roster);
  own = λ k new e. (let (old, was) = before k new e in (each k old new was e).server ∙ all.own k old was);
  keeps = λ k new e. (let (old, was) = before k new e in (each k old new was e).keeps);
  behind = λ k new e. (let (old, was) = before k new e in (each k old new was e).behind);
  ships = λ k j new other e f.
      (let (old, was) = before k new e in
      let (had, there) = before j other f in
      let other_follows = each j had other there f in
      by k j old new had other was e there f other_follows.server other_follows.sent
      ((each k old new was e).taken other.server));
}
  where
    before : (k : ℕ) (new : StoreState) → slice_get after k ≡ Some new →
        (old : StoreState) × (slice_get states k ≡ Some old)
    before k new e = let l = inside after k new e in there_at states k (omega (arith, l, count))

    by : (k j : ℕ) (old new had other : StoreState) → slice_get states k ≡ Some old → slice_get after k ≡ Some new →
        slice_get states j ≡ Some had → slice_get after j ≡ Some other → other.server ≡ had.server →
        had.ship ≤ other.ship →
        ((taken_from new other.server).ship ≡ (taken_from old other.server).ship)
        ⊎ ((other.server.0 - 1 ≡ from.0 - 1) × ((taken_from new other.server).ship ≡ ship)) →
        (taken_from new other.server).ship ≤ other.ship
    by k j old new had other was e had_is f server sent (inl same) =
        let low = all.ships k j old had was had_is in
        let taken : (taken_from old other.server).ship ≡ (taken_from old had.server).ship =
        ap (λ s. (taken_from old s).ship) server in
        omega (arith, same, low, taken, sent)
    by k j old new had other was e had_is f server sent (inr (at, same)) =
        let own = ap (λ (s : ServerId). s.0) (server ∙ all.own j had had_is) in
        let place : j ≡ from.0 - 1 = omega (arith, own, at) in
        let found : Some other ≡ Some sender = sym f ∙ ap (slice_get after) place ∙ there in
        let its : other.ship ≡ ship =
        (let one : other ≡ sender = cc in ap (λ (s : StoreState). s.ship) one) ∙ ship_is in
        omega (arith, same, its)

-- none waits for a head where none is arriving
not_due : (from : ServerId) (ship at : ℕ) (stay : Stay) → (is_here stay || is_gone stay) ≡ true →
    is_due from ship at stay ≡ false
not_due from ship at Writable h = refl
not_due from ship at Clone h = refl
not_due from ship at (Leaving to sent) h = refl
not_due from ship at (Arriving sender taken parts) h = absurd (cc)
not_due from ship at (Gone to) h = refl

none_awaits : (tree : Tree) (state : StoreState) (id : FilesetId) (from : ServerId) (ship moves at : ℕ)
    (other : Holding) → KeepsOf tree state → held_so (awaits id from ship moves at) state.slots ≡ Some other → ⊥
none_awaits tree state id from ship moves at other k e =
    let passes = held_passes (awaits id from ship moves at) state.slots other e in
    let due : is_due from ship at other.stay ≡ true =
    and_right (is_of id other) _ (and_left (is_of id other && is_due from ship at other.stay) _ passes) in
    let held = held_self state (slot_so (awaits id from ship moves at) state.slots) other k.storable e in
    let wrong : true ≡ false =
    sym due ∙ not_due from ship at other.stay (k.still other.fileset.id other held) in
    cc

-- an id that a store may have, since the tree gave it
allowed_there : (tree : Tree) (state from : StoreState) (place : ℕ) (fileset : Fileset) → IsWellFormed tree →
    KeepsOf tree state → Some fileset ≡ slice_get tree.filesets place → IsAllowed from fileset.id →
    IsAllowed state fileset.id
allowed_there tree state from place fileset w k there a = record {
  first = a.first;
  last = a.last;
  number = a.number;
  given = λ e. ltb-true (fileset.id.0 % 65536) state.next (given e);
}
  where
    its : is_given tree.servers fileset.id ≡ true
    its = get_all (λ (f : Fileset). is_given tree.servers f.id) tree.filesets place fileset there w.given

    room : fileset.id.0 / 65536 ≡ state.server.0 →
        room_of tree.servers (record { 0 = fileset.id.0 / 65536 }) ≡ Some (room_in state)
    room e = ap (λ n. let s : ServerId = record { 0 = n } in room_of tree.servers s) e ∙ k.room

    given : fileset.id.0 / 65536 ≡ state.server.0 → nat_lt (fileset.id.0 % 65536) state.next ≡ true
    given e =
        sym (ap (λ o. option_map_or (λ (r : ServerRoom). nat_lt (fileset.id.0 % 65536) r.next) o true) (room e)) ∙ its

-- what was taken, where one ship is new
taken_then : (old new : List TakenShip) (from any : ServerId) (ship : TakenShip) → new ≡ set old (from.0 - 1) ship →
    ((unwrap_or (slice_get new (any.0 - 1)) no_ship).ship ≡ (unwrap_or (slice_get old (any.0 - 1)) no_ship).ship)
    ⊎ ((any.0 - 1 ≡ from.0 - 1) × ((unwrap_or (slice_get new (any.0 - 1)) no_ship).ship ≡ ship.ship))
taken_then old new from any ship e = by (set_taken old (from.0 - 1) (any.0 - 1) ship)
  where
    its : (unwrap_or (slice_get new (any.0 - 1)) no_ship).ship
        ≡ (unwrap_or (slice_get (set old (from.0 - 1) ship) (any.0 - 1)) no_ship).ship
    its = ap (λ ships. (unwrap_or (slice_get ships (any.0 - 1)) no_ship).ship) e

    by : (unwrap_or (slice_get (set old (from.0 - 1) ship) (any.0 - 1)) no_ship
        ≡ unwrap_or (slice_get old (any.0 - 1)) no_ship)
        ⊎ ((any.0 - 1 ≡ from.0 - 1)
        × (unwrap_or (slice_get (set old (from.0 - 1) ship) (any.0 - 1)) no_ship ≡ ship)) →
        ((unwrap_or (slice_get new (any.0 - 1)) no_ship).ship ≡ (unwrap_or (slice_get old (any.0 - 1)) no_ship).ship)
        ⊎ ((any.0 - 1 ≡ from.0 - 1) × ((unwrap_or (slice_get new (any.0 - 1)) no_ship).ship ≡ ship.ship))
    by (inl same) = inl (its ∙ ap (λ (one : TakenShip). one.ship) same)
    by (inr (at, same)) = inr (at, its ∙ ap (λ (one : TakenShip). one.ship) same)

-- what holds of two states that are replaced, and of each other one, holds of all
replaced : (P : StoreState → StoreState → Type 0) (states after : List StoreState) (f t : ℕ)
    (from other first second : StoreState) → AreReplaced states after f t first second →
    slice_get states f ≡ Some from → slice_get states t ≡ Some other → P from first → P other second →
    ((k : ℕ) (old : StoreState) → slice_get states k ≡ Some old → k ≢ f → k ≢ t → P old old) →
    (k : ℕ) (old new : StoreState) → slice_get states k ≡ Some old → slice_get after k ≡ Some new → P old new
replaced P states after f t from other first second a sends takes one two rest k old new was now =
    elim (eqb_tells k f) as (λ _. P old new) [
      | inl (x, at) ↦ same from first one (ap (slice_get states) (sym at) ∙ was) sends
          (ap (slice_get after) (sym at) ∙ now) a.one
      | inr (x, off) ↦ elim (eqb_tells k t) as (λ _. P old new) [
        | inl (y, at) ↦ same other second two (ap (slice_get states) (sym at) ∙ was) takes
            (ap (slice_get after) (sym at) ∙ now) a.other
        | inr (y, far) ↦ still (sym (a.rest k off far) ∙ now) off far
      ]
    ]
  where
    same : (before later_one : StoreState) → P before later_one → {x y : Option StoreState} → x ≡ Some old → x ≡ Some before →
        y ≡ Some new → y ≡ Some later_one → P old new
    same before later_one p a b c d =
        let e : Some before ≡ Some old = sym b ∙ a in
        let f : Some later_one ≡ Some new = sym d ∙ c in
        let is : before ≡ old = cc in
        let will : later_one ≡ new = cc in
        subst (λ z. P z new) is (subst (P before) will p)

    still : slice_get states k ≡ Some new → k ≢ f → k ≢ t → P old new
    still e off far =
        let g : Some old ≡ Some new = sym was ∙ e in
        let is : old ≡ new = cc in
        subst (P old) is (rest k old was off far)

-- a store that a fileset is leaving, or has left
behind_leaves : (next : HostId → ℕ) (state : StoreState) (held : Holding) (to : ServerId) → IsBehind next state →
    IsBehind next (leaves state held to)
behind_leaves next state held to b =
    let h = behind_changed next state (slot_so (is_of held.fileset.id) state.slots)
    (held_as (Leaving to (state.ship + 1))) (λ x k. k) b in
    record { own = h.own; held = h.held }

-- a move, where the stores of both servers are known
go_over : (next : HostId → ℕ) (tree : Tree) (states : List StoreState) (host : HostId) (server : ServerId)
    (name : List ℕ) (held : Holding) (mover : Mover) (from other : StoreState) → IsWellFormed tree →
    KeepAll next tree states → Moves tree host server name other.server held.fileset → IsMover tree.roster mover →
    mover.host ≡ host → mover.number ≡ next host → slice_get states (held.fileset.server.0 - 1) ≡ Some from →
    slice_get states (other.server.0 - 1) ≡ Some other → from.server ≡ held.fileset.server →
    held_so (is_of held.fileset.id) from.slots ≡ Some held → is_here held.stay ≡ true →
    1 ≤ held.fileset.server.0 → 1 ≤ other.server.0 →
    GoesOver next tree states host server name other.server held.fileset mover
go_over next tree states host server name held mover from other w all moves is_mover host_is number_is sends takes
    from_is there here low_from low_to =
    let fileset = held.fileset in
    let id = fileset.id in
    let to = other.server in
    let later = later_of next host server name to in
    let risen = later_risen next host server name to in
    let last = after_move tree host server name to fileset in
    let f = fileset.server.0 - 1 in
    let t = to.0 - 1 in
    let m = moving_so tree host server name to fileset moves in
    let from_keeps = all.keeps f from sends in
    let other_keeps = all.keeps t other takes in
    let from_behind = all.behind f from sends in
    let other_behind = all.behind t other takes in
    let two : fileset.server.0 ≢ to.0 = not_equal fileset.server.0 to.0 m.is.goes in
    let from_number = ap (λ (s : ServerId). s.0) from_is in
    let apart : to.0 ≢ from.server.0 = λ e. two (sym (e ∙ from_number)) in
    let count = all.count in
    let from_inside = inside states f from sends in
    let to_inside = inside states t other takes in
    let from_roster = ap (λ (r : Roster). length r.capacity) from_keeps.roster in
    let other_roster = ap (λ (r : Roster). length r.capacity) other_keeps.roster in
    let to_is : IsServer from.roster to =
    record { first = low_to; last = omega (arith, to_inside, count, from_roster) } in
    let s = sends_so tree from held to from_keeps there here m.is.writable to_is apart in
    let holding = leaving_now from held to in
    let ship = from.ship + 1 in
    let stored = from_keeps.storable.each (slot_so (is_of id) from.slots) held there in
    let formed = formed_get tree.filesets m.place fileset m.is.there w.filesets in
    let limit = formed.limit in
    let sent : IsSent holding from.server mover other.roster to = record {
      from_is = record {
        first = omega (arith, from_number, low_from);
        last = omega (arith, from_inside, count, other_roster, from_number);
      };
      apart = λ e. apart (sym e);
      formed = formed;
      rest = stored.rest;
      told = tellable_if_formed fileset formed;
      writable = m.is.writable;
      named = stored.name;
      parts = λ at l.
          subst (λ r. IsPart r at (part_of holding at mover)) (from_keeps.roster ∙ sym other_keeps.roster)
          (subst (IsPart from.roster at)
          (ap (λ o. option_map_or (λ h. part_of h at mover) o (object_part at 0 None)) s.leaving.held)
          (shipped_sound (leaves from held to) id at mover s.left.storable.limits (omega (arith, l, limit))
          (s.leaving.told at l) (subst (λ r. IsMover r mover) (sym from_keeps.roster) is_mover)));
    } in
    let allowed = allowed_there tree other from m.place fileset w other_keeps m.is.there stored.id in
    let ships = all.ships t f other from takes sends in
    let new : (taken_from other from.server).ship < ship = omega (arith, ships) in
    let arrive = may_arrive tree other m.place fileset from.server ship w other_keeps m.is new in
    let some = above_none next from from_behind in
    let own = later_own next host server name to in
    let number : mover.number < later mover.host =
    subst (λ h. mover.number < later h) (sym host_is) (omega (arith, number_is, own)) in
    let low : AreBelow later (held_first holding to from.server ship mover).records =
    below_moved next later held.records mover risen some number
    (from_behind.held (slot_so (is_of id) from.slots) held there) in
    let comes = all_come later holding from.server ship (arrival_slot other id) mover other sent other_keeps.storable
    allowed arrive
    (λ any e. none_awaits tree other id from.server ship (fileset.moves + 1) 0 any other_keeps e) low
    (behind_more next later other risen other_behind) in
    let leaving_is : leaving_state from fileset to ≡ leaves from held to = ap (λ (o : Outcome). o.state) s.does in
    let held_then : held_so (is_of id) (leaving_state from fileset to).slots ≡ Some holding =
    ap (λ (x : StoreState). held_so (is_of id) x.slots) leaving_is ∙ s.leaving.held in
    let let_go = moves_are_kept.from tree from host server name to fileset w from_keeps moves (sym from_is) to_is in
    let first = (act_done (leaving_state from fileset to) (Left id)).state in
    let first_is : first ≡ left_then from held to =
    ap (λ x. (act_done x (Left id)).state) leaving_is ∙ ap (λ (o : Outcome). o.state) s.ends in
    let second = state_after other (all_parts holding from.server ship mover) in
    let arrived : KeepsOf last second =
    moves_are_kept.to tree from other host server name fileset holding ship mover w from_keeps other_keeps moves
    (sym from_is) held_then (tellable_if_formed fileset formed) new comes.storable in
    let first_ship : first.ship ≡ ship = ap (λ (x : StoreState). x.ship) first_is in
    let first_taken = ap (λ (x : StoreState). x.taken) first_is in
    let first_follows : Follows later last from.server ship from first = record {
      server = ap (λ (x : StoreState). x.server) first_is;
      keeps = let_go.1.keeps;
      behind = subst (IsBehind later) (sym first_is)
          (behind_left later (leaves from held to) (slot_so (is_of id) (leaves from held to).slots)
          (behind_leaves later from held to (behind_more next later from risen from_behind)));
      sent = omega (arith, first_ship);
      taken = λ any. inl (ap (λ ships. (unwrap_or (slice_get ships (any.0 - 1)) no_ship).ship) first_taken);
    } in
    let second_ship = comes.ship in
    let second_follows : Follows later last from.server ship other second = record {
      server = comes.server;
      keeps = arrived;
      behind = comes.behind;
      sent = omega (arith, second_ship);
      taken = λ any. taken_then other.taken second.taken from.server any _ comes.taken;
    } in
    record {
      from = from;
      other = other;
      sends = sends;
      takes = takes;
      from_is = from_is;
      other_is = refl;
      two = two;
      leave = s.leave;
      goes = let_go.0;
      holding = holding;
      same = refl;
      leaving = subst (λ x. IsLeavingAs x holding to ship) (sym leaving_is) s.leaving;
      parts = comes.may;
      left = subst (λ x. MayDo x (Left id)) (sym leaving_is) s.left;
      gone = let_go.1.done;
      kept = λ after a.
          all_follow next later tree last states after from.server ship first all
          (roster_after tree (move_entry host (next host) server name to ∷ LeftEntry fileset.server id ∷ [])) a.count
          (ap (λ n. slice_get after (n - 1)) from_number ∙ a.one) first_ship
          (replaced (Follows later last from.server ship) states after f t from other first second a sends takes
          first_follows second_follows
          (λ k old e off far.
          (let its = ap (λ (x : ServerId). x.0) (all.own k old e) in
          record {
            server = refl;
            keeps = moves_are_kept.others tree old host server name to fileset w (all.keeps k old e) moves
                (ne_eqb fileset.server.0 old.server.0 (λ z. off (omega (arith, z, its))))
                (ne_eqb to.0 old.server.0 (λ z. far (omega (arith, z, its))));
            behind = behind_more next later old risen (all.behind k old e);
            sent = omega arith;
            taken = λ any. inl refl;
          })));
    }

server_of : (server : ServerId) (n : ℕ) → n ≡ server.0 → (let s : ServerId = record { 0 = n } in s) ≡ server
server_of server n e = ap (λ n. let s : ServerId = record { 0 = n } in s) e

-- a declared server has a store
has_store : (states : List StoreState) (servers : ℕ) (server : ServerId) → is_declared servers server ≡ true →
    length states ≡ servers → (1 ≤ server.0) × (server.0 - 1 < length states)
has_store states servers server d count =
    let low = leb-true 1 server.0 (and_left (nat_le 1 server.0) (nat_le server.0 servers) d) in
    let high = leb-true server.0 servers (and_right (nat_le 1 server.0) (nat_le server.0 servers) d) in
    (low, omega (arith, low, high, count))

pub moves_go_over : MovesGoOver
moves_go_over next tree states host server name to fileset mover w all moves is_mover host_is number_is =
    let m = moving_so tree host server name to fileset moves in
    let servers = length tree.servers in
    let count : length states ≡ servers = all.count ∙ sym w.servers in
    let declared = get_all (λ (f : Fileset). is_declared servers f.server) tree.filesets m.place fileset m.is.there
    w.declared in
    let (low_from, in_from) = has_store states servers fileset.server declared count in
    let (low_to, in_to) = has_store states servers to (declared_by_room tree.servers to m.is.room m.is.declared) count in
    let (from, sends) = there_at states (fileset.server.0 - 1) in_from in
    let (other, takes) = there_at states (to.0 - 1) in_to in
    let from_is : from.server ≡ fileset.server =
    all.own (fileset.server.0 - 1) from sends
    ∙ server_of fileset.server (fileset.server.0 - 1 + 1) (omega (arith, low_from)) in
    let other_is : other.server ≡ to =
    all.own (to.0 - 1) other takes ∙ server_of to (to.0 - 1 + 1) (omega (arith, low_to)) in
    let known = find_at_place fileset.id tree.filesets m.place fileset m.is.there w.ordered (same_key fileset.id.0) in
    let (held, h) = held_here tree from fileset (all.keeps (fileset.server.0 - 1) from sends) known (sym from_is) in
    let P : ServerId → Fileset → Type 0 = λ at f. Moves tree host server name at f →
    slice_get states (f.server.0 - 1) ≡ Some from → slice_get states (at.0 - 1) ≡ Some other → from.server ≡ f.server →
    held_so (is_of f.id) from.slots ≡ Some held → 1 ≤ f.server.0 → 1 ≤ at.0 →
    GoesOver next tree states host server name at f mover in
    let goes : P other.server held.fileset = λ moves sends takes from_is there low_from low_to.
    go_over next tree states host server name held mover from other w all moves is_mover host_is number_is sends takes
    from_is there h.here low_from low_to in
    let all_so : P to fileset = subst (λ at. P at fileset) other_is (subst (P other.server) h.same goes) in
    all_so moves sends takes from_is h.held low_from low_to
