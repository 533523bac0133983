-- The parts of a fileset that is leaving a store, and the store that they come to.
use Rattle.store_laws.proofs.Moves.{HeldFirst, IsMore, Waits, awaits_is_of, before_own, length_more, less, part_at, part_told, waits_next}
use Rattle.std.proofs.Common.{◌≡◌, ◌≢◌, ◌≤◌, ◌<◌, nat_lt, ℕ, zero, suc, ◌+◌, ◌-◌, ◌%◌, ◌==◌, Bool, true, false, List, [], ◌∷◌, ◌++◌, length, set, take, Option, Some, None, Ok, inl, inr, refl, sym, ap, ◌∙◌, subst, append_assoc, arith}
use Rattle.std.specs.Prelude.{if◌then◌else◌, option_and_then, slice_get, IsTrue}
use Rattle.std.specs.List.{list_all}
use Rattle.std.specs.Option.{option_map, option_map_or}
use Rattle.std.proofs.lemmas.Bool.Decides.{eqb_tells}
use Rattle.std.proofs.lemmas.Grind.{common_steps}
use Rattle.base_types.specs.Name.{is_name}
use Rattle.base_types.specs.declared.ids.FilesetId.{FilesetId}
use Rattle.base_types.specs.declared.ids.HostId.{HostId}
use Rattle.base_types.specs.declared.ids.ServerId.{ServerId}
use Rattle.tree_calls.specs.declared.reply.Refusal.TheVariants.{Exists, TooMany, NoRoom}
use Rattle.tree_calls.specs.declared.reply.Reply.TheVariants.{Ok as Accepted}
use Rattle.tree_calls.specs.declared.roster.Roster.{Roster}
use Rattle.tree_calls.specs.declared.ship.Mover.{Mover}
use Rattle.tree_calls.specs.declared.ship.ShipPart.{ShipPart}
use Rattle.tree_calls.specs.declared.ship.ShipPart.TheVariants.{Head, Object as ObjectPart}
use Rattle.tree_objects.specs.declared.content.Anode.{Anode}
use Rattle.tree_objects.specs.declared.content.Object.{Object}
use Rattle.tree_objects.proofs.Observed.{and_left, and_right}
use Rattle.tree_filesets.specs.Checks.{unless}
use Rattle.tree_filesets.specs.Walk.{object_at, unique_at}
use Rattle.tree_filesets.specs.WellFormed.{IsWellFormed, is_at_rest, is_settled}
use Rattle.store_records.specs.Stored.{IsStorable}
use Rattle.store_records.proofs.Acts.{acts_keep_storable}
use Rattle.message_types.specs.Soundness.{IsPart, IsServer}
use Rattle.store_acts.specs.Acts.{act_done, state_after}
use Rattle.store_acts.specs.Laws.{anode_told}
use Rattle.store_acts.specs.Moving.{anode_outcome, arrival_slot, arriving, head_outcome, held_arriving, held_with, part_outcome, with_taken}
use Rattle.store_acts.specs.Parts.{is_tellable, object_part, part_of, tellable_or_none, told_object}
use Rattle.store_acts.specs.Sound.{IsAllowed, IsTakenSoFar}
use Rattle.store_acts.specs.declared.act.Act.{Act}
use Rattle.store_acts.specs.declared.act.Act.TheVariants.{Part}
use Rattle.store_acts.proofs.Told.{parts_are_whole}
use Rattle.store_laws.specs.Moves.{MayArrive, all_parts, are_tellable, parts_from}
use Rattle.store_state.specs.Founding.{free_slot}
use Rattle.store_state.specs.Outcomes.{Outcome}
use Rattle.store_state.specs.Sought.{awaits}
use Rattle.store_state.specs.State.{held_at, held_so, is_of, slot_so, with_held}
use Rattle.store_state.specs.declared.state.Holding.{Holding}
use Rattle.store_state.specs.declared.state.Stay.TheVariants.{Arriving}
use Rattle.store_state.specs.declared.state.StoreState.{StoreState}
use Rattle.store_state.proofs.Slots.{
  first,
  first_changed,
  first_narrow,
  first_set,
  held_changed,
  held_inside,
  held_set,
  slot_first,
}
use Rattle.store_laws.proofs.Keys.{same_key}
use Rattle.store_laws.specs.HistoryLaws.{AreBelow, IsBehind}
use Rattle.store_laws.specs.MovedLaws.{MayDo, MayDoAll}
use Rattle.store_laws.proofs.MovedNumbers.{behind_changed, behind_put}

-- the act by which a part is given
abbrev pub part_act : Holding → ServerId → ℕ → Mover → ℕ → Act
part_act holding from ship mover at =
    Part from ship holding.fileset.id (holding.fileset.moves + 1) at (part_of holding at mover)

-- the parts by their numbers
part_from : (holding : Holding) (from : ServerId) (ship : ℕ) (mover : Mover) (n at : ℕ) (anodes : List Anode) →
    at < length anodes →
    slice_get (parts_from holding from ship mover n anodes) at ≡ Some (part_act holding from ship mover (n + at))
part_from holding from ship mover n at [] l = absurd (omega (arith, l))
part_from holding from ship mover n zero (anode ∷ anodes) l =
    let same : n ≡ n + zero = omega arith in ap (λ m. Some (part_act holding from ship mover m)) same
part_from holding from ship mover n (suc at) (anode ∷ anodes) l =
    let same : (n + 1) + at ≡ n + suc at = omega arith in
    part_from holding from ship mover (n + 1) at anodes (omega (arith, l))
    ∙ ap (λ m. Some (part_act holding from ship mover m)) same

pub part_there : (holding : Holding) (from : ServerId) (ship : ℕ) (mover : Mover) (at : ℕ) →
    at ≤ length holding.fileset.anodes →
    slice_get (all_parts holding from ship mover) at ≡ Some (part_act holding from ship mover at)
part_there holding from ship mover zero l = refl
part_there holding from ship mover (suc at) l =
    let same : 1 + at ≡ suc at = omega arith in
    part_from holding from ship mover 1 at holding.fileset.anodes (omega (arith, l))
    ∙ ap (λ m. Some (part_act holding from ship mover m)) same

count_from : (holding : Holding) (from : ServerId) (ship : ℕ) (mover : Mover) (n : ℕ) (anodes : List Anode) →
    length (parts_from holding from ship mover n anodes) ≡ length anodes
count_from holding from ship mover n [] = refl
count_from holding from ship mover n (anode ∷ anodes) = ap suc (count_from holding from ship mover (n + 1) anodes)

pub parts_count : (holding : Holding) (from : ServerId) (ship : ℕ) (mover : Mover) →
    length (all_parts holding from ship mover) ≡ length holding.fileset.anodes + 1
parts_count holding from ship mover =
    let rest = count_from holding from ship mover 1 holding.fileset.anodes in omega (arith, rest)

-- one act more
pub state_more : (state : StoreState) (acts : List Act) (at : ℕ) (act : Act) → slice_get acts at ≡ Some act →
    state_after state (take (at + 1) acts) ≡ (act_done (state_after state (take at acts)) act).state
state_more state [] at act e = absurd (cc)
state_more state (other ∷ acts) zero act e = let same : other ≡ act = cc in ap (λ a. (act_done state a).state) same
state_more state (other ∷ acts) (suc at) act e =
    let more : suc at + 1 ≡ suc (at + 1) = omega arith in
    ap (λ n. state_after state (take n (other ∷ acts))) more
    ∙ state_more (act_done state other).state acts at act e

may_more : (state : StoreState) (act : Act) (acts : List Act) → MayDo state act →
    MayDoAll (act_done state act).state acts → MayDoAll state (act ∷ acts)
may_more state act acts m rest zero any e = let same : act ≡ any = cc in subst (MayDo state) same m
may_more state act acts m rest (suc at) any e = rest at any e

-- a fileset whose parts a store may be given
pub record IsSent (holding : Holding) (from : ServerId) (mover : Mover) (roster : Roster) (server : ServerId) : Type 0
  where
    pub from_is : IsServer roster from
    pub apart : from.0 ≢ server.0
    pub formed : IsWellFormed holding.fileset
    pub rest : is_at_rest holding.fileset ≡ true
    pub told : are_tellable holding.fileset.anodes ≡ true
    pub writable : holding.fileset.read_only ≡ false
    pub named : IsTrue (is_name holding.fileset.name)
    pub parts : (at : ℕ) → at ≤ holding.fileset.objects → IsPart roster at (part_of holding at mover)

-- a part fits
pub may_part : (holding : Holding) (from : ServerId) (ship : ℕ) (mover : Mover) (state : StoreState) (at : ℕ) →
    IsSent holding from mover state.roster state.server → IsStorable state → IsAllowed state holding.fileset.id →
    at ≤ holding.fileset.objects →
    ((other : Holding) →
    held_so (awaits holding.fileset.id from ship (holding.fileset.moves + 1) at) state.slots ≡ Some other →
    IsTakenSoFar holding.fileset at other) →
    MayDo state (part_act holding from ship mover at)
may_part holding from ship mover state at s storable allowed l taken = record {
  storable = storable;
  is_act = (s.from_is, s.parts at l);
  fits = (
    holding.fileset,
    record {
      other = s.apart;
      allowed = allowed;
      named = s.named;
      well_formed = s.formed;
      settled = s.rest;
      whole = s.told;
      writable = s.writable;
      part = (holding.stay, holding.records, mover, refl);
      taken = taken;
    },
  );
}

waits_for : (id : FilesetId) (from : ServerId) (ship moves at objects : ℕ) (holding : Holding) →
    Waits id from ship moves at objects holding → awaits id from ship moves at holding ≡ true
waits_for id from ship moves at objects holding w =
    let stay = w.stay in let mine = w.mine in let many = w.many in
    let a = same_key id.0 in let b = same_key from.0 in let c = same_key ship in let d = same_key at in
    let e = same_key moves in
    rw stay (rw mine (rw many (rw a (rw b (rw c (rw d (rw e refl)))))))

-- it is the one that waits
waits_at : (state : StoreState) (id : FilesetId) (from : ServerId) (ship moves at objects slot : ℕ)
    (holding : Holding) → HeldFirst state id slot holding → Waits id from ship moves at objects holding →
    slot_so (awaits id from ship moves at) state.slots ≡ slot
waits_at state id from ship moves at objects slot holding f w =
    let waits = waits_for id from ship moves at objects holding w in
    let there : held_at state.slots (first (is_of id) state.slots) ≡ Some holding =
    ap (held_at state.slots) f.place ∙ f.held in
    slot_first (awaits id from ship moves at) state.slots
    ∙ first_narrow (is_of id) (awaits id from ship moves at) (awaits_is_of id from ship moves at) state.slots holding
    there waits
    ∙ f.place

-- an anode that is waited for is taken
taken_at : (state : StoreState) (id : FilesetId) (from : ServerId) (ship moves at objects slot : ℕ) (anode : Anode)
    (holding : Holding) → HeldFirst state id slot holding → Waits id from ship moves at objects holding →
    (anode_outcome state from ship id moves at anode).state ≡ with_held state slot (held_with from ship at anode)
taken_at state id from ship moves at objects slot anode holding f w =
    let place = waits_at state id from ship moves at objects slot holding f w in
    let inside = less slot (length state.slots) (held_inside state.slots slot holding f.held) in
    rw place (rw inside refl)

take_front : (front rest : List Anode) → take (length front) (front ++ rest) ≡ front
take_front [] rest = refl
take_front (anode ∷ front) rest = ap (λ xs. anode ∷ xs) (take_front front rest)

-- a store to which the anodes in front came
pub record HasCome (holding : Holding) (front : List Anode) (state : StoreState) (slot : ℕ) (so_far : Holding) : Type 0
  where
    pub storable : IsStorable state
    pub allowed : IsAllowed state holding.fileset.id
    pub first_is : HeldFirst state holding.fileset.id slot so_far
    pub name : so_far.fileset.name ≡ holding.fileset.name
    pub anodes : so_far.fileset.anodes ≡ front

-- a store may do acts, and then a disk can have what it keeps, its numbers are below, and its ships are those of another
-- state
pub record Comes (later : HostId → ℕ) (old : StoreState) (acts : List Act) (state : StoreState) : Type 0 where
  pub may : MayDoAll state acts
  pub storable : IsStorable (state_after state acts)
  pub server : (state_after state acts).server ≡ old.server
  pub roster : (state_after state acts).roster ≡ old.roster
  pub ship : (state_after state acts).ship ≡ old.ship
  pub taken : (state_after state acts).taken ≡ old.taken
  pub behind : IsBehind later (state_after state acts)

none_there : (state : StoreState) → MayDoAll state []
none_there state at act e = absurd (cc)

allowed_still : (old new : StoreState) (id : FilesetId) → new.server ≡ old.server → new.next ≡ old.next →
    IsAllowed old id → IsAllowed new id
allowed_still old new id server next a = record {
  first = a.first;
  last = a.last;
  number = a.number;
  given = λ e. subst (λ n. id.0 % 65536 < n) (sym next) (a.given (e ∙ ap (λ (s : ServerId). s.0) server));
}

-- each anode comes, one after the other
pub anodes_come : (later : HostId → ℕ) (holding : Holding) (from : ServerId) (ship : ℕ) (mover : Mover)
    (front rest : List Anode) (at : ℕ) (state : StoreState) (slot : ℕ) (so_far : Holding) →
    IsSent holding from mover state.roster state.server → length rest + at ≡ holding.fileset.objects + 1 →
    holding.fileset.anodes ≡ front ++ rest → at ≡ suc (length front) → are_tellable rest ≡ true →
    list_all (λ anode. option_map_or (λ object. is_settled object.content) anode.object true) rest ≡ true →
    HasCome holding front state slot so_far →
    (IsMore rest →
    Waits holding.fileset.id from ship (holding.fileset.moves + 1) at holding.fileset.objects so_far) →
    IsBehind later state → Comes later state (parts_from holding from ship mover at rest) state
unfolding act_done
anodes_come later holding from ship mover front [] at state slot so_far sent c e n t s has w b = record {
  may = none_there state;
  storable = has.storable;
  server = refl;
  roster = refl;
  ship = refl;
  taken = refl;
  behind = b;
}
anodes_come later holding from ship mover front (anode ∷ rest) at state slot so_far sent c e n t s has w b =
    let id = holding.fileset.id in
    let moves = holding.fileset.moves + 1 in
    let objects = holding.fileset.objects in
    let waits = w tt in
    let part = object_part at anode.unique anode.object in
    let whole : anode_told part ≡ Some anode = parts_are_whole at anode (and_left _ _ s) in
    let taken = with_held state slot (held_with from ship at anode) in
    let step : (part_outcome state from ship id moves at (part_of holding at mover)).state ≡ taken =
    ap (λ p. (part_outcome state from ship id moves at p).state)
    (part_at holding mover front anode rest at e n (and_left _ _ t))
    ∙ ap (λ (o : Outcome). o.state) (part_told state id from ship moves at part anode whole)
    ∙ taken_at state id from ship moves at objects slot anode so_far has.first_is waits in
    let fits : at ≤ objects = omega (arith, c) in
    let front_is : take (at - 1) holding.fileset.anodes ≡ front =
    (let last : at - 1 ≡ length front = omega (arith, n) in
    ap (λ k. take k holding.fileset.anodes) last ∙ ap (take (length front)) e ∙ take_front front (anode ∷ rest)) in
    let may : MayDo state (part_act holding from ship mover at) =
    may_part holding from ship mover state at sent has.storable has.allowed fits (λ other there.
    (let place = waits_at state id from ship moves at objects slot so_far has.first_is waits in
    let found : Some so_far ≡ Some other = sym (ap (held_at state.slots) place ∙ has.first_is.held) ∙ there in
    let same : so_far ≡ other = cc in
    subst (IsTakenSoFar holding.fileset at) same
    (record { name = has.name; objects = waits.limit; anodes = has.anodes ∙ sym front_is }))) in
    let storable : IsStorable taken = subst IsStorable step
    (acts_keep_storable state (part_act holding from ship mover at) has.storable may.is_act may.fits) in
    let next : HasCome holding (front ++ anode ∷ []) taken slot (held_with from ship at anode so_far) = record {
      storable = storable;
      allowed = allowed_still state taken id refl refl has.allowed;
      first_is = record {
        place =
            first_changed (is_of id) (held_with from ship at anode) (λ h. refl) state.slots slot ∙ has.first_is.place;
        held =
            held_changed state.slots slot (held_with from ship at anode)
            ∙ ap (option_map (held_with from ship at anode)) has.first_is.held;
      };
      name = has.name;
      anodes = ap (λ xs. xs ++ anode ∷ []) has.anodes;
    } in
    let more = length_more front anode in
    let count : length rest + (at + 1) ≡ objects + 1 = omega (arith, c) in
    let behind : IsBehind later taken = behind_changed later state slot (held_with from ship at anode) (λ h k. k) b in
    let comes : Comes later taken (parts_from holding from ship mover (at + 1) rest)
    (act_done state (part_act holding from ship mover at)).state =
    subst (λ x. Comes later taken (parts_from holding from ship mover (at + 1) rest) x) (sym step)
    (anodes_come later holding from ship mover (front ++ anode ∷ []) rest (at + 1) taken slot
    (held_with from ship at anode so_far) sent count (e ∙ sym (append_assoc front (anode ∷ []) rest))
    (omega (arith, n, more)) (and_right _ _ t) (and_right _ _ s) next
    (waits_next id from ship moves at objects anode so_far rest waits count) behind) in
    record {
      may = may_more state (part_act holding from ship mover at) (parts_from holding from ship mover (at + 1) rest) may
          comes.may;
      storable = comes.storable;
      server = comes.server;
      roster = comes.roster;
      ship = comes.ship;
      taken = comes.taken;
      behind = comes.behind;
    }

-- the slot of a fileset that may arrive
slot_is : (taken full much : Bool) (at slot : ℕ) →
    unless taken Exists (unless full TooMany (unless much NoRoom (Ok at))) ≡ Ok slot → (full ≡ false) × (at ≡ slot)
slot_is true full much at slot e = absurd (cc)
slot_is false true much at slot e = absurd (cc)
slot_is false false true at slot e = absurd (cc)
slot_is false false false at slot e = (refl, cc)

-- what a head leaves
abbrev pub held_first : Holding → ServerId → ServerId → ℕ → Mover → Holding
held_first holding to from ship mover =
    held_arriving (Arriving from ship 1)
    (arriving to holding.fileset.id holding.fileset.name holding.fileset.objects (holding.fileset.moves + 1))
    holding.records mover

abbrev pub headed : Holding → StoreState → ServerId → ℕ → ℕ → Mover → StoreState
headed holding state from ship slot mover = record (with_taken state from ship Accepted) {
  slots = set state.slots slot (Some (held_first holding state.server from ship mover));
}

head_taken : (holding : Holding) (state : StoreState) (from : ServerId) (ship slot : ℕ) (mover : Mover) →
    MayArrive state holding.fileset from ship slot →
    (act_done state (part_act holding from ship mover 0)).state ≡ headed holding state from ship slot mover
unfolding act_done part_outcome head_outcome
head_taken holding state from ship slot mover a =
    let late = a.late in let taken = a.taken in let may = a.room in rw late (rw taken (rw may refl))

-- All parts come to a store where the fileset may arrive, and where none is arriving.
pub all_come : (later : HostId → ℕ) (holding : Holding) (from : ServerId) (ship slot : ℕ) (mover : Mover)
    (state : StoreState) → IsSent holding from mover state.roster state.server → IsStorable state →
    IsAllowed state holding.fileset.id → MayArrive state holding.fileset from ship slot →
    ((other : Holding) →
    held_so (awaits holding.fileset.id from ship (holding.fileset.moves + 1) 0) state.slots ≡ Some other → ⊥) →
    AreBelow later (held_first holding state.server from ship mover).records → IsBehind later state →
    Comes later (headed holding state from ship slot mover) (all_parts holding from ship mover) state
all_come later holding from ship slot mover state sent storable allowed a none low b =
    let id = holding.fileset.id in
    let start = held_first holding state.server from ship mover in
    let first_state = headed holding state from ship slot mover in
    let (room, mine) = slot_is _ _ _ (arrival_slot state id) slot a.room in
    let inside : slot < length state.slots = grind (arith, common_steps, room, mine) in
    let own = slot_first (is_of id) state.slots in
    let before : slot ≤ first (is_of id) state.slots = (
    let b = before_own (slot_so (is_of id) state.slots) (free_slot state.slots) (length state.slots) slot mine inside in
    omega (arith, b, own)) in
    let may : MayDo state (part_act holding from ship mover 0) =
    may_part holding from ship mover state 0 sent storable allowed (omega arith) (λ other there. absurd (none other there))
    in
    let step = head_taken holding state from ship slot mover a in
    let has : HasCome holding [] first_state slot start = record {
      storable = subst IsStorable step
          (acts_keep_storable state (part_act holding from ship mover 0) storable may.is_act may.fits);
      allowed = allowed_still state first_state id refl refl allowed;
      first_is = record {
        place = first_set (is_of id) state.slots slot start before inside (same_key id.0);
        held = held_set state.slots slot start inside;
      };
      name = refl;
      anodes = refl;
    } in
    let count = sent.formed.count in
    let comes : Comes later first_state (parts_from holding from ship mover 1 holding.fileset.anodes)
    (act_done state (part_act holding from ship mover 0)).state =
    subst (λ x. Comes later first_state (parts_from holding from ship mover 1 holding.fileset.anodes) x) (sym step)
    (anodes_come later holding from ship mover [] holding.fileset.anodes 1 first_state slot start sent
    (omega (arith, count)) refl refl sent.told sent.rest has
    (λ more. record { stay = refl; mine = refl; many = refl; limit = refl })
    (behind_put later state first_state slot start refl refl low b)) in
    record {
      may = may_more state (part_act holding from ship mover 0)
          (parts_from holding from ship mover 1 holding.fileset.anodes) may comes.may;
      storable = comes.storable;
      server = comes.server;
      roster = comes.roster;
      ship = comes.ship;
      taken = comes.taken;
      behind = comes.behind;
    }
