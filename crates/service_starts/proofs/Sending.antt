-- A fileset that is leaving a store is sent again: the other store takes the parts that it lacks, and changes nothing else.
use Rattle.store_laws.proofs.Moves.{awaits_is_of, get_behind, length_more, part_told, told_or_none}
use Rattle.std.proofs.Common.{◌≡◌, ◌≢◌, ◌≤◌, ◌<◌, ◌⊎◌, nat_lt, nat_le, ℕ, zero, suc, ◌+◌, ◌-◌, ◌==◌, Bool, true, false, ◌&&◌, ◌||◌, not, cond, List, [], ◌∷◌, ◌++◌, length, take, Option, Some, None, inl, inr, refl, sym, ap, ◌∙◌, subst, append_assoc, arith}
use Rattle.std.specs.Prelude.{IsTrue, if◌then◌else◌, option_and_then, slice_get}
use Rattle.std.specs.List.{list_all, list_any}
use Rattle.std.specs.Option.{option_map_or}
use Rattle.std.proofs.lemmas.Bool.Decides.{eqb_tells}
use Rattle.std.proofs.lemmas.Grind.{common_steps}
use Rattle.base_types.specs.Name.{is_name}
use Rattle.base_types.specs.declared.ids.FilesetId.{FilesetId}
use Rattle.base_types.specs.declared.ids.ServerId.{ServerId}
use Rattle.tree_calls.specs.declared.ship.Mover.{Mover}
use Rattle.tree_calls.specs.declared.ship.ShipPart.{ShipPart}
use Rattle.tree_calls.specs.declared.ship.ShipPart.TheVariants.{Head, Object as ObjectPart}
use Rattle.tree_objects.proofs.Observed.{and_left, and_right}
use Rattle.tree_objects.specs.declared.content.Anode.{Anode}
use Rattle.tree_objects.specs.declared.content.Object.{Object}
use Rattle.tree_filesets.specs.Walk.{object_at, unique_at}
use Rattle.tree_filesets.specs.WellFormed.{IsWellFormed, is_at_rest, is_settled}
use Rattle.store_memory.proofs.Soundly.{shipped_sound}
use Rattle.store_memory.specs.Sound.{IsLeavingOf, IsMover}
use Rattle.store_laws.proofs.Told.{tellable_if_formed}
use Rattle.store_laws.specs.MovedLaws.{MayDo, MayDoAll}
use Rattle.store_records.proofs.Acts.{acts_keep_storable}
use Rattle.store_records.specs.Stored.{IsOther, IsStorable, StaysRight}
use Rattle.message_types.specs.Soundness.{IsPart, IsServer}
use Rattle.store_acts.proofs.Limits.{held_fits}
use Rattle.store_acts.proofs.Told.{parts_are_whole}
use Rattle.store_acts.specs.Acts.{act_done, state_after}
use Rattle.store_acts.specs.Laws.{anode_told}
use Rattle.store_acts.specs.Moving.{anode_outcome, held_with, part_outcome}
use Rattle.store_acts.specs.Parts.{is_tellable, object_part, part_of, tellable_or_none, told_object}
use Rattle.store_acts.specs.Sound.{FitsAt, IsAllowed, IsTakenSoFar}
use Rattle.store_acts.specs.declared.act.Act.{Act}
use Rattle.store_acts.specs.declared.act.Act.TheVariants.{Part}
use Rattle.store_laws.specs.Moves.{all_parts, are_tellable, parts_from}
use Rattle.store_state.proofs.Slots.{first, slot_first, held_inside, first_narrow}
use Rattle.store_state.specs.Sought.{awaits, is_due, is_past}
use Rattle.store_state.specs.State.{held_at, held_so, is_gone, is_leaving, is_of, is_used_so, slot_so, with_held}
use Rattle.store_state.specs.declared.state.Holding.{Holding}
use Rattle.store_state.specs.declared.state.Stay.TheVariants.{Writable, Leaving, Arriving}
use Rattle.store_state.specs.declared.state.StoreState.{StoreState}
use Rattle.store_laws.proofs.Called.{same_id}
use Rattle.store_laws.proofs.Exact.{held_self}
use Rattle.store_laws.proofs.Keys.{same_key}
use Rattle.store_laws.proofs.Slots.{ChangesOne, Table, changes_one, changes_then, held_passes}

-- what is known of a fileset that is leaving a store
pub record Leaves (sender : StoreState) (holding : Holding) (to : ServerId) (ship : ℕ) : Type 0 where
  pub storable : IsStorable sender
  pub held : held_so (is_of holding.fileset.id) sender.slots ≡ Some holding
  pub stay : holding.stay ≡ Leaving to ship
  pub formed : IsWellFormed holding.fileset
  pub rest : is_at_rest holding.fileset ≡ true
  pub named : IsTrue (is_name holding.fileset.name)
  pub writable : holding.fileset.read_only ≡ false
  pub least : 1 ≤ holding.fileset.objects
  pub tellable : are_tellable holding.fileset.anodes ≡ true
  pub other : IsOther sender.server to

pub leaves_so : (sender : StoreState) (holding : Holding) (to : ServerId) (ship : ℕ) → IsStorable sender →
    held_so (is_of holding.fileset.id) sender.slots ≡ Some holding → holding.stay ≡ Leaving to ship →
    Leaves sender holding to ship
leaves_so sender holding to ship s e l =
    let slot = slot_so (is_of holding.fileset.id) sender.slots in
    let one = s.each slot holding e in
    let stay : StaysRight sender holding.fileset (Leaving to ship) = subst (StaysRight sender holding.fileset) l one.stay in
    let fits = held_fits sender.roster sender.slots slot holding s.limits.slots e in
    record {
      storable = s;
      held = e;
      stay = l;
      formed = stay.0;
      rest = one.rest;
      named = one.name;
      writable = stay.1;
      least = fits.least;
      tellable = tellable_if_formed holding.fileset stay.0;
      other = stay.2;
    }

pub asked_of : (sender : StoreState) (holding : Holding) (to : ServerId) (ship : ℕ) →
    Leaves sender holding to ship → (at : ℕ) → at ≤ holding.fileset.objects →
    IsLeavingOf sender holding.fileset.id at
asked_of sender holding to ship l at most = (holding, l.held, ap is_leaving l.stay, most)

part_is : (sender : StoreState) (holding : Holding) (to : ServerId) (ship : ℕ) (mover : Mover) →
    Leaves sender holding to ship → IsMover sender.roster mover → (at : ℕ) → at ≤ holding.fileset.objects →
    IsPart sender.roster at (part_of holding at mover)
part_is sender holding to ship mover l m at most =
    let limit = l.formed.limit in
    subst (IsPart sender.roster at)
    (ap (λ found. option_map_or (λ (h : Holding). part_of h at mover) found (object_part at 0 None)) l.held)
    (shipped_sound sender holding.fileset.id at mover l.storable.limits (omega (arith, most, limit))
    (asked_of sender holding to ship l at most) m)

-- the other store, and what it has of the fileset
pub record Receives (sender receiver : StoreState) (holding come : Holding) : Type 0 where
  pub storable : IsStorable receiver
  pub held : held_so (is_of holding.fileset.id) receiver.slots ≡ Some come
  pub moves : holding.fileset.moves < come.fileset.moves
  pub other : sender.server.0 ≢ receiver.server.0
  pub roster : receiver.roster ≡ sender.roster
  pub is_from : IsServer receiver.roster sender.server

take_first : (state : StoreState) (act : Act) (acts : List Act) → MayDo state act →
    MayDoAll (act_done state act).state acts → MayDoAll state (act ∷ acts)
take_first state act acts one rest zero other e =
    let same : act ≡ other = cc in subst (MayDo state) same one
take_first state act acts one rest (suc at) other e = rest at other e

-- what is found by a stricter test is what is found by an id
found_once : (state : StoreState) (id : FilesetId) (from : ServerId) (ship moves at : ℕ) (h g : Holding) →
    IsStorable state → held_so (is_of id) state.slots ≡ Some h →
    held_so (awaits id from ship moves at) state.slots ≡ Some g → (g ≡ h) × (awaits id from ship moves at g ≡ true)
found_once state id from ship moves at h g s e f =
    let passes = held_passes (awaits id from ship moves at) state.slots g f in
    let own = same_id g.fileset.id id (and_left _ _ (and_left _ _ passes)) in
    let there : held_so (is_of id) state.slots ≡ Some g =
    ap (λ i. held_so (is_of i) state.slots) (sym own)
    ∙ held_self state (slot_so (awaits id from ship moves at) state.slots) g s f in
    let both : Some h ≡ Some g = sym e ∙ there in
    (cc, passes)

-- none is found
none_first : (test : Holding → Bool) (slots : Table) →
    ((s : ℕ) (h : Holding) → held_at slots s ≡ Some h → test h ≡ false) → first test slots ≡ length slots
none_first test [] k = refl
none_first test (None ∷ slots) k =
    let rest = none_first test slots (λ s h e. k (suc s) h e) in omega (arith, rest)
none_first test (Some b ∷ slots) k =
    let rest = none_first test slots (λ s h e. k (suc s) h e) in
    ap (λ c. cond (not c) (1 + first test slots) 0) (k zero b refl) ∙ omega (arith, rest)

-- some is
some_any : (test : Holding → Bool) (slots : Table) (s : ℕ) (h : Holding) → held_at slots s ≡ Some h →
    test h ≡ true → list_any (is_used_so test) slots ≡ true
some_any test [] s h e t = absurd (cc)
some_any test (None ∷ slots) zero h e t = absurd (cc)
some_any test (None ∷ slots) (suc s) h e t = some_any test slots s h e t
some_any test (Some b ∷ slots) zero h e t =
    let same : b ≡ h = cc in ap (λ c. c || list_any (is_used_so test) slots) (ap test same ∙ t)
some_any test (Some b ∷ slots) (suc s) h e t = or_true (test b) (some_any test slots s h e t)
  where
    or_true : (c : Bool) → list_any (is_used_so test) slots ≡ true → (c || list_any (is_used_so test) slots) ≡ true
    or_true true k = refl
    or_true false k = k

-- a head comes too late
is_late : (receiver : StoreState) (holding come : Holding) →
    held_so (is_of holding.fileset.id) receiver.slots ≡ Some come → holding.fileset.moves < come.fileset.moves →
    list_any (is_used_so (is_past holding.fileset.id (holding.fileset.moves + 1))) receiver.slots ≡ true
is_late receiver holding come e more =
    let slot = slot_so (is_of holding.fileset.id) receiver.slots in
    let own = held_passes (is_of holding.fileset.id) receiver.slots come e in
    let high : nat_le (holding.fileset.moves + 1) come.fileset.moves ≡ true = grind (arith, common_steps, more) in
    some_any (is_past holding.fileset.id (holding.fileset.moves + 1)) receiver.slots slot come e
    (ap (λ b. b && (not (is_gone come.stay) || nat_le (holding.fileset.moves + 1) come.fileset.moves)) own
    ∙ ap (λ b. not (is_gone come.stay) || b) high ∙ or_true (not (is_gone come.stay)))
  where
    or_true : (b : Bool) → (b || true) ≡ true
    or_true true = refl
    or_true false = refl

head_stays : (state : StoreState) (holding : Holding) (from : ServerId) (ship : ℕ) (mover : Mover) →
    list_any (is_used_so (is_past holding.fileset.id (holding.fileset.moves + 1))) state.slots ≡ true →
    (act_done state (Part from ship holding.fileset.id (holding.fileset.moves + 1) 0 (part_of holding 0 mover))).state
    ≡ state
unfolding act_done part_outcome
head_stays state holding from ship mover late = rw late refl

-- a part that isn't waited for
object_stays : (state : StoreState) (id : FilesetId) (from : ServerId) (ship moves at unique : ℕ) (o : Option Object) →
    nat_lt (slot_so (awaits id from ship moves at) state.slots) (length state.slots) ≡ false →
    (part_outcome state from ship id moves at (object_part at unique o)).state ≡ state
unfolding part_outcome
object_stays state id from ship moves at unique None e = rw e refl
object_stays state id from ship moves at unique (Some object) e = rw e refl

part_object : (holding : Holding) (at : ℕ) (mover : Mover) → 1 ≤ at →
    part_of holding at mover
    ≡ object_part at (unique_at holding.fileset.anodes at) (told_object holding.fileset.anodes at)
part_object holding at mover least =
    elim (eqb_tells at 0) as (λ _. part_of holding at mover
    ≡ object_part at (unique_at holding.fileset.anodes at) (told_object holding.fileset.anodes at)) [
      | inl (z, k) ↦ absurd (omega (arith, k, least))
      | inr (z, k) ↦
          ap (λ b. if b then Head holding.fileset.name holding.fileset.objects holding.records mover
          else object_part at (unique_at holding.fileset.anodes at) (told_object holding.fileset.anodes at)) z
    ]

part_stays : (state : StoreState) (holding : Holding) (from : ServerId) (ship at : ℕ) (mover : Mover) → 1 ≤ at →
    nat_lt (slot_so (awaits holding.fileset.id from ship (holding.fileset.moves + 1) at) state.slots)
    (length state.slots) ≡ false →
    (act_done state (Part from ship holding.fileset.id (holding.fileset.moves + 1) at (part_of holding at mover))).state
    ≡ state
unfolding act_done
part_stays state holding from ship at mover least e =
    ap (λ p. (part_outcome state from ship holding.fileset.id (holding.fileset.moves + 1) at p).state)
    (part_object holding at mover least)
    ∙ object_stays state holding.fileset.id from ship (holding.fileset.moves + 1) at
    (unique_at holding.fileset.anodes at) (told_object holding.fileset.anodes at) e

-- What all parts of a fileset leave is known of its sender, its receiver and its mover.
pub record Sends (sender receiver : StoreState) (holding come : Holding) (to : ServerId) (ship : ℕ) (mover : Mover) :
    Type 0 where
  pub leaves : Leaves sender holding to ship
  pub receives : Receives sender receiver holding come
  pub mover_is : IsMover sender.roster mover

-- a part may be given
may_take : (sender receiver : StoreState) (holding come : Holding) (to : ServerId) (ship : ℕ) (mover : Mover) →
    Sends sender receiver holding come to ship mover → (state : StoreState) (at : ℕ) (h : Holding) →
    at ≤ holding.fileset.objects → IsStorable state → state.server ≡ receiver.server →
    state.roster ≡ receiver.roster → held_so (is_of holding.fileset.id) state.slots ≡ Some h →
    ((g : Holding) →
    held_so (awaits holding.fileset.id sender.server ship (holding.fileset.moves + 1) at) state.slots ≡ Some g →
    IsTakenSoFar holding.fileset at g) →
    MayDo state
    (Part sender.server ship holding.fileset.id (holding.fileset.moves + 1) at (part_of holding at mover))
may_take sender receiver holding come to ship mover s state at h most storable server roster held taken =
    let own = same_id h.fileset.id holding.fileset.id (held_passes (is_of holding.fileset.id) state.slots h held) in
    let stored = storable.each (slot_so (is_of holding.fileset.id) state.slots) h held in
    let fits : FitsAt state sender.server ship holding.fileset.id (holding.fileset.moves + 1) at
    (part_of holding at mover) holding.fileset = record {
      other = λ e. s.receives.other (e ∙ ap (λ (x : ServerId). x.0) server);
      allowed = subst (IsAllowed state) own stored.id;
      named = s.leaves.named;
      well_formed = s.leaves.formed;
      settled = s.leaves.rest;
      whole = s.leaves.tellable;
      writable = s.leaves.writable;
      part = (holding.stay, holding.records, mover, refl);
      taken = taken;
    } in
    record {
      storable = storable;
      is_act = (
        subst (λ r. IsServer r sender.server) (sym roster) s.receives.is_from,
        subst (λ r. IsPart r at (part_of holding at mover)) (sym (roster ∙ s.receives.roster))
            (part_is sender holding to ship mover s.leaves s.mover_is at most),
      );
      fits = (holding.fileset, fits);
    }

-- where nothing is waited for

abbrev pub NotDue : ServerId → ℕ → Holding → Type 0
NotDue from ship come = (at : ℕ) → is_due from ship at come.stay ≡ false

not_awaited : (id : FilesetId) (from : ServerId) (ship moves at : ℕ) (h : Holding) →
    is_due from ship at h.stay ≡ false → awaits id from ship moves at h ≡ false
not_awaited id from ship moves at h e =
    ap (λ b. (is_of id h && b) && (h.fileset.moves == moves)) e ∙ none (is_of id h) (h.fileset.moves == moves)
  where
    none : (a c : Bool) → ((a && false) && c) ≡ false
    none true c = refl
    none false c = refl

none_waits : (sender receiver : StoreState) (holding come : Holding) (ship at : ℕ) →
    Receives sender receiver holding come → is_due sender.server ship at come.stay ≡ false → (g : Holding) →
    held_so (awaits holding.fileset.id sender.server ship (holding.fileset.moves + 1) at) receiver.slots ≡ Some g → ⊥
none_waits sender receiver holding come ship at r n g e =
    let (same, passes) = found_once receiver holding.fileset.id sender.server ship (holding.fileset.moves + 1) at come g
    r.storable r.held e in
    let fails = not_awaited holding.fileset.id sender.server ship (holding.fileset.moves + 1) at come n in
    let wrong : true ≡ false =
    sym passes ∙ ap (awaits holding.fileset.id sender.server ship (holding.fileset.moves + 1) at) same ∙ fails in
    absurd (cc)

nowhere : (sender receiver : StoreState) (holding come : Holding) (ship at : ℕ) →
    Receives sender receiver holding come → is_due sender.server ship at come.stay ≡ false →
    nat_lt (slot_so (awaits holding.fileset.id sender.server ship (holding.fileset.moves + 1) at) receiver.slots)
    (length receiver.slots) ≡ false
nowhere sender receiver holding come ship at r n =
    let test = awaits holding.fileset.id sender.server ship (holding.fileset.moves + 1) at in
    let end = slot_first test receiver.slots ∙ none_first test receiver.slots fails in
    grind (arith, common_steps, end)
  where
    fails : (s : ℕ) (h : Holding) → held_at receiver.slots s ≡ Some h →
        awaits holding.fileset.id sender.server ship (holding.fileset.moves + 1) at h ≡ false
    fails s h e = by (is_of holding.fileset.id h) refl
      where
        by : (b : Bool) → is_of holding.fileset.id h ≡ b →
            awaits holding.fileset.id sender.server ship (holding.fileset.moves + 1) at h ≡ false
        by false k =
            ap (λ b. (b && is_due sender.server ship at h.stay) && (h.fileset.moves == holding.fileset.moves + 1)) k
        by true k =
            let own = same_id h.fileset.id holding.fileset.id k in
            let there : held_so (is_of holding.fileset.id) receiver.slots ≡ Some h =
            ap (λ i. held_so (is_of i) receiver.slots) (sym own) ∙ held_self receiver s h r.storable e in
            let both : Some come ≡ Some h = sym r.held ∙ there in
            let same : come ≡ h = cc in
            not_awaited holding.fileset.id sender.server ship (holding.fileset.moves + 1) at h
            (ap (λ (x : Holding). is_due sender.server ship at x.stay) (sym same) ∙ n)

parts_stay : (sender receiver : StoreState) (holding come : Holding) (to : ServerId) (ship : ℕ) (mover : Mover) →
    Sends sender receiver holding come to ship mover → NotDue sender.server ship come → (at : ℕ) (anodes : List Anode) →
    1 ≤ at → length anodes + at ≤ holding.fileset.objects + 1 →
    MayDoAll receiver (parts_from holding sender.server ship mover at anodes)
    × (state_after receiver (parts_from holding sender.server ship mover at anodes) ≡ receiver)
parts_stay sender receiver holding come to ship mover s n at [] least most = ((λ i act e. absurd (cc)), refl)
parts_stay sender receiver holding come to ship mover s n at (anode ∷ anodes) least most =
    let part = Part sender.server ship holding.fileset.id (holding.fileset.moves + 1) at (part_of holding at mover) in
    let r = s.receives in
    let one = may_take sender receiver holding come to ship mover s receiver at come (omega (arith, most)) r.storable
    refl refl r.held (λ g e. absurd (none_waits sender receiver holding come ship at r (n at) g e)) in
    let step : (act_done receiver part).state ≡ receiver =
    part_stays receiver holding sender.server ship at mover least
    (nowhere sender receiver holding come ship at r (n at)) in
    let rest = parts_stay sender receiver holding come to ship mover s n (at + 1) anodes (omega (arith, least))
    (omega (arith, most)) in
    let others = parts_from holding sender.server ship mover (at + 1) anodes in (
      take_first receiver part others one (subst (λ x. MayDoAll x others) (sym step) rest.0),
      ap (λ x. state_after x others) step ∙ rest.1,
    )

-- where the head came, and the anodes are waited for

-- what came of it so far
abbrev pub so_far : ServerId → ℕ → Holding → ℕ → List Anode → Holding
so_far from ship come at anodes = record come {
  stay = if at == come.fileset.objects + 1 then Writable else Arriving from ship at;
  fileset = record come.fileset { anodes = anodes };
}

-- a store in which just that fileset has changed
pub record Going (receiver state : StoreState) (id : FilesetId) (h : Holding) : Type 0 where
  pub same : state ≡ record receiver { slots = state.slots }
  pub storable : IsStorable state
  pub changes : ChangesOne receiver.slots state.slots id (Some h)

-- what came is of the fileset that is leaving
pub record Comes (sender : StoreState) (holding come : Holding) (ship : ℕ) : Type 0 where
  pub stay : come.stay ≡ Arriving sender.server ship 1
  pub none : come.fileset.anodes ≡ []
  pub moves : come.fileset.moves ≡ holding.fileset.moves + 1
  pub name : come.fileset.name ≡ holding.fileset.name
  pub objects : come.fileset.objects ≡ holding.fileset.objects

number_other : (a b : ℕ) → a ≢ b → (a == b) ≡ false
number_other a b k = elim (eqb_tells a b) as (λ _. (a == b) ≡ false) [ inl (e, same) ↦ absurd (k same) | inr (e, off) ↦ e ]

-- one anode more
one_more : (from : ServerId) (ship : ℕ) (come : Holding) (at : ℕ) (front : List Anode) (anode : Anode) →
    held_with from ship at anode (so_far from ship come at front) ≡ so_far from ship come (at + 1) (front ++ anode ∷ [])
one_more from ship come at front anode =
    ap (λ b. record come {
      stay = if b then Writable else Arriving from ship (at + 1);
      fileset = record come.fileset { anodes = front ++ anode ∷ [] };
    })
    (elim (eqb_tells at come.fileset.objects) as
    (λ _. (at == come.fileset.objects) ≡ (at + 1 == come.fileset.objects + 1)) [
      | inl (e, k) ↦ e ∙ sym (same_key (at + 1)) ∙ ap (λ n. at + 1 == n + 1) k
      | inr (e, k) ↦ e ∙ sym (number_other (at + 1) (come.fileset.objects + 1) (λ z. k (omega (arith, z))))
    ])

take_front : (front rest : List Anode) → take (length front) (front ++ rest) ≡ front
take_front [] rest = refl
take_front (x ∷ front) rest = ap (λ xs. x ∷ xs) (take_front front rest)

-- the part of an anode
part_at : (holding : Holding) (mover : Mover) (front : List Anode) (anode : Anode) (rest : List Anode) (at : ℕ) →
    holding.fileset.anodes ≡ front ++ anode ∷ rest → at ≡ suc (length front) →
    option_map_or (λ object. is_tellable object.content) anode.object true ≡ true →
    part_of holding at mover ≡ object_part at anode.unique anode.object
part_at holding mover front anode rest at e n t =
    let anodes = holding.fileset.anodes in
    let last : at - 1 ≡ length front = omega (arith, n) in
    let there : slice_get anodes (at - 1) ≡ Some anode =
    ap (slice_get anodes) last ∙ ap (λ xs. slice_get xs (length front)) e ∙ get_behind front anode rest in
    let some : (at == 0) ≡ false = number_other at 0 (λ z. absurd (omega (arith, z, n))) in
    let object : object_at anodes at ≡ anode.object =
    ap (λ b. if b then None else option_and_then (λ (a : Anode). a.object) (slice_get anodes (at - 1))) some
    ∙ ap (option_and_then (λ (a : Anode). a.object)) there in
    let unique : unique_at anodes at ≡ anode.unique = ap (λ a. option_map_or (λ (a : Anode). a.unique) a 0) there in
    let told : told_object anodes at ≡ anode.object =
    ap (option_and_then tellable_or_none) object ∙ told_or_none anode.object t in
    part_object holding at mover (omega (arith, n))
    ∙ ap (λ u. object_part at u (told_object anodes at)) unique
    ∙ ap (λ o. object_part at anode.unique o) told

-- one that waits for a part
waits_for : (sender : StoreState) (holding come : Holding) (ship at : ℕ) (front : List Anode) →
    Comes sender holding come ship → is_of holding.fileset.id come ≡ true → at ≢ come.fileset.objects + 1 →
    awaits holding.fileset.id sender.server ship (holding.fileset.moves + 1) at
    (so_far sender.server ship come at front) ≡ true
waits_for sender holding come ship at front c own apart =
    ap (λ b. (b && is_due sender.server ship at
    (if at == come.fileset.objects + 1 then Writable else Arriving sender.server ship at))
    && (come.fileset.moves == holding.fileset.moves + 1)) own
    ∙ ap (λ b. is_due sender.server ship at (if b then Writable else Arriving sender.server ship at)
    && (come.fileset.moves == holding.fileset.moves + 1)) (number_other at (come.fileset.objects + 1) apart)
    ∙ ap (λ b. ((b && (ship == ship)) && (at == at)) && (come.fileset.moves == holding.fileset.moves + 1))
    (same_key sender.server.0)
    ∙ ap (λ b. (b && (at == at)) && (come.fileset.moves == holding.fileset.moves + 1)) (same_key ship)
    ∙ ap (λ b. b && (come.fileset.moves == holding.fileset.moves + 1)) (same_key at)
    ∙ ap (λ n. n == holding.fileset.moves + 1) c.moves ∙ same_key (holding.fileset.moves + 1)

taken_at : (state : StoreState) (id : FilesetId) (from : ServerId) (ship moves at : ℕ) (anode : Anode) (h : Holding) →
    held_so (is_of id) state.slots ≡ Some h → awaits id from ship moves at h ≡ true →
    (anode_outcome state from ship id moves at anode).state
    ≡ with_held state (slot_so (is_of id) state.slots) (held_with from ship at anode)
taken_at state id from ship moves at anode h e waits =
    let place : slot_so (awaits id from ship moves at) state.slots ≡ slot_so (is_of id) state.slots =
    slot_first (awaits id from ship moves at) state.slots
    ∙ first_narrow (is_of id) (awaits id from ship moves at) (awaits_is_of id from ship moves at) state.slots h
    (ap (held_at state.slots) (sym (slot_first (is_of id) state.slots)) ∙ e) waits
    ∙ sym (slot_first (is_of id) state.slots) in
    let low = held_inside state.slots (slot_so (is_of id) state.slots) h e in
    let inside : nat_lt (slot_so (is_of id) state.slots) (length state.slots) ≡ true = grind (arith, common_steps, low) in
    rw place (rw inside refl)

parts_come : (sender receiver : StoreState) (holding come : Holding) (to : ServerId) (ship : ℕ) (mover : Mover) →
    Sends sender receiver holding come to ship mover → Comes sender holding come ship → (front rest : List Anode)
    (at : ℕ) (state : StoreState) → holding.fileset.anodes ≡ front ++ rest → at ≡ suc (length front) →
    length rest + at ≡ holding.fileset.objects + 1 → are_tellable rest ≡ true →
    list_all (λ anode. option_map_or (λ object. is_settled object.content) anode.object true) rest ≡ true →
    Going receiver state holding.fileset.id (so_far sender.server ship come at front) →
    MayDoAll state (parts_from holding sender.server ship mover at rest)
    × Going receiver (state_after state (parts_from holding sender.server ship mover at rest)) holding.fileset.id
    (so_far sender.server ship come (holding.fileset.objects + 1) holding.fileset.anodes)
unfolding act_done
parts_come sender receiver holding come to ship mover s c front [] at state e n count t rest g = (
  (λ i act k. absurd (cc)),
  subst (λ xs. Going receiver state holding.fileset.id
      (so_far sender.server ship come (holding.fileset.objects + 1) xs)) (all_of front ∙ sym e)
      (subst (λ m. Going receiver state holding.fileset.id (so_far sender.server ship come m front)) (omega (arith, count))
      g),
)
  where
    all_of : (xs : List Anode) → xs ≡ xs ++ []
    all_of [] = refl
    all_of (x ∷ xs) = ap (λ ys. x ∷ ys) (all_of xs)
parts_come sender receiver holding come to ship mover s c front (anode ∷ rest) at state e n count t settled g =
    let id = holding.fileset.id in
    let moves = holding.fileset.moves + 1 in
    let h = so_far sender.server ship come at front in
    let objects = c.objects in
    let apart : at ≢ come.fileset.objects + 1 = λ z. absurd (omega (arith, z, objects, count)) in
    let own = held_passes (is_of id) receiver.slots come s.receives.held in
    let waits = waits_for sender holding come ship at front c own apart in
    let part = Part sender.server ship id moves at (part_of holding at mover) in
    let server : state.server ≡ receiver.server = ap (λ (x : StoreState). x.server) g.same in
    let roster : state.roster ≡ receiver.roster = ap (λ (x : StoreState). x.roster) g.same in
    let last : at - 1 ≡ length front = omega (arith, n) in
    let before : front ≡ take (at - 1) holding.fileset.anodes =
    sym (ap (λ m. take m holding.fileset.anodes) last ∙ ap (take (length front)) e ∙ take_front front (anode ∷ rest)) in
    let one = may_take sender receiver holding come to ship mover s state at h (omega (arith, count)) g.storable server
    roster g.changes.here
    (λ k f. (let same = (found_once state id sender.server ship moves at h k g.storable g.changes.here f).0 in
    let taken : IsTakenSoFar holding.fileset at h = record { name = c.name; objects = c.objects; anodes = before } in
    subst (IsTakenSoFar holding.fileset at) (sym same) taken)) in
    let told = object_part at anode.unique anode.object in
    let whole : anode_told told ≡ Some anode = parts_are_whole at anode (and_left _ _ settled) in
    let next = with_held state (slot_so (is_of id) state.slots) (held_with sender.server ship at anode) in
    let step : (part_outcome state sender.server ship id moves at (part_of holding at mover)).state ≡ next =
    ap (λ p. (part_outcome state sender.server ship id moves at p).state)
    (part_at holding mover front anode rest at e n (and_left _ _ t))
    ∙ ap (λ o. o.state) (part_told state id sender.server ship moves at told anode whole)
    ∙ taken_at state id sender.server ship moves at anode h g.changes.here waits in
    let changed = changes_then receiver.slots state.slots next.slots id _ _ g.changes
    (changes_one state.slots id h (held_with sender.server ship at anode) (λ any x. refl) g.changes.here) in
    let going : Going receiver next id (so_far sender.server ship come (at + 1) (front ++ anode ∷ [])) = record {
      same = ap (λ (x : StoreState). record x { slots = next.slots }) g.same;
      storable = subst IsStorable step (acts_keep_storable state part g.storable one.is_act one.fits);
      changes = subst (λ x. ChangesOne receiver.slots next.slots id (Some x))
          (one_more sender.server ship come at front anode) changed;
    } in
    let more = length_more front anode in
    let others = parts_from holding sender.server ship mover (at + 1) rest in
    let ends = parts_come sender receiver holding come to ship mover s c (front ++ anode ∷ []) rest (at + 1) next
    (e ∙ sym (append_assoc front (anode ∷ []) rest)) (omega (arith, n, more)) (omega (arith, count)) (and_right _ _ t)
    (and_right _ _ settled) going in (
      take_first state part others one (subst (λ x. MayDoAll x others) (sym step) ends.0),
      subst (λ x. Going receiver (state_after x others) id
          (so_far sender.server ship come (holding.fileset.objects + 1) holding.fileset.anodes)) (sym step) ends.1,
    )

-- What all parts leave: where none is waited for nothing changes; where the head came, the whole fileset has.
pub record AreTaken (sender receiver : StoreState) (holding come : Holding) (ship : ℕ) (mover : Mover) : Type 0 where
  pub may : MayDoAll receiver (all_parts holding sender.server ship mover)
  pub leaves : ((state_after receiver (all_parts holding sender.server ship mover) ≡ receiver)
      × NotDue sender.server ship come)
      ⊎ (Comes sender holding come ship × Going receiver
      (state_after receiver (all_parts holding sender.server ship mover)) holding.fileset.id
      (so_far sender.server ship come (holding.fileset.objects + 1) holding.fileset.anodes))

head_first : (sender receiver : StoreState) (holding come : Holding) (to : ServerId) (ship : ℕ) (mover : Mover) →
    Sends sender receiver holding come to ship mover → is_due sender.server ship 0 come.stay ≡ false →
    MayDo receiver
    (Part sender.server ship holding.fileset.id (holding.fileset.moves + 1) 0 (part_of holding 0 mover))
head_first sender receiver holding come to ship mover s n =
    let r = s.receives in
    may_take sender receiver holding come to ship mover s receiver 0 come (omega arith) r.storable refl refl r.held
    (λ g e. absurd (none_waits sender receiver holding come ship 0 r n g e))

pub none_taken : (sender receiver : StoreState) (holding come : Holding) (to : ServerId) (ship : ℕ) (mover : Mover) →
    Sends sender receiver holding come to ship mover → NotDue sender.server ship come →
    AreTaken sender receiver holding come ship mover
none_taken sender receiver holding come to ship mover s n =
    let r = s.receives in
    let head = Part sender.server ship holding.fileset.id (holding.fileset.moves + 1) 0 (part_of holding 0 mover) in
    let others = parts_from holding sender.server ship mover 1 holding.fileset.anodes in
    let step : (act_done receiver head).state ≡ receiver =
    head_stays receiver holding sender.server ship mover (is_late receiver holding come r.held r.moves) in
    let count = s.leaves.formed.count in
    let rest = parts_stay sender receiver holding come to ship mover s n 1 holding.fileset.anodes (omega arith)
    (omega (arith, count)) in
    record {
      may = take_first receiver head others (head_first sender receiver holding come to ship mover s (n 0))
          (subst (λ x. MayDoAll x others) (sym step) rest.0);
      leaves = inl (ap (λ x. state_after x others) step ∙ rest.1, n);
    }

pub all_taken : (sender receiver : StoreState) (holding come : Holding) (to : ServerId) (ship : ℕ) (mover : Mover) →
    Sends sender receiver holding come to ship mover → Comes sender holding come ship →
    AreTaken sender receiver holding come ship mover
all_taken sender receiver holding come to ship mover s c =
    let r = s.receives in
    let id = holding.fileset.id in
    let head = Part sender.server ship id (holding.fileset.moves + 1) 0 (part_of holding 0 mover) in
    let others = parts_from holding sender.server ship mover 1 holding.fileset.anodes in
    let step : (act_done receiver head).state ≡ receiver =
    head_stays receiver holding sender.server ship mover (is_late receiver holding come r.held r.moves) in
    let count = s.leaves.formed.count in
    let objects = c.objects in
    let least = s.leaves.least in
    let first_so : so_far sender.server ship come 1 [] ≡ come =
    ap (λ b. record come {
      stay = if b then Writable else Arriving sender.server ship 1;
      fileset = record come.fileset { anodes = [] };
    }) (number_other 1 (come.fileset.objects + 1) (λ z. absurd (omega (arith, z, objects, least))))
    ∙ ap (λ stay. record come { stay = stay; fileset = record come.fileset { anodes = [] } }) (sym c.stay)
    ∙ ap (λ xs. record come { fileset = record come.fileset { anodes = xs } }) (sym c.none) in
    let going : Going receiver receiver id (so_far sender.server ship come 1 []) = record {
      same = refl;
      storable = r.storable;
      changes = record { here = r.held ∙ ap Some (sym first_so); others = λ other apart. refl };
    } in
    let rest = parts_come sender receiver holding come to ship mover s c [] holding.fileset.anodes 1 receiver refl refl
    (omega (arith, count)) s.leaves.tellable s.leaves.rest going in
    let due : is_due sender.server ship 0 come.stay ≡ false =
    ap (is_due sender.server ship 0) c.stay
    ∙ ap (λ b. (b && (ship == ship)) && false) (same_key sender.server.0) ∙ ap (λ b. b && false) (same_key ship) in
    record {
      may = take_first receiver head others (head_first sender receiver holding come to ship mover s due)
          (subst (λ x. MayDoAll x others) (sym step) rest.0);
      leaves = inr (
        c,
        subst (λ x. Going receiver (state_after x others) id
            (so_far sender.server ship come (holding.fileset.objects + 1) holding.fileset.anodes)) (sym step) rest.1,
      );
    }
