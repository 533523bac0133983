-- A fileset that arrives in a store is what the tree's move makes of it.
use Rattle.store_laws.proofs.Founds.{same_number}
use Rattle.std.proofs.Common.{
  ◌≡◌,
  ◌≢◌,
  ◌≤◌,
  ◌<◌,
  nat_lt,
  nat_le,
  ℕ,
  zero,
  suc,
  ◌+◌,
  ◌-◌,
  ◌==◌,
  Bool,
  true,
  false,
  ◌&&◌,
  if◌then◌else◌,
  List,
  [],
  ◌∷◌,
  ◌++◌,
  length,
  map,
  set,
  Option,
  Some,
  None,
  Result,
  Ok,
  Err,
  inl,
  inr,
  refl,
  sym,
  ap,
  ◌∙◌,
  subst,
  append_assoc,
  arith,
}
use Rattle.std.specs.Prelude.{slice_get}
use Rattle.std.specs.List.{list_all}
use Rattle.std.specs.Option.{option_map, option_map_or, option_and_then}
use Rattle.std.proofs.lemmas.Bool.Decides.{eqb_tells, leb_tells}
use Rattle.std.proofs.lemmas.Grind.{common_steps}
use Rattle.base_types.specs.Lists.{changed_at}
use Rattle.base_types.specs.declared.ids.FilesetId.{FilesetId}
use Rattle.base_types.specs.declared.ids.ServerId.{ServerId}
use Rattle.tree_calls.specs.declared.ship.Mover.{Mover}
use Rattle.tree_calls.specs.declared.ship.Record.{Record}
use Rattle.tree_calls.specs.declared.ship.ShipPart.{ShipPart}
use Rattle.tree_calls.specs.declared.ship.ShipPart.TheVariants.{Head, Object as ObjectPart}
use Rattle.tree_calls.specs.declared.reply.Refusal.{Refusal}
use Rattle.tree_calls.specs.declared.reply.Refusal.TheVariants.{Exists, TooMany, NoRoom}
use Rattle.tree_calls.specs.declared.reply.Reply.TheVariants.{Ok as Accepted}
use Rattle.tree_objects.specs.declared.content.Anode.{Anode}
use Rattle.tree_objects.specs.declared.content.Content.{Content}
use Rattle.tree_objects.specs.declared.content.Content.TheVariants.{Dir, File}
use Rattle.tree_objects.specs.declared.content.Object.{Object}
use Rattle.tree_objects.specs.Changes.{content_as_cloned}
use Rattle.tree_objects.specs.Files.{resized, bytes_over}
use Rattle.tree_objects.specs.Objects.{object_as_cloned}
use Rattle.tree_objects.proofs.Observed.{and_left, and_right}
use Rattle.tree_objects.proofs.Overlays.{resized_zero, resized_more, over_nothing}
use Rattle.tree_filesets.specs.declared.fileset.Fileset.{Fileset}
use Rattle.tree_filesets.specs.Founding.{moved, anode_as_cloned}
use Rattle.tree_filesets.specs.Checks.{unless}
use Rattle.tree_filesets.specs.Walk.{object_at, unique_at}
use Rattle.tree_filesets.specs.WellFormed.{is_settled, is_at_rest}
use Rattle.store_state.specs.declared.state.Holding.{Holding}
use Rattle.store_state.specs.declared.state.Stay.TheVariants.{Writable, Arriving}
use Rattle.store_acts.specs.Moving.{
  held_with,
  arriving,
  held_arriving,
  received,
  taken_from,
  with_taken,
  arrival,
  arrival_slot,
  anode_outcome,
  head_outcome,
  part_outcome,
}
use Rattle.store_acts.specs.Acts.{act_done, state_after}
use Rattle.store_acts.specs.Laws.{anode_told}
use Rattle.store_acts.specs.Parts.{is_tellable, tellable_or_none, told_object, object_part, part_of}
use Rattle.store_acts.specs.declared.act.Act.TheVariants.{Part}
use Rattle.store_acts.proofs.Told.{parts_are_whole}
use Rattle.store_state.specs.Outcomes.{change_decided}
use Rattle.store_state.specs.Sought.{awaits}
use Rattle.store_state.specs.State.{is_of, is_used_so, slot_so, held_at, held_so, with_held}
use Rattle.store_state.proofs.Slots.{
  first,
  slot_first,
  held_inside,
  held_set,
  held_changed,
  first_set,
  first_changed,
  first_narrow,
}
use Rattle.store_state.specs.Founding.{free_slot}
use Rattle.store_state.specs.declared.state.StoreState.{StoreState}
use Rattle.store_laws.specs.Moves.{MayLeave, are_tellable, parts_from, all_parts, MayArrive, ArrivesAsMoved}

-- a holding that takes anodes, one part after the other, of which the first has this number
abbrev held_after : ServerId → ℕ → ℕ → List Anode → Holding → Holding
held_after from ship at [] holding = holding
held_after from ship at (anode ∷ anodes) holding =
    held_after from ship (at + 1) anodes (held_with from ship at anode holding)

-- what a head leaves at a server of a fileset that comes to it
abbrev held_first : Fileset → ServerId → ServerId → ℕ → List Record → Mover → Holding
held_first fileset to from ship records mover =
    held_arriving (Arriving from ship 1) (arriving to fileset.id fileset.name fileset.objects (fileset.moves + 1))
    records mover

-- what has nothing unsaved stays as it is

resized_self : (bytes : List ℕ) → resized bytes (length bytes) ≡ bytes
resized_self [] = resized_zero []
resized_self (byte ∷ bytes) = resized_more byte bytes (length bytes) ∙ ap (λ xs. byte ∷ xs) (resized_self bytes)

over_self : (bytes : List ℕ) → bytes_over bytes [] 0 (length bytes) ≡ bytes
over_self bytes = sym (over_nothing bytes 0 (length bytes)) ∙ resized_self bytes

content_same : (content : Content) → is_settled content ≡ true → content_as_cloned content ≡ content
content_same (Dir entries lists) h = refl
content_same (File list kept [] None) h = ap (λ bytes. File list bytes [] None) (over_self kept)
content_same (File list kept [] (Some len)) h = absurd (cc)
content_same (File list kept (byte ∷ unsaved) len) h = absurd (cc)

object_same : (object : Option Object) → option_map_or (λ object. is_settled object.content) object true ≡ true →
    option_map object_as_cloned object ≡ object
object_same None h = refl
object_same (Some object) h = ap (λ content. Some (record object { content = content })) (content_same object.content h)

anodes_same : (anodes : List Anode) →
    list_all (λ anode. option_map_or (λ object. is_settled object.content) anode.object true) anodes ≡ true →
    map anode_as_cloned anodes ≡ anodes
anodes_same [] h = refl
anodes_same (anode ∷ anodes) h =
    ap (λ object. record anode { object = object } ∷ map anode_as_cloned anodes)
    (object_same anode.object (and_left _ _ h))
    ∙ ap (λ rest. anode ∷ rest) (anodes_same anodes (and_right _ _ h))

-- the last anode makes it writable
last : (from : ServerId) (ship at : ℕ) (anode : Anode) (holding : Holding) → at ≡ holding.fileset.objects →
    held_with from ship at anode holding ≡ record holding
    { stay = Writable; fileset = record holding.fileset { anodes = holding.fileset.anodes ++ anode ∷ [] } }
last from ship at anode holding e =
    elim (eqb_tells at holding.fileset.objects) as (λ _. held_with from ship at anode holding
    ≡ record holding {
      stay = Writable;
      fileset = record holding.fileset
          { anodes = holding.fileset.anodes ++ anode ∷ [] };
    }) [
      | inl (t, k) ↦ rw t refl
      | inr (t, k) ↦ absurd (k e)
    ]

after_all : (from : ServerId) (ship at : ℕ) (first : Anode) (anodes : List Anode) (holding : Holding) →
    length anodes + at ≡ holding.fileset.objects →
    held_after from ship at (first ∷ anodes) holding
    ≡ record holding {
      stay = Writable;
      fileset = record holding.fileset { anodes = holding.fileset.anodes ++ first ∷ anodes };
    }
after_all from ship at first [] holding e = last from ship at first holding (omega (arith, e))
after_all from ship at first (second ∷ anodes) holding e =
    after_all from ship (at + 1) second anodes (held_with from ship at first holding) (omega (arith, e))
    ∙ ap (λ xs. record holding { stay = Writable; fileset = record holding.fileset { anodes = xs } })
    (append_assoc holding.fileset.anodes (first ∷ []) (second ∷ anodes))

arrived : (fileset : Fileset) (to from : ServerId) (ship : ℕ) (records : List Record) (mover : Mover) →
    MayLeave fileset → (anodes : List Anode) → anodes ≡ fileset.anodes →
    held_after from ship 1 anodes (held_first fileset to from ship records mover)
    ≡ record (held_first fileset to from ship records mover) {
      stay = Writable;
      fileset = record (held_first fileset to from ship records mover).fileset { anodes = anodes };
    }
arrived fileset to from ship records mover m [] e =
    let c = m.count in let l = m.least in let k = ap length e in absurd (omega (arith, c, l, k))
arrived fileset to from ship records mover m (first ∷ anodes) e =
    let c = m.count in let k = ap length e in
    after_all from ship 1 first anodes (held_first fileset to from ship records mover) (omega (arith, c, k))

-- what arrived is what the tree's move makes of it
arrives_as : (fileset : Fileset) (to from : ServerId) (ship : ℕ) (records : List Record) (mover : Mover) →
    MayLeave fileset → held_after from ship 1 fileset.anodes (held_first fileset to from ship records mover)
    ≡ record (held_first fileset to from ship records mover) { stay = Writable; fileset = moved fileset to }
unfolding moved
arrives_as fileset to from ship records mover m =
    arrived fileset to from ship records mover m fileset.anodes refl
    ∙ ap (λ f. record (held_first fileset to from ship records mover) { stay = Writable; fileset = f }) (
    ap (λ b. record fileset { server = to; moves = fileset.moves + 1; read_only = b }) (sym m.writable)
    ∙ ap (λ xs. record fileset { server = to; moves = fileset.moves + 1; anodes = xs })
    (sym (anodes_same fileset.anodes m.settled)))

-- a holding that waits for the next part
pub record Waits (id : FilesetId) (from : ServerId) (ship moves at objects : ℕ) (holding : Holding) : Type 0 where
  pub stay : holding.stay ≡ Arriving from ship at
  pub mine : holding.fileset.id ≡ id
  pub many : holding.fileset.moves ≡ moves
  pub limit : holding.fileset.objects ≡ objects

waits_for : (id : FilesetId) (from : ServerId) (ship moves at objects : ℕ) (holding : Holding) →
    Waits id from ship moves at objects holding → awaits id from ship moves at holding ≡ true
waits_for id from ship moves at objects holding w =
    let stay = w.stay in let mine = w.mine in let many = w.many in
    let a = same_number id.0 in let b = same_number from.0 in let c = same_number ship in let d = same_number at in
    let e = same_number moves in
    rw stay (rw mine (rw many (rw a (rw b (rw c (rw d (rw e refl)))))))

pub awaits_is_of : (id : FilesetId) (from : ServerId) (ship moves at : ℕ) (holding : Holding) →
    awaits id from ship moves at holding ≡ true → is_of id holding ≡ true
awaits_is_of id from ship moves at holding e = and_left _ _ (and_left _ _ e)

-- the first slot of a fileset holds this
pub record HeldFirst (state : StoreState) (id : FilesetId) (slot : ℕ) (holding : Holding) : Type 0 where
  pub place : first (is_of id) state.slots ≡ slot
  pub held : held_at state.slots slot ≡ Some holding

pub less : (a b : ℕ) → a < b → nat_lt a b ≡ true
less a b h = grind (arith, common_steps, h)

-- an anode that is waited for is taken
taken_at : (state : StoreState) (id : FilesetId) (from : ServerId) (ship moves at objects slot : ℕ) (anode : Anode)
    (holding : Holding) → HeldFirst state id slot holding → Waits id from ship moves at objects holding →
    (anode_outcome state from ship id moves at anode).state ≡ with_held state slot (held_with from ship at anode)
taken_at state id from ship moves at objects slot anode holding f w =
    let waits = waits_for id from ship moves at objects holding w in
    let there : held_at state.slots (first (is_of id) state.slots) ≡ Some holding =
    ap (held_at state.slots) f.place ∙ f.held in
    let place : slot_so (awaits id from ship moves at) state.slots ≡ slot =
    slot_first (awaits id from ship moves at) state.slots
    ∙ first_narrow (is_of id) (awaits id from ship moves at) (awaits_is_of id from ship moves at) state.slots holding
    there waits
    ∙ f.place in
    let inside = less slot (length state.slots) (held_inside state.slots slot holding f.held) in
    rw place (rw inside refl)

-- a part that tells of an anode
pub part_told : (state : StoreState) (id : FilesetId) (from : ServerId) (ship moves at : ℕ) (part : ShipPart)
    (anode : Anode) → anode_told part ≡ Some anode →
    part_outcome state from ship id moves at part ≡ anode_outcome state from ship id moves at anode
unfolding part_outcome
part_told state id from ship moves at (Head name objects records mover) anode e = absurd (cc)
part_told state id from ship moves at (ObjectPart number unique status pieces entries) anode e =
    ap (λ a. anode_outcome state from ship id moves at a) (cc)

-- what a part of a fileset tells
pub get_behind : (front : List Anode) (anode : Anode) (rest : List Anode) →
    slice_get (front ++ anode ∷ rest) (length front) ≡ Some anode
get_behind [] anode rest = refl
get_behind (other ∷ front) anode rest = get_behind front anode rest

pub told_or_none : (object : Option Object) → option_map_or (λ object. is_tellable object.content) object true ≡ true →
    option_and_then tellable_or_none object ≡ object
told_or_none None t = refl
told_or_none (Some object) t = rw t refl

pub part_at : (holding : Holding) (mover : Mover) (front : List Anode) (anode : Anode) (rest : List Anode) (at : ℕ) →
    holding.fileset.anodes ≡ front ++ anode ∷ rest → at ≡ suc (length front) →
    option_map_or (λ object. is_tellable object.content) anode.object true ≡ true →
    part_of holding at mover ≡ object_part at anode.unique anode.object
part_at holding mover front anode rest at e n t =
    let anodes = holding.fileset.anodes in
    let last : at - 1 ≡ length front = omega (arith, n) in
    let there : slice_get anodes (at - 1) ≡ Some anode =
    ap (slice_get anodes) last ∙ ap (λ xs. slice_get xs (length front)) e ∙ get_behind front anode rest in
    let some : (at == 0) ≡ false = elim (eqb_tells at 0) as (λ _. (at == 0) ≡ false) [
      | inl (z, k) ↦ absurd (omega (arith, k, n))
      | inr (z, k) ↦ z
    ] in
    let object : object_at anodes at ≡ anode.object =
    ap (λ b. if b then None else option_and_then (λ a. a.object) (slice_get anodes (at - 1))) some
    ∙ ap (option_and_then (λ a. a.object)) there in
    let unique : unique_at anodes at ≡ anode.unique = ap (λ a. option_map_or (λ a. a.unique) a 0) there in
    let told : told_object anodes at ≡ anode.object =
    ap (option_and_then tellable_or_none) object ∙ told_or_none anode.object t in
    ap (λ b. if b then Head holding.fileset.name holding.fileset.objects holding.records mover
    else object_part at (unique_at anodes at) (told_object anodes at)) some
    ∙ ap (λ u. object_part at u (told_object anodes at)) unique
    ∙ ap (λ o. object_part at anode.unique o) told

-- whether some anode is left
abbrev pub IsMore : List Anode → Type 0
IsMore [] = ⊥
IsMore (anode ∷ anodes) = Unit {0}

-- one that is left is waited for next
pub waits_next : (id : FilesetId) (from : ServerId) (ship moves at objects : ℕ) (anode : Anode) (holding : Holding)
    (rest : List Anode) → Waits id from ship moves at objects holding → length rest + (at + 1) ≡ objects + 1 →
    IsMore rest → Waits id from ship moves (at + 1) objects (held_with from ship at anode holding)
waits_next id from ship moves at objects anode holding [] w c m = absurd m
waits_next id from ship moves at objects anode holding (other ∷ rest) w c m =
    let limit = w.limit in
    record {
      stay = elim (eqb_tells at holding.fileset.objects) as
          (λ _. (held_with from ship at anode holding).stay ≡ Arriving from ship (at + 1)) [
            | inl (e, k) ↦ absurd (omega (arith, k, limit, c))
            | inr (e, k) ↦ rw e refl
          ];
      mine = w.mine;
      many = w.many;
      limit = w.limit;
    }

pub length_more : (front : List Anode) (anode : Anode) → length (front ++ anode ∷ []) ≡ length front + 1
length_more [] anode = refl
length_more (other ∷ front) anode = let h = length_more front anode in omega (arith, h)

-- each anode is taken, one after the other
parts_taken : (holding : Holding) (from : ServerId) (ship : ℕ) (mover : Mover) (front rest : List Anode) (at : ℕ)
    (state : StoreState) (slot : ℕ) (so_far : Holding) → length rest + at ≡ holding.fileset.objects + 1 →
    holding.fileset.anodes ≡ front ++ rest → at ≡ suc (length front) → are_tellable rest ≡ true →
    list_all (λ anode. option_map_or (λ object. is_settled object.content) anode.object true) rest ≡ true →
    HeldFirst state holding.fileset.id slot so_far →
    (IsMore rest →
    Waits holding.fileset.id from ship (holding.fileset.moves + 1) at holding.fileset.objects so_far) →
    HeldFirst (state_after state (parts_from holding from ship mover at rest)) holding.fileset.id slot
    (held_after from ship at rest so_far)
unfolding act_done
parts_taken holding from ship mover front [] at state slot so_far c e n t s f w = f
parts_taken holding from ship mover front (anode ∷ rest) at state slot so_far c e n t s f w =
    let id = holding.fileset.id in
    let moves = holding.fileset.moves + 1 in
    let waits = w tt in
    let part = object_part at anode.unique anode.object in
    let whole : anode_told part ≡ Some anode = parts_are_whole at anode (and_left _ _ s) in
    let taken = with_held state slot (held_with from ship at anode) in
    let step : (part_outcome state from ship id moves at (part_of holding at mover)).state ≡ taken =
    ap (λ p. (part_outcome state from ship id moves at p).state)
    (part_at holding mover front anode rest at e n (and_left _ _ t))
    ∙ ap (λ o. o.state) (part_told state id from ship moves at part anode whole)
    ∙ taken_at state id from ship moves at holding.fileset.objects slot anode so_far f waits in
    let next : HeldFirst taken id slot (held_with from ship at anode so_far) = record {
      place = first_changed (is_of id) (held_with from ship at anode) (λ h. refl) state.slots slot ∙ f.place;
      held =
          held_changed state.slots slot (held_with from ship at anode)
          ∙ ap (option_map (held_with from ship at anode)) f.held;
    } in
    let more = length_more front anode in
    let count : length rest + (at + 1) ≡ holding.fileset.objects + 1 = omega (arith, c) in
    let P : StoreState → Type 0 = λ x. HeldFirst (state_after x (parts_from holding from ship mover (at + 1) rest)) id slot
    (held_after from ship (at + 1) rest (held_with from ship at anode so_far)) in
    subst P (sym step)
    (parts_taken holding from ship mover (front ++ anode ∷ []) rest (at + 1) taken slot
    (held_with from ship at anode so_far) count (e ∙ sym (append_assoc front (anode ∷ []) rest)) (omega (arith, n, more))
    (and_right _ _ t) (and_right _ _ s) next
    (waits_next id from ship moves at holding.fileset.objects anode so_far rest waits count))

-- the slot of a fileset that may arrive
slot_ok : (taken full much : Bool) (at slot : ℕ) →
    unless taken Exists (unless full TooMany (unless much NoRoom (Ok at))) ≡ Ok slot → (full ≡ false) × (at ≡ slot)
slot_ok true full much at slot e = absurd (cc)
slot_ok false true much at slot e = absurd (cc)
slot_ok false false true at slot e = absurd (cc)
slot_ok false false false at slot e = (refl, cc)

pub before_own : (own free len slot : ℕ) → (if nat_lt own len then own else free) ≡ slot → slot < len → slot ≤ own
before_own own free len slot e l = by (nat_lt own len) refl e
  where
    by : (b : Bool) → nat_lt own len ≡ b → (if b then own else free) ≡ slot → slot ≤ own
    by true k e = omega (arith, e)
    by false k e = let past : len ≤ own = grind (arith, common_steps, k) in omega (arith, past, l)

head_taken : (holding : Holding) (state : StoreState) (from : ServerId) (ship slot : ℕ) (mover : Mover) →
    MayArrive state holding.fileset from ship slot →
    (act_done state (Part from ship holding.fileset.id (holding.fileset.moves + 1) 0 (part_of holding 0 mover))).state
    ≡ record (with_taken state from ship Accepted) {
      slots = set state.slots slot (Some (held_first holding.fileset state.server from ship holding.records mover));
    }
unfolding act_done part_outcome head_outcome
head_taken holding state from ship slot mover a =
    let late = a.late in let taken = a.taken in let may = a.room in rw late (rw taken (rw may refl))

arrives : (holding : Holding) (state : StoreState) (from : ServerId) (ship slot : ℕ) (mover : Mover) →
    MayLeave holding.fileset → are_tellable holding.fileset.anodes ≡ true →
    MayArrive state holding.fileset from ship slot →
    held_so (is_of holding.fileset.id) (state_after state (all_parts holding from ship mover)).slots
    ≡ Some (record {
      stay = Writable;
      fileset = moved holding.fileset state.server;
      records = changed_at (map received holding.records) mover.host.0 (change_decided mover.number Accepted);
    })
arrives holding state from ship slot mover m t a =
    let fileset = holding.fileset in
    let id = fileset.id in
    let start = held_first fileset state.server from ship holding.records mover in
    let headed = record (with_taken state from ship Accepted) { slots = set state.slots slot (Some start) } in
    let (room, mine) = slot_ok _ _ _ (arrival_slot state id) slot a.room in
    let inside : slot < length state.slots = grind (arith, common_steps, room, mine) in
    let own = slot_first (is_of id) state.slots in
    let before : slot ≤ first (is_of id) state.slots = (
    let b = before_own (slot_so (is_of id) state.slots) (free_slot state.slots) (length state.slots) slot mine inside in
    omega (arith, b, own)) in
    let begin : HeldFirst headed id slot start = record {
      place = first_set (is_of id) state.slots slot start before inside (same_number id.0);
      held = held_set state.slots slot start inside;
    } in
    let count = m.count in
    let ends = parts_taken holding from ship mover [] fileset.anodes 1 headed slot start (omega (arith, count)) refl refl t
    m.settled begin (λ more. record { stay = refl; mine = refl; many = refl; limit = refl }) in
    let final = state_after headed (parts_from holding from ship mover 1 fileset.anodes) in
    ap (λ x. held_so (is_of id) (state_after x (parts_from holding from ship mover 1 fileset.anodes)).slots)
    (head_taken holding state from ship slot mover a)
    ∙ ap (held_at final.slots) (slot_first (is_of id) final.slots ∙ ends.place)
    ∙ ends.held
    ∙ ap (λ h. Some h) (arrives_as fileset state.server from ship holding.records mover m)

pub arrives_as_moved : ArrivesAsMoved
arrives_as_moved = record { arrives = arrives }
