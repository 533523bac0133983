-- What is known of the slots of stores, and of the filesets that are in them.
use Rattle.std.proofs.Common.{◌≡◌, ℕ, ◌+◌, ◌-◌, ◌==◌, Bool, true, false, ◌&&◌, List, [], Some, refl, sym, ap, ◌∙◌, subst, arith, rules}
use Rattle.std.specs.Prelude.{slice_get}
use Rattle.std.specs.List.{find}
use Rattle.std.specs.Option.{option_map, option_map_or}
use Rattle.std.proofs.lemmas.Grind.{common_steps}
use Rattle.base_types.specs.Name.{same_name}
use Rattle.base_types.specs.declared.ids.FilesetId.{FilesetId}
use Rattle.base_types.specs.declared.ids.ServerId.{ServerId}
use Rattle.tree_filesets.proofs.Names.{names_equal}
use Rattle.tree_filesets.specs.Promises.{promise}
use Rattle.tree_filesets.specs.WellFormed.{is_at_rest, IsWellFormed}
use Rattle.tree_filesets.specs.declared.fileset.Fileset.{Fileset}
use Rattle.store_memory.specs.Reading.{is_kept, filesets_kept, slots_from, kept_of}
use Rattle.store_memory.specs.declared.told.Slot.{Slot}
use Rattle.tree_answers.proofs.Places.{equal_is}
use Rattle.tree_answers.specs.Finding.{has_id}
use Rattle.store_records.specs.Stored.{IsStorable, IsStored, StaysRight}
use Rattle.store_state.specs.State.{held_at}
use Rattle.store_state.specs.declared.state.Holding.{Holding}
use Rattle.store_state.specs.declared.state.Stay.{Stay}
use Rattle.store_state.specs.declared.state.Stay.TheVariants.{Writable, Clone, Leaving, Arriving, Gone}
use Rattle.store_state.specs.declared.state.StoreState.{StoreState}
use Rattle.service_starts.proofs.Standing.{In, any_in, of_all_slots, in_slots_of}
use Rattle.service_starts.proofs.Tests.{and_left, and_right}
use Rattle.service_starts.specs.Fitting.{is_matched, is_sender, is_shipped, is_clone}
use Rattle.service_starts.specs.Starting.{kept_by, keeper_of, fileset_of}
use Rattle.service_starts.specs.Told.{Placed, placed, told_of, slots_of, is_same}
use Rattle.service_starts.specs.declared.told.Told.{Told}
use Rattle.service_starts.proofs.Slots.{Tells, slot_held, kept_found}
use Rattle.service_starts.specs.Starts.{AreTold}

-- what is known of a slot
pub record IsHeld (all : List Told) (at : Placed) (state : StoreState) (holding : Holding) : Type 0 where
  pub storable : IsStorable state
  pub own : state.server.0 ≡ at.server.0
  pub told : (place : ℕ) × (told : Told) × (slice_get all place ≡ Some told) × (at.server.0 ≡ 1 + place) × (told.kept ≡ kept_of state) × (told.slots ≡ slots_from 0 state.slots)
  pub held : (place : ℕ) × (held_at state.slots place ≡ Some holding)
  pub stored : IsStored state holding
  pub tells : Tells at.slot holding

pub held_of : (all : List Told) → AreTold all → (at : Placed) → In at (placed all) → (state : StoreState) × (holding : Holding) × IsHeld all at state holding
held_of all h at k =
    let w = of_all_slots 1 all at k in
    let place = w.0 in
    let told = w.1 in
    let t = h place told w.2 in
    let state = t.0 in
    let of_it = t.1 in
    let inside : In at.slot (slots_from 0 state.slots) = subst (λ those. In at.slot those) of_it.slots w.4 in
    let s = slot_held 0 state.slots at.slot inside in
    let here = w.3 in
    let own = of_it.own in (
      state,
      s.1,
      record {
        storable = of_it.storable;
        own = omega arith;
        told = (place, told, w.2, w.3, of_it.kept, of_it.slots);
        held = (s.0, s.2);
        stored = of_it.storable.each s.0 s.1 s.2;
        tells = s.3;
      },
    )

-- what its server keeps
pub kept_by_it : (all : List Told) (server : ServerId) (place : ℕ) (told : Told) → slice_get all place ≡ Some told → server.0 ≡ 1 + place → kept_by all server ≡ told.kept.filesets
kept_by_it all server place told e n =
    let some : (server.0 == 0) ≡ false = grind (arith, common_steps, n) in
    let here : server.0 - 1 ≡ place = omega (arith, n) in
    let found : told_of all server ≡ Some told = rw (some, here) e in
    ap (λ o. option_map_or (λ t. t.kept.filesets) o []) found

pub found_kept : (all : List Told) (at : Placed) (state : StoreState) (holding : Holding) → IsHeld all at state holding → is_kept holding.stay ≡ true
    → find (has_id at.slot.fileset) (kept_by all at.server) ≡ Some holding.fileset
found_kept all at state holding h k =
    let t = h.told in
    let kept : kept_by all at.server ≡ filesets_kept state.slots = kept_by_it all at.server t.0 t.1 t.2 t.3 ∙ ap (λ one. one.filesets) t.4 in
    let its : at.slot.fileset ≡ holding.fileset.id = ap (λ one. one.fileset) h.tells.1 in
    ap (λ id. find (has_id id) (kept_by all at.server)) its ∙ ap (find (has_id holding.fileset.id)) kept
    ∙ kept_found state.slots h.held.0 holding h.storable.apart h.held.1 k

-- the fileset that is in a slot
pub record IsIn (at : Placed) (holding : Holding) (fileset : Fileset) : Type 0 where
  pub server : fileset.server ≡ at.server
  pub id : fileset.id ≡ at.slot.fileset
  pub name : fileset.name ≡ at.slot.name
  pub objects : fileset.objects ≡ at.slot.objects
  pub formed : IsWellFormed fileset
  pub rest : is_at_rest fileset ≡ true
  pub writable : is_clone at.slot.stay ≡ false → fileset.read_only ≡ false
  pub promise : promise fileset ≡ promise holding.fileset

-- a fileset elsewhere, and after other moves, is as well formed
pub formed_at : (fileset : Fileset) (server : ServerId) (moves : ℕ) → IsWellFormed fileset → IsWellFormed (record fileset { server = server; moves = moves })
formed_at fileset server moves w = record {
  count = w.count;
  limit = w.limit;
  first = w.first;
  root = w.root;
  sound = w.sound;
  named = w.named;
  once = w.once;
  rootless = w.rootless;
  reached = w.reached;
}

-- what is kept is well formed, and is writable where it is no clone
pub kept_formed : (state : StoreState) (fileset : Fileset) (stay : Stay) → StaysRight state fileset stay → is_kept stay ≡ true → IsWellFormed fileset × (is_clone stay ≡ false → fileset.read_only ≡ false)
kept_formed state fileset Writable w k = (w.0, λ e. w.1)
kept_formed state fileset Clone w k = (w.0, λ e. absurd (search (rules, e)))
kept_formed state fileset (Leaving to ship) w k = (w.0, λ e. w.1)
kept_formed state fileset (Arriving from ship parts) w k = absurd (search (rules, k))
kept_formed state fileset (Gone to) w k = absurd (search (rules, k))

-- what a kept fileset is at another place
pub moved_here : (all : List Told) (at : Placed) (state : StoreState) (holding own : Holding) (from : Placed) → IsHeld all from state holding → is_kept holding.stay ≡ true
    → from.slot.fileset ≡ at.slot.fileset → from.slot.name ≡ at.slot.name → from.slot.objects ≡ at.slot.objects → promise holding.fileset ≡ promise own.fileset
    → (is_clone at.slot.stay ≡ false → is_clone holding.stay ≡ false)
    → IsIn at own (record holding.fileset { server = at.server; moves = at.slot.moves })
moved_here all at state holding own from h k id name objects same writable =
    let tells = h.tells.1 in
    let formed = kept_formed state holding.fileset holding.stay h.stored.stay k in
    record {
      server = refl;
      id = sym (ap (λ one. one.fileset) tells) ∙ id;
      name = sym (ap (λ one. one.name) tells) ∙ name;
      objects = sym (ap (λ one. one.objects) tells) ∙ objects;
      formed = formed_at holding.fileset at.server at.slot.moves formed.0;
      rest = h.stored.rest;
      writable = λ e. formed.1 (writable e);
      promise = same;
    }

-- the fileset of a slot
abbrev pub HasOne : List Told → Placed → Holding → Type 0
HasOne all at holding = (fileset : Fileset) × (fileset_of all at ≡ Some fileset) × IsIn at holding fileset

-- of one that is kept there
pub one_kept : (all : List Told) (at : Placed) (state : StoreState) (holding : Holding) → IsHeld all at state holding → is_kept holding.stay ≡ true → keeper_of at.server at.slot.stay ≡ at.server → HasOne all at holding
one_kept all at state holding h k its =
    let found : find (has_id at.slot.fileset) (kept_by all (keeper_of at.server at.slot.stay)) ≡ Some holding.fileset = ap (λ server. find (has_id at.slot.fileset) (kept_by all server)) its ∙ found_kept all at state holding h k in
    let stay : at.slot.stay ≡ holding.stay = ap (λ one. one.stay) h.tells.1 in (
      record holding.fileset { server = at.server; moves = at.slot.moves },
      ap (option_map {T = Fileset} {U = Fileset} (λ fileset. record fileset { server = at.server; moves = at.slot.moves })) found,
      moved_here all at state holding holding at h k refl refl refl refl (λ e. ap is_clone (sym stay) ∙ e),
    )

-- where one that arrives comes from
pub record IsSent (server : ServerId) (ship : ℕ) (slot other : Slot) : Type 0 where
  pub id : other.fileset ≡ slot.fileset
  pub stay : is_shipped server ship other.stay ≡ true
  pub name : other.name ≡ slot.name
  pub objects : other.objects ≡ slot.objects

pub sent_so : (server : ServerId) (ship : ℕ) (slot other : Slot) → is_sender server ship slot other ≡ true → IsSent server ship slot other
sent_so server ship slot other h =
    let a : Bool = is_same slot other in
    let b : Bool = is_shipped server ship other.stay in
    let c : Bool = other.moves + 1 == slot.moves in
    let d : Bool = same_name other.name slot.name in
    let e : Bool = other.objects == slot.objects in
    record {
      id = ap (λ n. let id : FilesetId = record { 0 = n } in id) (equal_is other.fileset.0 slot.fileset.0 (and_left a b (and_left (a && b) c (and_left (a && b && c) d (and_left (a && b && c && d) e h)))));
      stay = and_right a b (and_left (a && b) c (and_left (a && b && c) d (and_left (a && b && c && d) e h)));
      name = names_equal other.name slot.name (and_right (a && b && c) d (and_left (a && b && c && d) e h));
      objects = equal_is other.objects slot.objects (and_right (a && b && c && d) e h);
    }

shipped_kept : (server : ServerId) (ship : ℕ) (stay : Stay) → is_shipped server ship stay ≡ true → (is_kept stay ≡ true) × (is_clone stay ≡ false)
shipped_kept server ship Writable h = absurd (search (rules, h))
shipped_kept server ship Clone h = absurd (search (rules, h))
shipped_kept server ship (Leaving to sent) h = (refl, refl)
shipped_kept server ship (Arriving from taken parts) h = absurd (search (rules, h))
shipped_kept server ship (Gone to) h = absurd (search (rules, h))

-- of one that arrives
arriving_writable : (state : StoreState) (fileset : Fileset) (stay : Stay) (from : ServerId) (ship parts : ℕ) → stay ≡ Arriving from ship parts → StaysRight state fileset stay → fileset.read_only ≡ false
arriving_writable state fileset stay from ship parts e w = let v : StaysRight state fileset (Arriving from ship parts) = subst (StaysRight state fileset) e w in v.1

pub one_arriving : (all : List Told) → AreTold all → (at : Placed) (state : StoreState) (holding : Holding) (from : ServerId) (ship parts : ℕ) → IsHeld all at state holding → at.slot.stay ≡ Arriving from ship parts
    → is_matched all at.server at.slot (Arriving from ship parts) ≡ true → HasOne all at holding
one_arriving all t at state holding from ship parts h e m =
    let w = any_in (is_sender at.server ship at.slot) (slots_of all from) m in
    let other = w.0 in
    let sent = sent_so at.server ship at.slot other w.2 in
    let there : Placed = record { server = from; slot = other } in
    let v = held_of all t there (in_slots_of all from other w.1) in
    let its = v.2 in
    let stay : other.stay ≡ v.1.stay = ap (λ one. one.stay) its.tells.1 in
    let kept = shipped_kept at.server ship v.1.stay (ap (is_shipped at.server ship) (sym stay) ∙ sent.stay) in
    let found : find (has_id at.slot.fileset) (kept_by all (keeper_of at.server at.slot.stay)) ≡ Some v.1.fileset =
    ap (λ one. find (has_id at.slot.fileset) (kept_by all (keeper_of at.server one))) e
    ∙ ap (λ id. find (has_id id) (kept_by all from)) (sym sent.id) ∙ found_kept all there v.0 v.1 its kept.0 in
    let mine : holding.fileset.read_only ≡ false = arriving_writable state holding.fileset holding.stay from ship parts (sym (ap (λ one. one.stay) h.tells.1) ∙ e) h.stored.stay in
    let formed = kept_formed v.0 v.1.fileset v.1.stay its.stored.stay kept.0 in
    let theirs : v.1.fileset.read_only ≡ false = formed.1 kept.1 in
    let limits : v.1.fileset.objects ≡ holding.fileset.objects = sym (ap (λ one. one.objects) its.tells.1) ∙ sent.objects ∙ ap (λ one. one.objects) h.tells.1 in
    let same : promise v.1.fileset ≡ promise holding.fileset = rw (theirs, mine, limits) refl in (
      record v.1.fileset { server = at.server; moves = at.slot.moves },
      ap (option_map {T = Fileset} {U = Fileset} (λ fileset. record fileset { server = at.server; moves = at.slot.moves })) found,
      moved_here all at v.0 v.1 holding there its kept.0 sent.id sent.name sent.objects same (λ z. kept.1),
    )
