-- What the pages of a disk say of a store's record is read as this record.
use Rattle.std.proofs.Common.{◌≡◌, ◌<◌, ◌≤◌, ℕ, zero, suc, ◌+◌, ◌-◌, ◌*◌, List, [], ◌∷◌, ◌++◌, length, map, take, inl, inr, refl, sym, subst, ◌∙◌, ap, arith}
use Rattle.std.specs.Prelude.{Bool, true, false, ◌==◌, if◌then◌else◌, Option, Some, None, IfSome, slice_get}
use Rattle.std.specs.List.{find}
use Rattle.std.specs.Option.{option_map, option_and_then}
use Rattle.std.proofs.lemmas.Bool.{cases_eq, cond-true, eq-eqb, ne_eqb, false≢true}
use Rattle.std.proofs.lemmas.Option.{slice_get-get_or}
use Rattle.base_types.specs.Image.{byte_at}
use Rattle.tree_calls.specs.declared.ship.Record.{Record}
use Rattle.tree_objects.specs.declared.content.Anode.{Anode}
use Rattle.tree_filesets.specs.declared.fileset.Fileset.{Fileset}
use Rattle.message_types.specs.Soundness.{Each}
use Rattle.store_acts.specs.Sound.{IsHolding}
use Rattle.store_state.specs.State.{held_at}
use Rattle.store_state.specs.declared.state.Holding.{Holding}
use Rattle.store_state.specs.declared.state.HostState.{HostState}
use Rattle.store_state.specs.declared.state.HostState.TheVariants.{Unknown as Unheard, Live, IsDown, Ended}
use Rattle.store_state.specs.declared.state.Stay.{Stay}
use Rattle.store_state.specs.declared.state.Stay.TheVariants as stays
use Rattle.store_state.specs.declared.state.StoreState.{StoreState}
use Rattle.store_state.specs.declared.state.TakenShip.{TakenShip}
use Rattle.disk_layout.specs.Numbers.{number_at}
use Rattle.disk_pages.specs.Header.{header_of, is_taken_slot}
use Rattle.disk_pages.specs.Numbers.{record_at}
use Rattle.disk_pages.specs.Server.{server_of}
use Rattle.disk_pages.specs.declared.header.SlotHeader.{SlotHeader}
use Rattle.disk_pages.specs.declared.header.SlotState.{SlotState}
use Rattle.disk_pages.specs.declared.header.SlotState.TheVariants.{Free}
use Rattle.disk_pages.specs.declared.header.SlotState.TheVariants as slot_states
use Rattle.disk_pages.specs.Sound.{no_record}
use Rattle.disk_pages.proofs.Zeros.{zero_in}
use Rattle.disk_pages.specs.Puts.{SaysNumbers}
use Rattle.disk_image.specs.Aggregate.{Aggregate, server_page, header_page, page_of, header_number}
use Rattle.disk_image.specs.Image.{SlotImage, slot_image, slots_of, records_of, fileset_of, image_in, is_clone}
use Rattle.disk_image.specs.Joined.{joined, listed}
use Rattle.disk_image.specs.Slots.{state_at, is_whole}
use Rattle.disk_image_laws.proofs.Finding.{find_back, find_front}
use Rattle.disk_image_laws.specs.ObjectLaws.{Keeps}
use Rattle.disk_image_laws.proofs.Parts.{listed_is}
use Rattle.disk_image_laws.proofs.Read.{fileset_read}
use Rattle.disk_records.specs.Record.{stay_of, anodes_held, holding_of, held_in, host_known, ship_taken, record_of}
use Rattle.disk_records.specs.Said.{stay_said, header_said, host_said, taken_said}
use Rattle.store_records.specs.Stored.{StaysRight, IsStorable}
use Rattle.disk_records.specs.Stored.{SaysHolding, SaysSlot, SaysRecord}
use Rattle.disk_records.specs.Laws.{RecordIsRead}
use Rattle.disk_records.proofs.Stated.{stays_are_said}

-- the slot of a number among those that are taken
module _ (taken : ℕ → Bool) (value : ℕ → SlotImage) (numbered : (k : ℕ) → (value k).slot ≡ k) (s : ℕ) where
  abbrev part : ℕ → List SlotImage
  part k = if taken k then value k ∷ [] else []

  abbrev is_it : SlotImage → Bool
  is_it one = one.slot == s

  other_part : (k : ℕ) → (k ≡ s → ⊥) → find is_it (part k) ≡ None
  other_part k apart = by (taken k)
    where
      off : ((value k).slot == s) ≡ false
      off = ne_eqb (value k).slot s (λ e. apart (sym (numbered k) ∙ e))

      by : (a : Bool) → find is_it (if a then value k ∷ [] else []) ≡ None
      by true = (λ i. if off i then Some (value k) else None)
      by false = refl

  own_part : find is_it (part s) ≡ (if taken s then Some (value s) else None)
  own_part = by (taken s)
    where
      on : ((value s).slot == s) ≡ true
      on = eq-eqb (value s).slot s (numbered s)

      by : (a : Bool) → find is_it (if a then value s ∷ [] else []) ≡ (if a then Some (value s) else None)
      by true = (λ i. if on i then Some (value s) else None)
      by false = refl

  not_before : (n : ℕ) → n ≤ s → find is_it (joined part n) ≡ None
  unfolding joined
  not_before zero le = refl
  not_before (suc n) le = find_back is_it (joined part n) (part n) (not_before n (omega (arith, le))) ∙ other_part n (λ e. absurd (omega (arith, e, le)))

  pub find_slot : (n : ℕ) → s < n → find is_it (joined part n) ≡ (if taken s then Some (value s) else None)
  unfolding joined
  find_slot zero lt = absurd (omega (arith, lt))
  find_slot (suc n) lt = elim (cases_eq n s) [
    | inl e ↦ find_back is_it (joined part n) (part n) (not_before n (omega (arith, e))) ∙ ap (λ k. find is_it (part k)) e ∙ own_part
    | inr apart ↦ further n (find_slot n (omega (arith, lt, apart))) apart (taken s) refl
  ]
    where
      further : (n : ℕ) → find is_it (joined part n) ≡ (if taken s then Some (value s) else None) → (n ≡ s → ⊥) → (a : Bool) → taken s ≡ a
          → find is_it (joined part n ++ part n) ≡ (if taken s then Some (value s) else None)
      further n rest apart true e =
          let there : find is_it (joined part n) ≡ Some (value s) = rest ∙ (λ i. if e i then Some (value s) else None) in
          find_front is_it (joined part n) (part n) (value s) there ∙ sym (λ i. if e i then Some (value s) else None)
      further n rest apart false e =
          let none : find is_it (joined part n) ≡ None = rest ∙ (λ i. if e i then Some (value s) else None) in
          find_back is_it (joined part n) (part n) none ∙ other_part n apart ∙ sym (λ i. if e i then Some (value s) else None)

take_less : {X : Type 0} (m n : ℕ) (xs : List X) → m ≤ n → take m (take n xs) ≡ take m xs
take_less zero n xs le = refl
take_less (suc m) zero xs le = absurd (omega (arith, le))
take_less (suc m) (suc n) [] le = refl
take_less (suc m) (suc n) (x ∷ xs) le = ap (λ ys. x ∷ ys) (take_less m n xs (omega (arith, le)))

whole_held : (state : SlotState) (header : SlotHeader) (anodes : List Anode) → is_whole state ≡ true → anodes_held state header anodes ≡ anodes
whole_held slot_states.Writable header anodes whole = refl
whole_held slot_states.Clone header anodes whole = refl
whole_held slot_states.Leaving header anodes whole = refl
whole_held slot_states.Arriving header anodes whole = absurd (false≢true whole)
whole_held slot_states.Gone header anodes whole = absurd (false≢true whole)
whole_held slot_states.Free header anodes whole = absurd (false≢true whole)
whole_held slot_states.Unknown header anodes whole = absurd (false≢true whole)

-- how it stays says which anodes are held, and whether it is a clone
anodes_back : (state : StoreState) (fileset : Fileset) (records : List Record) (stay : Stay) (anodes : List Anode) → StaysRight state fileset stay → take (length fileset.anodes) anodes ≡ fileset.anodes
    → anodes_held (stay_said stay).state (header_said (record { stay = stay; fileset = fileset; records = records })) (take fileset.objects anodes) ≡ fileset.anodes
anodes_back state fileset records stays.Writable anodes right front = ap (λ n. take n anodes) (sym right.0.count) ∙ front
anodes_back state fileset records stays.Clone anodes right front = ap (λ n. take n anodes) (sym right.0.count) ∙ front
anodes_back state fileset records (stays.Leaving to ship) anodes right front = ap (λ n. take n anodes) (sym right.0.count) ∙ front
anodes_back state fileset records (stays.Arriving from ship parts) anodes right front =
    let most = right.0.most in
    take_less (parts - 1) fileset.objects anodes (omega (arith, most)) ∙ ap (λ n. take n anodes) (sym right.0.count) ∙ front
anodes_back state fileset records (stays.Gone to) anodes right front = sym right.0

clone_back : (state : StoreState) (fileset : Fileset) (stay : Stay) → StaysRight state fileset stay → is_clone (stay_said stay).state ≡ fileset.read_only
clone_back state fileset stays.Writable right = sym right.1
clone_back state fileset stays.Clone right = sym right.1
clone_back state fileset (stays.Leaving to ship) right = sym right.1
clone_back state fileset (stays.Arriving from ship parts) right = sym right.1
clone_back state fileset (stays.Gone to) right = sym right.1

pub taken_back : (stay : Stay) → is_taken_slot (stay_said stay).state ≡ true
taken_back stays.Writable = refl
taken_back stays.Clone = refl
taken_back (stays.Leaving to ship) = refl
taken_back (stays.Arriving from ship parts) = refl
taken_back (stays.Gone to) = refl

known_back : (hosts : List HostState) → map host_known (map host_said hosts) ≡ hosts
known_back [] = refl
known_back (h ∷ hosts) = (let rest = known_back hosts in λ i. one h i ∷ rest i)
  where
    one : (h : HostState) → host_known (host_said h) ≡ h
    one Unheard = refl
    one Live = refl
    one IsDown = refl
    one Ended = refl

ships_back : (taken : List TakenShip) → map ship_taken (map taken_said taken) ≡ taken
ships_back [] = refl
ships_back (ship ∷ taken) = ap (λ rest. ship ∷ rest) (ships_back taken)

-- what is kept of hosts
records_back : (page : List ℕ) (records : List Record) → length records ≡ 17 → SaysNumbers records page → records_of page ≡ records
records_back page records size says = listed_is (λ host. record_at (24 * host) page) records 17 no_record size (λ host lt. says.says host lt)

pub each_slot : {X : Type 0} (P : X → Type 0) (xs : List X) (k : ℕ) (x : X) → Each P xs → slice_get xs k ≡ Some x → P x
each_slot P [] k x each is = absurd (cc)
each_slot P (y ∷ xs) zero x each is = let same : y ≡ x = cc in subst P same each.0
each_slot P (y ∷ xs) (suc k) x each is = each_slot P xs k x each.1 is

module _ (disk : Aggregate) (state : StoreState) (slots : ℕ → List Anode) (storable : IsStorable state) (keeps : Keeps slots disk) (says : SaysRecord state slots (page_of disk))
    (server : disk.server ≡ state.server.0) where
  format : byte_at (server_page disk) 29 ≡ 2
  unfolding server_of
  format = λ i. (says.facts.says i).format

  -- a slot with a holding
  module _ (s : ℕ) (low : s < 16) (holding : Holding) (held : held_at state.slots s ≡ Some holding) (slot : SaysHolding holding (slots s) (page_of disk (2 + 66 * s)) (page_of disk (3 + 66 * s))) where
    header : header_of (server_page disk) (header_page disk s) ≡ header_said holding
    header = slot.header_says.says (server_page disk) format

    in_limits : IsHolding state.roster holding
    in_limits = each_slot (λ one. IfSome one (IsHolding state.roster)) state.slots s (Some holding) storable.limits.slots (there (slice_get state.slots s) refl held)
      where
        there : (found : Option (Option Holding)) → slice_get state.slots s ≡ found → option_and_then (λ one. one) found ≡ Some holding → slice_get state.slots s ≡ Some (Some holding)
        there None is e = absurd (cc)
        there (Some one) is e = is ∙ ap Some e

    stay_right : StaysRight state holding.fileset holding.stay
    stay_right = (storable.each s holding held).stay

    state_is : state_at disk s ≡ (stay_said holding.stay).state
    unfolding header_of
    state_is = λ i. (header i).state

    objects_is : number_at 4 8 (header_page disk s) ≡ holding.fileset.objects
    unfolding header_of
    objects_is = λ i. (header i).objects

    anodes_is : anodes_held (header_of (server_page disk) (header_page disk s)).state (header_of (server_page disk) (header_page disk s)) (fileset_of disk s).anodes ≡ holding.fileset.anodes
    anodes_is =
        let few = in_limits.most in
        let objects = objects_is in
        let read = fileset_read disk slots keeps s low (omega (arith, objects, few)) in
        (λ i. anodes_held (header i).state (header i) (read i))
        ∙ (λ i. anodes_held (stay_said holding.stay).state (header_said holding) (take (objects i) (slots s)))
        ∙ anodes_back state holding.fileset holding.records holding.stay (slots s) stay_right slot.anodes_are.front

    fileset_is : record (fileset_of disk s) { anodes = anodes_held (header_of (server_page disk) (header_page disk s)).state (header_of (server_page disk) (header_page disk s)) (fileset_of disk s).anodes } ≡ holding.fileset
    unfolding header_of
    fileset_is =
        let home = (storable.each s holding held).server in
        let clone : is_clone (state_at disk s) ≡ holding.fileset.read_only = (λ i. is_clone (state_is i)) ∙ clone_back state holding.fileset holding.stay stay_right in
        let from : record { 0 = disk.server } ≡ holding.fileset.server = (λ i. record { 0 = server i }) ∙ sym home in
        let anodes = anodes_is in
        λ i. record {
          server = from i;
          id = (header i).id;
          name = (header i).name;
          read_only = clone i;
          objects = (header i).objects;
          moves = (header i).moves;
          anodes = anodes i;
        }

    -- it is that of the image where all its anodes are held
    pub whole_is : is_whole (state_at disk s) ≡ true → fileset_of disk s ≡ holding.fileset
    unfolding header_of
    whole_is whole =
        (let e = whole_held (state_at disk s) (header_of (server_page disk) (header_page disk s)) (fileset_of disk s).anodes whole in λ i. record (fileset_of disk s) { anodes = sym e i }) ∙ fileset_is

    holding_is : holding_of (slot_image disk s) ≡ holding
    holding_is =
        let stay = ap stay_of header ∙ stays_are_said holding in
        let fileset = fileset_is in
        let z : header_number s + 1 ≡ 3 + 66 * s = omega arith in
        let records = (λ i. records_of (page_of disk (z i))) ∙ records_back (page_of disk (3 + 66 * s)) holding.records in_limits.records.count slot.numbers_say in
        λ i. record { stay = stay i; fileset = fileset i; records = records i }

    taken_is : is_taken_slot (state_at disk s) ≡ true
    taken_is = (λ i. is_taken_slot (state_is i)) ∙ taken_back holding.stay

  -- what is held in a slot
  held_is : (s : ℕ) → s < 16 → held_in (slots_of disk) s ≡ held_at state.slots s
  held_is s low = ap (option_map holding_of) (find_slot (λ k. is_taken_slot (state_at disk k)) (slot_image disk) (λ k. refl) s 16 low) ∙ by (held_at state.slots s) refl (says.slot s low)
    where
      by : (found : Option Holding) → held_at state.slots s ≡ found → SaysSlot found (slots s) (page_of disk (2 + 66 * s)) (page_of disk (3 + 66 * s))
          → option_map holding_of (if is_taken_slot (state_at disk s) then Some (slot_image disk s) else None) ≡ held_at state.slots s
      by None is nothing =
          let kind : byte_at (header_page disk s) 0 ≡ 0 = zero_in 0 512 (page_of disk (2 + 66 * s)) nothing.header_zero 0 (omega arith) (omega arith) in
          let free : state_at disk s ≡ Free = cond-true (byte_at (header_page disk s) 0 == 0) Free _ (eq-eqb (byte_at (header_page disk s) 0) 0 kind) in
          (λ i. option_map holding_of (if is_taken_slot (free i) then Some (slot_image disk s) else None)) ∙ sym is
      by (Some holding) is slot =
          let taken = taken_is s low holding is slot in
          let same = holding_is s low holding is slot in
          (λ i. option_map holding_of (if taken i then Some (slot_image disk s) else None)) ∙ ap Some same ∙ sym is

  slots_are : listed (held_in (slots_of disk)) 16 ≡ state.slots
  slots_are =
      let size = storable.limits.table in
      listed_is (held_in (slots_of disk)) state.slots 16 None size
      (λ k lt. held_is k lt ∙ ap (option_and_then (λ one. one)) (slice_get-get_or state.slots k None (omega (arith, size, lt))))

  pub record_is : disk.blocks ≡ state.capacity + 1024 → record_of state.roster (image_in disk) ≡ state
  unfolding server_of
  record_is blocks =
      let facts = says.facts.says in
      let capacity : disk.blocks - 1024 ≡ state.capacity = omega (arith, blocks) in
      let slots = slots_are in
      let numbers = records_back (page_of disk 1) state.records storable.limits.records.count says.numbers in
      let hosts = (λ i. map host_known (facts i).hosts) ∙ known_back state.hosts in
      let taken = (λ i. map ship_taken (facts i).taken) ∙ ships_back state.taken in
      λ i. record {
        server = record { 0 = server i };
        roster = state.roster;
        capacity = capacity i;
        next = (facts i).next;
        slots = slots i;
        records = numbers i;
        hosts = hosts i;
        epoch = (facts i).epoch;
        ship = (facts i).ship;
        taken = taken i;
      }

pub record_is_read : RecordIsRead
record_is_read disk state slots storable keeps says server blocks = record_is disk state slots storable keeps says server blocks
