-- A disk whose pages say a record that it can have has no faults.
use Rattle.std.proofs.Common.{◌≡◌, ◌<◌, ◌≤◌, ◌⊎◌, ℕ, zero, suc, ◌+◌, ◌-◌, ◌*◌, ◌/◌, ◌%◌, List, [], ◌∷◌, ◌++◌, length, map, get_or, replicate, inl, inr, refl, sym, subst, ◌∙◌, ap, arith}
use Rattle.std.specs.Prelude.{Bool, true, false, ◌==◌, ◌&&◌, ◌||◌, not, min, nat_le, nat_lt, cond, if◌then◌else◌, Option, Some, None, is_some, is_none, IfSome, slice_get}
use Rattle.std.specs.List.{find, list_all, sum_by}
use Rattle.std.specs.Option.{option_map_or, option_and_then}
use Rattle.std.proofs.lemmas.Bool.{cases_Bool, cases_eq, cases_lt, and_parts, and_from, cond-true, cond-false, false≢true, eqb-true, eq-eqb, ne_eqb, le-leb, lt-ltb, leb-true}
use Rattle.std.proofs.lemmas.List.{get_or-take, get_or-replicate}
use Rattle.std.proofs.lemmas.List.Sums.{sum_by-append}
use Rattle.std.proofs.lemmas.Option.{slice_get-get_or, unwrap_or-slice_get}
use Rattle.base_types.specs.Image.{byte_at}
use Rattle.base_types.specs.Name.{is_before, same_name}
use Rattle.base_types.specs.declared.ids.ServerId.{ServerId}
use Rattle.tree_calls.specs.declared.part.DirEntry.{DirEntry}
use Rattle.tree_calls.specs.declared.ship.Record.{Record}
use Rattle.tree_objects.specs.Entries.{entry_named}
use Rattle.tree_objects.specs.Objects.{is_dir, blocks_of}
use Rattle.tree_objects.specs.Sound.{names_rise}
use Rattle.tree_objects.specs.declared.content.Anode.{Anode}
use Rattle.tree_objects.specs.declared.content.Content.{Content}
use Rattle.tree_objects.specs.declared.content.Content.TheVariants.{Dir, File}
use Rattle.tree_objects.specs.declared.content.Object.{Object}
use Rattle.tree_filesets.specs.Founding.{unused_anode}
use Rattle.tree_filesets.specs.Promises.{anode_blocks, clone_promise, new_promise, promise}
use Rattle.tree_filesets.specs.Walk.{object_at, unique_at}
use Rattle.tree_filesets.specs.WellFormed.{entry_in, entry_at, IsWellFormed}
use Rattle.tree_filesets.specs.declared.fileset.Fileset.{Fileset}
use Rattle.tree_filesets.proofs.Names.{names_equal, same_self}
use Rattle.disk_lists.proofs.Places.{before_apart}
use Rattle.message_types.specs.Soundness.{Each, IsKept}
use Rattle.store_acts.specs.Sound.{IsHolding}
use Rattle.store_state.specs.Founding.{held_promise, promised}
use Rattle.store_state.specs.State.{held_at, is_leaving, is_gone}
use Rattle.store_state.specs.declared.state.Holding.{Holding}
use Rattle.store_state.specs.declared.state.HostState.{HostState}
use Rattle.store_state.specs.declared.state.HostState.TheVariants.{Unknown as Unheard, Live, IsDown, Ended}
use Rattle.store_state.specs.declared.state.Stay.{Stay}
use Rattle.store_state.specs.declared.state.Stay.TheVariants as stays
use Rattle.store_state.specs.declared.state.StoreState.{StoreState}
use Rattle.store_state.specs.declared.state.TakenShip.{TakenShip}
use Rattle.disk_layout.specs.Numbers.{number_at}
use Rattle.disk_layout.specs.Places.{page_start}
use Rattle.disk_pages.specs.Anode.{bytes_in}
use Rattle.disk_pages.specs.Header.{header_of, id_of, is_taken_slot, is_header, is_id, is_limit, is_leaving as is_leaving_slot, is_other}
use Rattle.disk_pages.specs.Numbers.{is_numbers_page}
use Rattle.disk_pages.specs.Server.{is_code, is_server_page, server_of}
use Rattle.disk_pages.specs.Words.{name_at, are_zero}
use Rattle.disk_pages.specs.declared.header.SlotHeader.{SlotHeader}
use Rattle.disk_pages.specs.declared.header.SlotState.TheVariants.{Free}
use Rattle.disk_pages.specs.declared.server.TakenShip.{TakenShip as TakenFrom}
use Rattle.disk_pages.specs.Sound.{are_sound_moves, is_sound_header, is_sound_record}
use Rattle.disk_pages.proofs.Zeros.{zero_in}
use Rattle.disk_image.specs.Aggregate.{Aggregate, server_page, header_page, anode_page, node_at, page_of, header_number}
use Rattle.disk_image.specs.Anodes.{unless, anode_faults, is_root_place}
use Rattle.disk_image.specs.Counts.{is_count_page, count_fault, object_promise, limit_promise, promise_by, promises, capacity_of}
use Rattle.disk_image.specs.Faults.{slot_faults, faults_in}
use Rattle.disk_image.specs.Joined.{joined, listed, total}
use Rattle.disk_image.specs.Reach.{reach_faults}
use Rattle.disk_image.specs.Slots.{state_at, are_alike, is_first, is_slot_free, is_slot_header, is_slot_numbers, limit_of, usable, has_root, is_whole}
use Rattle.disk_image.specs.declared.fault.Rule.{Rule}
use Rattle.disk_image.specs.declared.fault.Rule.TheVariants as rules
use Rattle.disk_image_laws.proofs.Finding.{each_all}
use Rattle.disk_image_laws.proofs.Treed.{nothing_joined, formed_is_reached}
use Rattle.disk_anode.specs.Anode.{anode_of as kept_at}
use Rattle.disk_objects.specs.Holds.{no_anode}
use Rattle.disk_objects.specs.Objects.{object_kept, kept_of, anode_at, FitsObject, FitsContent}
use Rattle.disk_image_laws.proofs.Parts.{listed_is}
use Rattle.disk_image_laws.proofs.Read.{kept_is}
use Rattle.disk_image_laws.specs.ObjectLaws.{Keeps, FitsPlace, leads_within}
use Rattle.disk_image_laws.proofs.Judged.{anodes_are_right}
use Rattle.disk_image_laws.proofs.Ordered.{counts_are_right}
use Rattle.disk_records.specs.Said.{stay_said, header_said, host_said, taken_said}
use Rattle.disk_records.specs.Laws.{RecordHasNoFaults}
use Rattle.store_records.specs.Stored.{IsOther, StaysRight, IsStored, IsStorable}
use Rattle.disk_records.specs.Stored.{SaysHolding, SaysNothing, SaysSlot, SaysRecord}
use Rattle.disk_records.proofs.Read as read

no_fault : (test : Bool) (place : ℕ) (rule : Rule) → test ≡ true → unless test place rule ≡ []
no_fault test place rule is = cond-true test [] _ is

-- entries that are found under their names
find_passes : (p q : DirEntry → Bool) (xs : List DirEntry) (x : DirEntry) → list_all q xs ≡ true → find p xs ≡ Some x → (p x ≡ true) × (q x ≡ true)
find_passes p q [] x all is = absurd (cc)
find_passes p q (y ∷ xs) x all is = by (p y) refl is (λ h. find_passes p q xs x parts.1 h)
  where
    parts : (q y ≡ true) × (list_all q xs ≡ true)
    parts = and_parts (q y) (list_all q xs) all

    by : (b : Bool) → p y ≡ b → cond b (Some y) (find p xs) ≡ Some x → (find p xs ≡ Some x → (p x ≡ true) × (q x ≡ true)) → (p x ≡ true) × (q x ≡ true)
    by true e h rest = (let same : y ≡ x = cc in (ap p (sym same) ∙ e, ap q (sym same) ∙ parts.0))
    by false e h rest = rest h

each_named : (test : DirEntry → Bool) (entries : List DirEntry) → names_rise entries ≡ true → ((name : List ℕ) (entry : DirEntry) → entry_named entries name ≡ Some entry → test entry ≡ true) → list_all test entries ≡ true
each_named test [] rise each = refl
each_named test (x ∷ xs) rise each =
    let parts = and_parts (list_all (λ (other : DirEntry). is_before x.name other.name) xs) (names_rise xs) rise in
    and_from (test x) (list_all test xs) (each x.name x (cond-true (same_name x.name x.name) (Some x) _ (same_self x.name)))
    (each_named test xs parts.1 (λ name entry found.
    let two = find_passes (λ (other : DirEntry). same_name other.name name) (λ (other : DirEntry). is_before x.name other.name) xs entry parts.0 found in
    let e : entry.name ≡ name = names_equal entry.name name two.0 in
    let apart : same_name x.name name ≡ false = ap (same_name x.name) (sym e) ∙ before_apart x.name entry.name two.1 in
    each name entry (cond-false (same_name x.name name) (Some x) _ apart ∙ found)))

-- sums
total_same : (f g : ℕ → ℕ) (n : ℕ) → ((k : ℕ) → k < n → f k ≡ g k) → total f n ≡ total g n
unfolding total
total_same f g zero same = refl
total_same f g (suc n) same = let rest = total_same f g n (λ k lt. same k (omega (arith, lt))) in let here = same n (omega arith) in λ i. rest i + here i

total_rest : (f : ℕ → ℕ) (m n : ℕ) → ((k : ℕ) → k < n → f (m + k) ≡ 0) → total f (m + n) ≡ total f m
unfolding total
total_rest f m zero none = (let z : m + 0 ≡ m = omega arith in λ i. total f (z i))
total_rest f m (suc n) none =
    let z : m + suc n ≡ suc (m + n) = omega arith in
    let rest = total_rest f m n (λ k lt. none k (omega (arith, lt))) in
    let here = none n (omega arith) in
    (λ i. total f (z i)) ∙ omega (arith, rest, here)

sum_listed : {X : Type 0} (f : X → ℕ) (value : ℕ → X) (n : ℕ) → sum_by f (listed value n) ≡ total (λ k. f (value k)) n
unfolding joined total
sum_listed f value zero = refl
sum_listed f value (suc n) = sum_by-append f (listed value n) (value n ∷ []) ∙ (let z : 0 + f (value n) ≡ f (value n) = omega arith in λ i. sum_listed f value n i + z i)

-- numbers that facts have
hosts_low : (hosts : List HostState) → list_all (λ number. nat_le number 3) (map host_said hosts) ≡ true
hosts_low [] = refl
hosts_low (h ∷ hosts) = and_from (nat_le (host_said h) 3) _ (one h) (hosts_low hosts)
  where
    one : (h : HostState) → nat_le (host_said h) 3 ≡ true
    one Unheard = refl
    one Live = refl
    one IsDown = refl
    one Ended = refl

codes_low : (taken : List TakenShip) → Each (λ (ship : TakenShip). ship.code ≤ 21) taken → list_all (λ (ship : TakenFrom). is_code ship.code) (map taken_said taken) ≡ true
codes_low [] each = refl
codes_low (ship ∷ taken) each = and_from (nat_le ship.code 21) _ (le-leb ship.code 21 each.0) (codes_low taken each.1)

records_sound : (records : List Record) → Each IsKept records → list_all is_sound_record records ≡ true
records_sound [] each = refl
records_sound (kept ∷ records) each =
    let code = each.0.code in
    let rights = each.0.rights in
    and_from (is_sound_record kept) _ (and_from (is_code kept.code) (nat_lt kept.right 64) (le-leb kept.code 21 code) (lt-ltb kept.right 64 rights)) (records_sound records each.1)

-- another server
other_is : (own other : ServerId) → IsOther own other → is_other own.0 other.0 ≡ true
other_is own other is =
    and_from (nat_le 1 other.0 && nat_le other.0 4) (not (other.0 == own.0)) (and_from (nat_le 1 other.0) (nat_le other.0 4) (le-leb 1 other.0 is.0) (le-leb other.0 4 is.1)) (λ i. not (ne_eqb other.0 own.0 is.2 i))

moves_sound : (state : StoreState) (fileset : Fileset) (records : List Record) (stay : Stay) → StaysRight state fileset stay
    → are_sound_moves state.server.0 state.ship (header_said (record { stay = stay; fileset = fileset; records = records })) (stay_said stay).state ≡ true
moves_sound state fileset records stays.Writable right = refl
moves_sound state fileset records stays.Clone right = refl
moves_sound state fileset records (stays.Leaving to ship) right =
    and_from (is_other state.server.0 to.0 && nat_le ship state.ship) (0 == 0) (and_from (is_other state.server.0 to.0) (nat_le ship state.ship) (other_is state.server to right.2) (le-leb ship state.ship right.3)) refl
moves_sound state fileset records (stays.Arriving from ship parts) right =
    and_from (is_other state.server.0 from.0 && nat_le 1 parts) (nat_le parts fileset.objects) (and_from (is_other state.server.0 from.0) (nat_le 1 parts) (other_is state.server from right.2) (le-leb 1 parts right.0.least)) (le-leb parts fileset.objects right.0.most)
moves_sound state fileset records (stays.Gone to) right =
    and_from (is_other state.server.0 to.0 && (0 == 0)) (0 == 0) (and_from (is_other state.server.0 to.0) (0 == 0) (other_is state.server to right.2) refl) refl

leaving_same : (stay : Stay) → is_leaving_slot (stay_said stay).state ≡ is_leaving stay
leaving_same stays.Writable = refl
leaving_same stays.Clone = refl
leaving_same (stays.Leaving to ship) = refl
leaving_same (stays.Arriving from ship parts) = refl
leaving_same (stays.Gone to) = refl

module _ (disk : Aggregate) (state : StoreState) (slots : ℕ → List Anode) (storable : IsStorable state) (keeps : Keeps slots disk) (says : SaysRecord state slots (page_of disk))
    (server : disk.server ≡ state.server.0) (blocks : disk.blocks ≡ state.capacity + 1024) where
  format : byte_at (server_page disk) 29 ≡ 2
  unfolding server_of
  format = λ i. (says.facts.says i).format

  server_right : is_server_page (server_page disk) ≡ true
  server_right =
      says.facts.sound
      ∙ and_from (nat_le 1 state.next && nat_le state.next 65536 && list_all (λ number. nat_le number 3) (map host_said state.hosts)) (list_all (λ (ship : TakenFrom). is_code ship.code) (map taken_said state.taken))
      (and_from (nat_le 1 state.next && nat_le state.next 65536) (list_all (λ number. nat_le number 3) (map host_said state.hosts))
      (and_from (nat_le 1 state.next) (nat_le state.next 65536) (le-leb 1 state.next storable.next.0) (le-leb state.next 65536 storable.next.1)) (hosts_low state.hosts)) (codes_low state.taken storable.taken.1)

  numbers_right : is_numbers_page (page_of disk 1) ≡ true
  numbers_right = says.numbers.sound (records_sound state.records storable.limits.records.each)

  -- what a slot says
  abbrev held : ℕ → Option Holding
  held s = held_at state.slots s

  abbrev header : ℕ → SlotHeader
  header s = header_of (server_page disk) (header_page disk s)

  module _ (s : ℕ) (low : s < 16) where
    -- a free one
    module _ (is_none_held : held_at state.slots s ≡ None) (nothing : SaysNothing (slots s) (page_of disk (2 + 66 * s)) (page_of disk (3 + 66 * s))) where
      free_kind : is_slot_free disk s ≡ true
      free_kind = eq-eqb (byte_at (header_page disk s) 0) 0 (zero_in 0 512 (page_of disk (2 + 66 * s)) nothing.header_zero 0 (omega arith) (omega arith))

      free_state : state_at disk s ≡ Free
      free_state = cond-true (is_slot_free disk s) Free _ free_kind

      free_header : is_slot_header disk s ≡ true
      unfolding is_slot_header
      free_header = cond-true (is_slot_free disk s) _ _ free_kind ∙ nothing.header_zero

      free_numbers : is_slot_numbers disk s ≡ true
      unfolding is_slot_numbers
      free_numbers =
          let z : header_number s + 1 ≡ 3 + 66 * s = omega arith in
          cond-true (is_slot_free disk s) _ _ free_kind ∙ (λ i. are_zero 0 512 (page_of disk (z i))) ∙ nothing.numbers_zero

      free_anode : (i : ℕ) → i < 64 → anode_at (slots s) (i + 1) ≡ unused_anode
      free_anode i few =
          let z : i + 1 - 1 ≡ i = omega arith in
          (λ j. anode_at (nothing.anodes_unused j) (i + 1)) ∙ unwrap_or-slice_get (replicate 64 unused_anode) (i + 1 - 1) unused_anode ∙ (λ j. get_or (replicate 64 unused_anode) (z j) unused_anode) ∙ get_or-replicate 64 i unused_anode unused_anode few

      free_place : (i : ℕ) → i < 64 → FitsPlace disk s i (anode_at (slots s) (i + 1))
      free_place i few =
          let e = free_anode i few in
          record {
            unused = λ free. e;
            below = λ some. absurd (false≢true (ap (λ (a : Anode). is_some a.object) (sym e) ∙ some));
            root = λ root. absurd (false≢true (sym (and_none (i == 0)) ∙ (λ j. (i == 0) && has_root (sym free_state j) (header_page disk s)) ∙ root));
            within = ap (λ (a : Anode). option_map_or (λ object. leads_within object.content) a.object true) e;
          }
        where
          and_none : (a : Bool) → (a && false) ≡ false
          and_none true = refl
          and_none false = refl

    -- one with a holding
    module _ (holding : Holding) (is_held : held_at state.slots s ≡ Some holding) (slot : SaysHolding holding (slots s) (page_of disk (2 + 66 * s)) (page_of disk (3 + 66 * s))) where
      header_is : header_of (server_page disk) (header_page disk s) ≡ header_said holding
      header_is = slot.header_says.says (server_page disk) format

      stored : IsStored state holding
      stored = storable.each s holding is_held

      in_limits : IsHolding state.roster holding
      in_limits = read.each_slot (λ one. IfSome one (IsHolding state.roster)) state.slots s (Some holding) storable.limits.slots (there (slice_get state.slots s) refl is_held)
        where
          there : (found : Option (Option Holding)) → slice_get state.slots s ≡ found → option_and_then (λ one. one) found ≡ Some holding → slice_get state.slots s ≡ Some (Some holding)
          there None is e = absurd (cc)
          there (Some one) is e = is ∙ ap Some e

      state_is : state_at disk s ≡ (stay_said holding.stay).state
      unfolding header_of
      state_is = λ i. (header_is i).state

      taken_is : is_taken_slot (state_at disk s) ≡ true
      taken_is = (λ i. is_taken_slot (state_is i)) ∙ read.taken_back holding.stay

      used : is_slot_free disk s ≡ false
      used = elim (cases_Bool (is_slot_free disk s)) [
        | inr other ↦ other
        | inl free ↦ (let e : state_at disk s ≡ Free = cond-true (is_slot_free disk s) Free _ free in absurd (false≢true (ap is_taken_slot (sym e) ∙ taken_is)))
      ]

      objects_is : number_at 4 8 (header_page disk s) ≡ holding.fileset.objects
      unfolding header_of
      objects_is = λ i. (header_is i).objects

      parts_is : number_at 4 88 (header_page disk s) ≡ (stay_said holding.stay).parts
      unfolding header_of
      parts_is = λ i. (header_is i).parts

      limit_right : is_limit holding.fileset.objects ≡ true
      limit_right = and_from (nat_le 1 holding.fileset.objects) (nat_le holding.fileset.objects 64) (le-leb 1 holding.fileset.objects in_limits.least) (le-leb holding.fileset.objects 64 in_limits.most)

      limit_is : limit_of (header_page disk s) ≡ holding.fileset.objects
      limit_is =
          let e = objects_is in
          (λ i. if is_limit (e i) then e i else 64) ∙ cond-true (is_limit holding.fileset.objects) holding.fileset.objects 64 limit_right

      header_sound : is_header disk.server (server_page disk) (header_page disk s) ≡ true
      header_sound =
          let facts = says.facts.says in
          slot.header_says.sound disk.server (server_page disk) format
          ∙ (λ i. is_sound_header (server i) (facts i) (header_said holding))
          ∙ and_from (is_taken_slot (stay_said holding.stay).state && is_id state.server.0 state.next holding.fileset.id.0 && is_limit holding.fileset.objects) (are_sound_moves state.server.0 state.ship (header_said holding) (stay_said holding.stay).state)
          (and_from (is_taken_slot (stay_said holding.stay).state && is_id state.server.0 state.next holding.fileset.id.0) (is_limit holding.fileset.objects)
          (and_from (is_taken_slot (stay_said holding.stay).state) (is_id state.server.0 state.next holding.fileset.id.0) (read.taken_back holding.stay) id_right) limit_right)
          (moves_sound state holding.fileset holding.records holding.stay stored.stay)
        where
          id : ℕ
          id = holding.fileset.id.0

          own_right : (not (holding.fileset.id.0 / 65536 == state.server.0) || nat_lt (holding.fileset.id.0 % 65536) state.next) ≡ true
          own_right = elim (cases_eq (holding.fileset.id.0 / 65536) state.server.0) [
            | inl own ↦ either_right (not (holding.fileset.id.0 / 65536 == state.server.0)) (lt-ltb (holding.fileset.id.0 % 65536) state.next (stored.id.given own))
            | inr other ↦ (λ i. not (ne_eqb (holding.fileset.id.0 / 65536) state.server.0 other i) || nat_lt (holding.fileset.id.0 % 65536) state.next)
          ]
            where
              either_right : (a : Bool) {b : Bool} → b ≡ true → (a || b) ≡ true
              either_right true e = refl
              either_right false e = e

          id_right : is_id state.server.0 state.next holding.fileset.id.0 ≡ true
          id_right =
              and_from (nat_le 1 (holding.fileset.id.0 / 65536) && nat_le (holding.fileset.id.0 / 65536) 4 && nat_le 1 (holding.fileset.id.0 % 65536)) _
              (and_from (nat_le 1 (holding.fileset.id.0 / 65536) && nat_le (holding.fileset.id.0 / 65536) 4) (nat_le 1 (holding.fileset.id.0 % 65536))
              (and_from (nat_le 1 (holding.fileset.id.0 / 65536)) (nat_le (holding.fileset.id.0 / 65536) 4) (le-leb 1 (holding.fileset.id.0 / 65536) stored.id.first) (le-leb (holding.fileset.id.0 / 65536) 4 stored.id.last))
              (le-leb 1 (holding.fileset.id.0 % 65536) stored.id.number)) own_right

      numbers_sound : is_slot_numbers disk s ≡ true
      unfolding is_slot_numbers
      numbers_sound =
          let z : header_number s + 1 ≡ 3 + 66 * s = omega arith in
          cond-false (is_slot_free disk s) _ _ used ∙ (λ i. is_numbers_page (page_of disk (z i))) ∙ slot.numbers_say.sound (records_sound holding.records in_limits.records.each)

      -- its anodes
      whole_count : (n : ℕ) → length holding.fileset.anodes ≡ n → (i : ℕ) → i < 64 → is_some (anode_at (slots s) (i + 1)).object ≡ true → i < n
      whole_count n count i few some = elim (cases_lt i n) [
        | inl below ↦ below
        | inr past ↦ absurd (none_some (anode_at (slots s) (i + 1)).object (slot.anodes_are.rest (i + 1) (omega (arith, count, past)) (omega (arith, few))) some)
      ]
        where
          none_some : (o : Option Object) → is_none o ≡ true → is_some o ≡ true → ⊥
          none_some None a b = false≢true b
          none_some (Some o) a b = false≢true a

      full : length (slots s) ≡ 64
      full = (keeps.each s low).count

      front_at : (i : ℕ) → i < length holding.fileset.anodes → i < 64 → slice_get holding.fileset.anodes i ≡ Some (anode_at (slots s) (i + 1))
      front_at i below few =
          let size = full in
          let z : i + 1 - 1 ≡ i = omega arith in
          let n : ℕ = length holding.fileset.anodes in
          let front = slot.anodes_are.front in
          slice_get-get_or holding.fileset.anodes i unused_anode below
          ∙ ap Some (ap (λ (xs : List Anode). get_or xs i unused_anode) (sym front) ∙ get_or-take n (slots s) i unused_anode below
          ∙ (λ j. get_or (slots s) (sym z j) unused_anode) ∙ sym (unwrap_or-slice_get (slots s) (i + 1 - 1) unused_anode))

      object_there : (i : ℕ) → i < length holding.fileset.anodes → i < 64 → object_at holding.fileset.anodes (i + 1) ≡ (anode_at (slots s) (i + 1)).object
      object_there i below few =
          let z : i + 1 - 1 ≡ i = omega arith in
          cond-false (i + 1 == 0) None _ (ne_eqb (i + 1) 0 (λ e. absurd (omega (arith, e)))) ∙ (λ j. option_and_then (λ (a : Anode). a.object) (slice_get holding.fileset.anodes (z j))) ∙ ap (option_and_then (λ (a : Anode). a.object)) (front_at i below few)

      unique_there : (i : ℕ) → i < length holding.fileset.anodes → i < 64 → unique_at holding.fileset.anodes (i + 1) ≡ (anode_at (slots s) (i + 1)).unique
      unique_there i below few =
          let z : i + 1 - 1 ≡ i = omega arith in
          (λ j. option_map_or (λ (a : Anode). a.unique) (slice_get holding.fileset.anodes (z j)) 0) ∙ ap (λ (o : Option Anode). option_map_or (λ (a : Anode). a.unique) o 0) (front_at i below few)

      -- each entry leads to an anode that there may be
      leads_right : (i : ℕ) → i < 64 → ((at : ℕ) (name : List ℕ) (entry : DirEntry) → entry_at holding.fileset.anodes at name ≡ Some entry → (1 ≤ entry.anode) × (entry.anode ≤ 64))
          → (is_some (anode_at (slots s) (i + 1)).object ≡ true → i < length holding.fileset.anodes)
          → option_map_or (λ object. leads_within object.content) (anode_at (slots s) (i + 1)).object true ≡ true
      leads_right i few within below = by (anode_at (slots s) (i + 1)).object refl ((keeps.each s low).each (i + 1) (omega arith) (omega (arith, few)))
        where
          by : (o : Option Object) → (anode_at (slots s) (i + 1)).object ≡ o → IfSome o FitsObject → option_map_or (λ object. leads_within object.content) (anode_at (slots s) (i + 1)).object true ≡ true
          by None is fits = ap (λ (o : Option Object). option_map_or (λ object. leads_within object.content) o true) is
          by (Some object) is fits = ap (λ (o : Option Object). option_map_or (λ found. leads_within found.content) o true) is ∙ in_content object.content refl fits.content
            where
              there : object_at holding.fileset.anodes (i + 1) ≡ Some object
              there = object_there i (below (ap (λ (o : Option Object). is_some o) is)) few ∙ is

              in_content : (content : Content) → object.content ≡ content → FitsContent content → leads_within content ≡ true
              in_content (File list kept unsaved len) e fit = refl
              in_content (Dir entries lists) e fit = each_named (λ (entry : DirEntry). nat_le 1 entry.anode && nat_le entry.anode 64) entries fit.2
                  (λ name entry found.
                  let two = within (i + 1) name entry (ap (option_and_then (λ (o : Object). entry_in o.content name)) there ∙ ap (λ c. entry_in c name) e ∙ found) in
                  and_from (nat_le 1 entry.anode) (nat_le entry.anode 64) (le-leb 1 entry.anode two.0) (le-leb entry.anode 64 two.1))

      formed_within : IsWellFormed holding.fileset → (at : ℕ) (name : List ℕ) (entry : DirEntry) → entry_at holding.fileset.anodes at name ≡ Some entry → (1 ≤ entry.anode) × (entry.anode ≤ 64)
      formed_within formed at name entry is = by_place entry.anode (formed.named at name entry is).0
        where
          by_place : (n : ℕ) → is_some (object_at holding.fileset.anodes n) ≡ true → (1 ≤ n) × (n ≤ 64)
          by_place zero some = absurd (false≢true some)
          by_place (suc n) some = elim (cases_lt n (length holding.fileset.anodes)) [
            | inl below ↦ (let count = formed.count in let limit = formed.limit in (omega arith, omega (arith, below, count, limit)))
            | inr past ↦ absurd (nothing n past some)
          ]
            where
              nothing : (n : ℕ) → length holding.fileset.anodes ≤ n → is_some (object_at holding.fileset.anodes (suc n)) ≡ true → ⊥
              nothing n past some = false≢true (sym (ap (λ (o : Option Anode). is_some (option_and_then (λ (a : Anode). a.object) o)) (none_past holding.fileset.anodes n past)) ∙ sym (ap (λ (o : Option Object). is_some o) (step n)) ∙ some)
                where
                  none_past : (xs : List Anode) (k : ℕ) → length xs ≤ k → slice_get xs k ≡ None
                  none_past [] k le = refl
                  none_past (x ∷ xs) zero le = absurd (omega (arith, le))
                  none_past (x ∷ xs) (suc k) le = none_past xs k (omega (arith, le))

                  step : (n : ℕ) → object_at holding.fileset.anodes (suc n) ≡ option_and_then (λ (a : Anode). a.object) (slice_get holding.fileset.anodes n)
                  step n =
                      let z : suc n - 1 ≡ n = omega arith in
                      let some : (suc n == 0) ≡ false = ne_eqb (suc n) 0 (λ e. absurd (omega (arith, e))) in
                      cond-false (suc n == 0) _ _ some ∙ (λ j. option_and_then (λ (a : Anode). a.object) (slice_get holding.fileset.anodes (z j)))

      -- the root of a tree
      formed_root : IsWellFormed holding.fileset → ((anode_at (slots s) 1).unique ≡ 1) × (option_map_or (λ object. is_dir object.content) (anode_at (slots s) 1).object false ≡ true)
      formed_root formed =
          let count = formed.count in
          let least = in_limits.least in
          let below : 0 < length holding.fileset.anodes = omega (arith, count, least) in (
            sym (unique_there 0 below (omega arith)) ∙ formed.first,
            ap (λ (o : Option Object). option_map_or (λ object. is_dir object.content) o false) (sym (object_there 0 below (omega arith))) ∙ formed.root,
          )

      place_by : (stay : Stay) → holding.stay ≡ stay → StaysRight state holding.fileset stay → (i : ℕ) → i < 64 → FitsPlace disk s i (anode_at (slots s) (i + 1))
      place_by stay is right i few = by stay is right
        where
          no_free : is_slot_free disk s ≡ true → anode_at (slots s) (i + 1) ≡ unused_anode
          no_free free = absurd (false≢true (sym used ∙ free))

          usable_is : (stay : Stay) → holding.stay ≡ stay → usable (state_at disk s) (header_page disk s) ≡ usable (stay_said stay).state (header_page disk s)
          usable_is stay e = (λ j. usable (state_is j) (header_page disk s)) ∙ ap (λ t. usable (stay_said t).state (header_page disk s)) e

          rooted : (stay : Stay) → holding.stay ≡ stay → is_root_place disk s i ≡ true → (i ≡ 0) × (has_root (stay_said stay).state (header_page disk s) ≡ true)
          rooted stay e root =
              let two = and_parts (i == 0) (has_root (state_at disk s) (header_page disk s)) root in
              (eqb-true i 0 two.0, sym ((λ j. has_root (state_is j) (header_page disk s)) ∙ ap (λ t. has_root (stay_said t).state (header_page disk s)) e) ∙ two.1)

          tree : (stay : Stay) → holding.stay ≡ stay → IsWellFormed holding.fileset → usable (stay_said stay).state (header_page disk s) ≡ limit_of (header_page disk s) → FitsPlace disk s i (anode_at (slots s) (i + 1))
          tree stay e formed limit =
              let all : usable (state_at disk s) (header_page disk s) ≡ holding.fileset.objects = usable_is stay e ∙ limit ∙ limit_is in
              let count = formed.count in
              record {
                unused = no_free;
                below = λ some. (let lt = whole_count holding.fileset.objects count i few some in omega (arith, lt, all));
                root = λ root. (let zero_i = (rooted stay e root).0 in let two = formed_root formed in
                    (ap (λ k. (anode_at (slots s) (k + 1)).unique) zero_i ∙ two.0, ap (λ k. option_map_or (λ object. is_dir object.content) (anode_at (slots s) (k + 1)).object false) zero_i ∙ two.1));
                within = leads_right i few (formed_within formed) (λ some. (let lt = whole_count holding.fileset.objects count i few some in omega (arith, lt, count)));
              }

          by : (stay : Stay) → holding.stay ≡ stay → StaysRight state holding.fileset stay → FitsPlace disk s i (anode_at (slots s) (i + 1))
          by stays.Writable e right = tree stays.Writable e right.0 refl
          by stays.Clone e right = tree stays.Clone e right.0 refl
          by (stays.Leaving to ship) e right = tree (stays.Leaving to ship) e right.0 refl
          by (stays.Arriving from ship parts) e right =
              let arrives = right.0 in
              let count = arrives.count in
              let least = arrives.least in
              let most = arrives.most in
              let limit = limit_is in
              let told : number_at 4 88 (header_page disk s) ≡ parts = parts_is ∙ ap (λ t. (stay_said t).parts) e in
              let all : usable (state_at disk s) (header_page disk s) ≡ parts - 1 = usable_is (stays.Arriving from ship parts) e ∙ (λ j. min (limit j) (told j - 1)) ∙ omega (arith, most, least) in
              record {
                unused = no_free;
                below = λ some. (let lt = whole_count (parts - 1) count i few some in omega (arith, lt, all));
                root = λ root.
                    let two = rooted (stays.Arriving from ship parts) e root in
                    let many : 2 ≤ parts = (let le = leb-true 2 (number_at 4 88 (header_page disk s)) two.1 in omega (arith, le, told)) in
                    let first = arrives.first many in
                    let below : 0 < length holding.fileset.anodes = omega (arith, count, many) in (
                      ap (λ k. (anode_at (slots s) (k + 1)).unique) two.0 ∙ sym (unique_there 0 below (omega arith)) ∙ first.0,
                      ap (λ k. option_map_or (λ object. is_dir object.content) (anode_at (slots s) (k + 1)).object false) two.0
                          ∙ ap (λ (o : Option Object). option_map_or (λ object. is_dir object.content) o false) (sym (object_there 0 below (omega arith)) ∙ first.1.1) ∙ first.1.2,
                    );
                within = leads_right i few arrives.within (λ some. (let lt = whole_count (parts - 1) count i few some in omega (arith, lt, count)));
              }
          by (stays.Gone to) e right =
              let none : length holding.fileset.anodes ≡ 0 = ap length right.0 in
              record {
                unused = no_free;
                below = λ some. absurd (let lt = whole_count 0 none i few some in omega (arith, lt));
                root = λ root. absurd (false≢true (rooted (stays.Gone to) e root).1);
                within = leads_right i few (λ at name entry is. absurd (no_entry at name entry (ap (λ (anodes : List Anode). entry_at anodes at name) (sym right.0) ∙ is))) (λ some. absurd (let lt = whole_count 0 none i few some in omega (arith, lt)));
              }
            where
              no_entry : (at : ℕ) (name : List ℕ) (entry : DirEntry) → entry_at [] at name ≡ Some entry → ⊥
              no_entry at name entry is = by_zero (at == 0) is
                where
                  by_zero : (b : Bool) → option_and_then (λ (o : Object). entry_in o.content name) (if b then None else None) ≡ Some entry → ⊥
                  by_zero true e = cc
                  by_zero false e = cc

      place_right : (i : ℕ) → i < 64 → FitsPlace disk s i (anode_at (slots s) (i + 1))
      place_right i few = place_by holding.stay refl stored.stay i few

  -- no slot before one has the like
  first_right : (s : ℕ) (low : s < 16) (holding : Holding) → held_at state.slots s ≡ Some holding → is_first disk s ≡ true
  unfolding header_of
  first_right s low holding is = each_all (λ earlier. not (is_taken_slot (state_at disk earlier)) || not (are_alike disk earlier s)) s (λ t before. by t before (held_at state.slots t) refl (says.slot t (omega (arith, before, low))))
    where
      mine : SaysHolding holding (slots s) (page_of disk (2 + 66 * s)) (page_of disk (3 + 66 * s))
      mine = subst (λ (o : Option Holding). SaysSlot o (slots s) (page_of disk (2 + 66 * s)) (page_of disk (3 + 66 * s))) is (says.slot s low)

      by : (t : ℕ) → t < s → (found : Option Holding) → held_at state.slots t ≡ found → SaysSlot found (slots t) (page_of disk (2 + 66 * t)) (page_of disk (3 + 66 * t)) → (not (is_taken_slot (state_at disk t)) || not (are_alike disk t s)) ≡ true
      by t before None none nothing = (let e = free_state t (omega (arith, before, low)) none nothing in λ i. not (is_taken_slot (e i)) || not (are_alike disk t s))
      by t before (Some other) there slot =
          let a = header_is t (omega (arith, before, low)) other there slot in
          let b = header_is s low holding is mine in
          let two = storable.apart t s other holding (λ e. absurd (omega (arith, e, before))) there is in
          let ids : (id_of (header_page disk t) == id_of (header_page disk s)) ≡ false = (λ i. (a i).id.0 == (b i).id.0) ∙ ne_eqb other.fileset.id.0 holding.fileset.id.0 (λ e. two.ids (λ i. record { 0 = e i })) in
          let names : same_name (name_at 12 (header_page disk t)) (name_at 12 (header_page disk s)) ≡ false = (λ i. same_name (a i).name (b i).name) ∙ two.names in
          let leaving : (is_leaving_slot (state_at disk t) && is_leaving_slot (state_at disk s)) ≡ false = (λ i. is_leaving_slot (a i).state && is_leaving_slot (b i).state) ∙ (λ i. leaving_same other.stay i && leaving_same holding.stay i) ∙ not_both (is_leaving other.stay) (is_leaving holding.stay) two.leaving in
          let alike : are_alike disk t s ≡ false = (λ i. ids i || names i || leaving i) in
          either_right (not (is_taken_slot (state_at disk t))) (λ i. not (alike i))
        where
          not_both : (x y : Bool) → (x ≡ false) ⊎ (y ≡ false) → (x && y) ≡ false
          not_both true y (inl e) = absurd (false≢true (sym e))
          not_both true y (inr e) = e
          not_both false y either = refl

          either_right : (x : Bool) {y : Bool} → y ≡ true → (x || y) ≡ true
          either_right true e = refl
          either_right false e = e

  -- a slot is right
  record IsRight (s : ℕ) : Type 0 where
    pub header_right : is_slot_header disk s ≡ true
    pub numbers_right_too : is_slot_numbers disk s ≡ true
    pub anodes : joined (anode_faults disk s) 64 ≡ []
    pub reach : reach_faults disk s ≡ []

  no_reach : (s : ℕ) → is_whole (state_at disk s) ≡ false → reach_faults disk s ≡ []
  unfolding reach_faults
  no_reach s off = cond-false (is_whole (state_at disk s)) _ [] off

  slot_right : (s : ℕ) → s < 16 → IsRight s
  unfolding is_slot_header
  slot_right s low = by (held_at state.slots s) refl (says.slot s low)
    where
      by : (found : Option Holding) → held_at state.slots s ≡ found → SaysSlot found (slots s) (page_of disk (2 + 66 * s)) (page_of disk (3 + 66 * s)) → IsRight s
      by None none nothing = record {
        header_right = free_header s low none nothing;
        numbers_right_too = free_numbers s low none nothing;
        anodes = anodes_are_right disk slots keeps s low (λ i few. free_place s low none nothing i few);
        reach = no_reach s (λ j. is_whole (free_state s low none nothing j));
      }
      by (Some holding) is slot = record {
        header_right = header_good;
        numbers_right_too = numbers_sound s low holding is slot;
        anodes = anodes_good;
        reach = reached holding.stay refl (stored s low holding is slot).stay;
      }
        where
          header_good : is_slot_header disk s ≡ true
          header_good = cond-false (is_slot_free disk s) _ _ (used s low holding is slot) ∙ and_from (is_header disk.server (server_page disk) (header_page disk s)) (is_first disk s) (header_sound s low holding is slot) (first_right s low holding is)

          anodes_good : joined (anode_faults disk s) 64 ≡ []
          anodes_good = anodes_are_right disk slots keeps s low (λ i few. place_right s low holding is slot i few)

          off : (stay : Stay) → holding.stay ≡ stay → is_whole (stay_said stay).state ≡ false → reach_faults disk s ≡ []
          off stay e no_whole = no_reach s ((λ j. is_whole (state_is s low holding is slot j)) ∙ ap (λ t. is_whole (stay_said t).state) e ∙ no_whole)

          tree : (stay : Stay) → holding.stay ≡ stay → IsWellFormed holding.fileset → is_whole (stay_said stay).state ≡ true → reach_faults disk s ≡ []
          tree stay e formed whole = formed_is_reached disk s header_good anodes_good (subst IsWellFormed (sym (read.whole_is disk state slots storable keeps says server s low holding is slot ((λ j. is_whole (state_is s low holding is slot j)) ∙ ap (λ t. is_whole (stay_said t).state) e ∙ whole))) formed)

          reached : (stay : Stay) → holding.stay ≡ stay → StaysRight state holding.fileset stay → reach_faults disk s ≡ []
          reached stays.Writable e right = tree stays.Writable e right.0 refl
          reached stays.Clone e right = tree stays.Clone e right.0 refl
          reached (stays.Leaving to ship) e right = tree (stays.Leaving to ship) e right.0 refl
          reached (stays.Arriving from ship parts) e right = off (stays.Arriving from ship parts) e refl
          reached (stays.Gone to) e right = off (stays.Gone to) e refl

  -- promises
  object_promised : (s i : ℕ) → s < 16 → i < 64 → object_promise (anode_page disk s i) ≡ anode_blocks (anode_at (slots s) (i + 1))
  object_promised s i low few = by (anode_at (slots s) (i + 1)).unique (anode_at (slots s) (i + 1)).object ((keeps.each s low).each (i + 1) (omega arith) (omega (arith, few))) kept
    where
      kept : kept_at disk.image (node_at disk s i) ≡ kept_of (anode_at (slots s) (i + 1))
      kept = (let z : i ≡ i + 1 - 1 = omega arith in λ j. kept_at disk.image (node_at disk s (z j))) ∙ kept_is disk slots keeps s (i + 1) low (omega arith) (omega (arith, few))

      by_content : (unique : ℕ) (owner group : List ℕ) (content : Content) → FitsContent content → kept_at disk.image (node_at disk s i) ≡ object_kept unique (record { owner = owner; group = group; content = content })
          → object_promise (anode_page disk s i) ≡ blocks_of content
      by_content unique owner group (Dir entries lists) fits is =
          let kind : byte_at (anode_page disk s i) 0 ≡ 1 = (λ j. (is j).kind) in
          (λ j. if kind j == 1 then 9 else if kind j == 2 then 4 + (bytes_in (anode_page disk s i) + 1023) / 1024 else 0)
      by_content unique owner group (File list written unsaved len) fits is =
          let kind : byte_at (anode_page disk s i) 0 ≡ 2 = (λ j. (is j).kind) in
          let size : number_at 4 8 (anode_page disk s i) ≡ length written = (λ j. (is j).length) in
          let small = fits.0 in
          let no_length : len ≡ None = fits.2 in
          let bytes : bytes_in (anode_page disk s i) ≡ length written = (λ j. min (if kind j == 1 then 72 * size j else size j) 65536) ∙ omega (arith, small) in
          (λ j. if kind j == 1 then 9 else if kind j == 2 then 4 + (bytes j + 1023) / 1024 else 0)
          ∙ (λ j. blocks_of (File list written unsaved (sym no_length j)))

      by : (unique : ℕ) (o : Option Object) → IfSome o FitsObject → kept_at disk.image (node_at disk s i) ≡ option_map_or (object_kept unique) o (record no_anode { unique = unique })
          → object_promise (anode_page disk s i) ≡ option_map_or (λ object. blocks_of object.content) o 0
      by unique None fits is =
          let kind : byte_at (anode_page disk s i) 0 ≡ 0 = (λ j. (is j).kind) in
          (λ j. if kind j == 1 then 9 else if kind j == 2 then 4 + (bytes_in (anode_page disk s i) + 1023) / 1024 else 0)
      by unique (Some object) fits is = by_content unique object.owner object.group object.content fits.content is

  promise_is : (s : ℕ) → s < 16 → promise_by (state_at disk s) disk s ≡ held_promise (held_at state.slots s)
  promise_is s low = by (held_at state.slots s) refl (says.slot s low)
    where
      by : (found : Option Holding) → held_at state.slots s ≡ found → SaysSlot found (slots s) (page_of disk (2 + 66 * s)) (page_of disk (3 + 66 * s)) → promise_by (state_at disk s) disk s ≡ held_promise (held_at state.slots s)
      by None none nothing = (λ j. promise_by (free_state s low none nothing j) disk s) ∙ (λ j. held_promise (sym none j))
      by (Some holding) is slot =
          (λ j. promise_by (state_is s low holding is slot j) disk s) ∙ by_stay holding.stay refl (stored s low holding is slot).stay ∙ (λ j. held_promise (sym is j))
        where
          limit : limit_promise (header_page disk s) ≡ new_promise holding.fileset.objects
          limit =
              let e = objects_is s low holding is slot in
              (λ j. if is_limit (e j) then new_promise (e j) else 0) ∙ cond-true (is_limit holding.fileset.objects) (new_promise holding.fileset.objects) 0 (limit_right s low holding is slot)

          -- what a clone holds
          count : length holding.fileset.anodes ≡ holding.fileset.objects → length holding.fileset.anodes ≤ 64
          count e = let most = (in_limits s low holding is slot).most in omega (arith, e, most)

          cloned : length holding.fileset.anodes ≡ holding.fileset.objects → total (λ i. object_promise (anode_page disk s i)) 64 ≡ clone_promise holding.fileset
          cloned e =
              let n : ℕ = length holding.fileset.anodes in
              let few = count e in
              let z : n + (64 - n) ≡ 64 = omega (arith, few) in
              let rest = total_rest (λ i. object_promise (anode_page disk s i)) n (64 - n) (λ k lt. object_promised s (n + k) low (omega (arith, lt, few)) ∙ no_blocks (anode_at (slots s) (n + k + 1)).object (slot.anodes_are.rest (n + k + 1) (omega arith) (omega (arith, lt, few)))) in
              let same = total_same (λ i. object_promise (anode_page disk s i)) (λ i. anode_blocks (anode_at (slots s) (i + 1))) n (λ i lt. object_promised s i low (omega (arith, lt, few))) in
              let listed_anodes : listed (λ i. anode_at (slots s) (i + 1)) n ≡ holding.fileset.anodes = listed_is (λ i. anode_at (slots s) (i + 1)) holding.fileset.anodes n unused_anode refl
              (λ k lt. some_same (sym (front_at s low holding is slot k lt (omega (arith, lt, few))) ∙ slice_get-get_or holding.fileset.anodes k unused_anode lt)) in
              (λ j. total (λ i. object_promise (anode_page disk s i)) (sym z j)) ∙ rest ∙ same ∙ sym (sum_listed anode_blocks (λ i. anode_at (slots s) (i + 1)) n) ∙ (λ j. sum_by anode_blocks (listed_anodes j))
            where
              no_blocks : (o : Option Object) → is_none o ≡ true → option_map_or (λ object. blocks_of object.content) o 0 ≡ 0
              no_blocks None none = refl
              no_blocks (Some o) none = absurd (false≢true none)

              some_same : {X : Type 0} {a b : X} → Some a ≡ Some b → a ≡ b
              some_same e = cc

          by_stay : (stay : Stay) → holding.stay ≡ stay → StaysRight state holding.fileset stay → promise_by (stay_said holding.stay).state disk s ≡ held_promise (Some holding)
          by_stay stays.Writable e right = ap (λ t. promise_by (stay_said t).state disk s) e ∙ limit ∙ sym (λ j. if is_gone (e j) then 0 else if right.1 j then clone_promise holding.fileset else new_promise holding.fileset.objects)
          by_stay stays.Clone e right = ap (λ t. promise_by (stay_said t).state disk s) e ∙ cloned right.0.count ∙ sym (λ j. if is_gone (e j) then 0 else if right.1 j then clone_promise holding.fileset else new_promise holding.fileset.objects)
          by_stay (stays.Leaving to ship) e right = ap (λ t. promise_by (stay_said t).state disk s) e ∙ limit ∙ sym (λ j. if is_gone (e j) then 0 else if right.1 j then clone_promise holding.fileset else new_promise holding.fileset.objects)
          by_stay (stays.Arriving from ship parts) e right = ap (λ t. promise_by (stay_said t).state disk s) e ∙ limit ∙ sym (λ j. if is_gone (e j) then 0 else if right.1 j then clone_promise holding.fileset else new_promise holding.fileset.objects)
          by_stay (stays.Gone to) e right = ap (λ t. promise_by (stay_said t).state disk s) e ∙ sym (λ j. if is_gone (e j) then 0 else promise holding.fileset)

  promises_right : nat_le (promises disk) (capacity_of disk) ≡ true
  promises_right =
      let size = storable.limits.table in
      let all = total_same (λ s. promise_by (state_at disk s) disk s) (λ s. held_promise (get_or state.slots s None)) 16
      (λ s low. promise_is s low ∙ ap (λ (o : Option (Option Holding)). held_promise (option_and_then (λ one. one) o)) (slice_get-get_or state.slots s None (omega (arith, size, low)))) in
      let sum = sum_listed held_promise (λ s. get_or state.slots s None) 16 in
      let slots_listed : listed (λ s. get_or state.slots s None) 16 ≡ state.slots = listed_is (λ s. get_or state.slots s None) state.slots 16 None size (λ k lt. refl) in
      let same : sum_by held_promise (listed (λ s. get_or state.slots s None) 16) ≡ promised state.slots = (λ j. sum_by held_promise (slots_listed j)) in
      let room = storable.room in
      le-leb (promises disk) (capacity_of disk) (omega (arith, all, sum, same, room, blocks))

  pub clean : faults_in disk ≡ []
  unfolding faults_in slot_faults
  clean =
      let each_count = counts_are_right disk slots keeps (λ s low. (slot_right s low).header_right) (λ s low. (slot_right s low).anodes) in
      let one = no_fault (is_server_page (server_page disk)) (page_start 0) rules.ServerPage server_right in
      let two = no_fault (is_numbers_page (page_of disk 1)) (page_start 1) rules.CallNumbers numbers_right in
      let three = nothing_joined (slot_faults disk) 16 (λ s low.
      (λ j. (no_fault (is_slot_header disk s) (page_start (header_number s)) rules.SlotHeader (slot_right s low).header_right j
      ++ no_fault (is_slot_numbers disk s) (page_start (header_number s + 1)) rules.CallNumbers (slot_right s low).numbers_right_too j)
      ++ (slot_right s low).anodes j)) in
      let four = nothing_joined (reach_faults disk) 16 (λ s low. (slot_right s low).reach) in
      let five = nothing_joined (count_fault disk) ((disk.blocks + 255) / 256) (λ p below. no_fault (is_count_page disk p) (page_start (1058 + p)) rules.Count (each_count p below)) in
      let six = no_fault (nat_le (promises disk) (capacity_of disk)) 0 rules.Promises promises_right in
      λ j. ((((one j ++ two j) ++ three j) ++ four j) ++ five j) ++ six j

pub record_has_no_faults : RecordHasNoFaults
record_has_no_faults disk state slots storable keeps says server blocks = clean disk state slots storable keeps says server blocks
