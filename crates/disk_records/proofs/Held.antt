-- The anodes of a disk without faults are held as its record says.
use Rattle.std.proofs.Common.{◌≡◌, ◌<◌, ◌≤◌, ℕ, zero, suc, ◌+◌, ◌-◌, ◌*◌, List, [], ◌∷◌, ◌++◌, length, take, replicate, refl, sym, subst, ◌∙◌, ap, arith, inl, inr, ◌⊎◌}
use Rattle.std.specs.Prelude.{Bool, true, false, ◌==◌, ◌&&◌, ◌||◌, not, nat_le, nat_lt, if◌then◌else◌, Option, Some, None, is_none, unwrap_or}
use Rattle.std.specs.Option.{option_and_then}
use Rattle.std.proofs.lemmas.Bool.{cases_Bool, and_parts, and_from, cond-true, cond-false, false≢true, ltb-true, leb-true, leb-false, le-leb}
use Rattle.std.proofs.lemmas.List.{get_or-replicate}
use Rattle.base_types.specs.Image.{byte_at}
use Rattle.tree_filesets.specs.Founding.{unused_anode}
use Rattle.store_state.specs.State.{held_at}
use Rattle.store_state.specs.declared.state.Holding.{Holding}
use Rattle.disk_layout.specs.Numbers.{number_at}
use Rattle.disk_pages.specs.Anode.{is_object_page}
use Rattle.disk_pages.specs.Header.{header_of, is_header, is_limit, is_taken_slot}
use Rattle.disk_pages.specs.Server.{server_of}
use Rattle.disk_pages.specs.Words.{are_zero}
use Rattle.disk_pages.specs.declared.header.SlotHeader.{SlotHeader}
use Rattle.disk_pages.specs.declared.header.SlotState.{SlotState}
use Rattle.disk_pages.specs.declared.header.SlotState.TheVariants.{Free, Writable, Clone, Leaving, Arriving, Gone, Unknown}
use Rattle.disk_pages.specs.Sound.{are_sound_moves}
use Rattle.disk_pages.proofs.Zeros.{zero_in}
use Rattle.disk_image.specs.Aggregate.{Aggregate, server_page, header_page, numbers_page, anode_page, page_of, header_number}
use Rattle.disk_image.specs.Anodes.{is_root_place, is_root_page, is_slot_anode}
use Rattle.disk_image.specs.Faults.{faults_in}
use Rattle.disk_image.specs.Image.{anode_of, fileset_of, image_in, slot_image, slots_of}
use Rattle.disk_image.specs.Joined.{joined, listed}
use Rattle.disk_image.specs.Slots.{is_first, is_slot_free, is_slot_header, is_slot_numbers, limit_of, state_at, usable}
use Rattle.disk_objects.specs.Objects.{anode_at}
use Rattle.disk_image_laws.proofs.Clean.{IsRightSlot, slot_right, anode_right}
use Rattle.disk_image_laws.proofs.Finding.{get_listed}
use Rattle.disk_image_laws.proofs.Counted.{number_none}
use Rattle.disk_image_laws.proofs.Parts.{listed_is}
use Rattle.disk_image_laws.specs.ObjectLaws.{anodes_of}
use Rattle.disk_records.specs.Record.{anodes_held, held_in, holding_of, record_of}
use Rattle.disk_records.specs.Stored.{AreHeld, SaysNothing, SaysSlot}
use Rattle.disk_records.specs.MountLaws.{FaultlessSays}
use Rattle.disk_records.proofs.Mounted.{held_of}
use Rattle.disk_records.proofs.Parts.{all_right, calls_right, length_taken, listed_length}
use Rattle.disk_records.proofs.MountSlots.{limit_part, moves_part}
use Rattle.disk_records.proofs.Told.{PagesSay, pages_say}

-- the first of a list by number
take_front : {X : Type 0} (m : ℕ) (xs ys : List X) → m ≤ length xs → take m (xs ++ ys) ≡ take m xs
take_front zero xs ys h = refl
take_front (suc m) [] ys h = absurd (omega (arith, h))
take_front (suc m) (x ∷ xs) ys h = ap (λ zs. x ∷ zs) (take_front m xs ys (omega (arith, h)))

take_whole : {X : Type 0} (m : ℕ) (xs : List X) → length xs ≤ m → take m xs ≡ xs
take_whole zero [] h = refl
take_whole zero (x ∷ xs) h = absurd (omega (arith, h))
take_whole (suc m) [] h = refl
take_whole (suc m) (x ∷ xs) h = ap (λ zs. x ∷ zs) (take_whole m xs (omega (arith, h)))

take_listed : {X : Type 0} (value : ℕ → X) (m n : ℕ) → m ≤ n → take m (listed value n) ≡ listed value m
unfolding joined
take_listed value m zero le = (let z : m ≡ 0 = omega (arith, le) in take_whole m [] (omega arith) ∙ ap (listed value) (sym z))
take_listed value m (suc n) le = by (cases_Bool (nat_le m n)) (λ small. take_listed value m n small)
  where
    by : (nat_le m n ≡ true) ⊎ (nat_le m n ≡ false) → (m ≤ n → take m (listed value n) ≡ listed value m) → take m (listed value n ++ value n ∷ []) ≡ listed value m
    by (inl small) rest =
        let below = leb-true m n small in
        take_front m (listed value n) (value n ∷ []) (let long = listed_length value n in omega (arith, below, long)) ∙ rest below
    by (inr large) rest =
        let above : n < m = not_below large in
        let same : suc n ≡ m = omega (arith, above, le) in
        take_whole m (listed value (suc n)) (let long = listed_length value (suc n) in omega (arith, long, same)) ∙ ap (listed value) same
      where
        not_below : nat_le m n ≡ false → n < m
        not_below e = leb-false m n e

module _ (disk : Aggregate) (clean : faults_in disk ≡ []) (format : byte_at (server_page disk) 29 ≡ 2) (s : ℕ) (low : s < 16) where
  right : IsRightSlot disk s
  right = slot_right disk clean s low

  -- an anode that may not be used is free
  unused_free : (i : ℕ) → i < 64 → usable (state_at disk s) (header_page disk s) ≤ i → (byte_at (anode_page disk s i) 0 == 0) ≡ true
  unfolding is_slot_anode
  unused_free i few past = elim (cases_Bool (byte_at (anode_page disk s i) 0 == 0)) [
    | inl free ↦ free
    | inr kind ↦
        let all = sym (cond-false (byte_at (anode_page disk s i) 0 == 0) _ _ kind) ∙ anode_right disk s right i few in
        let two = and_parts (is_object_page disk.blocks (anode_page disk s i) && nat_lt i (usable (state_at disk s) (header_page disk s))) (not (is_root_place disk s i) || is_root_page (anode_page disk s i)) all in
        let one = and_parts (is_object_page disk.blocks (anode_page disk s i)) (nat_lt i (usable (state_at disk s) (header_page disk s))) two.0 in
        let lt = ltb-true i (usable (state_at disk s) (header_page disk s)) one.1 in
        absurd (omega (arith, lt, past))
  ]

  free_object : (i : ℕ) → (byte_at (anode_page disk s i) 0 == 0) ≡ true → is_none (anode_of disk s i).object ≡ true
  free_object i free = ap is_none (cond-true (byte_at (anode_page disk s i) 0 == 0) None _ free)

  rest_none : (used : ℕ) → usable (state_at disk s) (header_page disk s) ≤ used → (anode : ℕ) → used < anode → anode ≤ 64 → is_none (anode_at (anodes_of disk s) anode).object ≡ true
  rest_none used most anode past few =
      let there = get_listed (anode_of disk s) 64 (anode - 1) (omega (arith, past, few)) in
      ap (λ o. is_none (unwrap_or o unused_anode).object) there
      ∙ free_object (anode - 1) (unused_free (anode - 1) (omega (arith, past, few)) (omega (arith, most, past)))

  -- a slot with a fileset
  module _ (taken : is_taken_slot (state_at disk s) ≡ true) where
    abbrev said : SlotHeader
    said = header_of (server_page disk) (header_page disk s)

    limit_is : limit_of (header_page disk s) ≡ number_at 4 8 (header_page disk s)
    unfolding header_of
    limit_is =
        let bounds = limit_part disk clean format s low taken in
        cond-true (is_limit (number_at 4 8 (header_page disk s))) _ _
        (and_from (nat_le 1 (number_at 4 8 (header_page disk s))) (nat_le (number_at 4 8 (header_page disk s)) 64) (le-leb 1 _ bounds.0) (le-leb (number_at 4 8 (header_page disk s)) 64 bounds.1))

    whole_held : (few : number_at 4 8 (header_page disk s) ≤ 64)
        → (take (length (listed (anode_of disk s) (number_at 4 8 (header_page disk s)))) (anodes_of disk s) ≡ listed (anode_of disk s) (number_at 4 8 (header_page disk s)))
        × (limit_of (header_page disk s) ≤ length (listed (anode_of disk s) (number_at 4 8 (header_page disk s))))
    whole_held few =
        let long = listed_length (anode_of disk s) (number_at 4 8 (header_page disk s)) in
        let limit = limit_is in (
          ap (λ n. take n (anodes_of disk s)) long ∙ take_listed (anode_of disk s) (number_at 4 8 (header_page disk s)) 64 few,
          omega (arith, long, limit),
        )

    front_held : (state : SlotState) → is_taken_slot state ≡ true → are_sound_moves disk.server (server_of (server_page disk)).ship said state ≡ true
        → (take (length (anodes_held state said (fileset_of disk s).anodes)) (anodes_of disk s) ≡ anodes_held state said (fileset_of disk s).anodes)
        × (usable state (header_page disk s) ≤ length (anodes_held state said (fileset_of disk s).anodes))
    unfolding header_of
    front_held Free t moves = absurd (false≢true t)
    front_held Unknown t moves = absurd (false≢true t)
    front_held Writable t moves = whole_held (limit_part disk clean format s low taken).1
    front_held Clone t moves = whole_held (limit_part disk clean format s low taken).1
    front_held Leaving t moves = whole_held (limit_part disk clean format s low taken).1
    front_held Gone t moves = (refl, omega arith)
    front_held Arriving t moves =
        let few = (limit_part disk clean format s low taken).1 in
        let most = leb-true said.parts said.objects (and_parts _ (nat_le said.parts said.objects) moves).1 in
        let n : ℕ = number_at 4 8 (header_page disk s) in
        let k : ℕ = number_at 4 88 (header_page disk s) - 1 in
        let long = length_taken (listed (anode_of disk s) n) k (let all = listed_length (anode_of disk s) n in omega (arith, all, most)) in
        let limit = limit_is in (
          ap (λ m. take m (anodes_of disk s)) long ∙ take_listed (anode_of disk s) k 64 (omega (arith, few, most)) ∙ sym (take_listed (anode_of disk s) k n (omega (arith, most))),
          omega (arith, long, limit, most),
        )

    pub held : AreHeld (holding_of (slot_image disk s)) (anodes_of disk s)
    unfolding header_of
    held =
        let two = front_held said.state taken (moves_part disk clean format s low taken) in
        record { front = two.0; rest = λ anode past few. rest_none (length (anodes_held said.state said (fileset_of disk s).anodes)) two.1 anode past few }

  -- a free slot
  module _ (free : is_taken_slot (state_at disk s) ≡ false) where
    is_free : is_slot_free disk s ≡ true
    unfolding is_slot_header is_header
    is_free = elim (cases_Bool (is_slot_free disk s)) [
      | inl is ↦ is
      | inr used ↦
          let both = sym (cond-false (is_slot_free disk s) _ _ used) ∙ right.header in
          let header = (and_parts (is_header disk.server (server_page disk) (header_page disk s)) (is_first disk s) both).0 in
          let first = (and_parts (is_taken_slot (state_at disk s)) _ (and_parts _ _ (and_parts _ _ (and_parts _ _ (and_parts _ _ header).0).0).0).0).0 in
          absurd (false≢true (sym free ∙ first))
    ]

    state_is : state_at disk s ≡ Free
    state_is = cond-true (byte_at (header_page disk s) 0 == 0) Free _ is_free

    header_zero : are_zero 0 512 (header_page disk s) ≡ true
    unfolding is_slot_header
    header_zero = sym (cond-true (is_slot_free disk s) _ _ is_free) ∙ right.header

    numbers_zero : are_zero 0 512 (numbers_page disk s) ≡ true
    unfolding is_slot_numbers
    numbers_zero = sym (cond-true (is_slot_free disk s) _ _ is_free) ∙ calls_right disk s (all_right disk clean).slots low

    page_zero : (i : ℕ) → i < 64 → are_zero 0 512 (anode_page disk s i) ≡ true
    unfolding is_slot_anode
    page_zero i few =
        let none : usable (state_at disk s) (header_page disk s) ≤ i = (let e : usable (state_at disk s) (header_page disk s) ≡ 0 = ap (λ state. usable state (header_page disk s)) state_is in omega (arith, e)) in
        let all = sym (cond-true (byte_at (anode_page disk s i) 0 == 0) _ _ (unused_free i few none)) ∙ anode_right disk s right i few in
        sym (cond-true (is_slot_free disk s) _ _ is_free) ∙ (and_parts _ (not (is_root_place disk s i)) all).0

    unused : (i : ℕ) → i < 64 → anode_of disk s i ≡ unused_anode
    unused i few =
        let zeros : (k : ℕ) → k < 4 → byte_at (anode_page disk s i) (4 + k) ≡ 0 = (λ k lt. zero_in 0 512 (anode_page disk s i) (page_zero i few) (4 + k) (omega arith) (omega (arith, lt))) in
        let unique = number_none 4 (anode_page disk s i) zeros in
        let kind : byte_at (anode_page disk s i) 0 ≡ 0 = zero_in 0 512 (anode_page disk s i) (page_zero i few) 0 (omega arith) (omega arith) in
        let object : (anode_of disk s i).object ≡ None = cond-true (byte_at (anode_page disk s i) 0 == 0) None _ (ap (λ b. b == 0) kind) in
        λ j. record { unique = unique j; object = object j }

    pub nothing : SaysNothing (anodes_of disk s) (header_page disk s) (numbers_page disk s)
    nothing = record {
      header_zero = header_zero;
      numbers_zero = numbers_zero;
      anodes_unused = listed_is (anode_of disk s) (replicate 64 unused_anode) 64 unused_anode refl (λ k lt. unused k lt ∙ sym (get_or-replicate 64 k unused_anode unused_anode lt));
    }

-- all pages
pub faultless_says : FaultlessSays
faultless_says disk roster clean format = record { facts = say.facts; numbers = say.numbers; slot = slot }
  where
    say : PagesSay disk (record_of roster (image_in disk))
    say = pages_say disk roster clean format

    number_next : (s : ℕ) → header_number s + 1 ≡ 3 + 66 * s
    number_next s = omega arith

    slot : (s : ℕ) → s < 16 → SaysSlot (held_at (record_of roster (image_in disk)).slots s) (anodes_of disk s) (page_of disk (2 + 66 * s)) (page_of disk (3 + 66 * s))
    slot s low =
        subst (λ n. SaysSlot (held_at (record_of roster (image_in disk)).slots s) (anodes_of disk s) (header_page disk s) (page_of disk n)) (number_next s)
        (subst (λ o. SaysSlot o (anodes_of disk s) (header_page disk s) (numbers_page disk s)) (sym known) (by (is_taken_slot (state_at disk s)) refl))
      where
        known : held_at (record_of roster (image_in disk)).slots s ≡ (if is_taken_slot (state_at disk s) then Some (holding_of (slot_image disk s)) else None)
        known = ap (option_and_then (λ (one : Option Holding). one)) (get_listed (held_in (slots_of disk)) 16 s low) ∙ held_of disk roster clean format s low

        by : (b : Bool) → is_taken_slot (state_at disk s) ≡ b → SaysSlot (if b then Some (holding_of (slot_image disk s)) else None) (anodes_of disk s) (header_page disk s) (numbers_page disk s)
        by true taken =
            let one = say.slot s low taken in
            record { header_says = one.header_says; numbers_say = one.numbers_say; anodes_are = held disk clean format s low taken }
        by false free = nothing disk clean format s low free
