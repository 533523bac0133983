-- What is found, put together.
use Rattle.std.proofs.Common.{subst, ◌≡◌, ◌<◌, ◌≤◌, ℕ, zero, suc, ◌+◌, ◌-◌, ◌/◌, List, [], ◌∷◌, ◌++◌, length, get_or, set, replicate, inl, inr, refl, sym, ◌∙◌, ap, append_assoc, arith, ◌⊎◌}
use Rattle.std.specs.Prelude.{Bool, true, false, ◌||◌, ◌==◌, nat_lt, nat_le, slice_get, if◌then◌else◌}
use Rattle.std.proofs.lemmas.Bool.{cases_lt, and_left, and_right, and_from, and_parts, and_cases, or_right, cases_eq, ne_eqb, eq-eqb, ltb-true, ltb-false, leb-true, leb-false, or_parts, cond-true, cond-false, cond_both}
use Rattle.std.proofs.lemmas.Grind.{get_or-set_at}
use Rattle.std.proofs.lemmas.List.{get_or-replicate, get_or-set_other, append-nil, length-append, get_or_append_left, get_or-append_right}
use Rattle.disk_layout.specs.Places.{page_start}
use Rattle.base_types.specs.Image.{byte_at}
use Rattle.disk_pages.specs.Anode.{is_object, bytes_in}
use Rattle.disk_image.specs.Joined.{joined, listed, some_below, total}
use Rattle.disk_image.specs.Slots.{state_at}
use Rattle.disk_pages.specs.declared.header.SlotState.{SlotState}
use Rattle.disk_pages.specs.declared.header.SlotState.TheVariants.{Free, Writable, Clone, Leaving, Arriving, Gone, Unknown}
use Rattle.disk_image.specs.Aggregate.{Aggregate, header_number, anode_number, anode_page, names_block}
use Rattle.disk_image.specs.Slots.{is_slot_header, is_slot_numbers}
use Rattle.disk_image.specs.Anodes.{unless, is_slot_anode, block_faults, anode_faults, entries_in, is_readable, link_of, links_at}
use Rattle.disk_image.specs.Reach.{reach_faults}
use Rattle.disk_image.specs.Counts.{page_use, map_use, uses_at, uses_of, is_mapped, has_map, pointer_in, count_fault, promise_fault, promises, promise_by, capacity_of}
use Rattle.disk_image.specs.Faults.{slot_faults, faults_in}
use Rattle.disk_image.specs.declared.fault.Fault.{Fault}
use Rattle.disk_image.specs.declared.fault.Rule.TheVariants as rules
use Rattle.disk_image.specs.declared.found.Link.{Link}
use Rattle.disk_image.specs.declared.found.Use.{Use}
use Rattle.disk_image.proofs.Joined.{joined_more, pushed_none, pushed_more, some_more, some_none}
use Rattle.disk_judge.specs.Metadata.{over, plain}
use Rattle.disk_judge.specs.declared.metadata.Metadata.{Metadata}
use Rattle.disk_judge.specs.Reach.{AreFromAnodes}
use Rattle.disk_check.specs.Found.{AreMapped, LooksAt, LooksAtOne, LooksAtSlot, LooksAtSlots, HasFound, server_faults}
use Rattle.disk_check.specs.declared.found.Found.{Found}

pub looks_none : (disk : Aggregate) (slot : ℕ) (old : Found) → LooksAt disk slot 0 old old
looks_none disk slot old = record {
  faults = pushed_none (anode_faults disk slot) old.faults.items;
  links = pushed_none (links_at disk slot) old.links.items;
  uses = λ start. pushed_none (uses_at disk slot) old.uses.items;
  reach = refl;
  mapped = λ before. before;
}

pub looks_more : (disk : Aggregate) (slot n m : ℕ) (old mid new : Found) → m ≡ n + 1 → LooksAt disk slot n old mid → LooksAtOne disk slot n mid new → LooksAt disk slot m old new
looks_more disk slot n m old mid new is before one = record {
  faults = pushed_more (anode_faults disk slot) n m old.faults.items mid.faults.items new.faults.items is before.faults one.faults;
  links = pushed_more (links_at disk slot) n m old.links.items mid.links.items new.links.items is before.links one.links;
  uses = λ start. pushed_more (uses_at disk slot) n m old.uses.items mid.uses.items new.uses.items is (before.uses start) (one.uses (before.mapped start));
  reach = one.reach ∙ before.reach;
  mapped = λ start pointer some there. one.mapped (before.mapped start) pointer some there ∙ (λ j. is_mapped disk slot (sym is j) pointer);
}

module _ (disk : Aggregate) (slot : ℕ) where
  abbrev of_header : List Fault
  of_header = unless (is_slot_header disk slot) (page_start (header_number slot)) rules.SlotHeader

  abbrev of_numbers : List Fault
  of_numbers = unless (is_slot_numbers disk slot) (page_start (header_number slot + 1)) rules.CallNumbers

  pub slot_found : (old mid new : List Fault) → mid ≡ (old ++ of_header) ++ of_numbers → new ≡ mid ++ joined (anode_faults disk slot) 64 → new ≡ old ++ slot_faults disk slot
  unfolding slot_faults
  slot_found old mid new first rest =
      rest ∙ (λ i. first i ++ joined (anode_faults disk slot) 64) ∙ (λ i. append_assoc old of_header of_numbers i ++ joined (anode_faults disk slot) 64)
      ∙ append_assoc old (of_header ++ of_numbers) (joined (anode_faults disk slot) 64)

-- nothing is mapped before the first anode
pub mapped_none : (disk : Aggregate) (mapped : List Bool) → mapped ≡ replicate disk.blocks false → AreMapped disk 0 0 mapped
unfolding is_mapped
mapped_none disk mapped is pointer some there =
    ap (λ (l : List Bool). get_or l (pointer - 1) false) is ∙ get_or-replicate disk.blocks (pointer - 1) false false (omega arith)
    ∙ sym (λ j. some_none (λ before. some_below (has_map disk pointer before) 64) j || some_none (has_map disk pointer 0) j)

or_false : (b : Bool) → (b || false) ≡ b
or_false true = refl
or_false false = refl

or_assoc : (a b c : Bool) → ((a || b) || c) ≡ (a || (b || c))
or_assoc true b c = refl
or_assoc false b c = refl

module _ (disk : Aggregate) (slot : ℕ) where
  abbrev before : ℕ → ℕ → Bool
  before pointer n = some_below (λ k. some_below (has_map disk pointer k) 64) n

  pub mapped_next : (mapped : List Bool) → AreMapped disk slot 64 mapped → AreMapped disk (slot + 1) 0 mapped
  unfolding is_mapped
  mapped_next mapped are pointer some there =
      are pointer some there ∙ sym ((λ j. some_more (λ k. some_below (has_map disk pointer k) 64) slot (slot + 1) refl j || some_none (has_map disk pointer (slot + 1)) j) ∙ or_false (before pointer slot || some_below (has_map disk pointer slot) 64))

  mapped_more : (i pointer : ℕ) → is_mapped disk slot (i + 1) pointer ≡ (is_mapped disk slot i pointer || has_map disk pointer slot i)
  unfolding is_mapped
  mapped_more i pointer = (λ j. before pointer slot || some_more (has_map disk pointer slot) i (i + 1) refl j) ∙ sym (or_assoc (before pointer slot) (some_below (has_map disk pointer slot) i) (has_map disk pointer slot i))

  -- an anode that is no object, or has no indirect block
  pub mapped_same : (i : ℕ) (mapped : List Bool) → ((pointer : ℕ) → 1 ≤ pointer → pointer ≤ disk.blocks → has_map disk pointer slot i ≡ false) → AreMapped disk slot i mapped → AreMapped disk slot (i + 1) mapped
  mapped_same i mapped none are pointer some there =
      are pointer some there ∙ sym (mapped_more i pointer ∙ (λ j. is_mapped disk slot i pointer || none pointer some there j) ∙ or_false (is_mapped disk slot i pointer))

  pub no_object : (i pointer : ℕ) → is_object (anode_page disk slot i) ≡ false → has_map disk pointer slot i ≡ false
  no_object i pointer not_one = and_left (is_object (anode_page disk slot i)) (pointer_in disk slot i 15 == pointer) not_one

  pub no_map : (i pointer : ℕ) → 1 ≤ pointer → pointer ≤ disk.blocks → names_block disk (pointer_in disk slot i 15) ≡ false → has_map disk pointer slot i ≡ false
  no_map i pointer some there not_one =
      and_right (is_object (anode_page disk slot i)) (pointer_in disk slot i 15 == pointer) (ne_eqb (pointer_in disk slot i 15) pointer (λ e. by (and_cases (nat_lt 0 (pointer_in disk slot i 15)) (nat_le (pointer_in disk slot i 15) disk.blocks) not_one) e))
    where
      by : (nat_lt 0 (pointer_in disk slot i 15) ≡ false) ⊎ (nat_le (pointer_in disk slot i 15) disk.blocks ≡ false) → pointer_in disk slot i 15 ≡ pointer → ⊥
      by (inl zero_one) e = let a = ltb-false 0 (pointer_in disk slot i 15) zero_one in omega (arith, a, e)
      by (inr above) e = let a = leb-false (pointer_in disk slot i 15) disk.blocks above in omega (arith, a, e)

  -- one that has
  pub mapped_set : (i : ℕ) (mapped : List Bool) → length mapped ≡ disk.blocks → is_object (anode_page disk slot i) ≡ true → names_block disk (pointer_in disk slot i 15) ≡ true
      → AreMapped disk slot i mapped → AreMapped disk slot (i + 1) (set mapped (pointer_in disk slot i 15 - 1) true)
  mapped_set i mapped size object names are pointer some there = by (cases_eq pointer map)
    where
      map : ℕ
      map = pointer_in disk slot i 15

      bounds : (1 ≤ map) × (map ≤ disk.blocks)
      bounds = let parts = and_parts (nat_lt 0 map) (nat_le map disk.blocks) names in let a = ltb-true 0 map parts.0 in (omega (arith, a), leb-true map disk.blocks parts.1)

      by : (pointer ≡ map) ⊎ (pointer ≡ map → ⊥) → get_or (set mapped (map - 1) true) (pointer - 1) false ≡ is_mapped disk slot (i + 1) pointer
      by (inl e) =
          let at : pointer - 1 ≡ map - 1 = omega (arith, e) in
          let has : has_map disk pointer slot i ≡ true = and_from (is_object (anode_page disk slot i)) (map == pointer) object (eq-eqb map pointer (sym e)) in
          ap (λ k. get_or (set mapped (map - 1) true) k false) at ∙ get_or-set_at mapped (map - 1) (map - 1) true false refl (let b = bounds.1 in let c = bounds.0 in omega (arith, size, b, c))
          ∙ sym (mapped_more i pointer ∙ or_right (is_mapped disk slot i pointer) (has_map disk pointer slot i) has)
      by (inr apart) =
          let other : pointer - 1 ≡ map - 1 → ⊥ = λ e. apart (let c = bounds.0 in omega (arith, e, c, some)) in
          let has_not : has_map disk pointer slot i ≡ false = and_right (is_object (anode_page disk slot i)) (map == pointer) (ne_eqb map pointer (λ e. apart (sym e))) in
          get_or-set_other mapped (map - 1) (pointer - 1) true false other ∙ are pointer some there
          ∙ sym (mapped_more i pointer ∙ (λ j. is_mapped disk slot i pointer || has_not j) ∙ or_false (is_mapped disk slot i pointer))

pub slots_none : (disk : Aggregate) (old : Found) → LooksAtSlots disk 0 old old
slots_none disk old = record {
  faults = pushed_none (slot_faults disk) old.faults.items;
  uses = λ start. pushed_none (λ slot. joined (uses_at disk slot) 64) old.uses.items;
  reach = pushed_none (reach_faults disk) old.reach.items;
  mapped = λ start. start;
}

pub slots_more : (disk : Aggregate) (n m : ℕ) (old mid new : Found) → m ≡ n + 1 → LooksAtSlots disk n old mid → LooksAtSlot disk n mid new → LooksAtSlots disk m old new
slots_more disk n m old mid new is first one = record {
  faults = pushed_more (slot_faults disk) n m old.faults.items mid.faults.items new.faults.items is first.faults one.faults;
  uses = λ start. pushed_more (λ slot. joined (uses_at disk slot) 64) n m old.uses.items mid.uses.items new.uses.items is (first.uses start) (one.uses (first.mapped start));
  reach = pushed_more (reach_faults disk) n m old.reach.items mid.reach.items new.reach.items is first.reach one.reach;
  mapped = λ start pointer some there. one.mapped (first.mapped start) pointer some there ∙ (λ j. is_mapped disk (sym is j) 0 pointer);
}

-- one anode
module _ (disk : Aggregate) (slot i : ℕ) where
  abbrev of_page : Bool → List Fault
  of_page test = unless test (page_start (anode_number slot i)) rules.Anode

  abbrev of_blocks : List Fault
  of_blocks = if is_object (anode_page disk slot i) then block_faults disk slot i else []

  pub object_found : (test : Bool) (old mid new : List Fault) → test ≡ is_slot_anode disk slot i → is_object (anode_page disk slot i) ≡ true
      → mid ≡ old ++ of_page test → new ≡ mid ++ block_faults disk slot i → new ≡ old ++ anode_faults disk slot i
  unfolding anode_faults
  object_found test old mid new is object first rest =
      rest ∙ (λ j. first j ++ block_faults disk slot i) ∙ append_assoc old (of_page test) (block_faults disk slot i)
      ∙ (λ j. old ++ (of_page (is j) ++ sym (cond-true (is_object (anode_page disk slot i)) (block_faults disk slot i) [] object) j))

  pub alone_found : (test : Bool) (old new : List Fault) → test ≡ is_slot_anode disk slot i → is_object (anode_page disk slot i) ≡ false
      → new ≡ old ++ of_page test → new ≡ old ++ anode_faults disk slot i
  unfolding anode_faults
  alone_found test old new is not_one first =
      first ∙ (λ j. old ++ of_page (is j)) ∙ (λ j. old ++ sym (append-nil (of_page (is_slot_anode disk slot i))) j)
      ∙ (λ j. old ++ (of_page (is_slot_anode disk slot i) ++ sym (cond-false (is_object (anode_page disk slot i)) (block_faults disk slot i) [] not_one) j))

  pub no_links : is_object (anode_page disk slot i) ≡ false → links_at disk slot i ≡ []
  unfolding links_at joined
  no_links not_one =
      let kind : (byte_at (anode_page disk slot i) 0 == 1) ≡ false = (or_parts (byte_at (anode_page disk slot i) 0 == 1) (byte_at (anode_page disk slot i) 0 == 2) not_one).0 in
      let none : entries_in (anode_page disk slot i) ≡ 0 = cond-false (byte_at (anode_page disk slot i) 0 == 1) (bytes_in (anode_page disk slot i) / 72) 0 kind in
      (λ j. if is_readable disk slot i then listed (link_of disk slot i) (none j) else []) ∙ cond_both (is_readable disk slot i) [] [] (λ l. l ≡ []) (λ e. refl) (λ e. refl)

  pub no_uses : is_object (anode_page disk slot i) ≡ false → uses_at disk slot i ≡ []
  unfolding uses_at
  no_uses not_one = cond-false (is_object (anode_page disk slot i)) _ [] not_one

-- the pointers of an object, without those of an indirect block and with them
module _ (disk : Aggregate) (slot i : ℕ) (object : is_object (anode_page disk slot i) ≡ true) where
  abbrev in_page : List Use
  in_page = listed (page_use disk slot i) 16

  abbrev in_map : List Use
  in_map = listed (map_use disk slot i) 52

  abbrev is_there : Bool
  is_there = names_block disk (pointer_in disk slot i 15)

  pub uses_alone : (old new : List Use) → is_there ≡ false → new ≡ old ++ in_page → new ≡ old ++ uses_at disk slot i
  unfolding uses_at
  uses_alone old new not_there is =
      is ∙ (λ j. old ++ sym (append-nil in_page) j) ∙ (λ j. old ++ (in_page ++ sym (cond-false is_there in_map [] not_there) j))
      ∙ (λ j. old ++ sym (cond-true (is_object (anode_page disk slot i)) (in_page ++ (if is_there then in_map else [])) [] object) j)

  pub uses_mapped : (old mid new : List Use) → is_there ≡ true → mid ≡ old ++ in_page → new ≡ mid ++ in_map → new ≡ old ++ uses_at disk slot i
  unfolding uses_at
  uses_mapped old mid new there first rest =
      rest ∙ (λ j. first j ++ in_map) ∙ append_assoc old in_page in_map ∙ (λ j. old ++ (in_page ++ sym (cond-true is_there in_map [] there) j))
      ∙ (λ j. old ++ sym (cond-true (is_object (anode_page disk slot i)) (in_page ++ (if is_there then in_map else [])) [] object) j)

-- one link more
pub from_more : (links : List Link) (link : Link) → AreFromAnodes links → 1 ≤ link.from → link.from ≤ 64 → AreFromAnodes (links ++ link ∷ [])
from_more links link are some few k other lt = elim (cases_lt k (length links)) [
  | inl low ↦ subst (λ (l : Link). (1 ≤ l.from) × (l.from ≤ 64)) (sym (get_or_append_left links (link ∷ []) other k low)) (are k other low)
  | inr high ↦
      let size = length-append links (link ∷ []) in
      let e : k - length links ≡ 0 = omega (arith, size, lt, high) in
      subst (λ (l : Link). (1 ≤ l.from) × (l.from ≤ 64)) (sym (get_or-append_right links (link ∷ []) (length links) k other refl high ∙ ap (λ j. get_or (link ∷ []) j other) e)) (some, few)
]

pub from_none : (links : List Link) → links ≡ [] → AreFromAnodes links
from_none links none k other lt = absurd (let e = ap (λ (l : List Link). length l) none in omega (arith, e, lt))

-- the first of a list is the first of what it begins
pub first_of : {X : Type 0} (front rest : List X) → 0 < length front → slice_get front 0 ≡ slice_get (front ++ rest) 0
first_of [] rest some = absurd (omega arith)
first_of (x ∷ xs) rest some = refl

-- parts put together begin with the first of them
joined_begin : {X : Type 0} (part : ℕ → List X) (n k : ℕ) → (rest : List X) × (joined part (n + k) ≡ joined part n ++ rest)
joined_begin part n zero = ([], (let e : n + 0 ≡ n = omega arith in ap (joined part) e) ∙ sym (append-nil (joined part n)))
joined_begin part n (suc k) =
    let before = joined_begin part n k in (
      before.0 ++ part (n + k),
      joined_more part (n + k) (n + suc k) (omega arith) ∙ (λ j. before.1 j ++ part (n + k)) ∙ append_assoc (joined part n) before.0 (part (n + k)),
    )

module _ (disk : Aggregate) (stops : Bool) (found : Found) (has : HasFound disk stops found) where
  abbrev slots_in : ℕ → List Fault
  slots_in n = server_faults disk ++ joined (slot_faults disk) n

  -- where a fault was found, the first is the first of all
  pub first_is : 0 < length found.faults.items → slice_get found.faults.items 0 ≡ slice_get (faults_in disk) 0
  unfolding faults_in
  first_is some =
      let more = joined_begin (slot_faults disk) has.slots (16 - has.slots) in
      let e : has.slots + (16 - has.slots) ≡ 16 = let a = has.few in omega (arith, a) in
      let whole : joined (slot_faults disk) 16 ≡ joined (slot_faults disk) has.slots ++ more.0 = ap (joined (slot_faults disk)) (sym e) ∙ more.1 in
      let front : slots_in 16 ≡ found.faults.items ++ more.0 =
      (λ j. server_faults disk ++ whole j) ∙ sym (append_assoc (server_faults disk) (joined (slot_faults disk) has.slots) more.0) ∙ (λ j. sym has.faults j ++ more.0) in
      let reach = joined (reach_faults disk) 16 in
      let counts = joined (count_fault disk) ((disk.blocks + 255) / 256) in
      let rest = ((more.0 ++ reach) ++ counts) ++ promise_fault disk in
      let all : faults_in disk ≡ found.faults.items ++ rest =
      (λ j. ((front j ++ reach) ++ counts) ++ promise_fault disk)
      ∙ (λ j. (append_assoc found.faults.items more.0 reach j ++ counts) ++ promise_fault disk)
      ∙ (λ j. append_assoc found.faults.items (more.0 ++ reach) counts j ++ promise_fault disk)
      ∙ append_assoc found.faults.items ((more.0 ++ reach) ++ counts) (promise_fault disk) in
      first_of found.faults.items rest some ∙ ap (λ (l : List Fault). slice_get l 0) (sym all)

  -- where all slots were looked at, these are all pointers, and with counts and promises all faults
  pub all_uses : has.slots ≡ 16 → found.uses.items ≡ uses_of disk
  all_uses e = has.uses ∙ ap (joined (λ slot. joined (uses_at disk slot) 64)) e

  pub all_faults : has.slots ≡ 16 → (faults : List Fault)
      → faults ≡ ((found.faults.items ++ found.reach.items) ++ joined (count_fault disk) ((disk.blocks + 255) / 256)) ++ promise_fault disk → faults ≡ faults_in disk
  unfolding faults_in
  all_faults e faults is =
      let counts = joined (count_fault disk) ((disk.blocks + 255) / 256) in
      is ∙ (λ j. ((((has.faults ∙ ap slots_in e) j) ++ (has.reach ∙ ap (joined (reach_faults disk)) e) j) ++ counts) ++ promise_fault disk)

-- promises are judged by pages alone
promise_same : (metadata : Metadata) (image : List ℕ) (slot : ℕ) (state : SlotState) → promise_by state (plain metadata) slot ≡ promise_by state (over metadata image) slot
promise_same metadata image slot Free = refl
promise_same metadata image slot Writable = refl
promise_same metadata image slot Clone = refl
promise_same metadata image slot Leaving = refl
promise_same metadata image slot Arriving = refl
promise_same metadata image slot Gone = refl
promise_same metadata image slot Unknown = refl

pub same_promises : (metadata : Metadata) (image : List ℕ) → nat_le (promises (plain metadata)) (capacity_of (plain metadata)) ≡ nat_le (promises (over metadata image)) (capacity_of (over metadata image))
same_promises metadata image = λ j. nat_le (total (λ slot. promise_same metadata image slot (state_at (plain metadata) slot) j) 16) (capacity_of (plain metadata))
