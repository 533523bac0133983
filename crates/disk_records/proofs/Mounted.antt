-- The record of a disk without faults is one that a disk can have.
use Rattle.std.proofs.Common.{◌≡◌, ◌≢◌, ◌<◌, ◌≤◌, ℕ, zero, suc, ◌+◌, ◌-◌, ◌*◌, ◌/◌, List, [], ◌∷◌, length, map, inl, inr, refl, sym, subst, ◌∙◌, ap, arith}
use Rattle.std.specs.Prelude.{Bool, true, false, ◌==◌, ◌&&◌, ◌||◌, not, nat_le, nat_lt, if◌then◌else◌, Option, Some, None, IfSome}
use Rattle.std.specs.List.{list_all, sum_by}
use Rattle.std.specs.Option.{option_map, option_map_or, option_and_then}
use Rattle.std.proofs.lemmas.Bool.{cases_Bool, cases_lt, and_parts, and_from, and_cases, or_parts, cond-true, cond-false, false≢true, ltb-true, leb-true, le-leb, eq-eqb}
use Rattle.std.proofs.lemmas.List.Sums.{sum_by-append}
use Rattle.base_outside.proofs.Image.{length-bytes_from}
use Rattle.base_types.specs.Image.{byte_at, bytes_from}
use Rattle.base_types.specs.Name.{same_name}
use Rattle.base_types.specs.declared.ids.FilesetId.{FilesetId}
use Rattle.base_types.specs.declared.limits.TheConstants.{SERVERS_MAX}
use Rattle.tree_calls.specs.declared.roster.Roster.{Roster}
use Rattle.tree_objects.specs.Objects.{blocks_of}
use Rattle.tree_objects.specs.declared.content.Anode.{Anode}
use Rattle.tree_objects.specs.declared.content.Content.TheVariants.{Dir, File}
use Rattle.tree_objects.specs.declared.content.Object.{Object}
use Rattle.tree_filesets.proofs.Names.{names_equal, same_self}
use Rattle.tree_filesets.specs.Promises.{anode_blocks, clone_promise, new_promise, promise}
use Rattle.message_types.specs.Soundness.{Each, IsKept}
use Rattle.store_acts.specs.Sound.{AreRecords, IsHolding, KeepsLimits}
use Rattle.store_state.specs.Founding.{held_promise, promised}
use Rattle.store_state.specs.State.{held_at, is_gone, is_leaving}
use Rattle.store_state.specs.declared.state.Holding.{Holding}
use Rattle.store_state.specs.declared.state.TakenShip.{TakenShip}
use Rattle.disk_layout.specs.Numbers.{number_at}
use Rattle.disk_pages.specs.Anode.{bytes_in}
use Rattle.disk_pages.specs.Header.{header_of, id_of, is_limit, is_taken_slot, is_leaving as is_leaving_slot}
use Rattle.disk_pages.specs.Numbers.{is_numbers_page, is_record, record_at}
use Rattle.disk_pages.specs.Server.{is_code, server_of}
use Rattle.disk_pages.specs.Words.{each_below, name_at}
use Rattle.disk_pages.specs.declared.header.SlotHeader.{SlotHeader}
use Rattle.disk_pages.specs.declared.header.SlotState.{SlotState}
use Rattle.disk_pages.specs.declared.header.SlotState.TheVariants.{Free, Writable, Clone, Leaving, Arriving, Gone, Unknown}
use Rattle.disk_pages.specs.declared.server.TakenShip.{TakenShip as TakenFrom}
use Rattle.disk_pages.proofs.ServerPages.{facts_sound}
use Rattle.disk_image.specs.Aggregate.{Aggregate, server_page, header_page, numbers_page, anode_page, page_of}
use Rattle.disk_image.specs.Counts.{capacity_of, limit_promise, object_promise, promise_by, promises}
use Rattle.disk_image.specs.Faults.{faults_in}
use Rattle.disk_image.specs.Image.{anode_of, entries_of, file_bytes, fileset_of, image_in, is_clone, list_of, records_of, slot_image, slots_of}
use Rattle.disk_image.specs.Joined.{joined, listed, total}
use Rattle.disk_image.specs.Slots.{are_alike, state_at}
use Rattle.disk_image_laws.proofs.Clean.{slot_right}
use Rattle.disk_image_laws.proofs.Contents as kinds
use Rattle.disk_image_laws.proofs.Finding.{each_at, get_listed, get_past}
use Rattle.disk_records.proofs.Read.{find_slot}
use Rattle.disk_records.specs.Record.{anodes_held, held_in, holding_of, host_known, record_of, ship_taken, stay_for}
use Rattle.store_records.specs.Stored.{AreTwo, IsStored, IsStorable}
use Rattle.disk_records.specs.MountLaws.{AreDeclared, FaultlessIsStorable}
use Rattle.disk_records.proofs.Parts.{all_right, each_listed, listed_length, total_le, total_more}
use Rattle.disk_records.proofs.MountSlots.{calls_are, header_is, limit_part, stay_declared, stored}

-- what is kept of hosts
numbers_kept : (page : List ℕ) → is_numbers_page page ≡ true → AreRecords (records_of page)
unfolding is_numbers_page is_record
numbers_kept page is = record {
  count = listed_length (λ host. record_at (24 * host) page) 17;
  each = each_listed IsKept (λ host. record_at (24 * host) page) 17 (λ k lt.
      let all = and_parts (each_below (λ host. is_record (24 * host) page) 17) _ is in
      let one = each_at (λ host. is_record (24 * host) page) 17 k all.0 lt in
      let two = (and_parts (is_code (byte_at page (24 * k + 16)) && nat_lt (byte_at page (24 * k + 17)) 64) _ one).0 in
      let three = and_parts (is_code (byte_at page (24 * k + 16))) (nat_lt (byte_at page (24 * k + 17)) 64) two in
      record { code = leb-true (byte_at page (24 * k + 16)) 21 three.0; rights = ltb-true (byte_at page (24 * k + 17)) 64 three.1 });
}

codes_known : (ships : List TakenFrom) → list_all (λ (ship : TakenFrom). is_code ship.code) ships ≡ true → Each (λ (ship : TakenShip). ship.code ≤ 21) (map ship_taken ships)
codes_known [] all = tt
codes_known (ship ∷ ships) all =
    let (a, b) = and_parts (is_code ship.code) (list_all (λ (ship : TakenFrom). is_code ship.code) ships) all in
    (leb-true ship.code 21 a, codes_known ships b)

mapped_length : {X Y : Type 0} (f : X → Y) (xs : List X) → length (map f xs) ≡ length xs
mapped_length f [] = refl
mapped_length f (x ∷ xs) = ap suc (mapped_length f xs)

from_length : (bytes : List ℕ) (at n : ℕ) → length (bytes_from bytes at n) ≡ n
from_length bytes at n = length-bytes_from bytes at n

leaving_same : (state : SlotState) (header : SlotHeader) → is_leaving (stay_for state header) ≡ is_leaving_slot state
leaving_same Free header = refl
leaving_same Writable header = refl
leaving_same Clone header = refl
leaving_same Leaving header = refl
leaving_same Arriving header = refl
leaving_same Gone header = refl
leaving_same Unknown header = refl

names_apart : (a b : List ℕ) → same_name b a ≡ false → same_name a b ≡ false
names_apart a b h = by (same_name a b) refl
  where
    by : (c : Bool) → same_name a b ≡ c → c ≡ false
    by false e = refl
    by true e = absurd (false≢true (sym h ∙ ap (λ n. same_name b n) (names_equal a b e) ∙ same_self b))

flipped : (a b : Holding) → AreTwo b a → AreTwo a b
flipped a b two = record {
  ids = λ e. two.ids (sym e);
  names = names_apart a.fileset.name b.fileset.name two.names;
  leaving = elim two.leaving [ inl x ↦ inr x | inr y ↦ inl y ];
}

sum_listed : {X : Type 0} (f : X → ℕ) (value : ℕ → X) (n : ℕ) → sum_by f (listed value n) ≡ total (λ k. f (value k)) n
unfolding joined total
sum_listed f value zero = refl
sum_listed f value (suc n) = sum_by-append f (listed value n) (value n ∷ []) ∙ (let z : 0 + f (value n) ≡ f (value n) = omega arith in λ i. sum_listed f value n i + z i)

module _ (disk : Aggregate) (roster : Roster) (clean : faults_in disk ≡ []) (format : byte_at (server_page disk) 29 ≡ 2) where
  -- what is held in a slot
  pub held_of : (s : ℕ) → s < 16 → held_in (slots_of disk) s ≡ (if is_taken_slot (state_at disk s) then Some (holding_of (slot_image disk s)) else None)
  held_of s low = ap (option_map holding_of) (find_slot (λ k. is_taken_slot (state_at disk k)) (slot_image disk) (λ k. refl) s 16 low) ∙ by (is_taken_slot (state_at disk s))
    where
      by : (b : Bool) → option_map holding_of (if b then Some (slot_image disk s) else None) ≡ (if b then Some (holding_of (slot_image disk s)) else None)
      by true = refl
      by false = refl

  held_known : (s : ℕ) (a : Holding) → held_at (record_of roster (image_in disk)).slots s ≡ Some a → (s < 16) × (is_taken_slot (state_at disk s) ≡ true) × (holding_of (slot_image disk s) ≡ a)
  held_known s a e = elim (cases_lt s 16) [
    | inl lt ↦
        by lt (is_taken_slot (state_at disk s)) refl
        (sym (held_of s lt) ∙ ap (option_and_then (λ (one : Option Holding). one)) (sym (get_listed (held_in (slots_of disk)) 16 s lt)) ∙ e)
    | inr le ↦
        (let none : ◌≡◌ {A = Option Holding} None (Some a) = ap (option_and_then (λ (one : Option Holding). one)) (sym (get_past (held_in (slots_of disk)) 16 s le)) ∙ e in
        absurd (cc))
  ]
    where
      by : s < 16 → (b : Bool) → is_taken_slot (state_at disk s) ≡ b → (if b then Some (holding_of (slot_image disk s)) else None) ≡ Some a
          → (s < 16) × (is_taken_slot (state_at disk s) ≡ true) × (holding_of (slot_image disk s) ≡ a)
      by lt true taken k = (lt, taken, (let same : holding_of (slot_image disk s) ≡ a = cc in same))
      by lt false taken k = absurd (cc)

  -- two slots
  first_apart : (s t : ℕ) → s < t → t < 16 → is_taken_slot (state_at disk s) ≡ true → is_taken_slot (state_at disk t) ≡ true → are_alike disk s t ≡ false
  first_apart s t below low one two =
      let all = each_at (λ earlier. not (is_taken_slot (state_at disk earlier)) || not (are_alike disk earlier t)) t s (header_is disk clean format t low two).1 below in
      unlike (are_alike disk s t) (sym (λ j. not (one j) || not (are_alike disk s t)) ∙ all)
    where
      unlike : (b : Bool) → not b ≡ true → b ≡ false
      unlike true e = absurd (false≢true e)
      unlike false e = refl

  two_slots : (s t : ℕ) → are_alike disk s t ≡ false → AreTwo (holding_of (slot_image disk s)) (holding_of (slot_image disk t))
  unfolding header_of
  two_slots s t apart =
      let a = or_parts ((id_of (header_page disk s) == id_of (header_page disk t)) || same_name (name_at 12 (header_page disk s)) (name_at 12 (header_page disk t))) _ apart in
      let b = or_parts (id_of (header_page disk s) == id_of (header_page disk t)) _ a.0 in
      record {
        ids = λ e. false≢true (sym b.0 ∙ eq-eqb (id_of (header_page disk s)) (id_of (header_page disk t)) (ap (λ (i : FilesetId). i.0) e));
        names = b.1;
        leaving = elim (and_cases (is_leaving_slot (state_at disk s)) (is_leaving_slot (state_at disk t)) a.1) [
          | inl x ↦ inl (leaving_same (state_at disk s) (header_of (server_page disk) (header_page disk s)) ∙ x)
          | inr y ↦ inr (leaving_same (state_at disk t) (header_of (server_page disk) (header_page disk t)) ∙ y)
        ];
      }

  -- what an anode is promised
  anode_promise : (s i : ℕ) → s < 16 → i < 64 → anode_blocks (anode_of disk s i) ≤ object_promise (anode_page disk s i)
  anode_promise s i low few = elim (cases_Bool (byte_at (anode_page disk s i) 0 == 0)) [
    | inl free ↦ (let e : anode_blocks (anode_of disk s i) ≡ 0 = (λ j. option_map_or (λ (object : Object). blocks_of object.content) (if free j then None else Some (record {
      owner = name_at 76 (anode_page disk s i);
      group = name_at 137 (anode_page disk s i);
      content =
          if byte_at (anode_page disk s i) 0 == 1
          then Dir (entries_of disk s i) (list_of disk s i 0 ∷ list_of disk s i 1 ∷ list_of disk s i 2 ∷ [])
          else File (list_of disk s i 0) (file_bytes disk s i) [] None;
    })) 0) in omega (arith, e))
    | inr kind ↦ by (byte_at (anode_page disk s i) 0 == 0) kind (byte_at (anode_page disk s i) 0 == 1) refl (kinds.object_page disk s (slot_right disk clean s low) i (kinds.object_is disk s (slot_right disk clean s low) i few kind)).object
  ]
    where
      by : (free : Bool) → free ≡ false → (dir : Bool) → (byte_at (anode_page disk s i) 0 == 1) ≡ dir → (dir || (byte_at (anode_page disk s i) 0 == 2)) ≡ true
          → option_map_or (λ (object : Object). blocks_of object.content) (if free then None else Some (record {
            owner = name_at 76 (anode_page disk s i);
            group = name_at 137 (anode_page disk s i);
            content =
                if dir
                then Dir (entries_of disk s i) (list_of disk s i 0 ∷ list_of disk s i 1 ∷ list_of disk s i 2 ∷ [])
                else File (list_of disk s i 0) (file_bytes disk s i) [] None;
          })) 0
          ≤ (if dir then 9 else if byte_at (anode_page disk s i) 0 == 2 then 4 + (bytes_in (anode_page disk s i) + 1023) / 1024 else 0)
      by true off dir is object = absurd (false≢true (sym off))
      by false off true is object = omega arith
      by false off false is object =
          let long : length (file_bytes disk s i) ≡ bytes_in (anode_page disk s i) = listed_length _ (bytes_in (anode_page disk s i)) in
          let e : 4 + (length (file_bytes disk s i) + 1023) / 1024
          ≡ (if byte_at (anode_page disk s i) 0 == 2 then 4 + (bytes_in (anode_page disk s i) + 1023) / 1024 else 0)
          = ap (λ n. 4 + (n + 1023) / 1024) long ∙ sym (cond-true (byte_at (anode_page disk s i) 0 == 2) _ _ object) in
          omega (arith, e)

  clone_less : (s n : ℕ) → s < 16 → n ≤ 64 → sum_by anode_blocks (listed (anode_of disk s) n) ≤ total (λ i. object_promise (anode_page disk s i)) 64
  clone_less s n low few =
      let a = sum_listed anode_blocks (anode_of disk s) n in
      let b = total_le (λ i. anode_blocks (anode_of disk s i)) (λ i. object_promise (anode_page disk s i)) n (λ i lt. anode_promise s i low (omega (arith, lt, few))) in
      let c = total_more (λ i. object_promise (anode_page disk s i)) n (64 - n) in
      let z : n + (64 - n) ≡ 64 = omega (arith, few) in
      let d : total (λ i. object_promise (anode_page disk s i)) (n + (64 - n)) ≡ total (λ i. object_promise (anode_page disk s i)) 64 = ap (total (λ i. object_promise (anode_page disk s i))) z in
      omega (arith, a, b, c, d)

  slot_less : (s : ℕ) → s < 16 → is_taken_slot (state_at disk s) ≡ true → held_promise (Some (holding_of (slot_image disk s))) ≤ promise_by (state_at disk s) disk s
  unfolding header_of
  slot_less s low taken = by (state_at disk s) refl
    where
      limit : limit_promise (header_page disk s) ≡ new_promise (number_at 4 8 (header_page disk s))
      limit =
          let bounds = limit_part disk clean format s low taken in
          cond-true (is_limit (number_at 4 8 (header_page disk s))) _ _
          (and_from (nat_le 1 (number_at 4 8 (header_page disk s))) (nat_le (number_at 4 8 (header_page disk s)) 64) (le-leb 1 _ bounds.0) (le-leb (number_at 4 8 (header_page disk s)) 64 bounds.1))

      new_same : (state : SlotState) → state_at disk s ≡ state → is_clone state ≡ false → (anodes : List Anode) → promise (record (fileset_of disk s) { anodes = anodes }) ≡ new_promise (number_at 4 8 (header_page disk s))
      new_same state e no_clone anodes = cond-false (is_clone (state_at disk s)) _ _ (ap is_clone e ∙ no_clone)

      by : (state : SlotState) → state_at disk s ≡ state
          → (if is_gone (stay_for state (header_of (server_page disk) (header_page disk s))) then 0
          else promise (record (fileset_of disk s) { anodes = anodes_held state (header_of (server_page disk) (header_page disk s)) (fileset_of disk s).anodes }))
          ≤ promise_by state disk s
      by Free e = absurd (false≢true (ap is_taken_slot (sym e) ∙ taken))
      by Unknown e = absurd (false≢true (ap is_taken_slot (sym e) ∙ taken))
      by Writable e = let a = new_same Writable e refl (fileset_of disk s).anodes in let b = limit in omega (arith, a, b)
      by Leaving e = let a = new_same Leaving e refl (fileset_of disk s).anodes in let b = limit in omega (arith, a, b)
      by Arriving e =
          let a = new_same Arriving e refl (anodes_held Arriving (header_of (server_page disk) (header_page disk s)) (fileset_of disk s).anodes) in let b = limit in
          omega (arith, a, b)
      by Gone e = omega arith
      by Clone e =
          let a : promise (record (fileset_of disk s) { anodes = (fileset_of disk s).anodes }) ≡ clone_promise (fileset_of disk s) = cond-true (is_clone (state_at disk s)) _ _ (ap is_clone e) in
          let b = clone_less s (number_at 4 8 (header_page disk s)) low (limit_part disk clean format s low taken).1 in
          omega (arith, a, b)

  room : promised (record_of roster (image_in disk)).slots ≤ capacity_of disk
  room =
      let a = sum_listed held_promise (held_in (slots_of disk)) 16 in
      let b = total_le (λ s. held_promise (held_in (slots_of disk) s)) (λ s. promise_by (state_at disk s) disk s) 16 less in
      let c = leb-true (promises disk) (capacity_of disk) (all_right disk clean).promises in
      omega (arith, a, b, c)
    where
      less : (s : ℕ) → s < 16 → held_promise (held_in (slots_of disk) s) ≤ promise_by (state_at disk s) disk s
      less s low = by (is_taken_slot (state_at disk s)) refl
        where
          by : (b : Bool) → is_taken_slot (state_at disk s) ≡ b → held_promise (held_in (slots_of disk) s) ≤ promise_by (state_at disk s) disk s
          by true taken =
              let e = ap held_promise (held_of s low ∙ cond-true (is_taken_slot (state_at disk s)) (Some (holding_of (slot_image disk s))) None taken) in
              let less = slot_less s low taken in
              omega (arith, e, less)
          by false taken =
              let e : held_promise (held_in (slots_of disk) s) ≡ 0 = ap held_promise (held_of s low ∙ cond-false (is_taken_slot (state_at disk s)) (Some (holding_of (slot_image disk s))) None taken) in
              omega (arith, e)

  limits : AreDeclared roster disk → KeepsLimits (record_of roster (image_in disk))
  unfolding header_of
  limits declared = record {
    table = listed_length (held_in (slots_of disk)) 16;
    records = numbers_kept (page_of disk 1) (all_right disk clean).numbers;
    slots = each_listed (λ slot. IfSome slot (IsHolding roster)) (held_in (slots_of disk)) 16 (λ s low. by s low (is_taken_slot (state_at disk s)) refl);
  }
    where
      by : (s : ℕ) → s < 16 → (b : Bool) → is_taken_slot (state_at disk s) ≡ b → IfSome (held_in (slots_of disk) s) (IsHolding roster)
      by s low true taken =
          let bounds = limit_part disk clean format s low taken in
          let holding : IsHolding roster (holding_of (slot_image disk s)) = record {
            stay = stay_declared disk clean format s low taken roster (declared s low);
            least = bounds.0;
            most = bounds.1;
            records = numbers_kept (numbers_page disk s) (calls_are disk clean format s low taken);
          } in
          subst (λ (o : Option Holding). IfSome o (IsHolding roster)) (sym (held_of s low ∙ cond-true (is_taken_slot (state_at disk s)) (Some (holding_of (slot_image disk s))) None taken)) holding
      by s low false taken =
          subst (λ (o : Option Holding). IfSome o (IsHolding roster)) (sym (held_of s low ∙ cond-false (is_taken_slot (state_at disk s)) (Some (holding_of (slot_image disk s))) None taken)) tt

  pub is_storable : 1 ≤ disk.server → disk.server ≤ SERVERS_MAX → length roster.capacity ≤ SERVERS_MAX → AreDeclared roster disk → IsStorable (record_of roster (image_in disk))
  unfolding server_of
  is_storable first last servers declared =
      let facts = facts_sound (server_page disk) (all_right disk clean).server in
      let a = and_parts (nat_le 1 (server_of (server_page disk)).next && nat_le (server_of (server_page disk)).next 65536 && list_all (λ state. nat_le state 3) (server_of (server_page disk)).hosts) (list_all (λ (taken : TakenFrom). is_code taken.code) (server_of (server_page disk)).taken) facts in
      let b = and_parts (nat_le 1 (server_of (server_page disk)).next && nat_le (server_of (server_page disk)).next 65536) _ a.0 in
      let c = and_parts (nat_le 1 (server_of (server_page disk)).next) (nat_le (server_of (server_page disk)).next 65536) b.0 in
      let low = leb-true 1 (server_of (server_page disk)).next c.0 in
      let high = leb-true (server_of (server_page disk)).next 65536 c.1 in
      record {
        limits = limits declared;
        servers = servers;
        first = first;
        last = last;
        next = (low, omega (arith, high));
        hosts = mapped_length host_known (bytes_from (server_page disk) 12 17) ∙ from_length (server_page disk) 12 17;
        taken = (refl, codes_known (server_of (server_page disk)).taken a.1);
        each = λ s h e. (let (in_table, taken, is) = held_known s h e in subst (IsStored (record_of roster (image_in disk))) is (stored disk clean format s in_table taken roster));
        apart = λ s t x y ne ex ey. (
            let (low_s, taken_s, is_x) = held_known s x ex in
            let (low_t, taken_t, is_y) = held_known t y ey in
            subst (λ z. AreTwo z y) is_x (subst (λ z. AreTwo (holding_of (slot_image disk s)) z) is_y (two s t low_s low_t taken_s taken_t ne)));
        room = room;
      }
    where
      two : (s t : ℕ) → s < 16 → t < 16 → is_taken_slot (state_at disk s) ≡ true → is_taken_slot (state_at disk t) ≡ true → s ≢ t → AreTwo (holding_of (slot_image disk s)) (holding_of (slot_image disk t))
      two s t low_s low_t taken_s taken_t ne = elim (cases_lt s t) [
        | inl lt ↦ two_slots s t (first_apart s t lt low_t taken_s taken_t)
        | inr le ↦ flipped (holding_of (slot_image disk s)) (holding_of (slot_image disk t)) (two_slots t s (first_apart t s (omega (arith, le, ne)) low_s taken_t taken_s))
      ]

pub faultless_is_storable : FaultlessIsStorable
faultless_is_storable disk roster clean format first last servers declared = is_storable disk roster clean format first last servers declared
