-- An aggregate without filesets is a new store.
use Rattle.std.proofs.Common.{◌≡◌, ◌<◌, ◌≤◌, ℕ, zero, suc, ◌+◌, ◌-◌, ◌*◌, List, [], ◌∷◌, ◌++◌, length, map, get_or, replicate, inl, inr, refl, sym, ◌∙◌, ap, arith}
use Rattle.std.specs.Prelude.{◌==◌, if◌then◌else◌, None}
use Rattle.std.proofs.lemmas.Bool.{cond-true, eq-eqb}
use Rattle.std.proofs.lemmas.List.{length-replicate, get_or-replicate}
use Rattle.base_types.specs.Image.{byte_at, bytes_from}
use Rattle.tree_calls.specs.declared.roster.Roster.{Roster}
use Rattle.base_outside.proofs.Image.{length-bytes_from, get_or-bytes_from}
use Rattle.disk_layout.specs.Numbers.{number_at}
use Rattle.disk_layout.proofs.Bytes.{number-same}
use Rattle.disk_pages.specs.Header.{is_taken_slot}
use Rattle.disk_pages.specs.Numbers.{record_at}
use Rattle.disk_pages.specs.Server.{server_of, taken_at}
use Rattle.disk_pages.specs.declared.header.SlotState.TheVariants.{Free}
use Rattle.disk_image.specs.Aggregate.{Aggregate, server_page, header_page, page_of, header_number}
use Rattle.disk_image.specs.Image.{SlotImage, slot_image, slots_of, image_in}
use Rattle.disk_image.specs.Joined.{joined, listed}
use Rattle.disk_image.specs.Slots.{state_at}
use Rattle.disk_image_laws.specs.Fresh.{IsEmpty}
use Rattle.disk_image_laws.proofs.Parts.{listed_is}
use Rattle.store_state.specs.State.{no_record, no_ship, new_state}
use Rattle.store_state.specs.declared.state.HostState.TheVariants.{Unknown}
use Rattle.disk_records.specs.Record.{held_in, host_known, ship_taken, record_of}
use Rattle.disk_records.specs.Laws.{EmptyIsNew}

number_none : (n at : ℕ) (bytes : List ℕ) → ((k : ℕ) → k < n → byte_at bytes (at + k) ≡ 0) → number_at n at bytes ≡ number_at n 0 []
number_none n at bytes zeros = number-same n at 0 bytes [] zeros

eight : number_at 8 0 [] ≡ 0
unfolding number_at
eight = refl

nothing_joined : {A : Type 0} (part : ℕ → List A) (n : ℕ) → ((k : ℕ) → k < n → part k ≡ []) → joined part n ≡ []
unfolding joined
nothing_joined part zero none = refl
nothing_joined part (suc n) none = (λ i. nothing_joined part n (λ k lt. none k (omega arith)) i ++ none n (omega arith) i)

listed_same : {A : Type 0} (value : ℕ → A) (x : A) (n : ℕ) → ((k : ℕ) → k < n → value k ≡ x) → listed value n ≡ replicate n x
listed_same value x n same = listed_is value (replicate n x) n x (length-replicate n x) (λ k lt. same k lt ∙ sym (get_or-replicate n k x x lt))

module _ (disk : Aggregate) (empty : IsEmpty disk) where
  page : List ℕ
  page = server_page disk

  front : (k : ℕ) → k < 8 → byte_at (server_page disk) k ≡ 0
  front k lt = empty.server.zeros k (inl lt)

  hosts_zero : (k : ℕ) → 12 ≤ k → k < 29 → byte_at (server_page disk) k ≡ 0
  hosts_zero k le lt = empty.server.zeros k (inr (inl (le, lt)))

  behind : (k : ℕ) → 30 ≤ k → k < 512 → byte_at (server_page disk) k ≡ 0
  behind k le lt = empty.server.zeros k (inr (inr (le, lt)))

  number_behind : (at : ℕ) → 30 ≤ at → at + 8 ≤ 512 → number_at 8 at (server_page disk) ≡ 0
  number_behind at le lt = number_none 8 at (server_page disk) (λ k small. behind (at + k) (omega (arith, le)) (omega (arith, lt, small))) ∙ eight

  taken_none : (at : ℕ) → 30 ≤ at → at + 9 ≤ 512 → ship_taken (taken_at at (server_page disk)) ≡ no_ship
  taken_none at le lt =
      let ship = number_behind at le (omega (arith, lt)) in
      let code = behind (at + 8) (omega (arith, le)) (omega (arith, lt)) in
      λ i. record { ship = ship i; code = code i }

  hosts_are : map host_known (bytes_from (server_page disk) 12 17) ≡ replicate 17 Unknown
  hosts_are = all_unknown (bytes_from (server_page disk) 12 17) 17 (length-bytes_from (server_page disk) 12 17) (λ k lt. get_or-bytes_from (server_page disk) 12 17 k lt ∙ hosts_zero (12 + k) (omega arith) (omega (arith, lt)))
    where
      all_unknown : (xs : List ℕ) (n : ℕ) → length xs ≡ n → ((k : ℕ) → k < n → get_or xs k 0 ≡ 0) → map host_known xs ≡ replicate n Unknown
      all_unknown [] zero size zeros = refl
      all_unknown [] (suc n) size zeros = absurd (omega (arith, size))
      all_unknown (x ∷ xs) zero size zeros = absurd (omega (arith, size))
      all_unknown (x ∷ xs) (suc n) size zeros =
          let first = ap host_known (zeros 0 (omega arith)) in
          let rest = all_unknown xs n (omega (arith, size)) (λ k lt. zeros (suc k) (omega (arith, lt))) in
          λ i. first i ∷ rest i

  record_none : (host : ℕ) → host < 17 → record_at (24 * host) (page_of disk 1) ≡ no_record
  record_none host lt =
      let zeros : (k : ℕ) → byte_at (page_of disk 1) k ≡ 0 = empty.zeros 1 (omega arith) (omega arith) in
      let change = number_none 8 (24 * host) (page_of disk 1) (λ k small. zeros (24 * host + k)) ∙ eight in
      let give = number_none 8 (24 * host + 8) (page_of disk 1) (λ k small. zeros (24 * host + 8 + k)) ∙ eight in
      let code = zeros (24 * host + 16) in
      let right = zeros (24 * host + 17) in
      λ i. record { change = change i; give = give i; code = code i; right = right i }

  free_at : (slot : ℕ) → slot < 16 → state_at disk slot ≡ Free
  free_at slot lt =
      let kind : byte_at (header_page disk slot) 0 ≡ 0 = empty.zeros (header_number slot) (omega arith) (omega (arith, lt)) 0 in
      cond-true (byte_at (header_page disk slot) 0 == 0) Free _ (eq-eqb (byte_at (header_page disk slot) 0) 0 kind)

  slots_are : slots_of disk ≡ []
  slots_are = nothing_joined (λ slot. if is_taken_slot (state_at disk slot) then slot_image disk slot ∷ [] else []) 16 (λ slot lt. (let e = free_at slot lt in λ i. if is_taken_slot (e i) then slot_image disk slot ∷ [] else []))

  held_none : listed (held_in (slots_of disk)) 16 ≡ replicate 16 None
  held_none = listed_same (held_in (slots_of disk)) None 16 (λ s lt. ap (λ (slots : List SlotImage). held_in slots s) slots_are)

  pub is_new : (roster : Roster) → record_of roster (image_in disk) ≡ new_state (record { 0 = disk.server }) (disk.blocks - 1024) roster
  unfolding server_of
  is_new roster =
      let next = empty.server.next in
      let epoch = number_none 8 0 (server_page disk) (λ k lt. (let z : 0 + k ≡ k = omega arith in ap (byte_at (server_page disk)) z ∙ front k lt)) ∙ eight in
      let ship = number_behind 32 (omega arith) (omega arith) in
      let hosts = hosts_are in
      let numbers = listed_same (λ host. record_at (24 * host) (page_of disk 1)) no_record 17 record_none in
      let slots = held_none in
      let one = taken_none 40 (omega arith) (omega arith) in
      let two = taken_none 56 (omega arith) (omega arith) in
      let three = taken_none 72 (omega arith) (omega arith) in
      let four = taken_none 88 (omega arith) (omega arith) in
      λ i. record {
        server = record { 0 = disk.server };
        roster = roster;
        capacity = disk.blocks - 1024;
        next = next i;
        slots = slots i;
        records = numbers i;
        hosts = hosts i;
        epoch = epoch i;
        ship = ship i;
        taken = one i ∷ two i ∷ three i ∷ four i ∷ [];
      }

pub empty_is_new : EmptyIsNew
empty_is_new disk roster empty = is_new disk empty roster
