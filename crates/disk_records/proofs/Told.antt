-- The pages of a disk without faults say its record.
use Rattle.std.proofs.Common.{◌≡◌, ◌<◌, ℕ, ◌*◌, List, [], refl, sym, ◌∙◌, ap, arith}
use Rattle.std.specs.Prelude.{Bool, true, false, ◌==◌, ◌&&◌, nat_le, Some}
use Rattle.std.proofs.lemmas.Bool.{and_parts, cond-false, false≢true}
use Rattle.std.proofs.lemmas.Option.{slice_get-get_or}
use Rattle.base_types.specs.Image.{byte_at}
use Rattle.tree_calls.specs.declared.roster.Roster.{Roster}
use Rattle.tree_calls.specs.declared.ship.Record.{Record}
use Rattle.store_state.specs.declared.state.StoreState.{StoreState}
use Rattle.disk_layout.specs.Numbers.{number_at}
use Rattle.disk_pages.specs.Header.{header_of, id_of, is_taken_slot, is_header, is_id, is_limit, is_other, is_behind, are_moves, state_of, state_for}
use Rattle.disk_pages.specs.Numbers.{is_numbers_page, record_at}
use Rattle.disk_pages.specs.Server.{server_of}
use Rattle.disk_pages.specs.Words.{are_zero, is_name_at}
use Rattle.disk_pages.specs.declared.header.SlotHeader.{SlotHeader}
use Rattle.disk_pages.specs.declared.header.SlotState.{SlotState}
use Rattle.disk_pages.specs.declared.header.SlotState.TheVariants.{Free, Writable, Clone, Leaving, Arriving, Gone, Unknown}
use Rattle.disk_pages.specs.Sound.{are_facts, are_sound_moves, is_sound_header, no_record}
use Rattle.disk_pages.proofs.ServerPages.{facts_sound}
use Rattle.disk_pages.specs.Puts.{SaysFacts, SaysHeader, SaysNumbers}
use Rattle.disk_image.specs.Aggregate.{Aggregate, server_page, header_page, numbers_page, page_of}
use Rattle.disk_image.specs.Faults.{faults_in}
use Rattle.disk_image.specs.Image.{image_in, records_of, slot_image}
use Rattle.disk_image.specs.Slots.{state_at}
use Rattle.disk_image_laws.proofs.Finding.{get_listed}
use Rattle.disk_records.proofs.Stated.{headers_are_said, facts_are_said}
use Rattle.disk_records.specs.Record.{holding_of, record_of}
use Rattle.disk_records.specs.Said.{facts_said, header_said}
use Rattle.disk_records.proofs.Parts.{AllRight, all_right, listed_length}
use Rattle.disk_records.proofs.MountSlots.{calls_are, header_is, moves_part}

-- what pages say: the server's page, and the header and the numbers of each slot that is taken
pub record SlotIsSaid (disk : Aggregate) (slot : ℕ) : Type 0 where
  pub header_says : SaysHeader (header_said (holding_of (slot_image disk slot))) (header_page disk slot)
  pub numbers_say : SaysNumbers (holding_of (slot_image disk slot)).records (numbers_page disk slot)

pub record PagesSay (disk : Aggregate) (state : StoreState) : Type 0 where
  pub facts : SaysFacts (facts_said state) (server_page disk)
  pub numbers : SaysNumbers state.records (page_of disk 1)
  pub slot : (slot : ℕ) → slot < 16 → is_taken_slot (state_at disk slot) ≡ true → SlotIsSaid disk slot

-- numbers
numbers_said : (page : List ℕ) → is_numbers_page page ≡ true → SaysNumbers (records_of page) page
numbers_said page is = record {
  says = λ host lt. some_is _ _
      (sym (get_listed (λ h. record_at (24 * h) page) 17 host lt)
      ∙ slice_get-get_or (records_of page) host no_record (let long = listed_length (λ h. record_at (24 * h) page) 17 in omega (arith, long, lt)));
  sound = λ all. is;
}
  where
    some_is : (a b : Record) → Some a ≡ Some b → a ≡ b
    some_is a b e = cc

-- headers
squeezed : (t d l m : Bool) → (t && true && d && l && true && m) ≡ (t && d && l && m)
squeezed false d l m = refl
squeezed true false l m = refl
squeezed true true false m = refl
squeezed true true true m = refl

module _ (disk : Aggregate) (clean : faults_in disk ≡ []) (format : byte_at (server_page disk) 29 ≡ 2) (s : ℕ) (low : s < 16) (taken : is_taken_slot (state_at disk s) ≡ true) where
  abbrev page : List ℕ
  page = header_page disk s

  abbrev header : SlotHeader
  header = header_of (server_page disk) page

  state_same : (server : List ℕ) → byte_at server 29 ≡ 2 → state_of server page ≡ state_at disk s
  state_same server two = ap (λ f. state_for f (byte_at page 0)) (two ∙ sym format)

  header_same : (server : List ℕ) → byte_at server 29 ≡ 2 → header_of server page ≡ header
  unfolding header_of
  header_same server two =
      let e = state_same server two in
      λ i. record {
        state = e i;
        id = record { 0 = id_of page };
        objects = header.objects;
        name = header.name;
        other = header.other;
        moves = header.moves;
        ship = header.ship;
        parts = header.parts;
      }

  -- the parts of the header's test
  record Parts : Type 0 where
    zero_parts : are_zero 1 3 page ≡ true
    named : is_name_at 12 page ≡ true
    behind : is_behind disk.server (server_page disk) page ≡ true

  parts : Parts
  unfolding is_header
  parts =
      let a = and_parts _ (is_behind disk.server (server_page disk) page) (header_is disk clean format s low taken).0 in
      let b = and_parts _ (is_name_at 12 page) a.0 in
      let c = and_parts _ (is_limit (number_at 4 8 page)) b.0 in
      let d = and_parts _ (is_id disk.server (number_at 4 8 (server_page disk)) (id_of page)) c.0 in
      record { zero_parts = (and_parts (is_taken_slot (state_of (server_page disk) page)) (are_zero 1 3 page) d.0).1; named = b.1; behind = a.1 }

  behind_parts : (are_zero 74 2 page ≡ true) × (are_moves disk.server (server_page disk) page (state_at disk s) ≡ true) × (are_zero 92 420 page ≡ true)
  behind_parts =
      let all = sym (cond-false (byte_at (server_page disk) 29 == 0) _ _ (ap (λ b. b == 0) format)) ∙ parts.behind in
      let a = and_parts (are_zero 74 2 page && are_moves disk.server (server_page disk) page (state_at disk s)) (are_zero 92 420 page) all in
      let b = and_parts (are_zero 74 2 page) (are_moves disk.server (server_page disk) page (state_at disk s)) a.0 in
      (b.0, b.1, a.1)

  -- moves, at each server
  moves_same : (home : ℕ) (server : List ℕ) (state : SlotState) → is_taken_slot state ≡ true → are_moves disk.server (server_page disk) page state ≡ true
      → are_sound_moves disk.server (server_of (server_page disk)).ship header state ≡ true → are_moves home server page state ≡ are_sound_moves home (server_of server).ship header state
  unfolding header_of server_of
  moves_same home server Free t m n = absurd (false≢true t)
  moves_same home server Unknown t m n = absurd (false≢true t)
  moves_same home server Writable t m n = m ∙ sym n
  moves_same home server Clone t m n = m ∙ sym n
  moves_same home server Arriving t m n = refl
  moves_same home server Leaving t m n =
      let z = (and_parts _ (are_zero 88 4 page) m).1 in
      let p = (and_parts _ (header.parts == 0) n).1 in
      (λ i. is_other home (byte_at page 73) && nat_le (number_at 8 80 page) (number_at 8 32 server) && z i)
      ∙ sym (λ i. is_other home (byte_at page 73) && nat_le (number_at 8 80 page) (number_at 8 32 server) && p i)
  moves_same home server Gone t m n =
      let z = (and_parts _ (are_zero 80 12 page) m).1 in
      let a = and_parts (is_other disk.server header.other && (header.ship == 0)) (header.parts == 0) n in
      let b = and_parts (is_other disk.server header.other) (header.ship == 0) a.0 in
      (λ i. is_other home (byte_at page 73) && z i)
      ∙ twice (is_other home (byte_at page 73))
      ∙ sym (λ i. is_other home (byte_at page 73) && b.1 i && a.1 i)
    where
      twice : (x : Bool) → (x && true) ≡ (x && true && true)
      twice true = refl
      twice false = refl

  behind_same : (home : ℕ) (server : List ℕ) → byte_at server 29 ≡ 2 → is_behind home server page ≡ are_sound_moves home (server_of server).ship header (state_at disk s)
  unfolding header_of
  behind_same home server two =
      let parts = behind_parts in
      cond-false (byte_at server 29 == 0) _ _ (ap (λ b. b == 0) two)
      ∙ (λ i. parts.0 i && are_moves home server page (state_same server two i) && parts.2 i)
      ∙ last (are_moves home server page (state_at disk s))
      ∙ moves_same home server (state_at disk s) taken parts.1 (moves_part disk clean format s low taken)
    where
      last : (x : Bool) → (true && x && true) ≡ x
      last true = refl
      last false = refl

  header_sound : (home : ℕ) (server : List ℕ) → byte_at server 29 ≡ 2 → is_header home server page ≡ is_sound_header home (server_of server) header
  unfolding is_header header_of server_of
  header_sound home server two =
      let z = parts.zero_parts in
      let n = parts.named in
      let b = behind_same home server two in
      (λ i. is_taken_slot (state_same server two i) && z i && is_id home (number_at 4 8 server) (id_of page) && is_limit (number_at 4 8 page) && n i && b i)
      ∙ squeezed (is_taken_slot (state_at disk s)) (is_id home (number_at 4 8 server) (id_of page)) (is_limit (number_at 4 8 page)) (are_sound_moves home (server_of server).ship header (state_at disk s))

  pub slot_said : SlotIsSaid disk s
  slot_said = record {
    header_says = record {
      says = λ server two. header_same server two ∙ sym (said_back);
      sound = λ home server two. header_sound home server two ∙ ap (is_sound_header home (server_of server)) (sym said_back);
    };
    numbers_say = numbers_said (numbers_page disk s) (calls_are disk clean format s low taken);
  }
    where
      said_back : header_said (holding_of (slot_image disk s)) ≡ header
      said_back = headers_are_said disk s format (header_is disk clean format s low taken).0

pub pages_say : (disk : Aggregate) (roster : Roster) → faults_in disk ≡ [] → byte_at (server_page disk) 29 ≡ 2 → PagesSay disk (record_of roster (image_in disk))
unfolding server_of
pages_say disk roster clean format = record {
  facts = record { says = sym facts; sound = rights.server ∙ sym (ap are_facts facts ∙ facts_sound (server_page disk) rights.server) };
  numbers = numbers_said (page_of disk 1) rights.numbers;
  slot = λ s low taken. slot_said disk clean format s low taken;
}
  where
    rights : AllRight disk
    rights = all_right disk clean

    kept : record (server_of (server_page disk)) { format = 2 } ≡ server_of (server_page disk)
    kept = λ i. record (server_of (server_page disk)) { format = sym format i }

    facts : facts_said (record_of roster (image_in disk)) ≡ server_of (server_page disk)
    facts = facts_are_said disk roster rights.server ∙ kept
