-- What is held in a slot of a disk without faults.
use Rattle.std.proofs.Common.{◌≡◌, ◌<◌, ◌≤◌, ℕ, zero, suc, ◌-◌, ◌/◌, ◌%◌, List, [], ◌∷◌, length, take, inl, inr, refl, sym, ◌∙◌, ap, arith}
use Rattle.std.specs.Prelude.{Bool, true, false, ◌==◌, ◌&&◌, ◌||◌, not, nat_le, nat_lt, if◌then◌else◌, Option, Some, None, slice_get}
use Rattle.std.specs.List.{list_all}
use Rattle.std.specs.Option.{option_map_or, option_and_then}
use Rattle.std.proofs.lemmas.Bool.{cases_Bool, cases_lt, and_parts, cond-true, cond-false, false≢true, ltb-true, leb-true, le-leb, eqb-true, eq-eqb}
use Rattle.base_types.specs.Image.{byte_at}
use Rattle.base_types.specs.Name.{is_name, same_name}
use Rattle.tree_calls.specs.declared.part.DirEntry.{DirEntry}
use Rattle.tree_calls.specs.declared.roster.Roster.{Roster}
use Rattle.tree_objects.specs.Objects.{is_dir}
use Rattle.tree_objects.specs.declared.content.Anode.{Anode}
use Rattle.tree_objects.specs.declared.content.Content.TheVariants.{Dir, File}
use Rattle.tree_objects.specs.declared.content.Object.{Object}
use Rattle.tree_filesets.specs.Walk.{object_at, unique_at}
use Rattle.tree_filesets.specs.WellFormed.{entry_at, entry_in, is_settled}
use Rattle.message_types.specs.Soundness.{IsServer}
use Rattle.store_acts.specs.Sound.{IsAllowed, IsStay}
use Rattle.store_state.specs.declared.state.StoreState.{StoreState}
use Rattle.disk_layout.specs.Numbers.{number_at}
use Rattle.disk_pages.specs.Anode.{unique_of}
use Rattle.disk_pages.specs.Blocks.{entry_anode, entry_of}
use Rattle.disk_pages.specs.Header.{header_of, is_taken_slot, is_header, is_id, is_limit, is_other}
use Rattle.disk_pages.specs.Numbers.{is_numbers_page}
use Rattle.disk_pages.specs.Server.{server_of}
use Rattle.disk_pages.specs.Words.{name_at, is_name_at}
use Rattle.disk_pages.specs.declared.header.SlotHeader.{SlotHeader}
use Rattle.disk_pages.specs.declared.header.SlotState.{SlotState}
use Rattle.disk_pages.specs.declared.header.SlotState.TheVariants.{Free, Writable, Clone, Leaving, Arriving, Gone, Unknown}
use Rattle.disk_pages.specs.Sound.{are_sound_moves, is_sound_header}
use Rattle.disk_pages.proofs.HeaderPages.{headers_sound}
use Rattle.disk_image.specs.Aggregate.{Aggregate, server_page, header_page, numbers_page, anode_page}
use Rattle.disk_image.specs.Anodes.{entries_in, entry_bytes, is_root_place, is_root_page, is_slot_anode}
use Rattle.disk_image.specs.Faults.{faults_in}
use Rattle.disk_image.specs.Image.{anode_of, content_of, entries_of, file_bytes, fileset_of, image_in, is_clone, list_of, slot_image}
use Rattle.disk_image.specs.Joined.{listed}
use Rattle.disk_image.specs.Refused.{is_declared}
use Rattle.disk_image.specs.Slots.{state_at, is_first, is_slot_free, is_slot_header, is_slot_numbers, has_root, is_whole}
use Rattle.disk_image_laws.proofs.Clean.{IsRightSlot, slot_right, anode_right}
use Rattle.disk_image_laws.proofs.Contents as kinds
use Rattle.disk_image_laws.proofs.Finding.{get_listed, get_past, found_at}
use Rattle.disk_image_laws.proofs.Formed.{formed}
use Rattle.disk_records.specs.Record.{anodes_held, holding_of, record_of, stay_for}
use Rattle.store_records.specs.Stored.{IsOther, MayArrive, IsStored, StaysRight}
use Rattle.disk_records.proofs.Parts.{all_right, calls_right, all_listed, all_taken, got_taken, length_taken, listed_length}

or_second : (a b : Bool) → (not a || b) ≡ true → a ≡ true → b ≡ true
or_second a b either is = sym (λ j. not (is j) || b) ∙ either

module _ (disk : Aggregate) (clean : faults_in disk ≡ []) (format : byte_at (server_page disk) 29 ≡ 2) (s : ℕ) (low : s < 16) (taken : is_taken_slot (state_at disk s) ≡ true) where
  abbrev pub said : SlotHeader
  said = header_of (server_page disk) (header_page disk s)

  right : IsRightSlot disk s
  right = slot_right disk clean s low

  used : is_slot_free disk s ≡ false
  used = elim (cases_Bool (is_slot_free disk s)) [
    | inl is ↦
        let free : state_at disk s ≡ Free = cond-true (is_slot_free disk s) Free _ is in
        absurd (false≢true (ap is_taken_slot (sym free) ∙ taken))
    | inr not_so ↦ not_so
  ]

  pub header_is : (is_header disk.server (server_page disk) (header_page disk s) ≡ true) × (is_first disk s ≡ true)
  unfolding is_slot_header
  header_is = and_parts (is_header disk.server (server_page disk) (header_page disk s)) (is_first disk s) (sym (cond-false (is_slot_free disk s) _ _ used) ∙ right.header)

  pub calls_are : is_numbers_page (numbers_page disk s) ≡ true
  unfolding is_slot_numbers
  calls_are = sym (cond-false (is_slot_free disk s) _ _ used) ∙ calls_right disk s (all_right disk clean).slots low

  sound : is_sound_header disk.server (server_of (server_page disk)) said ≡ true
  sound = headers_sound disk.server (server_page disk) (header_page disk s) format header_is.0

  -- its parts
  pub moves_part : are_sound_moves disk.server (server_of (server_page disk)).ship said said.state ≡ true
  moves_part = (and_parts (is_taken_slot said.state && is_id disk.server (server_of (server_page disk)).next said.id.0 && is_limit said.objects) _ sound).1

  id_part : is_id disk.server (server_of (server_page disk)).next said.id.0 ≡ true
  id_part =
      (and_parts (is_taken_slot said.state) _
      (and_parts (is_taken_slot said.state && is_id disk.server (server_of (server_page disk)).next said.id.0) (is_limit said.objects)
      (and_parts (is_taken_slot said.state && is_id disk.server (server_of (server_page disk)).next said.id.0 && is_limit said.objects) _ sound).0).0).1

  pub limit_part : (1 ≤ said.objects) × (said.objects ≤ 64)
  limit_part =
      let limit = (and_parts (is_taken_slot said.state && is_id disk.server (server_of (server_page disk)).next said.id.0) (is_limit said.objects)
      (and_parts (is_taken_slot said.state && is_id disk.server (server_of (server_page disk)).next said.id.0 && is_limit said.objects) _ sound).0).1 in
      let two = and_parts (nat_le 1 said.objects) (nat_le said.objects 64) limit in
      (leb-true 1 said.objects two.0, leb-true said.objects 64 two.1)

  name_part : is_name (name_at 12 (header_page disk s)) ≡ true
  unfolding is_header is_name_at
  name_part = (and_parts _ (is_name (name_at 12 (header_page disk s))) (and_parts _ _ (and_parts _ _ (and_parts _ _ header_is.0).0).1).0).1

  allowed : (state : StoreState) → state.server.0 ≡ disk.server → state.next ≡ (server_of (server_page disk)).next → IsAllowed state said.id
  allowed state server next =
      let p = and_parts _ (not (said.id.0 / 65536 == disk.server) || nat_lt (said.id.0 % 65536) (server_of (server_page disk)).next) id_part in
      let q = and_parts _ (nat_le 1 (said.id.0 % 65536)) p.0 in
      let r = and_parts (nat_le 1 (said.id.0 / 65536)) (nat_le (said.id.0 / 65536) 4) q.0 in
      record {
        first = leb-true 1 (said.id.0 / 65536) r.0;
        last = leb-true (said.id.0 / 65536) 4 r.1;
        number = leb-true 1 (said.id.0 % 65536) q.1;
        given = λ own. (
            let below = ltb-true (said.id.0 % 65536) (server_of (server_page disk)).next
            (or_second (said.id.0 / 65536 == disk.server) _ p.1 (eq-eqb (said.id.0 / 65536) disk.server (own ∙ server))) in
            omega (arith, below, next));
      }

  -- nothing is unsaved
  anode_rests : (i : ℕ) → option_map_or (λ (object : Object). is_settled object.content) (anode_of disk s i).object true ≡ true
  anode_rests i = by (byte_at (anode_page disk s i) 0 == 0) (byte_at (anode_page disk s i) 0 == 1)
    where
      by : (free dir : Bool)
          → option_map_or (λ (object : Object). is_settled object.content) (if free then None else Some (record {
            owner = name_at 76 (anode_page disk s i);
            group = name_at 137 (anode_page disk s i);
            content =
                if dir
                then Dir (entries_of disk s i) (list_of disk s i 0 ∷ list_of disk s i 1 ∷ list_of disk s i 2 ∷ [])
                else File (list_of disk s i 0) (file_bytes disk s i) [] None;
          })) true ≡ true
      by true dir = refl
      by false true = refl
      by false false = refl

  abbrev pub anodes : List Anode
  anodes = (fileset_of disk s).anodes

  anodes_rest : list_all (λ (anode : Anode). option_map_or (λ (object : Object). is_settled object.content) anode.object true) anodes ≡ true
  anodes_rest = all_listed (λ (anode : Anode). option_map_or (λ (object : Object). is_settled object.content) anode.object true) (anode_of disk s) (number_at 4 8 (header_page disk s)) (λ k lt. anode_rests k)

  held_rest : (state : SlotState) → list_all (λ (anode : Anode). option_map_or (λ (object : Object). is_settled object.content) anode.object true) (anodes_held state said anodes) ≡ true
  held_rest Free = anodes_rest
  held_rest Writable = anodes_rest
  held_rest Clone = anodes_rest
  held_rest Leaving = anodes_rest
  held_rest Arriving = all_taken (λ (anode : Anode). option_map_or (λ (object : Object). is_settled object.content) anode.object true) anodes (said.parts - 1) anodes_rest
  held_rest Gone = refl
  held_rest Unknown = anodes_rest

  -- another server
  other_is : is_other disk.server said.other ≡ true → IsOther (record { 0 = disk.server }) (record { 0 = said.other })
  other_is is =
      let two = and_parts _ (not (said.other == disk.server)) is in
      let one = and_parts (nat_le 1 said.other) (nat_le said.other 4) two.0 in
      (leb-true 1 said.other one.0, leb-true said.other 4 one.1, (λ e. false≢true (sym (λ j. not (eq-eqb said.other disk.server e j)) ∙ two.1)))

  -- a fileset that arrives
  module _ (arrives : state_at disk s ≡ Arriving) where
    -- its root, once that came
    root_place : 2 ≤ number_at 4 88 (header_page disk s) → is_root_place disk s 0 ≡ true
    root_place two = ap (λ state. has_root state (header_page disk s)) arrives ∙ le-leb 2 (number_at 4 88 (header_page disk s)) two

    root_kind : 2 ≤ number_at 4 88 (header_page disk s) → (byte_at (anode_page disk s 0) 0 == 0) ≡ false
    unfolding is_slot_anode
    root_kind two = elim (cases_Bool (byte_at (anode_page disk s 0) 0 == 0)) [
      | inl is ↦
          let all = sym (cond-true (byte_at (anode_page disk s 0) 0 == 0) _ _ is) ∙ anode_right disk s right 0 (omega arith) in
          absurd (false≢true (sym (λ j. not (root_place two j)) ∙ (and_parts _ (not (is_root_place disk s 0)) all).1))
      | inr not_so ↦ not_so
    ]

    root_page : 2 ≤ number_at 4 88 (header_page disk s) → is_root_page (anode_page disk s 0) ≡ true
    unfolding is_slot_anode
    root_page two =
        let all = sym (cond-false (byte_at (anode_page disk s 0) 0 == 0) _ _ (root_kind two)) ∙ anode_right disk s right 0 (omega arith) in
        or_second (is_root_place disk s 0) (is_root_page (anode_page disk s 0)) (and_parts _ (not (is_root_place disk s 0) || is_root_page (anode_page disk s 0)) all).1 (root_place two)

    -- what stands at an anode
    object_back : (at : ℕ) (object : Object) (n : ℕ) → n ≤ 64 → object_at (listed (anode_of disk s) n) at ≡ Some object
        → (i : ℕ) × (i < 64) × ((if byte_at (anode_page disk s i) 0 == 0 then None
        else Some (record { owner = name_at 76 (anode_page disk s i); group = name_at 137 (anode_page disk s i); content = content_of disk s i })) ≡ Some object)
    object_back at object n few e = by (at == 0) e
      where
        got : (i : ℕ) → option_and_then (λ (a : Anode). a.object) (slice_get (listed (anode_of disk s) n) i) ≡ Some object
            → (i : ℕ) × (i < 64) × ((anode_of disk s i).object ≡ Some object)
        got i k = elim (cases_lt i n) [
          | inl lt ↦ (i, omega (arith, lt, few), ap (option_and_then (λ (a : Anode). a.object)) (sym (get_listed (anode_of disk s) n i lt)) ∙ k)
          | inr le ↦ (let none : None ≡ Some object = ap (option_and_then (λ (a : Anode). a.object)) (sym (get_past (anode_of disk s) n i le)) ∙ k in absurd (cc))
        ]

        by : (b : Bool) → (if b then None else option_and_then (λ (a : Anode). a.object) (slice_get (listed (anode_of disk s) n) (at - 1))) ≡ Some object
            → (i : ℕ) × (i < 64) × ((anode_of disk s i).object ≡ Some object)
        by true k = absurd (cc)
        by false k = got (at - 1) k

    entry_back : (i : ℕ) (name : List ℕ) (entry : DirEntry) → i < 64 → entry_in (content_of disk s i) name ≡ Some entry → (1 ≤ entry.anode) × (entry.anode ≤ 64)
    entry_back i name entry few e = elim (cases_Bool (byte_at (anode_page disk s i) 0 == 1)) [
      | inl dir ↦
          let found = found_at (λ (other : DirEntry). same_name other.name name) (entry_of (entry_bytes disk s i)) (entries_in (anode_page disk s i)) entry
          (ap (λ c. entry_in c name) (sym (cond-true (byte_at (anode_page disk s i) 0 == 1) (Dir (entries_of disk s i) (list_of disk s i 0 ∷ list_of disk s i 1 ∷ list_of disk s i 2 ∷ [])) (File (list_of disk s i 0) (file_bytes disk s i) [] None) dir)) ∙ e) in
          let facts = kinds.entry_facts disk s right i few dir found.0 found.1 in
          let is : entry.anode ≡ entry_anode (entry_bytes disk s i) found.0 = ap (λ (x : DirEntry). x.anode) found.2 in
          let least = facts.some in let most = facts.few in
          (omega (arith, is, least), omega (arith, is, most))
      | inr no_dir ↦
          (let none : None ≡ Some entry = ap (λ c. entry_in c name) (sym (cond-false (byte_at (anode_page disk s i) 0 == 1) (Dir (entries_of disk s i) (list_of disk s i 0 ∷ list_of disk s i 1 ∷ list_of disk s i 2 ∷ [])) (File (list_of disk s i 0) (file_bytes disk s i) [] None) no_dir)) ∙ e in
          absurd (cc))
    ]

    entry_within : (k n at : ℕ) (name : List ℕ) (entry : DirEntry) → n ≤ 64 → entry_at (take k (listed (anode_of disk s) n)) at name ≡ Some entry → (1 ≤ entry.anode) × (entry.anode ≤ 64)
    entry_within k n at name entry few e = by (object_at (take k (listed (anode_of disk s) n)) at) refl e
      where
        in_all : (b : Bool) (object : Object) → (if b then None else option_and_then (λ (a : Anode). a.object) (slice_get (take k (listed (anode_of disk s) n)) (at - 1))) ≡ Some object
            → (if b then None else option_and_then (λ (a : Anode). a.object) (slice_get (listed (anode_of disk s) n) (at - 1))) ≡ Some object
        in_all true object is = is
        in_all false object is = got (slice_get (take k (listed (anode_of disk s) n)) (at - 1)) refl is
          where
            got : (o : Option Anode) → slice_get (take k (listed (anode_of disk s) n)) (at - 1) ≡ o → option_and_then (λ (a : Anode). a.object) o ≡ Some object
                → option_and_then (λ (a : Anode). a.object) (slice_get (listed (anode_of disk s) n) (at - 1)) ≡ Some object
            got None there is = absurd (cc)
            got (Some anode) there is = ap (option_and_then (λ (a : Anode). a.object)) (got_taken (listed (anode_of disk s) n) k (at - 1) anode there) ∙ is

        content_is : (i : ℕ) (object : Object) (b : Bool)
            → (if b then None else Some (record { owner = name_at 76 (anode_page disk s i); group = name_at 137 (anode_page disk s i); content = content_of disk s i })) ≡ Some object
            → object.content ≡ content_of disk s i
        content_is i object true is = absurd (cc)
        content_is i object false is = sym (some_content (record { owner = name_at 76 (anode_page disk s i); group = name_at 137 (anode_page disk s i); content = content_of disk s i }) object is)
          where
            some_content : (a b : Object) → Some a ≡ Some b → a.content ≡ b.content
            some_content a b e = let same : a ≡ b = cc in ap (λ (o : Object). o.content) same

        by : (o : Option Object) → object_at (take k (listed (anode_of disk s) n)) at ≡ o → option_and_then (λ object. entry_in object.content name) o ≡ Some entry → (1 ≤ entry.anode) × (entry.anode ≤ 64)
        by None there is = absurd (cc)
        by (Some object) there is =
            let (i, small, same) = object_back at object n few (in_all (at == 0) object there) in
            entry_back i name entry small (ap (λ c. entry_in c name) (sym (content_is i object (byte_at (anode_page disk s i) 0 == 0) same)) ∙ is)

    came : (parts n : ℕ) → parts ≡ number_at 4 88 (header_page disk s) → 1 ≤ parts → parts ≤ n → n ≤ 64 → MayArrive n parts (take (parts - 1) (listed (anode_of disk s) n))
    came parts n is least most few = record {
      least = least;
      most = most;
      count = length_taken (listed (anode_of disk s) n) (parts - 1) (let long = listed_length (anode_of disk s) n in omega (arith, long, most));
      first = λ two. root two (omega (arith, two, is));
      within = λ at name entry e. entry_within (parts - 1) n at name entry few e;
    }
      where
        front : (k : ℕ) → 1 ≤ k → 1 ≤ n → slice_get (take k (listed (anode_of disk s) n)) 0 ≡ Some (anode_of disk s 0)
        front k some more = step (listed (anode_of disk s) n) k some (get_listed (anode_of disk s) n 0 (omega (arith, more)))
          where
            step : (xs : List Anode) (k : ℕ) → 1 ≤ k → slice_get xs 0 ≡ Some (anode_of disk s 0) → slice_get (take k xs) 0 ≡ Some (anode_of disk s 0)
            step xs zero some e = absurd (omega (arith, some))
            step [] (suc k) some e = e
            step (x ∷ xs) (suc k) some e = e

        root : 2 ≤ parts → 2 ≤ number_at 4 88 (header_page disk s) → (unique_at (take (parts - 1) (listed (anode_of disk s) n)) 1 ≡ 1)
            × ((object : Object) × (object_at (take (parts - 1) (listed (anode_of disk s) n)) 1 ≡ Some object) × (is_dir object.content ≡ true))
        root two two_parts =
            let there = front (parts - 1) (omega (arith, two)) (omega (arith, two, most)) in
            let page = and_parts (byte_at (anode_page disk s 0) 0 == 1) (unique_of (anode_page disk s 0) == 1) (root_page two_parts) in (
              ap (λ o. option_map_or (λ (a : Anode). a.unique) o 0) there ∙ eqb-true (unique_of (anode_page disk s 0)) 1 page.1,
              (
                record { owner = name_at 76 (anode_page disk s 0); group = name_at 137 (anode_page disk s 0); content = content_of disk s 0 },
                ap (λ o. option_and_then (λ (a : Anode). a.object) o) there ∙ cond-false (byte_at (anode_page disk s 0) 0 == 0) _ _ (root_kind two_parts),
                ap is_dir (cond-true (byte_at (anode_page disk s 0) 0 == 1) (Dir (entries_of disk s 0) (list_of disk s 0 0 ∷ list_of disk s 0 1 ∷ list_of disk s 0 2 ∷ [])) (File (list_of disk s 0 0) (file_bytes disk s 0) [] None) page.0),
              ),
            )

  -- how it stays
  stays : (roster : Roster) (state : SlotState) → state_at disk s ≡ state → are_sound_moves disk.server (server_of (server_page disk)).ship said state ≡ true
      → StaysRight (record_of roster (image_in disk)) (record (fileset_of disk s) { anodes = anodes_held state said anodes }) (stay_for state said)
  unfolding header_of
  stays roster Free e moves = absurd (false≢true (ap is_taken_slot (sym e) ∙ taken))
  stays roster Unknown e moves = absurd (false≢true (ap is_taken_slot (sym e) ∙ taken))
  stays roster Writable e moves = (formed disk clean s low (ap is_whole e), ap is_clone e)
  stays roster Clone e moves = (formed disk clean s low (ap is_whole e), ap is_clone e)
  stays roster Leaving e moves =
      let a = and_parts (is_other disk.server said.other && nat_le said.ship (server_of (server_page disk)).ship) (said.parts == 0) moves in
      let b = and_parts (is_other disk.server said.other) (nat_le said.ship (server_of (server_page disk)).ship) a.0 in
      (formed disk clean s low (ap is_whole e), ap is_clone e, other_is b.0, leb-true said.ship (server_of (server_page disk)).ship b.1)
  stays roster Arriving e moves =
      let a = and_parts (is_other disk.server said.other && nat_le 1 said.parts) (nat_le said.parts said.objects) moves in
      let b = and_parts (is_other disk.server said.other) (nat_le 1 said.parts) a.0 in
      (came e said.parts said.objects refl (leb-true 1 said.parts b.1) (leb-true said.parts said.objects a.1) limit_part.1, ap is_clone e, other_is b.0)
  stays roster Gone e moves =
      let a = and_parts (is_other disk.server said.other && (said.ship == 0)) (said.parts == 0) moves in
      (refl, ap is_clone e, other_is (and_parts (is_other disk.server said.other) (said.ship == 0) a.0).0)

  -- the other server that it names is declared
  pub stay_declared : (roster : Roster) → is_declared (length roster.capacity) disk s ≡ true → IsStay roster (stay_for said.state said)
  unfolding header_of
  stay_declared roster is = by said.state refl moves_part
    where
      named : is_other disk.server said.other ≡ true → IsServer roster (record { 0 = said.other })
      named other = record { first = (other_is other).0; last = leb-true (byte_at (header_page disk s) 73) (length roster.capacity) is }

      by : (state : SlotState) → state_at disk s ≡ state → are_sound_moves disk.server (server_of (server_page disk)).ship said state ≡ true → IsStay roster (stay_for state said)
      by Free e moves = absurd (false≢true (ap is_taken_slot (sym e) ∙ taken))
      by Unknown e moves = absurd (false≢true (ap is_taken_slot (sym e) ∙ taken))
      by Writable e moves = tt
      by Clone e moves = tt
      by Leaving e moves =
          let a = and_parts (is_other disk.server said.other && nat_le said.ship (server_of (server_page disk)).ship) (said.parts == 0) moves in
          named (and_parts (is_other disk.server said.other) (nat_le said.ship (server_of (server_page disk)).ship) a.0).0
      by Arriving e moves =
          let a = and_parts (is_other disk.server said.other && nat_le 1 said.parts) (nat_le said.parts said.objects) moves in
          named (and_parts (is_other disk.server said.other) (nat_le 1 said.parts) a.0).0
      by Gone e moves =
          let a = and_parts (is_other disk.server said.other && (said.ship == 0)) (said.parts == 0) moves in
          named (and_parts (is_other disk.server said.other) (said.ship == 0) a.0).0

  pub stored : (roster : Roster) → IsStored (record_of roster (image_in disk)) (holding_of (slot_image disk s))
  unfolding header_of
  stored roster = record {
    server = refl;
    id = allowed (record_of roster (image_in disk)) refl refl;
    name = name_part;
    rest = held_rest said.state;
    stay = stays roster said.state refl moves_part;
  }
