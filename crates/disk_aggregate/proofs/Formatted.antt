-- What a format leaves is a new store.
use Rattle.std.proofs.Common.{◌≡◌, ◌<◌, ◌≤◌, ℕ, zero, suc, ◌+◌, ◌-◌, ◌*◌, List, [], length, get_or, inl, inr, refl, sym, subst, ◌∙◌, ap, arith}
use Rattle.std.specs.Prelude.{true, replicate, Option, Some, None, IfSome, slice_get, unwrap_or}
use Rattle.std.proofs.lemmas.List.{length-replicate}
use Rattle.base_types.specs.Crash.{IsSettled}
use Rattle.base_types.specs.Image.{byte_at}
use Rattle.base_types.specs.View.{View}
use Rattle.base_types.specs.declared.ids.ServerId.{ServerId}
use Rattle.tree_calls.specs.declared.roster.Roster.{Roster}
use Rattle.tree_objects.specs.declared.content.Anode.{Anode}
use Rattle.tree_filesets.specs.Founding.{unused_anode}
use Rattle.store_state.specs.State.{held_at, new_state}
use Rattle.store_state.specs.declared.state.Holding.{Holding}
use Rattle.store_state.specs.declared.state.StoreState.{StoreState}
use Rattle.store_records.proofs.Acts.{new_is_storable}
use Rattle.disk_layout.specs.Half.{HasLog}
use Rattle.disk_layout.specs.Numbers.{number_at}
use Rattle.disk_layout.specs.Pages.{pages_in, recovered, undone, redone}
use Rattle.disk_layout.specs.Places.{in_place, pages_of}
use Rattle.disk_layout.specs.Server.{IsNewServer}
use Rattle.disk_layout.specs.declared.half.Half.{Half}
use Rattle.disk_layout.specs.declared.superblock.Superblock.{Superblock}
use Rattle.disk_layout.specs.Entry.{entries}
use Rattle.disk_layout.proofs.Entries.{held_entries}
use Rattle.disk_log.specs.Contents.{contents_of, last_stage, page_in}
use Rattle.disk_log.specs.Format.{IsFormatted, IsLeftOfFormat as IsLeftOfLog, first_half, superblock_of}
use Rattle.disk_log.specs.Log.{disk_of, state_of, IsSoundLog}
use Rattle.disk_log.specs.Puts.{page_of as page_under}
use Rattle.disk_log.specs.Recovered.{blank_page}
use Rattle.disk_log.specs.State.{State, fresh_state}
use Rattle.disk_log.specs.declared.log.Log.{Log}
use Rattle.disk_anode.specs.Anode.{Anode as Kept}
use Rattle.disk_objects.specs.Holds.{Holds}
use Rattle.disk_objects.proofs.Staging.{two_bytes}
use Rattle.disk_objects.proofs.Starting.{holds_new}
use Rattle.disk_pages.specs.Words.{are_zero}
use Rattle.disk_pages.specs.Puts.{SaysFacts, SaysNumbers}
use Rattle.disk_objects.specs.Objects.{kept_anodes, AreKept, FitsObject, KeepsNow}
use Rattle.disk_objects.proofs.Places.{nothing_kept}
use Rattle.disk_image.specs.Aggregate.{Aggregate, aggregate_of, page_of, server_page}
use Rattle.disk_image.specs.Faults.{faults_in}
use Rattle.disk_image.specs.Image.{image_in}
use Rattle.disk_image.proofs.Joined.{get_or-listed}
use Rattle.disk_image_laws.specs.Fresh.{IsEmpty}
use Rattle.disk_image_laws.proofs.Fresh.{fresh_none}
use Rattle.disk_image_laws.specs.ObjectLaws.{anodes_of}
use Rattle.disk_records.specs.Record.{record_of}
use Rattle.disk_records.specs.Said.{facts_said}
use Rattle.disk_records.specs.Stored.{SaysNothing, SaysRecord, SaysSlot}
use Rattle.disk_records.proofs.New.{empty_is_new}
use Rattle.disk_records.proofs.Held.{faultless_says}
use Rattle.disk_records.specs.Loading.{KeepsRecord}
use Rattle.disk_aggregate.specs.Records.{HasRecord, IsLeftOfFormat}
use Rattle.disk_aggregate.specs.Stands.{StandsOn}
use Rattle.disk_aggregate.proofs.Found.{record_found}

zeros_in : (n k : ℕ) → byte_at (replicate n 0) k ≡ 0
zeros_in zero k = refl
zeros_in (suc n) zero = refl
zeros_in (suc n) (suc k) = zeros_in n k

blank_byte : (page : List ℕ) (k : ℕ) → page ≡ blank_page → byte_at page k ≡ 0
blank_byte page k is = ap (λ (l : List ℕ). byte_at l k) is ∙ zeros_in 512 k

number_two : (at : ℕ) (page : List ℕ) → page ≡ blank_page → number_at 2 at page ≡ 0
number_two at page is = two_bytes at page ∙ (let a = blank_byte page at is in let b = blank_byte page (at + 1) is in omega (arith, a, b))

-- bytes of a disk right after a format
module _ (superblock : Superblock) (c : List ℕ) (is : IsFormatted superblock c) where
  abbrev half : Half
  half = first_half superblock

  abbrev disk : Aggregate
  disk = aggregate_of superblock half c

  log : HasLog superblock half c
  log = record { front = is.front; used = is.log.used }

  no_entries : entries half c ≡ []
  no_entries = held_entries half [] c (omega arith) is.log.entries

  pages_are : (p : ℕ) → pages_in half c p ≡ in_place c p
  unfolding pages_in recovered
  pages_are p = λ i. undone (no_entries i) (no_entries i) (redone (no_entries i) (in_place c)) p

  page_is : (p : ℕ) → p < pages_of superblock.blocks → page_of disk p ≡ in_place c p
  page_is p low = get_or-listed (pages_in half c) (pages_of superblock.blocks) p [] low ∙ pages_are p

  blank : (p : ℕ) → 1 ≤ p → p < pages_of superblock.blocks → page_of disk p ≡ blank_page
  blank p some low = page_is p low ∙ is.new_pages.zeros p some low

  first_page : IsNewServer (server_page disk)
  first_page = subst IsNewServer (sym (page_is 0 (omega arith))) is.new_pages.server

  empty : IsEmpty disk
  empty = record { server = first_page; zeros = λ p some low k. blank_byte (page_of disk p) k (blank p some (omega (arith, low))) }

  clean : faults_in disk ≡ []
  clean = fresh_none disk empty (λ p low k small. number_two (2 * k) (page_of disk (1058 + p)) (blank (1058 + p) (omega arith) (omega (arith, low))))

  module _ (server : ServerId) (capacity : ℕ) (roster : Roster) (own : superblock.server ≡ server.0) (blocks : superblock.blocks ≡ capacity + 1024) where
    record_is : record_of roster (image_in disk) ≡ new_state server capacity roster
    record_is =
        let less : superblock.blocks - 1024 ≡ capacity = omega (arith, blocks) in
        empty_is_new disk roster empty ∙ (λ i. new_state (record { 0 = own i }) (less i) roster)

    -- they have the record of a new store
    pub new_record : 1 ≤ server.0 → server.0 ≤ 4 → 68 ≤ capacity → HasRecord (new_state server capacity roster) c
    new_record first last least =
        record_found superblock half c log (omega (arith, own, first)) (omega (arith, own, last)) (omega (arith, blocks, least)) clean roster server own ∙ ap Some record_is

    says : SaysRecord (new_state server capacity roster) (anodes_of disk) (page_of disk)
    says = subst (λ (state : StoreState). SaysRecord state (anodes_of disk) (page_of disk)) record_is (faultless_says disk roster clean first_page.format)

-- the anodes of slots that were never used
abbrev unused : ℕ → List Anode
unused slot = replicate 64 unused_anode

unused_at : (n k : ℕ) → unwrap_or (slice_get (replicate n unused_anode) k) unused_anode ≡ unused_anode
unused_at zero k = refl
unused_at (suc n) zero = refl
unused_at (suc n) (suc k) = unused_at n k

unused_kept : AreKept (replicate 64 unused_anode)
unused_kept = record {
  count = length-replicate {A = Anode} 64 unused_anode;
  each = λ anode some few. subst (λ (a : Anode). IfSome a.object FitsObject) (sym (unused_at 64 (anode - 1))) tt;
}

no_slots : (n s : ℕ) → held_at (replicate n None) s ≡ None
no_slots zero s = refl
no_slots (suc n) zero = refl
no_slots (suc n) (suc s) = no_slots n s

module _ {D : Type 0} (tells : Type 0) (view : D → View) (log : Log D) (server : ServerId) (capacity blocks : ℕ) (roster : Roster) (sized : blocks ≡ capacity + 1024)
    (fresh : state_of log ≡ fresh_state (superblock_of server.0 blocks) (first_half (superblock_of server.0 blocks))) where
  abbrev image : List ℕ
  image = (view (disk_of log)).image

  abbrev superblock : Superblock
  superblock = superblock_of server.0 blocks

  abbrev state : StoreState
  state = new_state server capacity roster

  in_log : (p : ℕ) → page_in (contents_of view log) p ≡ in_place image p
  unfolding page_under
  in_log p = λ i. page_under (fresh i).entries (fresh i).puts image p

  module _ (is : IsFormatted superblock image) (first : 1 ≤ server.0) (last : server.0 ≤ 4) (servers : length roster.capacity ≤ 4) where
    same_page : (p : ℕ) → p < pages_of blocks → page_of (disk superblock image is) p ≡ page_in (contents_of view log) p
    same_page p low = page_is superblock image is p low ∙ sym (in_log p)

    held : KeepsNow unused (state_of log) image
    held = record {
      held = subst (λ (s : State). Holds (kept_anodes unused) s.superblock.blocks (λ p. page_in (contents_of view log) p) image) (sym fresh)
          (subst (λ (anodes : ℕ → Kept). Holds anodes blocks (λ p. page_in (contents_of view log) p) image) (sym nothing_kept)
          (holds_new blocks (λ p. page_in (contents_of view log) p) image (λ p some low. in_log p ∙ is.new_pages.zeros p some low)));
      each = λ slot low. unused_kept;
    }

    slot_says : (s : ℕ) → s < 16 → SaysSlot (held_at state.slots s) (unused s) (page_in (contents_of view log) (2 + 66 * s)) (page_in (contents_of view log) (3 + 66 * s))
    slot_says s low =
        let there = (says superblock image is server capacity roster refl sized).slot s low in
        let nothing : SaysNothing (anodes_of (disk superblock image is) s) (page_of (disk superblock image is) (2 + 66 * s)) (page_of (disk superblock image is) (3 + 66 * s)) =
        subst (λ (h : Option Holding). SaysSlot h (anodes_of (disk superblock image is) s) (page_of (disk superblock image is) (2 + 66 * s)) (page_of (disk superblock image is) (3 + 66 * s))) (no_slots 16 s) there in
        let here : SaysSlot None (unused s) (page_in (contents_of view log) (2 + 66 * s)) (page_in (contents_of view log) (3 + 66 * s)) = record {
          header_zero = subst (λ (l : List ℕ). are_zero 0 512 l ≡ true) (same_page (2 + 66 * s) (omega (arith, low))) nothing.header_zero;
          numbers_zero = subst (λ (l : List ℕ). are_zero 0 512 l ≡ true) (same_page (3 + 66 * s) (omega (arith, low))) nothing.numbers_zero;
          anodes_unused = refl;
        } in
        subst (λ (h : Option Holding). SaysSlot h (unused s) (page_in (contents_of view log) (2 + 66 * s)) (page_in (contents_of view log) (3 + 66 * s))) (sym (no_slots 16 s)) here

    kept : KeepsRecord view state log
    kept = record {
      slots = unused;
      keeps = held;
      says = record {
        facts = subst (λ (l : List ℕ). SaysFacts (facts_said state) l) (same_page 0 (omega arith)) (says superblock image is server capacity roster refl sized).facts;
        numbers = subst (λ (l : List ℕ). SaysNumbers state.records l) (same_page 1 (omega arith)) (says superblock image is server capacity roster refl sized).numbers;
        slot = slot_says;
      };
      storable = new_is_storable server capacity roster first last servers;
    }

  -- the aggregate of a new store stands
  pub formatted_stands : IsSoundLog tells view log → (tells → IsFormatted superblock image) → IsSettled (view (disk_of log)) → 1 ≤ server.0 → server.0 ≤ 4 → length roster.capacity ≤ 4 → 68 ≤ capacity
      → StandsOn tells view state 0 log
  formatted_stands sound formatted settled first last servers least = record {
    idle = record { sound = sound; none_open = λ slot. ap (λ (s : State). get_or s.reservations slot 0) fresh ∙ zeros_in 2048 slot };
    last = last_none;
    settled = settled;
    generation = (let e : (state_of log).half.generation ≡ 1 = ap (λ (s : State). s.half.generation) fresh in omega (arith, e));
    epoch = omega arith;
    ship = omega arith;
    record_held = λ told. kept (formatted told) first last servers;
    server_is = λ told. ap (λ (s : State). s.superblock.server) fresh;
    blocks_are = λ told. ap (λ (s : State). s.superblock.blocks) fresh ∙ sized;
    least = λ told. least;
  }
    where
      last_none : last_stage (contents_of view log) ≡ 0
      last_none = ap (λ (s : State). last_stage (record { state = s; image = image })) fresh

-- what a crash in a format of a log leaves is what one in a format of an aggregate does
pub left_format : (front : Superblock) (server : ServerId) (capacity : ℕ) (roster : Roster) → front.server ≡ server.0 → front.blocks ≡ capacity + 1024 → 1 ≤ server.0 → server.0 ≤ 4 → 68 ≤ capacity
    → (c : List ℕ) → IsLeftOfLog front c → IsLeftOfFormat (new_state server capacity roster) c
left_format front server capacity roster own sized first last least c (inl none) = inl none
left_format front server capacity roster own sized first last least c (inr is) = inr (new_record front c is server capacity roster own sized first last least)
