-- What becomes of the parts of an object whose content is changed.
use Rattle.std.proofs.Common.{◌≡◌, ℕ, ◌+◌, ◌-◌, ◌==◌, nat_lt, nat_le, min, Bool, true, false, ◌&&◌, List, [], ◌∷◌, length, Option, Some, None, Ok, refl, sym, ap, ◌∙◌, rules}
use Rattle.std.specs.Prelude.{if◌then◌else◌, unwrap_or}
use Rattle.std.specs.Option.{option_map, option_map_or}
use Rattle.base_types.specs.Image.{byte_at}
use Rattle.base_types.specs.Spans.{in_spans}
use Rattle.base_types.specs.declared.access.AccessEntry.{AccessEntry}
use Rattle.base_types.specs.declared.ids.HostId.{HostId}
use Rattle.base_types.specs.declared.span.Span.{Span}
use Rattle.tree_calls.specs.declared.part.DirEntry.{DirEntry}
use Rattle.tree_calls.specs.declared.place.Which.{Which}
use Rattle.tree_calls.specs.declared.place.Which.TheVariants.{Own as OwnList, Files, Dirs}
use Rattle.tree_objects.specs.declared.content.Content.{Content}
use Rattle.tree_objects.specs.declared.content.Content.TheVariants.{Dir, File}
use Rattle.tree_objects.specs.declared.content.Unsaved.{Unsaved}
use Rattle.tree_objects.specs.declared.content.UnsavedLength.{UnsavedLength}
use Rattle.tree_objects.specs.Changes.{content_written, content_truncated, content_forgotten, length_after, length_forgotten}
use Rattle.tree_objects.specs.Entries.{content_with_entry, content_without_entry}
use Rattle.tree_objects.specs.Files.{present_length, present_bytes, unsaved_at}
use Rattle.tree_objects.specs.Objects.{is_dir, told_length, access_of, content_with_list}
use Rattle.tree_objects.specs.Shown.{Shown, shown, present_byte, shown_written, shown_stored, shown_forgotten}
use Rattle.tree_objects.specs.Sound.{is_sound}
use Rattle.tree_objects.specs.Spans.{whole}
use Rattle.tree_objects.specs.Stores.{length_left, content_stored, content_synced, own_length}
use Rattle.tree_objects.proofs.Lawful.{write_shows, truncate_shows, store_shows, forget_shows}
use Rattle.tree_objects.proofs.Observed.{over_length, length_resized}
use Rattle.tree_answers.proofs.Places.{found_passes}
use Rattle.tree_laws.specs.Parts.{Part, Seen, Cell, present, settled, written_byte, written_length, size_cell, cell_of}
use Rattle.tree_laws.specs.Parts.Part.{ByteAt, Size, Traits, Entries}
use Rattle.tree_laws.specs.Fates.{without, byte_written, byte_stored, size_written, size_left, size_stored, own_size, after_fate, write_fate}
use Rattle.tree_laws.specs.Fates.Fate.{IsCut, IsStored, IsSynced, IsForgotten, IsListed, Turns}
use Rattle.tree_laws.proofs.Steps.{no_dir, no_file, number_is}

-- what is seen of a size
size_option : (o : Option UnsavedLength) (kept : List ℕ) →
    option_map_or (λ written. written.value) (option_map written_length o) (length kept) ≡ present_length kept o
size_option None kept = refl
size_option (Some len) kept = refl

pub size_seen : (content : Content) → present (size_cell content) ≡ told_length content
size_seen (Dir entries lists) = refl
size_seen (File list kept unsaved len) = size_option len kept

-- a byte as it is shown
abbrev pub shown_cell : Shown → Cell ℕ
shown_cell here = record {
  kept = here.kept;
  unsaved = option_map written_byte here.unsaved;
}

-- an object with a content
abbrev of_content : Bool → List ℕ → List ℕ → Content → (part : Part) → Cell (Seen part)
of_content read_only owner group content part = cell_of read_only (record { owner = owner; group = group; content = content }) part

pub present_cell : (here : Shown) → present (shown_cell here) ≡ present_byte here
present_cell here = by_option here.unsaved
  where
    by_option : (o : Option Unsaved) → option_map_or (λ written. written.value) (option_map written_byte o) here.kept ≡ option_map_or (λ byte. byte.value) o here.kept
    by_option None = refl
    by_option (Some byte) = refl

-- Write
written_cell : (host : HostId) (from : ℕ) (bytes : List ℕ) (at : ℕ) (here : Shown) → shown_cell (shown_written host from bytes at here) ≡ byte_written host from bytes at (shown_cell here)
written_cell host from bytes at here = by_test (nat_le from at && nat_lt at (from + length bytes))
  where
    by_test : (b : Bool) →
        shown_cell (if b then (let new : Shown = record { kept = here.kept; unsaved = Some (record { at = at; value = byte_at bytes (at - from); writer = host }) } in new) else here)
        ≡ (if b then (let new : Cell ℕ = record (shown_cell here) { unsaved = Some (record { writer = host; value = byte_at bytes (at - from) }) } in new) else shown_cell here)
    by_test true = refl
    by_test false = refl

written_size : (host : HostId) (end : ℕ) (kept : List ℕ) (len : Option UnsavedLength) →
    (let new : Cell ℕ = record { kept = length kept; unsaved = option_map written_length (length_after len (present_length kept len) host end) } in new)
    ≡ size_written host end (record { kept = length kept; unsaved = option_map written_length len })
written_size host end kept None = by_test (nat_lt (length kept) end)
  where
    by_test : (b : Bool) →
        (let new : Cell ℕ = record { kept = length kept; unsaved = option_map written_length (if b then Some (record { length = end; writer = host }) else None) } in new)
        ≡ (if b then (let new : Cell ℕ = record { kept = length kept; unsaved = Some (record { writer = host; value = end }) } in new) else settled (length kept))
    by_test true = refl
    by_test false = refl
written_size host end kept (Some len) = by_test (nat_lt len.length end)
  where
    by_test : (b : Bool) →
        (let new : Cell ℕ = record { kept = length kept; unsaved = option_map written_length (if b then Some (record { length = end; writer = host }) else Some len) } in new)
        ≡ (if b then (let new : Cell ℕ = record { kept = length kept; unsaved = Some (record { writer = host; value = end }) } in new) else (let old : Cell ℕ = record { kept = length kept; unsaved = Some (written_length len) } in old))
    by_test true = refl
    by_test false = refl

pub written_parts : (read_only : Bool) (owner group : List ℕ) (host : HostId) (from : ℕ) (bytes : List ℕ) (content : Content) (part : Part) → is_dir content ≡ false →
    of_content read_only owner group (content_written host from bytes content) part ≡ after_fate (write_fate host from bytes) (of_content read_only owner group content) part
written_parts read_only owner group host from bytes (Dir entries lists) part d = no_dir d
written_parts read_only owner group host from [] (File list kept unsaved len) part d = refl
written_parts read_only owner group host from (byte ∷ bytes) (File list kept unsaved len) (ByteAt at) d =
    ap shown_cell (write_shows host from (byte ∷ bytes) (File list kept unsaved len) at d) ∙ written_cell host from (byte ∷ bytes) at (shown (File list kept unsaved len) at)
written_parts read_only owner group host from (byte ∷ bytes) (File list kept unsaved len) Size d = written_size host (from + length (byte ∷ bytes)) kept len
written_parts read_only owner group host from (byte ∷ bytes) (File list kept unsaved len) Traits d = refl
written_parts read_only owner group host from (byte ∷ bytes) (File list kept unsaved len) Entries d = refl

-- Truncate
pub cut_parts : (read_only : Bool) (owner group : List ℕ) (size : ℕ) (content : Content) (part : Part) → is_dir content ≡ false →
    of_content read_only owner group (content_truncated size content) part ≡ after_fate (IsCut size) (of_content read_only owner group content) part
cut_parts read_only owner group size (Dir entries lists) part d = no_dir d
cut_parts read_only owner group size (File list kept unsaved len) (ByteAt at) d =
    let file = File list kept unsaved len in
    ap shown_cell (truncate_shows size file at d)
    ∙ ap (λ n. settled (if nat_lt at (min n size) then present_byte (shown file at) else 0)) (sym (size_seen file))
    ∙ ap (λ n. settled (if nat_lt at (min (present (size_cell file)) size) then n else 0)) (sym (present_cell (shown file at)))
cut_parts read_only owner group size (File list kept unsaved len) Size d = ap settled (length_resized (present_bytes kept unsaved len) size)
cut_parts read_only owner group size (File list kept unsaved len) Traits d = refl
cut_parts read_only owner group size (File list kept unsaved len) Entries d = refl

-- Stored
stored_option : (host : HostId) (spans : List Span) (end at kept : ℕ) (o : Option Unsaved) → ((byte : Unsaved) → o ≡ Some byte → byte.at ≡ at) →
    shown_cell (shown_stored host spans end at (record { kept = kept; unsaved = o })) ≡ byte_stored host spans end at (shown_cell (record { kept = kept; unsaved = o }))
stored_option host spans end at kept None same = refl
stored_option host spans end at kept (Some byte) same =
    ap (λ n. shown_cell (if (byte.writer.0 == host.0) && nat_lt n end && in_spans spans n then (let new : Shown = record { kept = byte.value; unsaved = None } in new) else record { kept = if nat_lt at end then kept else 0; unsaved = Some byte })) (same byte refl)
    ∙ by_test ((byte.writer.0 == host.0) && nat_lt at end && in_spans spans at)
  where
    by_test : (b : Bool) → shown_cell (if b then (let new : Shown = record { kept = byte.value; unsaved = None } in new) else record { kept = if nat_lt at end then kept else 0; unsaved = Some byte })
        ≡ (if b then settled byte.value else (let new : Cell ℕ = record { kept = if nat_lt at end then kept else 0; unsaved = Some (written_byte byte) } in new))
    by_test true = refl
    by_test false = refl

left_option : (stored : ℕ) (o : Option UnsavedLength) →
    option_map written_length (length_left (Some stored) o) ≡ size_left stored (option_map written_length o)
left_option stored None = refl
left_option stored (Some len) = by_test (len.length == stored)
  where
    by_test : (b : Bool) → option_map written_length (if b then None else Some len) ≡ (if b then None else Some (written_length len))
    by_test true = refl
    by_test false = refl

byte_there : (unsaved : List Unsaved) (at : ℕ) (byte : Unsaved) → unsaved_at unsaved at ≡ Some byte → byte.at ≡ at
byte_there unsaved at byte h = number_is byte.at at (found_passes (λ byte. byte.at == at) unsaved byte h)

stored_size : (host : HostId) (spans : List Span) (stored : Option ℕ) (kept : List ℕ) (unsaved : List Unsaved) (len : Option UnsavedLength) (list : List AccessEntry) →
    size_cell (content_stored host spans stored (File list kept unsaved len)) ≡ size_stored stored (size_cell (File list kept unsaved len))
stored_size host spans None kept unsaved len list =
    ap (λ n. let new : Cell ℕ = record { kept = n; unsaved = option_map written_length len } in new) (over_length kept _ 0 (length kept))
stored_size host spans (Some stored) kept unsaved len list =
    ap (λ n. let new : Cell ℕ = record { kept = n; unsaved = option_map written_length (length_left (Some stored) len) } in new) (over_length kept _ 0 stored)
    ∙ ap (λ o. let new : Cell ℕ = record { kept = stored; unsaved = o } in new) (left_option stored len)

pub stored_parts : (read_only : Bool) (owner group : List ℕ) (host : HostId) (spans : List Span) (stored : Option ℕ) (content : Content) (part : Part) → is_dir content ≡ false → is_sound content ≡ true →
    of_content read_only owner group (content_stored host spans stored content) part ≡ after_fate (IsStored host spans stored) (of_content read_only owner group content) part
stored_parts read_only owner group host spans stored (Dir entries lists) part d s = no_dir d
stored_parts read_only owner group host spans stored (File list kept unsaved len) (ByteAt at) d s =
    ap shown_cell (store_shows host spans stored (File list kept unsaved len) at d s)
    ∙ stored_option host spans (unwrap_or stored (length kept)) at (byte_at kept at) (unsaved_at unsaved at) (byte_there unsaved at)
stored_parts read_only owner group host spans stored (File list kept unsaved len) Size d s = stored_size host spans stored kept unsaved len list
stored_parts read_only owner group host spans stored (File list kept unsaved len) Traits d s = refl
stored_parts read_only owner group host spans stored (File list kept unsaved len) Entries d s = refl

-- Sync
own_option : (host : HostId) (kept : ℕ) (o : Option UnsavedLength) → own_length host o ≡ own_size host (record { kept = kept; unsaved = option_map written_length o })
own_option host kept None = refl
own_option host kept (Some len) = refl

synced_is_stored : (host : HostId) (cells : (part : Part) → Cell (Seen part)) (part : Part) → after_fate (IsStored host (whole ∷ []) (own_size host (cells Size))) cells part ≡ after_fate (IsSynced host) cells part
synced_is_stored host cells (ByteAt at) = refl
synced_is_stored host cells Size = refl
synced_is_stored host cells Traits = refl
synced_is_stored host cells Entries = refl

pub synced_parts : (read_only : Bool) (owner group : List ℕ) (host : HostId) (content : Content) (part : Part) → is_dir content ≡ false → is_sound content ≡ true →
    of_content read_only owner group (content_synced host content) part ≡ after_fate (IsSynced host) (of_content read_only owner group content) part
synced_parts read_only owner group host (Dir entries lists) part d s = no_dir d
synced_parts read_only owner group host (File list kept unsaved len) part d s =
    let file = File list kept unsaved len in
    stored_parts read_only owner group host (whole ∷ []) (own_length host len) file part d s
    ∙ ap (λ o. after_fate (IsStored host (whole ∷ []) o) (of_content read_only owner group file) part) (own_option host (length kept) len)
    ∙ synced_is_stored host (of_content read_only owner group file) part

-- Down
forgotten_option : (host : HostId) (kept : ℕ) (o : Option Unsaved) → shown_cell (shown_forgotten host (record { kept = kept; unsaved = o }))
    ≡ (let new : Cell ℕ = record (shown_cell (record { kept = kept; unsaved = o })) { unsaved = without host (shown_cell (record { kept = kept; unsaved = o })).unsaved } in new)
forgotten_option host kept None = refl
forgotten_option host kept (Some byte) = by_test (byte.writer.0 == host.0)
  where
    by_test : (b : Bool) → shown_cell (record { kept = kept; unsaved = if b then None else Some byte }) ≡ (let new : Cell ℕ = record { kept = kept; unsaved = if b then None else Some (written_byte byte) } in new)
    by_test true = refl
    by_test false = refl

forgotten_length : (host : HostId) (kept : ℕ) (o : Option UnsavedLength) →
    (let new : Cell ℕ = record { kept = kept; unsaved = option_map written_length (length_forgotten host o) } in new)
    ≡ (let new : Cell ℕ = record { kept = kept; unsaved = without host (option_map written_length o) } in new)
forgotten_length host kept None = refl
forgotten_length host kept (Some len) = by_test (len.writer.0 == host.0)
  where
    by_test : (b : Bool) → (let new : Cell ℕ = record { kept = kept; unsaved = option_map written_length (if b then None else Some len) } in new)
        ≡ (let new : Cell ℕ = record { kept = kept; unsaved = if b then None else Some (written_length len) } in new)
    by_test true = refl
    by_test false = refl

pub forgotten_parts : (read_only : Bool) (owner group : List ℕ) (host : HostId) (content : Content) (part : Part) → is_sound content ≡ true →
    of_content read_only owner group (content_forgotten host content) part ≡ after_fate (IsForgotten host) (of_content read_only owner group content) part
forgotten_parts read_only owner group host (Dir entries lists) (ByteAt at) s = refl
forgotten_parts read_only owner group host (Dir entries lists) Size s = refl
forgotten_parts read_only owner group host (Dir entries lists) Traits s = refl
forgotten_parts read_only owner group host (Dir entries lists) Entries s = refl
forgotten_parts read_only owner group host (File list kept unsaved len) (ByteAt at) s =
    ap shown_cell (forget_shows host (File list kept unsaved len) at refl s) ∙ forgotten_option host (byte_at kept at) (unsaved_at unsaved at)
forgotten_parts read_only owner group host (File list kept unsaved len) Size s = forgotten_length host (length kept) len
forgotten_parts read_only owner group host (File list kept unsaved len) Traits s = refl
forgotten_parts read_only owner group host (File list kept unsaved len) Entries s = refl

-- SetAcl
pub listed_parts : (read_only : Bool) (owner group : List ℕ) (which : Which) (list there : List AccessEntry) (content : Content) (part : Part) → access_of which content ≡ Ok there →
    of_content read_only owner group (content_with_list which list content) part ≡ after_fate (IsListed which list) (of_content read_only owner group content) part
listed_parts read_only owner group which list there (Dir entries lists) (ByteAt at) h = refl
listed_parts read_only owner group which list there (Dir entries lists) Size h = refl
listed_parts read_only owner group which list there (Dir entries lists) Traits h = refl
listed_parts read_only owner group which list there (Dir entries lists) Entries h = refl
listed_parts read_only owner group OwnList list there (File old kept unsaved len) (ByteAt at) h = refl
listed_parts read_only owner group OwnList list there (File old kept unsaved len) Size h = refl
listed_parts read_only owner group OwnList list there (File old kept unsaved len) Traits h = refl
listed_parts read_only owner group OwnList list there (File old kept unsaved len) Entries h = refl
listed_parts read_only owner group Files list there (File old kept unsaved len) part h = absurd (search (rules, h))
listed_parts read_only owner group Dirs list there (File old kept unsaved len) part h = absurd (search (rules, h))

-- entries
abbrev pub turned : Option DirEntry → Option (List ℕ) → Content → Content
turned None None content = content
turned (Some entry) None content = content_with_entry entry content
turned None (Some name) content = content_without_entry name content
turned (Some entry) (Some name) content = content_without_entry name (content_with_entry entry content)

pub turned_parts : (read_only : Bool) (owner group : List ℕ) (gained : Option DirEntry) (dropped : Option (List ℕ)) (content : Content) (part : Part) → is_dir content ≡ true →
    of_content read_only owner group (turned gained dropped content) part ≡ after_fate (Turns gained dropped) (of_content read_only owner group content) part
turned_parts read_only owner group gained dropped (File list kept unsaved len) part d = no_file d
turned_parts read_only owner group None None (Dir entries lists) (ByteAt at) d = refl
turned_parts read_only owner group None None (Dir entries lists) Size d = refl
turned_parts read_only owner group None None (Dir entries lists) Traits d = refl
turned_parts read_only owner group None None (Dir entries lists) Entries d = refl
turned_parts read_only owner group None (Some name) (Dir entries lists) (ByteAt at) d = refl
turned_parts read_only owner group None (Some name) (Dir entries lists) Size d = refl
turned_parts read_only owner group None (Some name) (Dir entries lists) Traits d = refl
turned_parts read_only owner group None (Some name) (Dir entries lists) Entries d = refl
turned_parts read_only owner group (Some entry) None (Dir entries lists) (ByteAt at) d = refl
turned_parts read_only owner group (Some entry) None (Dir entries lists) Size d = refl
turned_parts read_only owner group (Some entry) None (Dir entries lists) Traits d = refl
turned_parts read_only owner group (Some entry) None (Dir entries lists) Entries d = refl
turned_parts read_only owner group (Some entry) (Some name) (Dir entries lists) (ByteAt at) d = refl
turned_parts read_only owner group (Some entry) (Some name) (Dir entries lists) Size d = refl
turned_parts read_only owner group (Some entry) (Some name) (Dir entries lists) Traits d = refl
turned_parts read_only owner group (Some entry) (Some name) (Dir entries lists) Entries d = refl
