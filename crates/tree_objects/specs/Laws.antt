-- What makes the definitions of changes believable.
use Rattle.std.specs.Prelude.{
  ◌≡◌,
  ◌<◌,
  ◌≤◌,
  ◌⊎◌,
  ℕ,
  ◌+◌,
  ◌-◌,
  ◌==◌,
  min,
  Bool,
  true,
  false,
  ◌&&◌,
  nat_lt,
  List,
  [],
  ◌∷◌,
  length,
  Option,
  unwrap_or,
}
use Rattle.std.specs.List.{list_all}
use Rattle.std.specs.Option.{option_map_or}
use Rattle.base_types.specs.Image.{byte_at}
use Rattle.base_types.specs.Spans.{in_spans}
use Rattle.base_types.specs.declared.ids.HostId.{HostId}
use Rattle.base_types.specs.declared.span.Span.{Span}
use Rattle.tree_objects.specs.declared.content.Unsaved.{Unsaved}
use Rattle.tree_objects.specs.declared.content.Content.{Content}
use Rattle.tree_objects.specs.declared.content.Content.TheVariants.{Dir, File}
use Rattle.tree_objects.specs.Changes.{content_written, content_truncated, content_forgotten, content_as_cloned}
use Rattle.tree_objects.specs.Files.{content_bytes}
use Rattle.tree_objects.specs.Objects.{is_dir, told_length}
use Rattle.tree_objects.specs.Shown.{shown, shown_written, shown_kept, shown_stored, shown_forgotten}
use Rattle.tree_objects.specs.Sound.{is_sound}
use Rattle.tree_objects.specs.Spans.{whole}
use Rattle.tree_objects.specs.Stores.{content_stored, content_synced, own_length_of}
use Rattle.tree_objects.specs.Losses.{own_spans}

-- the kept length of a file, and none of a directory
abbrev pub kept_length : Content → ℕ
kept_length (Dir entries lists) = 0
kept_length (File list kept unsaved len) = length kept

-- a write leaves at each position what is said of it
abbrev pub WriteShows : Type 0
WriteShows = (host : HostId) (from : ℕ) (bytes : List ℕ) (content : Content) (at : ℕ) → is_dir content ≡ false →
    shown (content_written host from bytes content) at ≡ shown_written host from bytes at (shown content at)

-- a write changes no byte that readers see outside its span
abbrev pub WriteKeepsOthers : Type 0
WriteKeepsOthers = (host : HostId) (from : ℕ) (bytes : List ℕ) (content : Content) (at : ℕ)
    → at < length (content_bytes content)
    → (at < from) ⊎ (from + length bytes ≤ at)
    → byte_at (content_bytes (content_written host from bytes content)) at ≡ byte_at (content_bytes content) at

-- what was written is what readers see
abbrev pub WriteIsSeen : Type 0
WriteIsSeen = (host : HostId) (from : ℕ) (bytes : List ℕ) (content : Content) (at : ℕ)
    → is_dir content ≡ false → from ≤ at → at < from + length bytes
    → byte_at (content_bytes (content_written host from bytes content)) at ≡ byte_at bytes (at - from)

-- so does a truncation
abbrev pub TruncateShows : Type 0
TruncateShows = (size : ℕ) (content : Content) (at : ℕ) → is_dir content ≡ false →
    shown (content_truncated size content) at ≡ shown_kept (min (told_length content) size) at (shown content at)

-- so does what a host stores
abbrev pub StoreShows : Type 0
StoreShows = (host : HostId) (spans : List Span) (stored : Option ℕ) (content : Content) (at : ℕ)
    → is_dir content ≡ false → is_sound content ≡ true
    → shown (content_stored host spans stored content) at
    ≡ shown_stored host spans (unwrap_or stored (kept_length content)) at (shown content at)

-- so does a sync
abbrev pub SyncShows : Type 0
SyncShows = (host : HostId) (content : Content) (at : ℕ) → is_dir content ≡ false → is_sound content ≡ true
    → shown (content_synced host content) at ≡ shown_stored host
    (whole ∷ []) (unwrap_or (own_length_of host content) (kept_length content)) at (shown content at)

-- so does the loss of a host's unsaved changes
abbrev pub ForgetShows : Type 0
ForgetShows = (host : HostId) (content : Content) (at : ℕ) → is_dir content ≡ false → is_sound content ≡ true →
    shown (content_forgotten host content) at ≡ shown_forgotten host (shown content at)

-- a clone holds the bytes that readers see, and nothing in it is unsaved
abbrev pub CloneHoldsPresent : Type 0
CloneHoldsPresent = (content : Content) → content_bytes (content_as_cloned content) ≡ content_bytes content

-- whether an unsaved byte is a host's
abbrev pub is_own : HostId → Option Unsaved → Bool
is_own host byte = option_map_or (λ byte. byte.writer.0 == host.0) byte false

-- what a host would lose are exactly the positions of its unsaved bytes
abbrev pub SpansAreExact : Type 0
SpansAreExact = (host : HostId) (content : Content) (at : ℕ)
    → is_sound content ≡ true → in_spans (own_spans host content) at ≡ is_own host (shown content at).unsaved

-- whether there is a byte between each span and those after it
abbrev pub are_apart : List Span → Bool
are_apart [] = true
are_apart (span ∷ spans) = list_all (λ other. nat_lt span.to other.from) spans && are_apart spans

-- they are told in as few spans as there can be
abbrev pub SpansAreMaximal : Type 0
SpansAreMaximal = (host : HostId) (content : Content)
    → is_sound content ≡ true → are_apart (own_spans host content) ≡ true
