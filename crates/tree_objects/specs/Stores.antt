-- How unsaved changes of a host become kept.
use Rattle.std.specs.Prelude.{
  ℕ,
  zero,
  suc,
  ◌-◌,
  ◌==◌,
  nat_lt,
  nat_le,
  not,
  Bool,
  true,
  false,
  ◌&&◌,
  ◌||◌,
  if◌then◌else◌,
  List,
  [],
  ◌∷◌,
  length,
  Option,
  Some,
  None,
  unwrap_or,
  filter,
}
use Rattle.std.specs.List.{list_all}
use Rattle.std.specs.Option.{option_map_or}
use Rattle.base_types.specs.declared.ids.HostId.{HostId}
use Rattle.base_types.specs.Spans.{in_spans}
use Rattle.base_types.specs.declared.span.Span.{Span}
use Rattle.tree_objects.specs.declared.content.Unsaved.{Unsaved}
use Rattle.tree_objects.specs.declared.content.UnsavedLength.{UnsavedLength}
use Rattle.tree_objects.specs.declared.content.Content.{Content}
use Rattle.tree_objects.specs.declared.content.Content.TheVariants.{Dir, File}
use Rattle.tree_objects.specs.Files.{present_length, unsaved_at, bytes_over}
use Rattle.tree_objects.specs.Spans.{whole}

-- whether an unsaved byte becomes kept: it is the host's, below the kept length that is left, and in the spans
abbrev pub is_stored : HostId → List Span → ℕ → Unsaved → Bool
is_stored host spans end byte = (byte.writer.0 == host.0) && nat_lt byte.at end && in_spans spans byte.at

-- the unsaved length that is left: one that became kept goes
abbrev pub length_left : Option ℕ → Option UnsavedLength → Option UnsavedLength
length_left None before = before
length_left (Some stored) None = None
length_left (Some stored) (Some unsaved) = if unsaved.length == stored then None else Some unsaved

-- A host stores what it wrote in some spans, and a length where there is one. The length becomes kept first, and then
-- the bytes below it.
abbrev pub content_stored : HostId → List Span → Option ℕ → Content → Content
content_stored host spans stored (Dir entries lists) = Dir entries lists
content_stored host spans stored (File list kept unsaved len) =
    let end = unwrap_or stored (length kept) in
    File list
    (bytes_over kept (filter (is_stored host spans end) unsaved) 0 end)
    (filter (λ byte. not (is_stored host spans end byte)) unsaved)
    (length_left stored len)

-- the unsaved length, where it is the host's
abbrev pub own_length : HostId → Option UnsavedLength → Option ℕ
own_length host None = None
own_length host (Some unsaved) = if unsaved.writer.0 == host.0 then Some unsaved.length else None

abbrev pub own_length_of : HostId → Content → Option ℕ
own_length_of host (Dir entries lists) = None
own_length_of host (File list kept unsaved len) = own_length host len

-- sync: the host stores all that it has
abbrev pub content_synced : HostId → Content → Content
content_synced host content = content_stored host (whole ∷ []) (own_length_of host content) content

-- whether so many positions from one on have an unsaved byte of the host, below a kept length
abbrev pub has_written : HostId → List Unsaved → ℕ → ℕ → ℕ → Bool
has_written host unsaved end at zero = true
has_written host unsaved end at (suc n) =
    option_map_or (λ byte. byte.writer.0 == host.0) (unsaved_at unsaved at) false && nat_lt at end
    && has_written host unsaved end (suc at) n

-- whether a length may become kept: it is at least the kept and at most the present one, and equals the kept one or is
-- the host's
abbrev pub is_storable_length : HostId → List ℕ → Option UnsavedLength → Option ℕ → Bool
is_storable_length host kept len None = true
is_storable_length host kept len (Some stored) =
    nat_le (length kept) stored && nat_le stored (present_length kept len)
    && ((stored == length kept) || option_map_or (λ unsaved. unsaved.writer.0 == host.0) len false)

-- whether a host may store these spans and this length of a file
abbrev pub is_storable : HostId → List Span → Option ℕ → Content → Bool
is_storable host spans stored (Dir entries lists) = false
is_storable host spans stored (File list kept unsaved len) =
    is_storable_length host kept len stored
    && list_all
    (λ span. has_written host unsaved (unwrap_or stored (length kept)) span.from (span.to - span.from)) spans
