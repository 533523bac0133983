-- What a file shows at one position: its kept byte there, and its unsaved byte with the writer. What each change leaves
-- there is a function of what was there before.
use Rattle.std.specs.Prelude.{
  ℕ,
  ◌+◌,
  ◌-◌,
  ◌==◌,
  nat_lt,
  nat_le,
  false,
  ◌&&◌,
  if◌then◌else◌,
  List,
  length,
  Option,
  Some,
  None,
}
use Rattle.std.specs.Option.{option_map_or}
use Rattle.base_types.specs.Image.{byte_at}
use Rattle.base_types.specs.declared.ids.HostId.{HostId}
use Rattle.base_types.specs.declared.span.Span.{Span}
use Rattle.tree_objects.specs.declared.content.Unsaved.{Unsaved}
use Rattle.tree_objects.specs.declared.content.Content.{Content}
use Rattle.tree_objects.specs.declared.content.Content.TheVariants.{Dir, File}
use Rattle.tree_objects.specs.Files.{unsaved_at}
use Rattle.tree_objects.specs.Stores.{is_stored}

pub record Shown : Type 0 where
  -- the kept byte, which is zero behind the last one
  pub kept : ℕ
  -- the unsaved byte
  pub unsaved : Option Unsaved

-- what a file shows at a position; a directory shows nothing
abbrev pub shown : Content → ℕ → Shown
shown (Dir entries lists) at = record { kept = 0; unsaved = None }
shown (File list kept unsaved len) at = record { kept = byte_at kept at; unsaved = unsaved_at unsaved at }

-- the byte that readers see there
abbrev pub present_byte : Shown → ℕ
present_byte here = option_map_or (λ byte. byte.value) here.unsaved here.kept

-- after a write: in its span the written byte is unsaved
abbrev pub shown_written : HostId → ℕ → List ℕ → ℕ → Shown → Shown
shown_written host from bytes at here =
    if nat_le from at && nat_lt at (from + length bytes)
    then record {
      kept = here.kept;
      unsaved = Some (record { at = at; value = byte_at bytes (at - from); writer = host });
    }
    else here

-- after all became kept of a file with so many present bytes, of which the first of a new length are left
abbrev pub shown_kept : ℕ → ℕ → Shown → Shown
shown_kept end at here = record { kept = if nat_lt at end then present_byte here else 0; unsaved = None }

-- after a host stored: the host's byte in the spans, below the kept length that is left, is kept
abbrev pub shown_stored : HostId → List Span → ℕ → ℕ → Shown → Shown
shown_stored host spans end at here =
    if option_map_or (is_stored host spans end) here.unsaved false
    then record { kept = present_byte here; unsaved = None }
    else record { kept = if nat_lt at end then here.kept else 0; unsaved = here.unsaved }

-- an unsaved byte that isn't a host's
abbrev pub others_byte : HostId → Option Unsaved → Option Unsaved
others_byte host None = None
others_byte host (Some byte) = if byte.writer.0 == host.0 then None else Some byte

-- after a host's unsaved changes are lost
abbrev pub shown_forgotten : HostId → Shown → Shown
shown_forgotten host here = record { kept = here.kept; unsaved = others_byte host here.unsaved }
