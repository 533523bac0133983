-- What the readers of a file see.
use Rattle.std.specs.Prelude.{
  ℕ,
  zero,
  suc,
  ◌-◌,
  ◌==◌,
  nat_le,
  if◌then◌else◌,
  List,
  [],
  ◌∷◌,
  ◌++◌,
  length,
  take,
  replicate,
  slice_set,
  Option,
  Some,
  None,
}
use Rattle.std.specs.List.{find}
use Rattle.std.specs.Option.{option_map_or}
use Rattle.base_types.specs.Image.{byte_at}
use Rattle.tree_objects.specs.declared.content.Unsaved.{Unsaved}
use Rattle.tree_objects.specs.declared.content.UnsavedLength.{UnsavedLength}
use Rattle.tree_objects.specs.declared.content.Content.{Content}
use Rattle.tree_objects.specs.declared.content.Content.TheVariants.{Dir, File}

-- the length that readers see: the unsaved one where there is one, else that of the kept bytes
abbrev pub present_length : List ℕ → Option UnsavedLength → ℕ
present_length kept None = length kept
present_length kept (Some unsaved) = unsaved.length

-- the unsaved byte at a position
abbrev pub unsaved_at : List Unsaved → ℕ → Option Unsaved
unsaved_at unsaved at = find (λ byte. byte.at == at) unsaved

-- the byte at a position: the unsaved one where there is one, else the kept one, else zero
abbrev pub byte_over : List ℕ → List Unsaved → ℕ → ℕ
byte_over kept unsaved at = option_map_or (λ byte. byte.value) (unsaved_at unsaved at) (byte_at kept at)

-- so many bytes from a position on
abbrev pub bytes_over : List ℕ → List Unsaved → ℕ → ℕ → List ℕ
bytes_over kept unsaved at zero = []
bytes_over kept unsaved at (suc n) = byte_over kept unsaved at ∷ bytes_over kept unsaved (suc at) n

-- the bytes that readers see
abbrev pub present_bytes : List ℕ → List Unsaved → Option UnsavedLength → List ℕ
present_bytes kept unsaved len = bytes_over kept unsaved 0 (present_length kept len)

-- the bytes that readers see of a file, and none of a directory
abbrev pub content_bytes : Content → List ℕ
content_bytes (Dir entries lists) = []
content_bytes (File list kept unsaved len) = present_bytes kept unsaved len

-- the first bytes, with zeros where there are fewer
abbrev pub resized : List ℕ → ℕ → List ℕ
resized bytes len = take len bytes ++ replicate (len - length bytes) 0

-- bytes that start at a position, with an unsaved one put over them
abbrev pub bytes_with : List ℕ → Unsaved → ℕ → List ℕ
bytes_with bytes byte from = if nat_le from byte.at then slice_set bytes (byte.at - from) byte.value else bytes
