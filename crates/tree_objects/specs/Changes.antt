-- What the changes of an object leave of its content.
use Rattle.std.specs.Prelude.{
  ℕ,
  ◌+◌,
  ◌==◌,
  nat_lt,
  nat_le,
  not,
  if◌then◌else◌,
  List,
  [],
  ◌∷◌,
  ◌++◌,
  length,
  Option,
  Some,
  None,
  filter,
}
use Rattle.std.specs.Option.{option_map}
use Rattle.base_types.specs.declared.ids.HostId.{HostId}
use Rattle.tree_objects.specs.declared.content.Unsaved.{Unsaved}
use Rattle.tree_objects.specs.declared.content.UnsavedLength.{UnsavedLength}
use Rattle.tree_objects.specs.declared.content.Content.{Content}
use Rattle.tree_objects.specs.declared.content.Content.TheVariants.{Dir, File}
use Rattle.tree_objects.specs.declared.content.Object.{Object}
use Rattle.tree_objects.specs.declared.content.Anode.{Anode}
use Rattle.tree_objects.specs.Files.{present_length, present_bytes, resized}
pub use Rattle.tree_objects.specs.Positions.{written}

-- an object with another content
abbrev pub content_changed : (Content → Content) → Object → Object
content_changed change object = record object { content = change object.content }

-- an anode whose object, where there is one, has another content
abbrev pub anode_changed : (Content → Content) → Anode → Anode
anode_changed change anode = record anode { object = option_map (content_changed change) anode.object }

-- an anode whose object is gone
abbrev pub anode_freed : Anode → Anode
anode_freed anode = record anode { object = None }

-- the unsaved bytes after a write: those below it, the written ones, and those above it
abbrev pub unsaved_after : List Unsaved → HostId → ℕ → List ℕ → List Unsaved
unsaved_after unsaved host from bytes =
    filter (λ byte. nat_lt byte.at from) unsaved ++ written host from bytes
    ++ filter (λ byte. nat_le (from + length bytes) byte.at) unsaved

-- the unsaved length after a write that ends at a position: its end, where that is above the length before
abbrev pub length_after : Option UnsavedLength → ℕ → HostId → ℕ → Option UnsavedLength
length_after before present host end =
    if nat_lt present end then Some (record { length = end; writer = host }) else before

-- a file after a write of some bytes
abbrev pub file_written : HostId → ℕ → List ℕ → Content → Content
file_written host from bytes (Dir entries lists) = Dir entries lists
file_written host from bytes (File list kept unsaved len) =
    File list kept (unsaved_after unsaved host from bytes)
    (length_after len (present_length kept len) host (from + length bytes))

-- write: the bytes are unsaved changes of the host; a write of no bytes changes nothing
abbrev pub content_written : HostId → ℕ → List ℕ → Content → Content
content_written host from [] content = content
content_written host from (value ∷ values) content = file_written host from (value ∷ values) content

-- truncate: all unsaved changes become kept, and then the length is set; new bytes are zero
abbrev pub content_truncated : ℕ → Content → Content
content_truncated len (Dir entries lists) = Dir entries lists
content_truncated len (File list kept unsaved unsaved_len) =
    File list (resized (present_bytes kept unsaved unsaved_len) len) [] None

-- the unsaved length without a host's
abbrev pub length_forgotten : HostId → Option UnsavedLength → Option UnsavedLength
length_forgotten host None = None
length_forgotten host (Some unsaved) = if unsaved.writer.0 == host.0 then None else Some unsaved

-- a host is down: its unsaved changes are lost
abbrev pub content_forgotten : HostId → Content → Content
content_forgotten host (Dir entries lists) = Dir entries lists
content_forgotten host (File list kept unsaved len) =
    File list kept (filter (λ byte. not (byte.writer.0 == host.0)) unsaved) (length_forgotten host len)

-- what a clone holds: a file's kept bytes are the present ones
abbrev pub content_as_cloned : Content → Content
content_as_cloned (Dir entries lists) = Dir entries lists
content_as_cloned (File list kept unsaved len) = File list (present_bytes kept unsaved len) [] None
