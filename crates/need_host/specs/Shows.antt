-- Which tokens show which parts of an object.
use Rattle.std.specs.Prelude.{nat_lt, Bool, true, false, ◌&&◌, List}
use Rattle.std.specs.List.{list_any}
use Rattle.base_types.specs.Ids.{same_fid}
use Rattle.base_types.specs.Spans.{has_byte}
use Rattle.base_types.specs.declared.ids.Fid.{Fid}
use Rattle.base_types.specs.declared.limits.TheConstants.{FILE_BYTES_MAX}
use Rattle.tree_laws.specs.Parts.{Part}
use Rattle.tree_laws.specs.Parts.Part.{ByteAt, Size, Traits, Entries}
use Rattle.token_types.specs.declared.token.Kind.{Kind}
use Rattle.token_types.specs.declared.token.Kind.TheVariants.{Bytes, Status, Lock, Opening}
use Rattle.token_types.specs.declared.token.Need.{Need}

-- Whether a token of this kind shows a part. To see the entries of a directory takes tokens over all bytes; it is the
-- one that has the first byte which shows them.
abbrev pub shows : Kind → Part → Bool
shows (Bytes update span) (ByteAt at) = has_byte span at
shows (Bytes update span) Entries = has_byte span 0
shows (Status update) Size = true
shows (Status update) Traits = true
shows _ _ = false

-- whether it lets its host change a part
abbrev pub is_update : Kind → Bool
is_update (Bytes update span) = update
is_update (Status update) = update
is_update (Lock writing span) = false
is_update (Opening kind) = false

abbrev pub updates : Kind → Part → Bool
updates kind part = is_update kind && shows kind part

-- whether some needs are of a part of an object; whether they are for changing it
abbrev pub needs_show : List Need → Fid → Part → Bool
needs_show needs fid part = list_any (λ need. same_fid need.fid fid && shows need.kind part) needs

abbrev pub needs_update : List Need → Fid → Part → Bool
needs_update needs fid part = list_any (λ need. same_fid need.fid fid && updates need.kind part) needs

-- a part that there can be
abbrev pub can_be : Part → Bool
can_be (ByteAt at) = nat_lt at FILE_BYTES_MAX
can_be part = true
