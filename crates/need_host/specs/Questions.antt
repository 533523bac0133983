-- What a host asks servers.
use Rattle.std.specs.Prelude.{ℕ, Bool, true, false, List, Option, Some, None}
use Rattle.base_types.specs.declared.ids.FilesetId.{FilesetId}
use Rattle.base_types.specs.declared.ids.ServerId.{ServerId}
use Rattle.tree_calls.specs.declared.call.Call.{Call}
use Rattle.tree_calls.specs.declared.call.Call.TheVariants.{
  NewFileset,
  Create,
  MakeDir,
  Remove,
  Rename,
  Truncate,
  SetAcl,
}
use Rattle.tree_calls.specs.declared.call.Call.TheVariants.{
  CloneFileset,
  Read,
  Write,
  List as ListNames,
  Stat,
  GetAcl,
  Sync,
}
use Rattle.tree_calls.specs.declared.call.Call.TheVariants.{Lock, Unlock, OpenFile, CloseFile, MoveFileset}

-- What a host asks of a server about a call.
pub data Question : Type 0 where
  -- the number of a fileset that a place at the server names, which the host hasn't seen
  EnterAt : ServerId → Question
  -- the call, which is in a fileset that the host has seen, or moves it; the server is the one that it knows to have it
  ChangeIn : FilesetId → Question
  -- the call, by which the server has a fileset more
  ChangeAt : ServerId → Question

-- the fileset under which a question is numbered; 0 is no fileset, and stands for the server itself
abbrev pub numbered_under : Question → FilesetId
numbered_under (EnterAt server) = record { 0 = 0 }
numbered_under (ChangeIn fileset) = fileset
numbered_under (ChangeAt server) = record { 0 = 0 }

-- The server and the name by which a call says its fileset. A clone is made by the server that is named, and needs no
-- fileset that the host has seen.
abbrev pub fileset_of : Call → Option (ServerId × List ℕ)
fileset_of (NewFileset server name objects owner) = None
fileset_of (Create place) = Some (place.server, place.fileset)
fileset_of (MakeDir place) = Some (place.server, place.fileset)
fileset_of (Remove place) = Some (place.server, place.fileset)
fileset_of (Rename from to) = Some (from.server, from.fileset)
fileset_of (Truncate place len) = Some (place.server, place.fileset)
fileset_of (SetAcl place which list) = Some (place.server, place.fileset)
fileset_of (CloneFileset server source new) = None
fileset_of (Read place from len) = Some (place.server, place.fileset)
fileset_of (Write place from bytes) = Some (place.server, place.fileset)
fileset_of (ListNames place) = Some (place.server, place.fileset)
fileset_of (Stat place) = Some (place.server, place.fileset)
fileset_of (GetAcl place which) = Some (place.server, place.fileset)
fileset_of (Sync place) = Some (place.server, place.fileset)
fileset_of (Lock label place writing from len) = Some (place.server, place.fileset)
fileset_of (Unlock label) = None
fileset_of (OpenFile label place kind) = Some (place.server, place.fileset)
fileset_of (CloseFile label) = None
fileset_of (MoveFileset server name to) = Some (server, name)

-- whether a call is decided by a server; a Lock and an OpenFile are where their host lacks the token
abbrev pub is_change : Call → Bool
is_change (NewFileset server name objects owner) = true
is_change (Create place) = true
is_change (MakeDir place) = true
is_change (Remove place) = true
is_change (Rename from to) = true
is_change (Truncate place len) = true
is_change (SetAcl place which list) = true
is_change (CloneFileset server source new) = true
is_change (MoveFileset server name to) = true
is_change (Lock label place writing from len) = true
is_change (OpenFile label place kind) = true
is_change (Read place from len) = false
is_change (Write place from bytes) = false
is_change (ListNames place) = false
is_change (Stat place) = false
is_change (GetAcl place which) = false
is_change (Sync place) = false
is_change (Unlock label) = false
is_change (CloseFile label) = false
