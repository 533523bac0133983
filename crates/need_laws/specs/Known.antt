-- What a server knows of a tree.
use Rattle.std.specs.Prelude.{◌≡◌, ◌==◌, Bool, ◌||◌, List, filter}
use Rattle.std.specs.List.{list_any}
use Rattle.base_types.specs.declared.ids.ServerId.{ServerId}
use Rattle.tree_calls.specs.declared.call.Call.{Call}
use Rattle.tree_calls.specs.declared.call.Call.TheVariants.{NewFileset, Create, MakeDir, Remove, Rename, Truncate}
use Rattle.tree_calls.specs.declared.call.Call.TheVariants.{SetAcl, CloneFileset, Read, Write, List as ListNames}
use Rattle.tree_calls.specs.declared.call.Call.TheVariants.{Stat, GetAcl, Sync}
use Rattle.tree_calls.specs.declared.call.Call.TheVariants.{Lock, Unlock, OpenFile, CloseFile, MoveFileset}
use Rattle.tree_filesets.specs.declared.fileset.Fileset.{Fileset}
use Rattle.tree_answers.specs.Finding.{has_id}
use Rattle.tree_answers.specs.Founding.{room_of}
use Rattle.tree_answers.specs.declared.tree.Away.{Away}
use Rattle.tree_answers.specs.declared.tree.Tree.{Tree}

-- the records that a server has of filesets that moved away from it
abbrev pub is_record_of : ServerId → Away → Bool
is_record_of server away = away.server.0 == server.0

abbrev pub records_of : ServerId → Tree → List Away
records_of server tree = filter (is_record_of server) tree.away

-- whether a fileset is at a server, or one of these records of the server is of it
abbrev pub is_known : List Away → ServerId → Fileset → Bool
is_known records server fileset =
    (fileset.server.0 == server.0) || list_any (λ away. has_id away.fileset fileset) records

-- the filesets that a server has, or has a record of
abbrev pub filesets_of : ServerId → Tree → List Fileset
filesets_of server tree = filter (is_known (records_of server tree) server) tree.filesets

-- Two trees are the same for a server: who takes part, what the server has for further filesets, its filesets and its
-- records.
pub record SameAt (server : ServerId) (a b : Tree) : Type 0 where
  pub roster : a.roster ≡ b.roster
  pub room : room_of a.servers server ≡ room_of b.servers server
  pub filesets : filesets_of server a ≡ filesets_of server b
  pub records : records_of server a ≡ records_of server b

-- the same is in use in both, at all servers
pub record SameUses (a b : Tree) : Type 0 where
  pub locks : a.locks ≡ b.locks
  pub opens : a.opens ≡ b.opens

-- A call names filesets of one server alone. A move names two servers; the end of a lock or an open names none.
abbrev pub IsAt : ServerId → Call → Type 0
IsAt server (NewFileset at name objects owner) = at ≡ server
IsAt server (Create place) = place.server ≡ server
IsAt server (MakeDir place) = place.server ≡ server
IsAt server (Remove place) = place.server ≡ server
IsAt server (Rename from to) = from.server ≡ server
IsAt server (Truncate place len) = place.server ≡ server
IsAt server (SetAcl place which list) = place.server ≡ server
IsAt server (CloneFileset at source new) = at ≡ server
IsAt server (Read place from len) = place.server ≡ server
IsAt server (Write place from bytes) = place.server ≡ server
IsAt server (ListNames place) = place.server ≡ server
IsAt server (Stat place) = place.server ≡ server
IsAt server (GetAcl place which) = place.server ≡ server
IsAt server (Sync place) = place.server ≡ server
IsAt server (Lock label place writing from len) = place.server ≡ server
IsAt server (Unlock label) = Unit {0}
IsAt server (OpenFile label place kind) = place.server ≡ server
IsAt server (CloseFile label) = Unit {0}
IsAt server (MoveFileset at name to) = ⊥
