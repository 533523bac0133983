-- What holds of each message in a program, by the types of its fields alone: a number has the width of its type, a
-- name, rights and an access list keep their rules, and a list lies in memory. Of the numbers of hosts and servers
-- nothing is said.
use Rattle.std.specs.Prelude.{◌<◌, ◌^◌, ℕ, IsTrue, List, length, IfSome}
use Rattle.base_types.specs.Access.{is_access_list}
use Rattle.base_types.specs.Name.{is_name}
use Rattle.base_types.specs.declared.access.AccessEntry.{AccessEntry}
use Rattle.base_types.specs.declared.access.Who.{Who}
use Rattle.base_types.specs.declared.access.Who.TheVariants.{User, Group}
use Rattle.base_types.specs.declared.ids.Fid.{Fid}
use Rattle.tree_calls.specs.declared.call.Call.{Call}
use Rattle.tree_calls.specs.declared.call.Call.TheVariants.{
  NewFileset,
  Create,
  MakeDir,
  Remove,
  Rename,
  Truncate,
  SetAcl,
  CloneFileset,
  Read,
  Write,
  List as ListNames,
  Stat,
  GetAcl,
  Sync,
  Lock,
  Unlock,
  OpenFile,
  CloseFile,
  MoveFileset,
}
use Rattle.tree_calls.specs.declared.part.DirEntry.{DirEntry}
use Rattle.tree_calls.specs.declared.part.Piece.{Piece}
use Rattle.tree_calls.specs.declared.part.Status.{Status}
use Rattle.tree_calls.specs.declared.place.Place.{Place}
use Rattle.tree_calls.specs.declared.reply.Refusal.{Refusal}
use Rattle.tree_calls.specs.declared.reply.Refusal.TheVariants.{Denied}
use Rattle.tree_calls.specs.declared.reply.Reply.{Reply}
use Rattle.tree_calls.specs.declared.reply.Reply.TheVariants.{Bytes, Names, Facts, Access, Refused}
use Rattle.tree_calls.specs.declared.ship.Record.{Record}
use Rattle.tree_calls.specs.declared.ship.ShipPart.{ShipPart}
use Rattle.tree_calls.specs.declared.ship.ShipPart.TheVariants.{Head, Object}
use Rattle.token_types.specs.declared.token.Need.{Need}
use Rattle.token_types.specs.declared.token.Token.{Token}
use Rattle.token_types.specs.declared.token.TokenId.{TokenId}
use Rattle.message_types.specs.Soundness.{Each}
use Rattle.message_types.specs.declared.giving.AppliedGive.{AppliedGive}
use Rattle.message_types.specs.declared.giving.Ends.{Ends}
use Rattle.message_types.specs.declared.giving.Outstanding.{Outstanding}
use Rattle.message_types.specs.declared.message.Body.{Body}
use Rattle.message_types.specs.declared.message.Body.TheVariants.{
  Fetch,
  Grant,
  Change,
  Done,
  Revoke,
  Returned,
  Kept,
  GiveBack,
  Gone,
  Reclaim,
  Reclaimed,
  NotHere,
  Ship,
  Shipped,
}
use Rattle.message_types.specs.declared.message.Message.{Message}
use Rattle.message_types.specs.declared.telling.Bring.{Bring}
use Rattle.message_types.specs.declared.telling.DoneIs.{DoneIs}
use Rattle.message_types.specs.declared.telling.DoneIs.TheVariants.{Reply as Replied, Known}

abbrev pub IsU8 : ℕ → Type 0
IsU8 n = n < 2 ^ 8

abbrev pub IsU32 : ℕ → Type 0
IsU32 n = n < 2 ^ 32

abbrev pub IsU64 : ℕ → Type 0
IsU64 n = n < 2 ^ 64

abbrev pub IsRights : ℕ → Type 0
IsRights n = n < 64

-- a list in memory
abbrev pub IsListOf : {A : Type 0} → (A → Type 0) → List A → Type 0
IsListOf P xs = (length xs < 2 ^ 64) × Each P xs

abbrev pub IsName : List ℕ → Type 0
IsName name = IsTrue (is_name name) × Each IsU8 name

abbrev pub TypedWho : Who → Type 0
TypedWho (User name) = IsName name
TypedWho (Group name) = IsName name
TypedWho _ = Unit {0}

abbrev pub IsAccess : List AccessEntry → Type 0
IsAccess entries = IsTrue (is_access_list entries) × Each (λ entry. TypedWho entry.who × IsRights entry.rights) entries

abbrev pub TypedFid : Fid → Type 0
TypedFid x = IsU32 x.fileset.0 × IsU32 x.anode × IsU32 x.unique

abbrev pub TypedId : TokenId → Type 0
TypedId x = IsU64 x.epoch × IsU64 x.seq

abbrev pub TypedToken : Token → Type 0
TypedToken x = TypedId x.id × TypedFid x.fid

abbrev pub TypedNeed : Need → Type 0
TypedNeed x = TypedFid x.fid

abbrev pub TypedPlace : Place → Type 0
TypedPlace x = IsName x.fileset × Each IsName x.path

abbrev pub TypedCall : Call → Type 0
TypedCall (NewFileset server name objects owner) =
    IsName name × IsU32 objects × IsName owner.name × Each IsName owner.groups
TypedCall (Create place) = TypedPlace place
TypedCall (MakeDir place) = TypedPlace place
TypedCall (Remove place) = TypedPlace place
TypedCall (Rename from to) = TypedPlace from × TypedPlace to
TypedCall (Truncate place len) = TypedPlace place × IsU32 len
TypedCall (SetAcl place which list) = TypedPlace place × IsAccess list
TypedCall (CloneFileset server fileset new) = IsName fileset × IsName new
TypedCall (Read place from len) = TypedPlace place × IsU32 from × IsU32 len
TypedCall (Write place from bytes) = TypedPlace place × IsU32 from × Each IsU8 bytes
TypedCall (ListNames place) = TypedPlace place
TypedCall (Stat place) = TypedPlace place
TypedCall (GetAcl place which) = TypedPlace place
TypedCall (Sync place) = TypedPlace place
TypedCall (Lock label place writing from len) = IsName label × TypedPlace place × IsU32 from × IsU32 len
TypedCall (Unlock label) = IsName label
TypedCall (OpenFile label place kind) = IsName label × TypedPlace place
TypedCall (CloseFile label) = IsName label
TypedCall (MoveFileset server fileset to) = IsName fileset

abbrev pub TypedRefusal : Refusal → Type 0
TypedRefusal (Denied rights) = IsRights rights
TypedRefusal _ = Unit {0}

abbrev pub TypedReply : Reply → Type 0
TypedReply (Bytes bytes) = Each IsU8 bytes
TypedReply (Names names) = Each IsName names
TypedReply (Facts facts) = IsU32 facts.length × IsName facts.owner × IsRights facts.rights
TypedReply (Access list) = IsAccess list
TypedReply (Refused refusal) = TypedRefusal refusal
TypedReply _ = Unit {0}

abbrev pub TypedPiece : Piece → Type 0
TypedPiece x = IsU32 x.from × Each IsU8 x.bytes

abbrev pub TypedEntry : DirEntry → Type 0
TypedEntry x = IsName x.name × IsU32 x.anode × IsU32 x.unique

abbrev pub TypedStatus : Status → Type 0
TypedStatus x = IsU32 x.length × IsName x.owner × IsName x.group × Each IsAccess x.lists

abbrev pub TypedRecord : Record → Type 0
TypedRecord x = IsU64 x.change × IsU64 x.give × IsU8 x.code

abbrev pub TypedPart : ShipPart → Type 0
TypedPart (Head name objects records mover) =
    IsName name × IsU32 objects × Each TypedRecord records × IsU64 mover.number × IsU32 mover.k × TypedCall mover.call
TypedPart (Object anode unique status pieces entries) =
    IsU32 anode × IsU32 unique × IfSome status TypedStatus × Each TypedPiece pieces × Each TypedEntry entries

abbrev pub TypedBring : Bring → Type 0
TypedBring x = IsU64 x.number × TypedFid x.fid × IsU64 x.stamp × IsListOf TypedToken x.tokens

abbrev pub TypedOutcome : DoneIs → Type 0
TypedOutcome (Replied reply) = TypedReply reply
TypedOutcome (Known fileset) = IsU32 fileset.0
TypedOutcome _ = Unit {0}

abbrev pub TypedEnds : Ends → Type 0
TypedEnds x = IsU32 x.k × TypedCall x.call

abbrev pub TypedApplied : AppliedGive → Type 0
TypedApplied x = IsU32 x.fileset.0 × IsU64 x.number

abbrev pub TypedOutstanding : Outstanding → Type 0
TypedOutstanding x = IsU32 x.fileset.0 × IsU32 x.moves × IsU64 x.give × IsU64 x.change

abbrev pub TypedBody : Body → Type 0
TypedBody (Fetch x) = IsU64 x.number × TypedFid x.fid × Each TypedNeed x.needs
TypedBody (Grant x) =
    TypedBring x.bring × IfSome x.status TypedStatus × Each TypedPiece x.pieces × Each TypedEntry x.entries
TypedBody (Change x) = IsU64 x.number × IsU32 x.fileset.0 × TypedFid x.fid × IsU32 x.k × TypedCall x.call
TypedBody (Done x) = IsU32 x.fileset.0 × TypedOutcome x.outcome × TypedBring x.bring
TypedBody (Revoke x) = TypedFid x.fid × IsU64 x.stamp × IsListOf TypedId x.ids
TypedBody (Returned x) = TypedFid x.fid × IsListOf TypedId x.ids
TypedBody (Kept x) = TypedFid x.fid × IsListOf TypedId x.ids
TypedBody (GiveBack x) =
    IsU64 x.number × TypedFid x.fid × IsListOf TypedId x.ids × Each TypedPiece x.pieces × IfSome x.length IsU32
    × IfSome x.ends TypedEnds
TypedBody (Gone x) = TypedApplied x
TypedBody (Reclaim x) = IsListOf TypedToken x.tokens × IsListOf TypedOutstanding x.numbers
TypedBody (Reclaimed x) = IsListOf TypedApplied x.applied × IsListOf TypedId x.left_out
TypedBody (NotHere x) = IsU32 x.fileset.0
TypedBody (Ship x) = IsU64 x.ship × IsU32 x.fileset.0 × IsU32 x.at × TypedPart x.part
TypedBody (Shipped x) = IsU64 x.ship × IsU32 x.at × TypedReply x.reply
TypedBody _ = Unit {0}

abbrev pub TypedMessage : Message → Type 0
TypedMessage m = IsU64 m.epoch × IsU32 m.moves × TypedBody m.body
