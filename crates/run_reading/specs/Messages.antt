-- What holds of each message in a program, by the types of its fields: each number is below 2 to the 64th, and each
-- byte of a name or of a file below 256.
use Rattle.std.specs.Prelude.{◌<◌, ◌^◌, ℕ, IfSome}
use Rattle.base_types.specs.declared.access.AccessEntry.{AccessEntry}
use Rattle.base_types.specs.declared.access.Who.{Who}
use Rattle.base_types.specs.declared.access.Who.TheVariants.{Group, User as UserNamed}
use Rattle.base_types.specs.declared.ids.Fid.{Fid}
use Rattle.base_types.specs.declared.user.User.{User}
use Rattle.message_types.specs.Soundness.{Each}
use Rattle.message_types.specs.declared.asking.Change.{Change}
use Rattle.message_types.specs.declared.asking.Fetch.{Fetch}
use Rattle.message_types.specs.declared.giving.AppliedGive.{AppliedGive}
use Rattle.message_types.specs.declared.giving.Ends.{Ends}
use Rattle.message_types.specs.declared.giving.Give.{Give}
use Rattle.message_types.specs.declared.giving.Outstanding.{Outstanding}
use Rattle.message_types.specs.declared.giving.Reclaim.{Reclaim}
use Rattle.message_types.specs.declared.giving.Reclaimed.{Reclaimed}
use Rattle.message_types.specs.declared.message.Body.{Body}
use Rattle.message_types.specs.declared.message.Message.{Message}
use Rattle.message_types.specs.declared.moving.NotHere.{NotHere}
use Rattle.message_types.specs.declared.moving.Ship.{Ship}
use Rattle.message_types.specs.declared.moving.Shipped.{Shipped}
use Rattle.message_types.specs.declared.telling.Bring.{Bring}
use Rattle.message_types.specs.declared.telling.Done.{Done}
use Rattle.message_types.specs.declared.telling.DoneIs.{DoneIs}
use Rattle.message_types.specs.declared.telling.Grant.{Grant}
use Rattle.message_types.specs.declared.tokens.Named.{Named}
use Rattle.message_types.specs.declared.tokens.Revoke.{Revoke}
use Rattle.token_types.specs.declared.token.Need.{Need}
use Rattle.token_types.specs.declared.token.Token.{Token}
use Rattle.token_types.specs.declared.token.TokenId.{TokenId}
use Rattle.tree_calls.specs.declared.call.Call.{Call}
use Rattle.tree_calls.specs.declared.call.Call.TheVariants.{
  CloneFileset,
  CloseFile,
  Create,
  GetAcl,
  List as ListNames,
  Lock,
  MakeDir,
  MoveFileset,
  NewFileset,
  OpenFile,
  Read,
  Remove,
  Rename,
  SetAcl,
  Stat,
  Sync,
  Truncate,
  Unlock,
  Write,
}
use Rattle.tree_calls.specs.declared.part.DirEntry.{DirEntry}
use Rattle.tree_calls.specs.declared.part.Piece.{Piece}
use Rattle.tree_calls.specs.declared.part.Status.{Status}
use Rattle.tree_calls.specs.declared.place.Place.{Place}
use Rattle.tree_calls.specs.declared.reply.Facts.{Facts}
use Rattle.tree_calls.specs.declared.reply.Refusal.{Refusal}
use Rattle.tree_calls.specs.declared.reply.Reply.{Reply}
use Rattle.tree_calls.specs.declared.ship.Mover.{Mover}
use Rattle.tree_calls.specs.declared.ship.Record.{Record}
use Rattle.tree_calls.specs.declared.ship.ShipPart.{ShipPart}
use Rattle.tree_calls.specs.declared.ship.ShipPart.TheVariants.{Head, Object}
use Rattle.tree_calls.specs.declared.reply.Refusal.TheVariants as refusals
use Rattle.message_types.specs.declared.message.Body.TheVariants as bodies
use Rattle.tree_calls.specs.declared.reply.Reply.TheVariants as replies
use Rattle.message_types.specs.declared.telling.DoneIs.TheVariants as outcomes

abbrev pub IsWhole : ℕ → Type 0
IsWhole n = n < 2 ^ 64

abbrev pub IsByte : ℕ → Type 0
IsByte n = n < 256

abbrev pub TypedFid : Fid → Type 0
TypedFid x = IsWhole x.fileset.0 × IsWhole x.anode × IsWhole x.unique

abbrev pub TypedTokenId : TokenId → Type 0
TypedTokenId x = IsWhole x.server.0 × IsWhole x.epoch × IsWhole x.seq

abbrev pub TypedToken : Token → Type 0
TypedToken x = TypedTokenId x.id × IsWhole x.host.0 × TypedFid x.fid

abbrev pub TypedNeed : Need → Type 0
TypedNeed x = TypedFid x.fid

abbrev pub TypedUser : User → Type 0
TypedUser x = Each IsByte x.name × Each (Each IsByte) x.groups

abbrev pub TypedWho : Who → Type 0
TypedWho (UserNamed it) = Each IsByte it
TypedWho (Group it) = Each IsByte it
TypedWho _ = Unit {0}

abbrev pub TypedAccessEntry : AccessEntry → Type 0
TypedAccessEntry x = TypedWho x.who × IsWhole x.rights

abbrev pub TypedPlace : Place → Type 0
TypedPlace x = IsWhole x.server.0 × Each IsByte x.fileset × Each (Each IsByte) x.path

abbrev pub TypedCall : Call → Type 0
TypedCall (NewFileset server name objects owner) =
    IsWhole server.0 × Each IsByte name × IsWhole objects × TypedUser owner
TypedCall (Create place) = TypedPlace place
TypedCall (MakeDir place) = TypedPlace place
TypedCall (Remove place) = TypedPlace place
TypedCall (Rename from to) = TypedPlace from × TypedPlace to
TypedCall (Truncate place len) = TypedPlace place × IsWhole len
TypedCall (SetAcl place which entries) = TypedPlace place × Each TypedAccessEntry entries
TypedCall (CloneFileset server fileset new) = IsWhole server.0 × Each IsByte fileset × Each IsByte new
TypedCall (Read place from len) = TypedPlace place × IsWhole from × IsWhole len
TypedCall (Write place from bytes) = TypedPlace place × IsWhole from × Each IsByte bytes
TypedCall (ListNames place) = TypedPlace place
TypedCall (Stat place) = TypedPlace place
TypedCall (GetAcl place which) = TypedPlace place
TypedCall (Sync place) = TypedPlace place
TypedCall (Lock label place writing from len) = Each IsByte label × TypedPlace place × IsWhole from × IsWhole len
TypedCall (Unlock label) = Each IsByte label
TypedCall (OpenFile label place kind) = Each IsByte label × TypedPlace place
TypedCall (CloseFile label) = Each IsByte label
TypedCall (MoveFileset server fileset to) = IsWhole server.0 × Each IsByte fileset × IsWhole to.0

abbrev pub TypedRefusal : Refusal → Type 0
TypedRefusal (refusals.Denied it) = IsWhole it
TypedRefusal _ = Unit {0}

abbrev pub TypedFacts : Facts → Type 0
TypedFacts x = IsWhole x.length × Each IsByte x.owner × IsWhole x.rights

abbrev pub TypedReply : Reply → Type 0
TypedReply (replies.Bytes it) = Each IsByte it
TypedReply (replies.Names it) = Each (Each IsByte) it
TypedReply (replies.Facts it) = TypedFacts it
TypedReply (replies.Access it) = Each TypedAccessEntry it
TypedReply (replies.Refused it) = TypedRefusal it
TypedReply _ = Unit {0}

abbrev pub TypedPiece : Piece → Type 0
TypedPiece x = IsWhole x.from × Each IsByte x.bytes

abbrev pub TypedDirEntry : DirEntry → Type 0
TypedDirEntry x = Each IsByte x.name × IsWhole x.anode × IsWhole x.unique

abbrev pub TypedStatus : Status → Type 0
TypedStatus x = IsWhole x.length × Each IsByte x.owner × Each IsByte x.group × Each (Each TypedAccessEntry) x.lists

abbrev pub TypedRecord : Record → Type 0
TypedRecord x = IsWhole x.change × IsWhole x.give × IsWhole x.code × IsWhole x.right

abbrev pub TypedMover : Mover → Type 0
TypedMover x = IsWhole x.host.0 × IsWhole x.number × IsWhole x.k × TypedCall x.call

abbrev pub TypedShipPart : ShipPart → Type 0
TypedShipPart (Head name objects records mover) =
    Each IsByte name × IsWhole objects × Each TypedRecord records × TypedMover mover
TypedShipPart (Object anode unique status pieces entries) =
    IsWhole anode × IsWhole unique × IfSome status TypedStatus × Each TypedPiece pieces
    × Each TypedDirEntry entries

abbrev pub TypedFetch : Fetch → Type 0
TypedFetch x = IsWhole x.number × TypedFid x.fid × Each TypedNeed x.needs

abbrev pub TypedChange : Change → Type 0
TypedChange x = IsWhole x.number × IsWhole x.fileset.0 × TypedFid x.fid × IsWhole x.k × TypedCall x.call

abbrev pub TypedBring : Bring → Type 0
TypedBring x = IsWhole x.number × TypedFid x.fid × IsWhole x.stamp × Each TypedToken x.tokens

abbrev pub TypedGrant : Grant → Type 0
TypedGrant x =
    TypedBring x.bring × IfSome x.status TypedStatus × Each TypedPiece x.pieces × Each TypedDirEntry x.entries

abbrev pub TypedDoneIs : DoneIs → Type 0
TypedDoneIs (outcomes.Reply it) = TypedReply it
TypedDoneIs (outcomes.Known it) = IsWhole it.0
TypedDoneIs (outcomes.Elsewhere it) = IsWhole it.0
TypedDoneIs _ = Unit {0}

abbrev pub TypedDone : Done → Type 0
TypedDone x = IsWhole x.fileset.0 × TypedDoneIs x.outcome × TypedBring x.bring

abbrev pub TypedRevoke : Revoke → Type 0
TypedRevoke x = TypedFid x.fid × IsWhole x.stamp × Each TypedTokenId x.ids

abbrev pub TypedNamed : Named → Type 0
TypedNamed x = TypedFid x.fid × Each TypedTokenId x.ids

abbrev pub TypedEnds : Ends → Type 0
TypedEnds x = IsWhole x.k × TypedCall x.call

abbrev pub TypedGive : Give → Type 0
TypedGive x =
    IsWhole x.number × TypedFid x.fid × Each TypedTokenId x.ids × Each TypedPiece x.pieces
    × IfSome x.length IsWhole × IfSome x.ends TypedEnds

abbrev pub TypedAppliedGive : AppliedGive → Type 0
TypedAppliedGive x = IsWhole x.fileset.0 × IsWhole x.number

abbrev pub TypedOutstanding : Outstanding → Type 0
TypedOutstanding x = IsWhole x.fileset.0 × IsWhole x.moves × IsWhole x.give × IsWhole x.change

abbrev pub TypedReclaim : Reclaim → Type 0
TypedReclaim x = Each TypedToken x.tokens × Each TypedOutstanding x.numbers

abbrev pub TypedReclaimed : Reclaimed → Type 0
TypedReclaimed x = Each TypedAppliedGive x.applied × Each TypedTokenId x.left_out

abbrev pub TypedNotHere : NotHere → Type 0
TypedNotHere x = IsWhole x.fileset.0 × IsWhole x.to.0

abbrev pub TypedShip : Ship → Type 0
TypedShip x = IsWhole x.to.0 × IsWhole x.ship × IsWhole x.fileset.0 × IsWhole x.at × TypedShipPart x.part

abbrev pub TypedShipped : Shipped → Type 0
TypedShipped x = IsWhole x.to.0 × IsWhole x.ship × IsWhole x.at × TypedReply x.reply

abbrev pub TypedBody : Body → Type 0
TypedBody (bodies.Fetch it) = TypedFetch it
TypedBody (bodies.Grant it) = TypedGrant it
TypedBody (bodies.Change it) = TypedChange it
TypedBody (bodies.Done it) = TypedDone it
TypedBody (bodies.Revoke it) = TypedRevoke it
TypedBody (bodies.Returned it) = TypedNamed it
TypedBody (bodies.Kept it) = TypedNamed it
TypedBody (bodies.GiveBack it) = TypedGive it
TypedBody (bodies.Gone it) = TypedAppliedGive it
TypedBody (bodies.Reclaim it) = TypedReclaim it
TypedBody (bodies.Reclaimed it) = TypedReclaimed it
TypedBody (bodies.NotHere it) = TypedNotHere it
TypedBody (bodies.Ship it) = TypedShip it
TypedBody (bodies.Shipped it) = TypedShipped it
TypedBody _ = Unit {0}

abbrev pub TypedMessage : Message → Type 0
TypedMessage x = IsWhole x.host.0 × IsWhole x.server.0 × IsWhole x.epoch × IsWhole x.moves × TypedBody x.body
