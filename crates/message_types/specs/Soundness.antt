-- Which messages are sound: what a node may send, and rely on in a message that comes to it.
use Rattle.std.specs.Prelude.{
  ◌≡◌,
  ◌≤◌,
  ◌<◌,
  ◌⊎◌,
  ℕ,
  ◌+◌,
  ◌/◌,
  IsTrue,
  List,
  [],
  ◌∷◌,
  length,
  sum_by,
  Option,
  None,
  IfSome,
  map,
  if◌then◌else◌,
}
use Rattle.base_types.specs.Name.{is_before}
use Rattle.base_types.specs.declared.limits.TheConstants.{FILE_BYTES_MAX, OBJECTS_MAX, GROUPS_MAX, HOSTS_MAX}
use Rattle.base_types.specs.declared.ids.HostId.{HostId}
use Rattle.base_types.specs.declared.ids.ServerId.{ServerId}
use Rattle.base_types.specs.declared.ids.FilesetId.{FilesetId}
use Rattle.base_types.specs.declared.ids.Fid.{Fid}
use Rattle.tree_calls.specs.declared.call.Call.{Call}
use Rattle.tree_calls.specs.declared.call.Call.TheVariants.{
  NewFileset,
  Create,
  MakeDir,
  Remove,
  Rename,
  Truncate,
  SetAcl,
  CloneFileset,
  Read,
  Write,
  List as ListNames,
  Stat,
  GetAcl,
  Sync,
  Lock,
  Unlock,
  OpenFile,
  CloseFile,
  MoveFileset,
}
use Rattle.tree_calls.specs.declared.part.Piece.{Piece}
use Rattle.tree_calls.specs.declared.part.DirEntry.{DirEntry}
use Rattle.tree_calls.specs.declared.part.Status.{Status as StatusOf}
use Rattle.tree_calls.specs.declared.reply.Reply.TheVariants.{Bytes as BytesRead, Names}
use Rattle.tree_calls.specs.declared.place.Place.{Place}
use Rattle.tree_calls.specs.declared.reply.Reply.{Reply}
use Rattle.tree_calls.specs.declared.roster.Roster.{Roster}
use Rattle.tree_calls.specs.declared.ship.Mover.{Mover}
use Rattle.tree_calls.specs.declared.ship.Record.{Record}
use Rattle.tree_calls.specs.declared.ship.ShipPart.{ShipPart}
use Rattle.tree_calls.specs.declared.ship.ShipPart.TheVariants.{Head, Object}
use Rattle.tree_calls.specs.Limits.{keeps_limit}
use Rattle.token_types.specs.declared.token.Kind.{Kind}
use Rattle.token_types.specs.declared.token.Kind.TheVariants.{Bytes, Status, Lock as LockToken}
use Rattle.token_types.specs.declared.token.Need.{Need}
use Rattle.token_types.specs.declared.token.Token.{Token}
use Rattle.token_types.specs.declared.token.TokenId.{TokenId}
use Rattle.message_types.specs.declared.message.Direction.{Direction}
use Rattle.message_types.specs.declared.message.Direction.TheVariants.{ToServer, ToHost, BetweenServers}
use Rattle.message_types.specs.declared.message.Body.{Body}
use Rattle.message_types.specs.declared.message.Body.TheVariants.{
  Hello,
  Fetch,
  Grant,
  Change,
  Done,
  Revoke,
  Returned,
  Kept,
  GiveBack,
  Gone,
  Reclaim,
  Reclaimed,
  Restarted,
  Down,
  Bye,
  NotHere,
  Ship,
  Shipped,
}
use Rattle.message_types.specs.declared.message.Message.{Message}
use Rattle.message_types.specs.declared.asking.Change.{Change as ChangeOf}
use Rattle.message_types.specs.declared.asking.Fetch.{Fetch as FetchOf}
use Rattle.message_types.specs.declared.telling.Bring.{Bring}
use Rattle.message_types.specs.declared.telling.Done.{Done as DoneOf}
use Rattle.message_types.specs.declared.telling.Grant.{Grant as GrantOf}
use Rattle.message_types.specs.declared.telling.DoneIs.{DoneIs}
use Rattle.message_types.specs.declared.telling.DoneIs.TheVariants.{Reply as Replied, Known, Elsewhere}
use Rattle.message_types.specs.declared.giving.Give.{Give}
use Rattle.message_types.specs.declared.giving.Ends.{Ends}
use Rattle.message_types.specs.declared.giving.Outstanding.{Outstanding}
use Rattle.message_types.specs.declared.giving.Reclaim.{Reclaim as ReclaimOf}
use Rattle.message_types.specs.declared.tokens.Revoke.{Revoke as RevokeOf}

-- it holds of each
abbrev pub Each : {A : Type 0} → (A → Type 0) → List A → Type 0
Each P [] = Unit {0}
Each P (x ∷ xs) = P x × Each P xs

-- a list whose count has two bytes
abbrev pub IsShort : {A : Type 0} → List A → Type 0
IsShort xs = length xs ≤ 65535

-- bytes whose count has four bytes
abbrev pub AreCounted : List ℕ → Type 0
AreCounted bytes = length bytes ≤ 4294967295

-- a declared server
pub record IsServer (roster : Roster) (server : ServerId) : Type 0 where
  pub first : 1 ≤ server.0
  pub last : server.0 ≤ length roster.capacity

-- the setup host, or a declared one
abbrev pub IsHost : Roster → HostId → Type 0
IsHost roster host = host.0 ≤ length roster.hosts

-- A fileset that has never moved is at the server whose number is in its own.
abbrev pub IsHome : Message → FilesetId → Type 0
IsHome m fileset = m.moves ≡ 0 → fileset.0 / 65536 ≡ m.server.0

-- it is about filesets themselves, or about one that is at the server
abbrev pub IsNumbered : Message → FilesetId → Type 0
IsNumbered m fileset = (fileset.0 ≡ 0) ⊎ IsHome m fileset

-- Which way a body goes: from a host to a server, from a server to a host, or between servers. Bye goes to both.
abbrev pub Goes : Body → Direction → Type 0
Goes Hello way = way ≡ ToServer
Goes (Fetch _) way = way ≡ ToServer
Goes (Grant _) way = way ≡ ToHost
Goes (Change _) way = way ≡ ToServer
Goes (Done _) way = way ≡ ToHost
Goes (Revoke _) way = way ≡ ToHost
Goes (Returned _) way = way ≡ ToServer
Goes (Kept _) way = way ≡ ToServer
Goes (GiveBack _) way = way ≡ ToServer
Goes (Gone _) way = way ≡ ToHost
Goes (Reclaim _) way = way ≡ ToServer
Goes (Reclaimed _) way = way ≡ ToHost
Goes Restarted way = way ≡ ToHost
Goes Down way = way ≡ ToServer
Goes Bye way = (way ≡ ToServer) ⊎ (way ≡ ToHost)
Goes (NotHere _) way = way ≡ ToHost
Goes (Ship _) way = way ≡ BetweenServers
Goes (Shipped _) way = way ≡ BetweenServers

-- a message speaks of a fileset, or has no moves
abbrev pub HasMoves : Body → ℕ → Type 0
HasMoves Hello moves = moves ≡ 0
HasMoves (Reclaim _) moves = moves ≡ 0
HasMoves (Reclaimed _) moves = moves ≡ 0
HasMoves Restarted moves = moves ≡ 0
HasMoves Down moves = moves ≡ 0
HasMoves Bye moves = moves ≡ 0
HasMoves (Shipped _) moves = moves ≡ 0
HasMoves _ moves = Unit {0}

-- the places that a call names
abbrev pub places_in : Call → List Place
places_in (Create place) = place ∷ []
places_in (MakeDir place) = place ∷ []
places_in (Remove place) = place ∷ []
places_in (Rename from to) = from ∷ to ∷ []
places_in (Truncate place len) = place ∷ []
places_in (SetAcl place which list) = place ∷ []
places_in (Read place from len) = place ∷ []
places_in (Write place from bytes) = place ∷ []
places_in (ListNames place) = place ∷ []
places_in (Stat place) = place ∷ []
places_in (GetAcl place which) = place ∷ []
places_in (Sync place) = place ∷ []
places_in (Lock label place writing from len) = place ∷ []
places_in (OpenFile label place kind) = place ∷ []
places_in _ = []

-- the servers that a call names
abbrev pub servers_in : Call → List ServerId
servers_in (NewFileset server name objects owner) = server ∷ []
servers_in (CloneFileset server fileset new) = server ∷ []
servers_in (MoveFileset server fileset to) = server ∷ to ∷ []
servers_in call = map (λ place. place.server) (places_in call)

-- the owner of a new fileset has a group, and few enough
abbrev pub HasGroups : Call → Type 0
HasGroups (NewFileset server name objects owner) = (1 ≤ length owner.groups) × (length owner.groups ≤ GROUPS_MAX)
HasGroups _ = Unit {0}

-- the bytes that a call writes have room for their count
abbrev pub HasCount : Call → Type 0
HasCount (Write place from bytes) = AreCounted bytes
HasCount _ = Unit {0}

-- a call that may be asked
pub record IsCall (roster : Roster) (call : Call) : Type 0 where
  pub servers : Each (IsServer roster) (servers_in call)
  pub paths : Each (λ (place : Place). IsShort place.path) (places_in call)
  pub objects : IsTrue (keeps_limit call)
  pub groups : HasGroups call
  pub bytes : HasCount call

-- a call that a server decides; a new fileset is the message's server's
abbrev pub IsDecided : ServerId → Call → Type 0
IsDecided server (NewFileset at name objects owner) = at ≡ server
IsDecided server (Create place) = Unit {0}
IsDecided server (MakeDir place) = Unit {0}
IsDecided server (Remove place) = Unit {0}
IsDecided server (Rename from to) = Unit {0}
IsDecided server (Truncate place len) = Unit {0}
IsDecided server (SetAcl place which list) = Unit {0}
IsDecided server (CloneFileset at name new) = Unit {0}
IsDecided server (Lock label place writing from len) = Unit {0}
IsDecided server (OpenFile label place kind) = Unit {0}
IsDecided server (MoveFileset at name to) = Unit {0}
IsDecided server _ = ⊥

-- a call that a give-back answers
abbrev pub IsEnd : Call → Type 0
IsEnd (Unlock label) = Unit {0}
IsEnd (CloseFile label) = Unit {0}
IsEnd _ = ⊥

-- a call that moves a fileset
abbrev pub IsMove : Call → Type 0
IsMove (MoveFileset server fileset to) = Unit {0}
IsMove _ = ⊥

-- what a Fetch asks for: bytes or the status
abbrev pub IsFetched : Kind → Type 0
IsFetched (Bytes update span) = Unit {0}
IsFetched (Status update) = Unit {0}
IsFetched _ = ⊥

-- a span isn't empty
abbrev pub HasRoom : Kind → Type 0
HasRoom (Bytes update span) = span.from < span.to
HasRoom (LockToken writing span) = span.from < span.to
HasRoom _ = Unit {0}

-- pieces rise and don't overlap: each begins at or behind the end of those before it
abbrev pub PiecesRise : List Piece → Type 0
PiecesRise [] = Unit {0}
PiecesRise (piece ∷ pieces) =
    Each (λ (later : Piece). piece.from + length piece.bytes ≤ later.from) pieces × PiecesRise pieces

-- bytes that travel lie within what a file can have, in order, and together are no more than that
pub record AreFileBytes (pieces : List Piece) : Type 0 where
  pub ends : Each (λ piece. piece.from + length piece.bytes ≤ FILE_BYTES_MAX) pieces
  pub order : PiecesRise pieces
  pub together : sum_by (λ piece. length piece.bytes) pieces ≤ FILE_BYTES_MAX
  pub count : IsShort pieces

-- names rise, each once
abbrev pub NamesRise : List DirEntry → Type 0
NamesRise [] = Unit {0}
NamesRise (entry ∷ entries) = Each (λ other. IsTrue (is_before entry.name other.name)) entries × NamesRise entries

-- what is told of an object: its status where it is there, and then its bytes or entries
pub record IsTold (status : Option StatusOf) (pieces : List Piece) (entries : List DirEntry) : Type 0 where
  pub size : IfSome status (λ s. s.length ≤ FILE_BYTES_MAX)
  -- one list of a file, three of a directory
  pub lists : IfSome status (λ s. length s.lists ≡ (if s.dir then 3 else 1))
  pub bytes : AreFileBytes pieces
  pub order : NamesRise entries
  pub few : length entries ≤ OBJECTS_MAX
  pub absent : status ≡ None → (pieces ≡ []) × (entries ≡ [])

-- a token of the message's host
pub record IsToken (m : Message) (token : Token) : Type 0 where
  pub host : token.host ≡ m.host
  pub server : token.id.server ≡ m.server
  pub room : HasRoom token.kind

-- a token that an answer brings: of its file, and granted in the message's epoch
pub record IsBrought (m : Message) (fid : Fid) (token : Token) : Type 0 where
  pub own : IsToken m token
  pub file : token.fid ≡ fid
  pub epoch : token.id.epoch ≡ m.epoch

-- the tokens that an answer brings are of its file, which is at the server
pub record Brings (m : Message) (bring : Bring) : Type 0 where
  pub tokens : Each (IsBrought m bring.fid) bring.tokens
  pub home : (token : Token) (tokens : List Token) → bring.tokens ≡ token ∷ tokens → IsHome m bring.fid.fileset

-- tokens that the message's server issued, on a file that is at the server
pub record AreNamed (m : Message) (fid : Fid) (ids : List TokenId) : Type 0 where
  pub home : IsHome m fid.fileset
  pub issued : Each (λ (id : TokenId). id.server ≡ m.server) ids

pub record IsFetch (m : Message) (fetch : FetchOf) : Type 0 where
  pub number : 1 ≤ fetch.number
  pub home : IsHome m fetch.fid.fileset
  pub file : Each (λ (need : Need). need.fid ≡ fetch.fid) fetch.needs
  pub kinds : Each (λ (need : Need). IsFetched need.kind) fetch.needs
  pub room : Each (λ (need : Need). HasRoom need.kind) fetch.needs
  pub count : IsShort fetch.needs

-- an object that isn't there brings no tokens
pub record IsGrant (m : Message) (grant : GrantOf) : Type 0 where
  pub stamp : 1 ≤ grant.bring.stamp
  pub brings : Brings m grant.bring
  pub home : IsHome m grant.bring.fid.fileset
  pub told : IsTold grant.status grant.pieces grant.entries
  pub absent : grant.status ≡ None → grant.bring.tokens ≡ []

pub record IsChange (roster : Roster) (m : Message) (change : ChangeOf) : Type 0 where
  pub number : 1 ≤ change.number
  pub fileset : IsNumbered m change.fileset
  pub call : IsCall roster change.call
  pub decided : IsTrue change.enter ⊎ IsDecided m.server change.call

-- bytes and a list of names have room for their count
abbrev pub IsReply : Reply → Type 0
IsReply (BytesRead bytes) = AreCounted bytes
IsReply (Names names) = IsShort names
IsReply _ = Unit {0}

-- what became of a Change: the fileset that is known is at the server, and another server is declared
abbrev pub IsOutcome : Roster → Message → DoneIs → Type 0
IsOutcome roster m (Replied reply) = IsReply reply
IsOutcome roster m (Known fileset) = IsHome m fileset
IsOutcome roster m (Elsewhere server) = IsServer roster server
IsOutcome roster m _ = Unit {0}

-- the object of a Done that brings no token
abbrev pub no_fid : Fid
no_fid = record { fileset = record { 0 = 0 }; anode = 0; unique = 0 }

pub record IsDone (roster : Roster) (m : Message) (done : DoneOf) : Type 0 where
  pub fileset : IsNumbered m done.fileset
  pub outcome : IsOutcome roster m done.outcome
  pub brings : Brings m done.bring
  pub some : (token : Token) (tokens : List Token) → done.bring.tokens ≡ token ∷ tokens → 1 ≤ done.bring.stamp
  pub none : done.bring.tokens ≡ [] → (done.bring.fid ≡ no_fid) × (done.bring.stamp ≡ 0)

pub record IsRevoke (m : Message) (revoke : RevokeOf) : Type 0 where
  pub stamp : 1 ≤ revoke.stamp
  pub named : AreNamed m revoke.fid revoke.ids

pub record IsGiveBack (roster : Roster) (m : Message) (give : Give) : Type 0 where
  pub number : 1 ≤ give.number
  pub home : IsHome m give.fid.fileset
  -- tokens of a fileset that moved since may be another server's
  pub declared : Each (λ (id : TokenId). IsServer roster id.server) give.ids
  pub issued : m.moves ≡ 0 → Each (λ (id : TokenId). id.server ≡ m.server) give.ids
  pub bytes : AreFileBytes give.pieces
  pub size : IfSome give.length (λ n. n ≤ FILE_BYTES_MAX)
  pub ends : IfSome give.ends (λ (ends : Ends). IsEnd ends.call)

-- some of the numbers are those of a fileset
abbrev pub Numbers : List Outstanding → FilesetId → Type 0
Numbers [] fileset = ⊥
Numbers (o ∷ numbers) fileset = (o.fileset ≡ fileset) ⊎ Numbers numbers fileset

-- a claim names tokens that the server issued in earlier epochs, and the moves of each fileset of theirs
pub record IsClaim (m : Message) (claim : ReclaimOf) : Type 0 where
  pub tokens : Each (IsToken m) claim.tokens
  pub earlier : Each (λ (token : Token). token.id.epoch < m.epoch) claim.tokens
  pub moves : Each (λ (token : Token). Numbers claim.numbers token.fid.fileset) claim.tokens

-- what is kept of a host's requests: a code of a reply, 0 for done, and rights
pub record IsKept (kept : Record) : Type 0 where
  pub code : kept.code ≤ 21
  pub rights : kept.right < 64

-- the head of a fileset that moves
pub record IsHead (roster : Roster) (objects : ℕ) (records : List Record) (mover : Mover) : Type 0 where
  pub least : 1 ≤ objects
  pub most : objects ≤ OBJECTS_MAX
  -- one for the setup host, and one for each host that there can be
  pub hosts : length records ≡ HOSTS_MAX + 1
  pub kept : Each IsKept records
  pub host : IsHost roster mover.host
  pub call : IsCall roster mover.call
  pub moves : IsMove mover.call

-- part 0 is the head, and any other the anode of its number
abbrev pub IsPart : Roster → ℕ → ShipPart → Type 0
IsPart roster at (Head name objects records mover) = (at ≡ 0) × IsHead roster objects records mover
IsPart roster at (Object anode unique status pieces entries) =
    (1 ≤ at) × (at ≤ OBJECTS_MAX) × (anode ≡ at) × IsTold status pieces entries

-- what a message of each kind says
abbrev pub IsBody : Roster → Message → Body → Type 0
IsBody roster m (Fetch fetch) = IsFetch m fetch
IsBody roster m (Grant grant) = IsGrant m grant
IsBody roster m (Change change) = IsChange roster m change
IsBody roster m (Done done) = IsDone roster m done
IsBody roster m (Revoke r) = IsRevoke m r
IsBody roster m (Returned n) = AreNamed m n.fid n.ids
IsBody roster m (Kept n) = AreNamed m n.fid n.ids
IsBody roster m (GiveBack give) = IsGiveBack roster m give
IsBody roster m (Gone n) = IsHome m n.fileset
IsBody roster m (Reclaim claim) = IsClaim m claim
IsBody roster m (Reclaimed r) = Each (λ (id : TokenId). id.server ≡ m.server) r.left_out
IsBody roster m (NotHere n) = IsServer roster n.to
IsBody roster m (Ship s) = IsServer roster s.to × IsPart roster s.at s.part
IsBody roster m (Shipped s) = IsServer roster s.to × IsReply s.reply
IsBody roster m _ = Unit {0}

-- a message is sound, where these take part
pub record IsSound (roster : Roster) (m : Message) : Type 0 where
  pub host : IsHost roster m.host
  pub server : IsServer roster m.server
  pub way : Goes m.body m.direction
  -- between servers there is no host, and no epoch
  pub apart : m.direction ≡ BetweenServers → (m.host.0 ≡ 0) × (m.epoch ≡ 0)
  pub moves : HasMoves m.body m.moves
  pub body : IsBody roster m m.body
