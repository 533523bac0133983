-- Soundness by example: messages that are sound, and others that fail in one place.
use Rattle.std.specs.Prelude.{
  ℕ,
  ◌+◌,
  ◌*◌,
  ◌<◌,
  Bool,
  true,
  false,
  List,
  [],
  ◌∷◌,
  length,
  replicate,
  Option,
  Some,
  None,
  codes,
}
use Rattle.std.proofs.Common.{lit≤}
use Rattle.base_types.specs.declared.ids.Fid.{Fid}
use Rattle.base_types.specs.declared.span.Span.{Span}
use Rattle.base_types.specs.declared.ids.OpenKind.TheVariants.{Writing}
use Rattle.tree_calls.specs.declared.call.Call.{Call}
use Rattle.tree_calls.specs.declared.call.Call.TheVariants.{NewFileset, Write, Stat, MoveFileset}
use Rattle.tree_calls.specs.declared.part.DirEntry.{DirEntry}
use Rattle.tree_calls.specs.declared.part.Piece.{Piece}
use Rattle.tree_calls.specs.declared.part.Status.{Status as StatusOf}
use Rattle.tree_calls.specs.declared.place.Place.{Place}
use Rattle.tree_calls.specs.declared.reply.Reply.TheVariants.{Ok as Accepted, Bytes as BytesRead, Names}
use Rattle.tree_calls.specs.declared.roster.Roster.{Roster}
use Rattle.tree_calls.specs.declared.ship.Record.{Record}
use Rattle.tree_calls.specs.declared.ship.ShipPart.{ShipPart}
use Rattle.tree_calls.specs.declared.ship.ShipPart.TheVariants.{Head, Object}
use Rattle.token_types.specs.declared.token.Kind.{Kind}
use Rattle.token_types.specs.declared.token.Kind.TheVariants.{Bytes, Status, Opening}
use Rattle.token_types.specs.declared.token.Need.{Need}
use Rattle.token_types.specs.declared.token.Token.{Token}
use Rattle.token_types.specs.declared.token.TokenId.{TokenId}
use Rattle.message_types.specs.declared.message.Direction.{Direction}
use Rattle.message_types.specs.declared.message.Direction.TheVariants.{ToServer, ToHost, BetweenServers}
use Rattle.message_types.specs.declared.message.Body.{Body}
use Rattle.message_types.specs.declared.message.Body.TheVariants.{
  Hello,
  Fetch,
  Grant,
  Change,
  Done,
  Revoke,
  GiveBack,
  Gone,
  Reclaim,
  Reclaimed,
  NotHere,
  Ship,
  Shipped,
}
use Rattle.message_types.specs.declared.message.Message.{Message}
use Rattle.message_types.specs.declared.giving.Ends.{Ends}
use Rattle.message_types.specs.declared.telling.Bring.{Bring}
use Rattle.message_types.specs.declared.telling.DoneIs.{DoneIs}
use Rattle.message_types.specs.declared.telling.DoneIs.TheVariants.{Reply as Replied, Known, Granted, Elsewhere}
use Rattle.message_types.specs.Soundness.{no_fid, IsSound}

-- one host, and two servers
abbrev pub some_roster : Roster
some_roster = record {
  users = record { name = codes "u"; groups = codes "g" ∷ [] } ∷ [];
  hosts = record { user = 0; limit = 64 } ∷ [];
  capacity = 16384 ∷ 16384 ∷ [];
}

-- a message of a host and server 1 in epoch 2
abbrev pub sent : Direction → ℕ → ℕ → Body → Message
sent way host moves body = record {
  direction = way;
  host = record { 0 = host };
  server = record { 0 = 1 };
  epoch = 2;
  moves = moves;
  body = body;
}

-- the root of a fileset that was born at a server
abbrev pub root_of : ℕ → Fid
root_of born = record { fileset = record { 0 = 65536 * born + 1 }; anode = 1; unique = 1 }

-- a token to read the status of such a root, of an epoch of server 1
abbrev pub token_of : ℕ → ℕ → ℕ → Token
token_of host born epoch = record {
  id = record { server = record { 0 = 1 }; epoch = epoch; seq = 1 };
  host = record { 0 = host };
  fid = root_of born;
  kind = Status false;
}

-- a Grant of such a token, of an object that is there or not
abbrev pub granted : ℕ → ℕ → Option StatusOf → Body
granted host born status = Grant (record {
  bring = record { number = 1; fid = root_of born; stamp = 1; tokens = token_of host born 2 ∷ [] };
  status = status;
  pieces = [];
  entries = [];
})

abbrev pub root_status : StatusOf
root_status = record {
  dir = true;
  read_only = false;
  length = 0;
  owner = codes "u";
  group = codes "g";
  lists = [] ∷ [] ∷ [] ∷ [];
}

-- a claim of a token, with or without the moves of its fileset
abbrev pub claimed : ℕ → Bool → Body
claimed epoch true = Reclaim (record {
  tokens = token_of 1 1 epoch ∷ [];
  numbers = record { fileset = record { 0 = 65537 }; moves = 0; give = 0; change = 0 } ∷ [];
})
claimed epoch false = Reclaim (record { tokens = token_of 1 1 epoch ∷ []; numbers = [] })

-- a part that is a free anode
abbrev pub shipped_anode : ℕ → ℕ → Body
shipped_anode at anode = Ship (record {
  to = record { 0 = 2 };
  ship = 1;
  fileset = record { 0 = 65537 };
  at = at;
  part = Object anode 1 None [] [];
})

-- it is sent between servers, where there is no host and no epoch
abbrev pub shipped : ℕ → ℕ → Message
shipped at anode = record (sent BetweenServers 0 1 (shipped_anode at anode)) { epoch = 0 }

abbrev pub number_of : ℕ → ℕ
number_of born = 65536 * born + 1

-- a span without bytes
abbrev pub no_bytes : Span
no_bytes = record { from = 8; to = 8; ordered = lit≤ tt; within = lit≤ tt }

abbrev pub asked : Fid → List Need → Body
asked fid needs = Fetch (record { number = 1; fid = fid; needs = needs })

-- a Fetch for one of the files
abbrev pub fetched : ℕ → ℕ → Kind → Body
fetched born other kind = asked (root_of born) (record { fid = root_of other; kind = kind } ∷ [])

-- a token's name, of server 1, 2 or another
abbrev pub id_of : ℕ → TokenId
id_of server = record { server = record { 0 = server }; epoch = 1; seq = 1 }

-- a Fetch of this number for the status of the root
abbrev pub numbered_fetch : ℕ → Body
numbered_fetch number = Fetch (record {
  number = number;
  fid = root_of 1;
  needs = record { fid = root_of 1; kind = Status false } ∷ [];
})

-- a Revoke under a stamp
abbrev pub stamped_revoke : ℕ → ℕ → ℕ → Body
stamped_revoke stamp born server = Revoke (record { fid = root_of born; stamp = stamp; ids = id_of server ∷ [] })

abbrev pub revoked : ℕ → ℕ → Body
revoked born server = stamped_revoke 1 born server

-- a Grant without tokens of the root that was born at server 1, under a stamp
abbrev pub stamped_grant : ℕ → Option StatusOf → List Piece → List DirEntry → Body
stamped_grant stamp status pieces entries = Grant (record {
  bring = record { number = 1; fid = root_of 1; stamp = stamp; tokens = [] };
  status = status;
  pieces = pieces;
  entries = entries;
})

abbrev pub told : Option StatusOf → List Piece → List DirEntry → Body
told status pieces entries = stamped_grant 1 status pieces entries

abbrev pub byte_at : ℕ → Piece
byte_at from = record { from = from; bytes = 7 ∷ [] }

abbrev pub one_byte_at : ℕ → List Piece
one_byte_at from = byte_at from ∷ []

abbrev pub two_bytes_at : ℕ → ℕ → List Piece
two_bytes_at from other = byte_at from ∷ byte_at other ∷ []

-- a piece without bytes between two that touch, and one further on
abbrev pub rising : List Piece
rising = byte_at 3 ∷ record { from = 4; bytes = [] } ∷ byte_at 4 ∷ byte_at 9 ∷ []

abbrev pub named : ℕ → DirEntry
named letter = record { name = letter ∷ []; anode = 2; unique = 1 }

-- a Grant of one token, of the same root
abbrev pub grant_of : Token → Body
grant_of token = Grant (record {
  bring = record { number = 1; fid = root_of 1; stamp = 1; tokens = token ∷ [] };
  status = Some root_status;
  pieces = [];
  entries = [];
})

abbrev pub no_token : Fid → ℕ → Bring
no_token fid stamp = record { number = 1; fid = fid; stamp = stamp; tokens = [] }

abbrev pub done_by : ℕ → DoneIs → Bring → Body
done_by born outcome bring = Done (record { fileset = record { 0 = number_of born }; outcome = outcome; bring = bring })

-- what became of a Change, which brings no token
abbrev pub decided : ℕ → DoneIs → Body
decided born outcome = done_by born outcome (no_token no_fid 0)

abbrev pub numbered_change : ℕ → ℕ → Bool → Call → Body
numbered_change number born enter call = Change (record {
  number = number;
  fileset = record { 0 = number_of born };
  fid = no_fid;
  enter = enter;
  k = 1;
  call = call;
})

abbrev pub changed : ℕ → Bool → Call → Body
changed born enter call = numbered_change 1 born enter call

abbrev pub place : ℕ → List (List ℕ) → Place
place server path = record { server = record { 0 = server }; fileset = codes "f"; path = path }

abbrev pub made : ℕ → ℕ → List (List ℕ) → Call
made server objects groups =
    NewFileset (record { 0 = server }) (codes "f") objects (record { name = codes "u"; groups = groups })

abbrev pub numbered_give : ℕ → ℕ → ℕ → List Piece → Option ℕ → Option Ends → Body
numbered_give number born server pieces len ends = GiveBack (record {
  number = number;
  fid = root_of born;
  ids = id_of server ∷ [];
  pieces = pieces;
  length = len;
  ends = ends;
})

abbrev pub saved : ℕ → ℕ → List Piece → Option ℕ → Option Ends → Body
saved born server pieces len ends = numbered_give 1 born server pieces len ends

-- a part of the fileset that was born at server 1, on its way to a server
abbrev pub ship_to : ℕ → ℕ → ShipPart → Message
ship_to server at part = record (sent BetweenServers 0 1 (Ship (record {
  to = record { 0 = server };
  ship = 1;
  fileset = record { 0 = number_of 1 };
  at = at;
  part = part;
}))) { epoch = 0 }

-- a server's answer to a part, for the server that sends the fileset
abbrev pub taken_from : ℕ → Message
taken_from server = record (sent BetweenServers 0 0 (Shipped (record {
  to = record { 0 = server };
  ship = 1;
  at = 3;
  reply = Accepted;
}))) { epoch = 0 }

-- a claim of a token, with the moves of the fileset that was born at server 1
abbrev pub claimed_token : Token → Body
claimed_token token = Reclaim (record {
  tokens = token ∷ [];
  numbers = record { fileset = record { 0 = number_of 1 }; moves = 0; give = 0; change = 0 } ∷ [];
})

abbrev pub kept : ℕ → ℕ → Record
kept code right = record { change = 1; give = 1; code = code; right = right }

abbrev pub head_of : ℕ → List Record → ℕ → Call → ShipPart
head_of objects records host call =
    Head (codes "f") objects records (record { host = record { 0 = host }; number = 1; k = 1; call = call })

-- a call that moves a fileset from server 1
abbrev pub move_to : ℕ → Call
move_to server = MoveFileset (record { 0 = 1 }) (codes "f") (record { 0 = server })

abbrev pub headed : ℕ → List Record → ℕ → Call → Message
headed objects records host call = ship_to 2 0 (head_of objects records host call)

abbrev pub Sound : Direction → ℕ → ℕ → Body → Type 0
Sound way host moves body = IsSound some_roster (sent way host moves body)

-- a message between servers that isn't sound
abbrev pub UnsoundShip : Message → Type 0
UnsoundShip message = IsSound some_roster message → ⊥

abbrev pub Unsound : Direction → ℕ → ℕ → Body → Type 0
Unsound way host moves body = Sound way host moves body → ⊥

pub record Examples : Type 0 where
  pub hello : Sound ToServer 1 0 Hello
  pub hello_to_host : Unsound ToHost 1 0 Hello
  pub unknown_host : Unsound ToServer 2 0 Hello
  pub unknown_server : IsSound some_roster (record (sent ToServer 1 0 Hello) { server = record { 0 = 3 } }) → ⊥
  pub hello_with_moves : Unsound ToServer 1 1 Hello
  pub grant : Sound ToHost 1 0 (granted 1 1 (Some root_status))
  -- the fileset was born at server 2, and has moved to server 1
  pub grant_moved : Sound ToHost 1 1 (granted 1 2 (Some root_status))
  pub grant_elsewhere : Unsound ToHost 1 0 (granted 1 2 (Some root_status))
  pub grant_to_other : Unsound ToHost 1 0 (granted 0 1 (Some root_status))
  pub grant_of_nothing : Unsound ToHost 1 0 (granted 1 1 None)
  pub claim : Sound ToServer 1 0 (claimed 1 true)
  pub claim_of_now : Unsound ToServer 1 0 (claimed 2 true)
  pub claim_without_moves : Unsound ToServer 1 0 (claimed 1 false)
  pub ship_anode : IsSound some_roster (shipped 3 3)
  pub ship_anode_as_head : IsSound some_roster (shipped 0 0) → ⊥
  pub ship_other_anode : IsSound some_roster (shipped 3 4) → ⊥
  pub ship_of_host : UnsoundShip (record (shipped 3 3) { host = record { 0 = 1 } })
  pub ship_in_epoch : UnsoundShip (record (shipped 3 3) { epoch = 2 })
  pub ship_beyond : UnsoundShip (shipped 65 65)
  pub ship_to_unknown : UnsoundShip (ship_to 3 3 (Object 3 1 None [] []))
  pub shipped_to_unknown : UnsoundShip (taken_from 3)

abbrev pub UnsoundTold : Option StatusOf → List Piece → List DirEntry → Type 0
UnsoundTold status pieces entries = Unsound ToHost 1 0 (told status pieces entries)

abbrev pub UnsoundDone : DoneIs → Type 0
UnsoundDone outcome = Unsound ToHost 1 0 (decided 1 outcome)

abbrev pub UnsoundChange : Bool → Call → Type 0
UnsoundChange enter call = Unsound ToServer 1 0 (changed 1 enter call)

-- further messages that are unsound in what they ask, revoke, tell and bring
pub record AskedAndTold : Type 0 where
  pub fetch : Sound ToServer 1 0 (fetched 1 1 (Status false))
  pub fetch_of_number_0 : Unsound ToServer 1 0 (numbered_fetch 0)
  pub fetch_elsewhere : Unsound ToServer 1 0 (fetched 2 2 (Status false))
  pub fetch_other_file : Unsound ToServer 1 0 (fetched 1 2 (Status false))
  pub fetch_opening : Unsound ToServer 1 0 (fetched 1 1 (Opening Writing))
  pub fetch_no_bytes : Unsound ToServer 1 0 (fetched 1 1 (Bytes false no_bytes))
  pub fetch_too_many : (needs : List Need) → 65535 < length needs → Unsound ToServer 1 0 (asked (root_of 1) needs)
  pub revoke : Sound ToHost 1 0 (revoked 1 1)
  pub revoke_without_stamp : Unsound ToHost 1 0 (stamped_revoke 0 1 1)
  pub revoke_elsewhere : Unsound ToHost 1 0 (revoked 2 1)
  pub revoke_of_other : Unsound ToHost 1 0 (revoked 1 2)
  -- pieces may touch, and be empty
  pub told_rising : Sound ToHost 1 0 (told (Some root_status) rising [])
  pub told_without_stamp : Unsound ToHost 1 0 (stamped_grant 0 (Some root_status) [] [])
  pub told_overlap : UnsoundTold (Some root_status) (two_bytes_at 3 3) []
  pub told_falling_bytes : UnsoundTold (Some root_status) (two_bytes_at 4 3) []
  pub told_within : UnsoundTold (Some root_status) (byte_at 3 ∷ record { from = 3; bytes = [] } ∷ []) []
  pub told_long : Unsound ToHost 1 0 (told (Some (record root_status { length = 65537 })) [] [])
  pub told_lists : Unsound ToHost 1 0 (told (Some (record root_status { dir = false })) [] [])
  pub told_end : UnsoundTold (Some root_status) (one_byte_at 65536) []
  pub told_together :
      (bytes : List ℕ) → 65536 < length bytes
      → UnsoundTold (Some root_status) (record { from = 0; bytes = bytes } ∷ []) []
  pub told_pieces : (pieces : List Piece) → 65535 < length pieces → UnsoundTold (Some root_status) pieces []
  pub told_falling : UnsoundTold (Some root_status) [] (named 98 ∷ named 97 ∷ [])
  pub told_twice : UnsoundTold (Some root_status) [] (named 97 ∷ named 97 ∷ [])
  pub told_many : (entries : List DirEntry) → 64 < length entries → UnsoundTold (Some root_status) [] entries
  pub bytes_of_nothing : Unsound ToHost 1 0 (told None (one_byte_at 0) [])
  pub entries_of_nothing : Unsound ToHost 1 0 (told None [] (named 97 ∷ []))
  pub token_of_other : Unsound ToHost 1 0 (grant_of (record (token_of 1 1 2) { id = record (id_of 2) { epoch = 2 } }))
  pub token_no_bytes : Unsound ToHost 1 0 (grant_of (record (token_of 1 1 2) { kind = Bytes false no_bytes }))
  pub token_other_file : Unsound ToHost 1 0 (grant_of (token_of 1 2 2))
  pub token_earlier : Unsound ToHost 1 0 (grant_of (token_of 1 1 1))
  pub done : Sound ToHost 1 0 (decided 1 (Replied Accepted))
  pub done_elsewhere : Unsound ToHost 1 0 (decided 2 (Replied Accepted))
  pub done_known_elsewhere : UnsoundDone (Known (record { 0 = number_of 2 }))
  pub done_unknown_server : UnsoundDone (Elsewhere (record { 0 = 3 }))
  pub done_names : (names : List (List ℕ)) → 65535 < length names → UnsoundDone (Replied (Names names))
  pub done_bytes : (bytes : List ℕ) → 4294967295 < length bytes → UnsoundDone (Replied (BytesRead bytes))
  pub done_brings_elsewhere :
      Unsound ToHost 1 0 (done_by 1 Granted (record (no_token (root_of 2) 1) { tokens = token_of 1 2 2 ∷ [] }))
  pub done_tokens_without_stamp :
      Unsound ToHost 1 0 (done_by 1 Granted (record (no_token (root_of 1) 0) { tokens = token_of 1 1 2 ∷ [] }))
  pub done_file_of_nothing : Unsound ToHost 1 0 (done_by 1 Granted (no_token (root_of 1) 0))
  pub done_stamp_of_nothing : Unsound ToHost 1 0 (done_by 1 Granted (no_token no_fid 1))

-- and in what they change, give back, claim and ship
pub record ChangedAndGiven : Type 0 where
  pub change : Sound ToServer 1 0 (changed 1 true (Stat (place 1 [])))
  pub change_of_number_0 : Unsound ToServer 1 0 (numbered_change 0 1 true (Stat (place 1 [])))
  pub change_elsewhere : Unsound ToServer 1 0 (changed 2 true (Stat (place 1 [])))
  pub change_not_decided : UnsoundChange false (Stat (place 1 []))
  pub change_of_other : UnsoundChange false (made 2 1 (codes "g" ∷ []))
  pub change_unknown_server : UnsoundChange true (Stat (place 3 []))
  pub change_no_server : UnsoundChange true (Stat (place 0 []))
  pub change_path : (path : List (List ℕ)) → 65535 < length path → UnsoundChange true (Stat (place 1 path))
  pub change_no_objects : UnsoundChange false (made 1 0 (codes "g" ∷ []))
  pub change_no_group : UnsoundChange false (made 1 1 [])
  pub change_groups : (groups : List (List ℕ)) → 8 < length groups → UnsoundChange false (made 1 1 groups)
  pub change_bytes : (bytes : List ℕ) → 4294967295 < length bytes → UnsoundChange true (Write (place 1 []) 0 bytes)
  pub give : Sound ToServer 1 0 (saved 1 1 [] None None)
  pub give_of_number_0 : Unsound ToServer 1 0 (numbered_give 0 1 1 [] None None)
  pub give_rising : Sound ToServer 1 0 (saved 1 1 rising None None)
  pub give_overlap : Unsound ToServer 1 0 (saved 1 1 (two_bytes_at 3 3) None None)
  -- the fileset has moved, and the token is of the server that it left
  pub give_moved : Sound ToServer 1 1 (saved 1 2 [] None None)
  pub give_elsewhere : Unsound ToServer 1 0 (saved 2 1 [] None None)
  pub give_of_other : Unsound ToServer 1 0 (saved 1 2 [] None None)
  pub give_of_unknown : Unsound ToServer 1 1 (saved 1 3 [] None None)
  pub give_end : Unsound ToServer 1 0 (saved 1 1 (one_byte_at 65536) None None)
  pub give_long : Unsound ToServer 1 0 (saved 1 1 [] (Some 65537) None)
  pub give_ends_stat : Unsound ToServer 1 0 (saved 1 1 [] None (Some (record { k = 1; call = Stat (place 1 []) })))
  pub gone_elsewhere : Unsound ToHost 1 0 (Gone (record { fileset = record { 0 = number_of 2 }; number = 1 }))
  pub claim_of_other : Unsound ToServer 1 0 (claimed_token (token_of 0 1 1))
  pub left_out_of_other : Unsound ToHost 1 0 (Reclaimed (record { applied = []; left_out = id_of 2 ∷ [] }))
  pub not_here_unknown :
      Unsound ToHost 1 1 (NotHere (record { fileset = record { 0 = number_of 1 }; to = record { 0 = 3 } }))
  pub head : IsSound some_roster (headed 64 (replicate 17 (kept 21 63)) 1 (move_to 2))
  pub head_as_anode : UnsoundShip (ship_to 2 1 (head_of 64 (replicate 17 (kept 21 63)) 1 (move_to 2)))
  pub head_no_objects : UnsoundShip (headed 0 (replicate 17 (kept 21 63)) 1 (move_to 2))
  pub head_objects : UnsoundShip (headed 65 (replicate 17 (kept 21 63)) 1 (move_to 2))
  pub head_hosts : UnsoundShip (headed 64 (replicate 16 (kept 21 63)) 1 (move_to 2))
  pub head_code : UnsoundShip (headed 64 (replicate 17 (kept 22 63)) 1 (move_to 2))
  pub head_right : UnsoundShip (headed 64 (replicate 17 (kept 21 64)) 1 (move_to 2))
  pub head_unknown_host : UnsoundShip (headed 64 (replicate 17 (kept 21 63)) 2 (move_to 2))
  pub head_unknown_server : UnsoundShip (headed 64 (replicate 17 (kept 21 63)) 1 (move_to 3))
  pub head_no_move : UnsoundShip (headed 64 (replicate 17 (kept 21 63)) 1 (Stat (place 1 [])))
