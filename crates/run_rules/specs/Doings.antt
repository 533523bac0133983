-- A server's doings: each step of it, taken apart in order; its filesets; its list of hosts; what it has granted. All
-- lists of doings have the newest first; `past` is the server's earlier doings.
use Rattle.std.specs.Prelude.{List, None, Option, Some, [], false, flat_map, if◌then◌else◌, map, suc, true}
use Rattle.std.specs.Prelude.{Bool, ℕ, ◌==◌, ◌∷◌, ◌≡◌, ◌≤◌, ◌⊎◌}
use Rattle.base_types.specs.declared.ids.Fid.{Fid}
use Rattle.base_types.specs.declared.ids.FilesetId.{FilesetId}
use Rattle.base_types.specs.declared.ids.HostId.{HostId}
use Rattle.base_types.specs.declared.ids.Node.TheVariants.{Server}
use Rattle.base_types.specs.declared.ids.ServerId.{ServerId}
use Rattle.tree_calls.specs.declared.reply.Reply.{Reply}
use Rattle.tree_calls.specs.declared.reply.Reply.TheVariants.{Refused}
use Rattle.token_types.specs.declared.token.Token.{Token}
use Rattle.token_types.specs.declared.token.TokenId.{TokenId}
use Rattle.message_types.specs.declared.giving.AppliedGive.{AppliedGive}
use Rattle.message_types.specs.declared.giving.Give.{Give}
use Rattle.message_types.specs.declared.message.Body.{Body}
use Rattle.message_types.specs.declared.message.Body.TheVariants.{Bye, Done, Down, GiveBack, Grant, Hello, Kept}
use Rattle.message_types.specs.declared.message.Body.TheVariants.{Returned, Revoke, Ship, Shipped}
use Rattle.message_types.specs.declared.message.Message.{Message}
use Rattle.message_types.specs.declared.telling.Bring.{Bring}
use Rattle.message_types.specs.declared.telling.Done.{Done as DoneOf}
use Rattle.message_types.specs.declared.telling.Grant.{Grant as GrantOf}
use Rattle.message_types.specs.declared.tokens.Named.{Named}
use Rattle.message_types.specs.declared.tokens.Revoke.{Revoke as RevokeOf}
use Rattle.run_rules.specs.Messages.{home}
use Rattle.run_rules.specs.Past.{In, Once, Since, appended}
use Rattle.run_rules.specs.Steps.{is_node}
use Rattle.run_rules.specs.Tokens.{IsUseKind}
use Rattle.run_rules.specs.declared.applied.Admission.{Admission}
use Rattle.run_rules.specs.declared.applied.Applied.{Applied}
use Rattle.run_rules.specs.declared.applied.Applied.TheVariants.{Done as IsDone, Moves as IsMoved, Wants as IsWanted}
use Rattle.run_rules.specs.declared.applied.Head.{Head}
use Rattle.run_rules.specs.declared.applied.Move.{Move}
use Rattle.run_rules.specs.declared.applied.Move.TheVariants.{Arrives, Back, Leaves, Left, Part}
use Rattle.run_rules.specs.declared.applied.Wanted.{Wanted}
use Rattle.run_rules.specs.declared.applied.Written.{Written}
use Rattle.run_rules.specs.declared.step.Cause.{Cause}
use Rattle.run_rules.specs.declared.step.Cause.TheVariants.{Flushed, Freight, Message as Came, Restart}
use Rattle.run_rules.specs.declared.step.Step.{Step}

-- # What a server has of filesets

-- what a server has of a fileset
pub data Slot : Type 0 where
  -- nothing
  Absent : Slot
  -- it is here, writable or a clone, after so many moves
  Writable : (moves : ℕ) → Slot
  -- it was here after so many moves, and is leaving for a server under a ship number of this one
  Leaving : (moves : ℕ) → (to : ServerId) → (ship : ℕ) → Slot
  -- it is coming from a server, under a ship number of that one, and will have moved so often; so many parts were
  -- taken, the head counted
  Arriving : (moves : ℕ) → (from : ServerId) → (ship parts : ℕ) → Slot
  -- it was here after so many moves, and has left for a server
  Gone : (moves : ℕ) → (to : ServerId) → Slot

-- # Doings of a step, in order

pub data Doing : Type 0 where
  -- it starts, or restarts, in this epoch
  BeginsEpoch : (epoch : ℕ) → Doing
  -- it takes a message of an epoch and a number of moves from a host, with all that it stores and learns by it
  Took : HostId → (epoch moves : ℕ) → Body → Doing
  -- what it wrote down is on its disk, so its exporter lets its tokens go
  Flushes : Doing
  -- a request makes a want, or makes its want anew
  MakesWant : Wanted → Doing
  -- it decides a Change and writes it down, with this reply: now the Change has its effect
  WritesDown : Written → Doing
  -- it grants a host again the tokens that it claims
  Admits : HostId → List Token → Doing
  -- it sends a host a message of an epoch and a number of moves
  Sent : HostId → (epoch moves : ℕ) → Body → Doing
  -- its exporter keeps tokens
  Reserves : List Token → Doing
  -- it takes a message of another server, with a number of moves
  Gets : (from : ServerId) → (moves : ℕ) → Body → Doing
  -- what becomes of a fileset that moves
  Moves : Move → Doing
  -- it sends another server a message, with a number of moves
  Puts : (to : ServerId) → (moves : ℕ) → Body → Doing

abbrev pub epoch_after : Doing → ℕ → ℕ
epoch_after (BeginsEpoch epoch) now = epoch
epoch_after _ now = now

-- the server's epoch
abbrev pub epoch : List Doing → ℕ
epoch [] = 0
epoch (a ∷ past) = epoch_after a (epoch past)

-- it sent the host this, in an epoch, with this number of moves
abbrev pub SentTo : List Doing → HostId → ℕ → ℕ → Body → Type 0
SentTo past host e moves body = Once (λ before a. a ≡ Sent host e moves body) past

-- the cause of a step is taken; a line `restart` raises the epoch by one
abbrev pub after_cause : Cause → List Doing → List Doing
after_cause (Came m) past = Took m.host m.epoch m.moves m.body ∷ past
after_cause (Restart line) past = BeginsEpoch (suc (epoch past)) ∷ past
after_cause Flushed past = Flushes ∷ past
after_cause (Freight m) past = Gets m.server m.moves m.body ∷ past
after_cause _ past = past

-- wants are made, Changes written down, and filesets come and go; the rest of what is applied belongs to the cause
abbrev pub decisions_of : Applied → List Doing
decisions_of (IsWanted wanted) = MakesWant wanted ∷ []
decisions_of (IsDone written) = WritesDown written ∷ []
decisions_of (IsMoved move) = Moves move ∷ []
decisions_of _ = []

abbrev pub deciding : List Applied → List Doing
deciding applied = flat_map decisions_of applied

abbrev pub admitting : List Admission → List Doing
admitting admitted = map (λ claim. Admits claim.host claim.tokens) admitted

abbrev pub sending : List Message → List Doing
sending sent = map (λ m. Sent m.host m.epoch m.moves m.body) sent

-- to whom a server sends another one a message: its body names it first
abbrev pub shipped_by_body : Body → ServerId → ServerId
shipped_by_body (Ship ship) server = ship.to
shipped_by_body (Shipped shipped) server = shipped.to
shipped_by_body _ server = server

abbrev pub shipping : List Message → List Doing
shipping shipped = map (λ m. Puts (shipped_by_body m.body m.server) m.moves m.body) shipped

-- where a step of the server has come: all is decided; claims are granted; all is sent to hosts, and to servers
abbrev pub after_deciding : Step → List Doing → List Doing
after_deciding step past = appended (deciding step.applied) (after_cause step.cause past)

abbrev pub after_admitting : Step → List Doing → List Doing
after_admitting step past = appended (admitting step.admitted) (after_deciding step past)

abbrev pub after_sending : Step → List Doing → List Doing
after_sending step past = appended (sending step.sent) (after_admitting step past)

abbrev pub after_shipping : Step → List Doing → List Doing
after_shipping step past = appended (shipping step.shipped) (after_sending step past)

-- the doings after a step of the server
abbrev pub after_step : Step → List Doing → List Doing
after_step step past = Reserves step.reserved ∷ after_shipping step past

-- the doings of a server that starts in an epoch
abbrev pub doings_of : ℕ → ServerId → List Step → List Doing
doings_of first server [] = BeginsEpoch first ∷ []
doings_of first server (step ∷ past) =
    if is_node step.node (Server server) then after_step step (doings_of first server past)
    else doings_of first server past

-- # Where filesets are, after these doings of the server

abbrev pub is_refusal : Reply → Bool
is_refusal (Refused refusal) = true
is_refusal _ = false

-- what becomes of a slot: a fileset that is here begins to leave; one of which the head was taken is arriving, and is
-- here with its last part; one whose head was refused is here again; one of which all was taken is gone
abbrev pub slot_after : Move → Slot → Slot
slot_after (Leaves fileset to ship mover) (Writable moves) = Leaving moves to ship
slot_after (Arrives head) old =
    if is_refusal head.written.answer.reply then old else Arriving head.moves head.from head.ship.ship 1
slot_after (Part fileset last) (Arriving moves from ship parts) =
    if last then Writable moves else Arriving moves from ship (suc parts)
slot_after (Back written) (Leaving moves to ship) = Writable moves
slot_after (Left fileset at) (Leaving moves to ship) = Gone moves at
slot_after _ old = old

-- the fileset that moves
abbrev pub moved : Move → FilesetId
moved (Leaves fileset to ship mover) = fileset
moved (Arrives head) = head.written.fileset
moved (Part fileset last) = fileset
moved (Back written) = written.fileset
moved (Left fileset to) = fileset

abbrev pub slot_by : Doing → FilesetId → Slot → Slot
slot_by (Moves move) fileset old = if (moved move).0 == fileset.0 then slot_after move old else old
slot_by _ fileset old = old

-- what a server has of a fileset: at first what is made at it
abbrev pub slot_of : ServerId → List Doing → FilesetId → Slot
slot_of server [] fileset = if (home fileset).0 == server.0 then Writable 0 else Absent
slot_of server (a ∷ past) fileset = slot_by a fileset (slot_of server past fileset)

-- the fileset is at the server in this stay: writable, or a clone
abbrev pub Here : ServerId → List Doing → FilesetId → ℕ → Type 0
Here server past fileset moves = slot_of server past fileset ≡ Writable moves

-- # The list of hosts, and which messages are taken

-- the doing takes this from the host, of whatever epoch
abbrev pub Hears : Doing → HostId → Body → Type 0
Hears a host body = (e : ℕ) × (moves : ℕ) × (a ≡ Took host e moves body)

-- the host is down: its Down was taken
abbrev pub HasGoneDown : List Doing → HostId → Type 0
HasGoneDown past host = Once (λ before a. Hears a host Down) past

-- the host came on the list: a Hello of it was taken, when it was neither on the list nor down
abbrev pub Listed : List Doing → HostId → Type 0
Listed [] host = ⊥
Listed (a ∷ past) host = (Hears a host Hello × (Listed past host → ⊥) × (HasGoneDown past host → ⊥)) ⊎ Listed past host

-- the doing puts the host on the list
abbrev pub Enlists : List Doing → Doing → HostId → Type 0
Enlists past a host = Listed (a ∷ past) host × (Listed past host → ⊥)

-- the doing takes the host's Bye, of the present epoch; the host is on the list and not down
abbrev pub TakesBye : List Doing → Doing → HostId → Type 0
TakesBye past a host =
    ((moves : ℕ) × (a ≡ Took host (epoch past) moves Bye)) × Listed past host × (HasGoneDown past host → ⊥)

-- the host goes down, or says Bye
abbrev pub GoesAway : List Doing → Doing → HostId → Type 0
GoesAway past a host = Hears a host Down ⊎ TakesBye past a host

-- the host is down, or has said Bye
abbrev pub HasGoneAway : List Doing → HostId → Type 0
HasGoneAway past host = Once (λ before a. GoesAway before a host) past

-- the host is live: it came on the list, and hasn't gone away
abbrev pub IsLive : List Doing → HostId → Type 0
IsLive past host = Listed past host × (HasGoneAway past host → ⊥)

-- the doing takes this from a live host, of the present epoch; nothing else has an effect but Hello, Down and Bye
abbrev pub TakesFrom : List Doing → Doing → HostId → ℕ → Body → Type 0
TakesFrom past a host moves body = (a ≡ Took host (epoch past) moves body) × IsLive past host

-- and it is about a fileset, which is at the server in the stay that the message is of
abbrev pub TakesOf : ServerId → List Doing → Doing → HostId → FilesetId → Body → Type 0
TakesOf server past a host fileset body =
    (moves : ℕ) × Here server past fileset moves × TakesFrom past a host moves body

-- a new epoch begins
abbrev pub IsNewEpoch : Doing → Type 0
IsNewEpoch a = (e : ℕ) × (a ≡ BeginsEpoch e)

-- it once was so in the present epoch
abbrev pub InEpoch : (List Doing → Doing → Type 0) → List Doing → Type 0
InEpoch P past = Since P (λ before a. IsNewEpoch a) past

-- the server took this from the host in the present epoch
abbrev pub TookNow : List Doing → HostId → ℕ → Body → Type 0
TookNow past host moves body = InEpoch (λ before a. TakesFrom before a host moves body) past

-- and it was about a fileset, which was at the server in the stay that the message is of
abbrev pub TookOf : ServerId → List Doing → HostId → FilesetId → Body → Type 0
TookOf server past host fileset body = InEpoch (λ before a. TakesOf server before a host fileset body) past

-- the host has reclaimed in this epoch, or came on the list in it
abbrev pub HasReclaimed : List Doing → HostId → Type 0
HasReclaimed past host =
    InEpoch (λ before a. ((tokens : List Token) × (a ≡ Admits host tokens)) ⊎ Enlists before a host) past

-- the grace period is over: each host on the list has reclaimed, or has gone away
abbrev pub NoGrace : List Doing → Type 0
NoGrace past = (host : HostId) → IsLive past host → HasReclaimed past host

-- the step sends the host this
abbrev pub SentNow : Step → HostId → Body → Type 0
SentNow s host body = (m : Message) × In m s.sent × (m.host ≡ host) × (m.body ≡ body)

-- the cause of the step is this, of the host, whatever epoch it is of
abbrev pub HeardNow : Step → HostId → Body → Type 0
HeardNow s host body = (m : Message) × (s.cause ≡ Came m) × (m.host ≡ host) × (m.body ≡ body)

-- the step takes this: its cause is the message, of a live host and of the present epoch
abbrev pub TakenNow : List Doing → Step → HostId → ℕ → Body → Type 0
TakenNow past s host moves body = ((m : Message) × (s.cause ≡ Came m)
    × (m.host ≡ host) × (m.epoch ≡ epoch past) × (m.moves ≡ moves) × (m.body ≡ body)) × IsLive past host

-- the host came on the list in this epoch
abbrev pub ListedNow : List Doing → HostId → Type 0
ListedNow past host = InEpoch (λ before a. Enlists before a host) past

-- # Tokens that are granted, pinned, and kept by the exporter; give-backs that are applied

-- by what a message that brings tokens is known: the stay of the fileset that it is of, and its serial stamp
pub record StayStamp : Type 0 where
  pub moves : ℕ
  pub stamp : ℕ

-- the doing brings a host tokens, by a Grant or a Done
abbrev pub BringsTokens : Doing → HostId → ℕ → ℕ → Bring → Type 0
BringsTokens a host e moves bring =
    ((grant : GrantOf) × (a ≡ Sent host e moves (Grant grant)) × (grant.bring ≡ bring))
    ⊎ ((done : DoneOf) × (a ≡ Sent host e moves (Done done)) × (done.bring ≡ bring))

-- the doing brings the token, under this stay and stamp
abbrev pub Issues : Doing → Token → StayStamp → Type 0
Issues a token mark =
    (host : HostId) × (e : ℕ) × (bring : Bring) × BringsTokens a host e mark.moves bring × In token bring.tokens
    × (bring.stamp ≡ mark.stamp)

-- an earlier one did
abbrev pub Issued : List Doing → Token → StayStamp → Type 0
Issued past token mark = Once (λ before a. Issues a token mark) past

-- a Returned or a give-back of the host names the token
abbrev pub GivesUp : ServerId → List Doing → Doing → HostId → TokenId → Type 0
GivesUp server past a host id =
    ((named : Named) × TakesOf server past a host named.fid.fileset (Returned named) × In id named.ids)
    ⊎ ((give : Give) × TakesOf server past a host give.fid.fileset (GiveBack give) × In id give.ids)

-- the doing makes the token granted: it brings it, or the host's claim names it
abbrev pub IsNewlyGranted : Doing → Token → Type 0
IsNewlyGranted a token =
    ((mark : StayStamp) × Issues a token mark)
    ⊎ ((tokens : List Token) × (a ≡ Admits token.host tokens) × In token tokens)

-- The token is granted: since it became so no Returned and no give-back of its host named it, its host hasn't gone
-- away, and no new epoch has begun.
abbrev pub Granted : ServerId → List Doing → Token → Type 0
Granted server [] token = ⊥
Granted server (a ∷ past) token =
    IsNewlyGranted a token
    ⊎ (Granted server past token × (IsNewEpoch a → ⊥) × (GivesUp server past a token.host token.id → ⊥)
    × (GoesAway past a token.host → ⊥))

-- the lock or open token is pinned: a Kept of its host named it while it was granted
abbrev pub Pinned : ServerId → List Doing → Token → Type 0
Pinned server [] token = ⊥
Pinned server (a ∷ past) token =
    (((named : Named) × TakesOf server past a token.host named.fid.fileset (Kept named) × In token.id named.ids
    × IsUseKind token.kind × Granted server past token)
    ⊎ Pinned server past token) × Granted server (a ∷ past) token

-- the exporter keeps the token: what it was taken for isn't on the server's disk yet
abbrev pub Reserved : List Doing → Token → Type 0
Reserved past token = Since (λ before a. (tokens : List Token) × (a ≡ Reserves tokens) × In token tokens)
    (λ before a. IsNewEpoch a ⊎ (a ≡ Flushes)) past

-- the host's give-back of this number is applied: it, or one of a higher number, was taken
abbrev pub IsApplied : ServerId → List Doing → HostId → AppliedGive → Type 0
IsApplied server past host number =
    Once (λ before a. (give : Give) × TakesOf server before a host number.fileset (GiveBack give)
    × (give.fid.fileset ≡ number.fileset) × (number.number ≤ give.number)) past

-- a give-back or a Returned of the host that was taken in this epoch names the token
abbrev pub GivenUp : ServerId → List Doing → HostId → TokenId → Type 0
GivenUp server past host id = InEpoch (λ before a. GivesUp server before a host id) past

-- the host's Change of this fileset and number was written down
abbrev pub WasWritten : List Doing → HostId → FilesetId → ℕ → Type 0
WasWritten past host fileset number =
    Once (λ before a. (written : Written) × (a ≡ WritesDown written) × (written.answer.host ≡ host)
    × (written.fileset ≡ fileset) × (written.number ≡ number)) past

-- it, or one of a higher number, was: its number is durable
abbrev pub IsDurable : List Doing → HostId → FilesetId → ℕ → Type 0
IsDurable past host fileset number = (later : ℕ) × (number ≤ later) × WasWritten past host fileset later

-- # Stamps under which a server has told of a file in this epoch

-- the doing uses the stamp for the file: it sends a Grant, a Done or a Revoke of the file that has it
abbrev pub UsesStamp : Doing → Fid → ℕ → Type 0
UsesStamp a fid stamp =
    ((host : HostId) × (e : ℕ) × (moves : ℕ) × (bring : Bring) × BringsTokens a host e moves bring × (bring.fid ≡ fid)
    × (bring.stamp ≡ stamp))
    ⊎ ((host : HostId) × (e : ℕ) × (moves : ℕ) × (revoke : RevokeOf) × (a ≡ Sent host e moves (Revoke revoke))
    × (revoke.fid ≡ fid) × (revoke.stamp ≡ stamp))

-- an earlier one did, in this epoch
abbrev pub HasUsedStamp : List Doing → Fid → ℕ → Type 0
HasUsedStamp past fid stamp = InEpoch (λ before a. UsesStamp a fid stamp) past
