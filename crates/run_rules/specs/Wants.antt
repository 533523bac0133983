-- The wants of requests: which one waits, what for, and in what order. `past` is the server's earlier doings.
use Rattle.std.specs.Option.{option_map_or}
use Rattle.std.specs.Prelude.{Bool, IsTrue, List, [], false, if◌then◌else◌, nat_eq, not, true, ℕ, ◌&&◌, ◌<◌, ◌∷◌}
use Rattle.std.specs.Prelude.{◌≡◌, ◌⊎◌}
use Rattle.base_types.specs.declared.ids.HostId.{HostId}
use Rattle.base_types.specs.declared.ids.ServerId.{ServerId}
use Rattle.tree_answers.specs.declared.tree.Tree.{Tree}
use Rattle.tree_calls.specs.Rosters.{user_of}
use Rattle.tree_calls.specs.declared.call.Call.{Call}
use Rattle.tree_calls.specs.declared.call.Call.TheVariants.{Lock, MoveFileset, OpenFile}
use Rattle.token_types.specs.Conflicts.{blocks, wants_conflict}
use Rattle.token_types.specs.declared.token.Need.{Need}
use Rattle.token_types.specs.declared.token.Token.{Token}
use Rattle.message_types.specs.declared.asking.Change.{Change as ChangeOf}
use Rattle.message_types.specs.declared.message.Body.{Body}
use Rattle.message_types.specs.declared.message.Body.TheVariants.{Change, Done, Fetch, Grant}
use Rattle.message_types.specs.declared.telling.Done.{Done as DoneOf}
use Rattle.message_types.specs.declared.telling.Grant.{Grant as GrantOf}
use Rattle.need_server.specs.Wants.{want}
use Rattle.run_rules.specs.Doings.{Doing, GoesAway, Granted, IsDurable, IsNewEpoch, NoGrace, Pinned, Reserved, SentTo}
use Rattle.run_rules.specs.Doings.{epoch}
use Rattle.run_rules.specs.Doings.Doing.{MakesWant, Sent, WritesDown}
use Rattle.run_rules.specs.Past.{Since}
use Rattle.run_rules.specs.declared.applied.Request.{Request}
use Rattle.run_rules.specs.declared.applied.Request.TheVariants.{Change as Changes, Fetch as Asks}
use Rattle.run_rules.specs.declared.applied.Wanted.{Wanted}
use Rattle.run_rules.specs.declared.applied.Written.{Written}

-- the exporter of a server wants tokens as a host of its own
abbrev pub exporter : HostId
exporter = record { 0 = 17 }

-- whether a call takes a label, for which its host's own token is granted
abbrev pub is_use : Call → Bool
is_use (Lock label place writing from len) = true
is_use (OpenFile label place kind) = true
is_use _ = false

-- a lock of no bytes
abbrev pub locks_nothing : Call → Bool
locks_nothing (Lock label place writing from len) = nat_eq len 0
locks_nothing _ = false

-- whether it moves a fileset; so far none moves: where nothing refuses such a Change it waits for good, and each later
-- want that conflicts with it stands behind it
abbrev pub moves_fileset : Call → Bool
moves_fileset (MoveFileset server name to) = true
moves_fileset _ = false

-- whether a Change has its effect where it is written down
abbrev pub has_effect : ChangeOf → Bool
has_effect change = not change.enter && not (is_use change.call) && not (moves_fileset change.call)

-- what a host's Change wants on the kept filesets, by its row of the call table; one that enters a fileset wants
-- nothing
abbrev pub row_needs : Tree → HostId → ChangeOf → List Need
row_needs tree host change =
    if change.enter then []
    else option_map_or (λ user. want tree user change.call) (user_of tree.roster host) []

-- what a request needs on the kept filesets
abbrev pub needs_for : Tree → HostId → Request → List Need
needs_for tree host (Asks fetch) = fetch.needs
needs_for tree host (Changes change) = row_needs tree host change

-- the message of a request
abbrev pub body_of : Request → Body
body_of (Asks fetch) = Fetch fetch
body_of (Changes change) = Change change

-- for whom a request wants tokens: a Fetch and a use for their host, any other Change for the exporter
abbrev pub asker_of : HostId → Request → HostId
asker_of host (Asks fetch) = host
asker_of host (Changes change) = if is_use change.call then host else exporter

abbrev pub asker : Wanted → HostId
asker w = asker_of w.host w.request

-- two requests of a host can't both wait: Fetches of one number, and any Changes, of one fileset
abbrev pub CannotBothWait : Request → Request → Type 0
CannotBothWait (Asks f) (Asks g) = (f.fid.fileset ≡ g.fid.fileset) × (f.number ≡ g.number)
CannotBothWait (Changes c) (Changes d) = c.fileset ≡ d.fileset
CannotBothWait _ _ = ⊥

-- the doing decides the host's request: it writes the Change down, or sends the Grant or Done of its number
abbrev pub Decides : Doing → HostId → Request → Type 0
Decides a host (Asks fetch) = (e n : ℕ) × (grant : GrantOf) × (a ≡ Sent host e n (Grant grant))
    × (grant.bring.fid.fileset ≡ fetch.fid.fileset) × (grant.bring.number ≡ fetch.number)
Decides a host (Changes change) =
    ((written : Written) × (a ≡ WritesDown written) × (written.answer.host ≡ host)
    × (written.fileset ≡ change.fileset) × (written.number ≡ change.number))
    ⊎ ((e n : ℕ) × (done : DoneOf) × (a ≡ Sent host e n (Done done))
    × (done.fileset ≡ change.fileset) × (done.bring.number ≡ change.number))

-- the doing takes the want from the queue: it decides its request, or makes it another want; the host goes away, or
-- a new epoch begins
abbrev pub Unwants : List Doing → Doing → Wanted → Type 0
Unwants past a w =
    Decides a w.host w.request
    ⊎ (((v : Wanted) × (a ≡ MakesWant v) × (v.host ≡ w.host) × CannotBothWait v.request w.request)
    ⊎ (GoesAway past a w.host ⊎ IsNewEpoch a))

-- the want waits in the queue: it was made, and nothing has taken it from there since
abbrev pub IsQueued : List Doing → Wanted → Type 0
IsQueued past w = Since (λ before a. a ≡ MakesWant w) (λ before a. Unwants before a w) past

-- of two wants that wait the first was made before the second
abbrev pub IsQueuedBefore : List Doing → Wanted → Wanted → Type 0
IsQueuedBefore [] w v = ⊥
IsQueuedBefore (a ∷ past) w v =
    ((IsQueued past w × (a ≡ MakesWant v)) ⊎ IsQueuedBefore past w v) × IsQueued (a ∷ past) w × IsQueued (a ∷ past) v

-- no request of the host waits that can't wait beside this one
abbrev pub NoneQueued : List Doing → HostId → Request → Type 0
NoneQueued past host request = (w : Wanted) → IsQueued past w → w.host ≡ host → CannotBothWait w.request request → ⊥

-- A Change is old where its number, or a higher one of its host and fileset, was written down; where a higher one was
-- answered, in any epoch; and where it was answered itself in this epoch.
abbrev pub IsOld : List Doing → HostId → Request → Type 0
IsOld past host (Asks fetch) = ⊥
IsOld past host (Changes change) =
    IsDurable past host change.fileset change.number
    ⊎ ((e n : ℕ) × (done : DoneOf) × SentTo past host e n (Done done) × (done.fileset ≡ change.fileset)
    × ((change.number < done.bring.number) ⊎ ((change.number ≡ done.bring.number) × (e ≡ epoch past))))

-- a token is in the want's way
abbrev pub IsInWay : Wanted → Token → Type 0
IsInWay w t = IsTrue (blocks (asker w) w.needs t)

-- an earlier want conflicts
abbrev pub IsBehind : List Doing → Wanted → Type 0
IsBehind past w = (v : Wanted) × IsQueuedBefore past v w × IsTrue (wants_conflict (asker w) w.needs (asker v) v.needs)

-- The want can be granted: no token of another host that is granted, and none that the exporter keeps, is in its
-- way, and no earlier want.
pub record CanGrant (server : ServerId) (past : List Doing) (w : Wanted) : Type 0 where
  pub over : NoGrace past
  pub free : (t : Token) → Granted server past t ⊎ Reserved past t → IsInWay w t → ⊥
  pub first : IsBehind past w → ⊥

-- it can be refused: a pinned token is in its way, and no earlier want
pub record CanRefuse (server : ServerId) (past : List Doing) (w : Wanted) : Type 0 where
  pub over : NoGrace past
  pub pinned : (t : Token) × Pinned server past t × IsInWay w t
  pub first : IsBehind past w → ⊥

-- it could be decided
abbrev pub CanDecide : ServerId → List Doing → Wanted → Type 0
CanDecide server past w = CanGrant server past w ⊎ CanRefuse server past w
