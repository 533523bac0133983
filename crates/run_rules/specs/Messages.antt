-- What a host sends and hears: where filesets are, what is sent, epochs, and requests. `past` is the host's own earlier
-- steps.
use Rattle.std.specs.Prelude.{Bool, List, [], if◌then◌else◌, nat_lt, ℕ, ◌&&◌, ◌/◌, ◌<◌, ◌==◌, ◌∷◌, ◌≡◌, ◌⊎◌}
use Rattle.base_types.specs.declared.ids.FilesetId.{FilesetId}
use Rattle.base_types.specs.declared.ids.ServerId.{ServerId}
use Rattle.token_types.specs.declared.token.Token.{Token}
use Rattle.token_types.specs.declared.token.TokenId.{TokenId}
use Rattle.message_types.specs.declared.asking.Change.{Change as ChangeOf}
use Rattle.message_types.specs.declared.asking.Fetch.{Fetch as FetchOf}
use Rattle.message_types.specs.declared.giving.Reclaimed.{Reclaimed as ReclaimedOf}
use Rattle.message_types.specs.declared.message.Body.{Body}
use Rattle.message_types.specs.declared.message.Body.TheVariants.{Bye, Change, Done, Down, Fetch, Grant, Hello, Kept}
use Rattle.message_types.specs.declared.message.Body.TheVariants.{Reclaimed, Restarted, Returned}
use Rattle.message_types.specs.declared.message.Message.{Message}
use Rattle.message_types.specs.declared.telling.Done.{Done as DoneOf}
use Rattle.message_types.specs.declared.telling.Grant.{Grant as GrantOf}
use Rattle.message_types.specs.declared.tokens.Named.{Named}
use Rattle.run_rules.specs.Past.{In, Once, Since}
use Rattle.run_rules.specs.declared.step.Cause.{Cause}
use Rattle.run_rules.specs.declared.step.Cause.TheVariants.{Message as Came}
use Rattle.run_rules.specs.declared.step.Step.{Step}

-- # Stays: at which server a fileset is. A stay of a fileset begins when it comes to a server; it is known by the
-- server and by how often the fileset has moved. So far no host learns of a move: `stay_of` then speaks of the first
-- stay alone.

-- a stay of a fileset
pub record Stay : Type 0 where
  pub server : ServerId
  pub moves : ℕ

-- the server at which a fileset was made: the number of a fileset begins with its server's
unfoldable pub home : FilesetId → ServerId
home fileset = record { 0 = fileset.0 / 65536 }

-- the first stay of a fileset
abbrev pub first_stay : FilesetId → Stay
first_stay fileset = record { server = home fileset; moves = 0 }

-- where a host takes a fileset to be, after these steps of its own
abbrev pub stay_of : List Step → FilesetId → Stay
stay_of past fileset = first_stay fileset

-- the host takes the fileset to be at the server, in the stay of so many moves
abbrev pub StaysAt : List Step → FilesetId → ServerId → ℕ → Type 0
StaysAt past fileset server moves = stay_of past fileset ≡ record { server = server; moves = moves }

-- where a host takes a call about a fileset to be decided; calls about filesets themselves, under fileset 0, have no
-- moves
abbrev pub IsDecidedAt : List Step → FilesetId → ServerId → ℕ → Type 0
IsDecidedAt past fileset server moves = ((fileset.0 ≡ 0) × (moves ≡ 0)) ⊎ StaysAt past fileset server moves

-- # What a host sends

-- the step sends a server this, in an epoch, with this number of moves
abbrev pub Sends : Step → ServerId → ℕ → ℕ → Body → Type 0
Sends step server epoch moves body = (m : Message) × In m step.sent
    × (m.server ≡ server) × (m.epoch ≡ epoch) × (m.moves ≡ moves) × (m.body ≡ body)

-- an earlier step sent it
abbrev pub Said : List Step → ServerId → ℕ → ℕ → Body → Type 0
Said past server epoch moves body = Once (λ before step. Sends step server epoch moves body) past

-- the step sends a server this, in whatever epoch, with whatever number of moves
abbrev pub Says : Step → ServerId → Body → Type 0
Says step server body = (epoch : ℕ) × (moves : ℕ) × Sends step server epoch moves body

-- an earlier step sent it so
abbrev pub HasSaid : List Step → ServerId → Body → Type 0
HasSaid past server body = (epoch : ℕ) × (moves : ℕ) × Said past server epoch moves body

-- the step sends this to where a fileset is
abbrev pub SendsTo : Step → Stay → Body → Type 0
SendsTo step stay body = (epoch : ℕ) × Sends step stay.server epoch stay.moves body

-- a Returned of the step names the token
abbrev pub ReturnsToken : Step → TokenId → Type 0
ReturnsToken step id = (server : ServerId) × (epoch : ℕ) × (moves : ℕ) × (named : Named)
    × Sends step server epoch moves (Returned named) × In id named.ids

-- a Kept of the step names the token
abbrev pub KeepsToken : Step → TokenId → Type 0
KeepsToken step id = (server : ServerId) × (epoch : ℕ) × (moves : ℕ) × (named : Named)
    × Sends step server epoch moves (Kept named) × In id named.ids

-- a Kept has named the token since it was last taken
abbrev pub HasKeptToken : List Step → TokenId → Type 0
HasKeptToken past id =
    Since (λ before step. KeepsToken step id)
    (λ before step. (token : Token) × In token step.taken × (token.id ≡ id)) past

-- the step is the host's stop: it says Down
abbrev pub Stops : Step → Type 0
Stops step = (server : ServerId) × (epoch : ℕ) × (moves : ℕ) × Sends step server epoch moves Down

-- the host has stopped
abbrev pub HasStopped : List Step → Type 0
HasStopped past = (server : ServerId) × (epoch : ℕ) × (moves : ℕ) × Said past server epoch moves Down

-- it has greeted the server
abbrev pub HasGreeted : List Step → ServerId → Type 0
HasGreeted past server = HasSaid past server Hello

-- # Epochs, and what comes

-- Restarted of a higher epoch raises the host's epoch, and so does the Reclaimed that answers its Hello: the first one
abbrev pub epoch_raised_by : Body → Bool → ℕ → ℕ → ℕ
epoch_raised_by Restarted mine told now = if mine && nat_lt now told then told else now
epoch_raised_by (Reclaimed answer) mine told now = if mine && (now == 0) then told else now
epoch_raised_by _ mine told now = now

abbrev pub epoch_raised : Cause → ServerId → ℕ → ℕ
epoch_raised (Came m) server now = epoch_raised_by m.body (m.server.0 == server.0) m.epoch now
epoch_raised _ server now = now

-- the host's present epoch at a server, 0 at first
abbrev pub epoch_at : List Step → ServerId → ℕ
epoch_at [] server = 0
epoch_at (step ∷ past) server = epoch_raised step.cause server (epoch_at past server)

-- the step raises it
abbrev pub RaisesEpoch : List Step → Step → ServerId → Type 0
RaisesEpoch past step server = epoch_at past server < epoch_at (step ∷ past) server

-- the step's cause is a message of this server, epoch and number of moves, with this body
abbrev pub ComesIn : Step → ServerId → ℕ → ℕ → Body → Type 0
ComesIn step server epoch moves body = (m : Message) × (step.cause ≡ Came m)
    × (m.server ≡ server) × (m.epoch ≡ epoch) × (m.moves ≡ moves) × (m.body ≡ body)

-- It speaks of no fileset, and is of the host's present epoch. The host ignores what is of another epoch, but for
-- Restarted, Bye and the Reclaimed that answers its Hello.
abbrev pub Comes : List Step → Step → ServerId → Body → Type 0
Comes past step server body = ComesIn step server (epoch_at past server) 0 body

-- It speaks of the fileset: it is of the server where the host takes the fileset to be, of the host's present epoch
-- there, and of the fileset's present stay. The host ignores what is of another stay.
abbrev pub About : List Step → Step → FilesetId → Body → Type 0
About past step fileset body = ComesIn step (stay_of past fileset).server (epoch_at past (stay_of past fileset).server)
    (stay_of past fileset).moves body

-- the floors of a fileset's files begin anew: the epoch of its server rises, or the host learns that it moved
abbrev pub Renews : List Step → Step → FilesetId → Type 0
Renews past step fileset =
    RaisesEpoch past step (stay_of past fileset).server
    ⊎ ((stay_of past fileset).moves < (stay_of (step ∷ past) fileset).moves)

-- the host greeted the server, and then took a Reclaimed of it that it didn't ignore: it knows the server's epoch
abbrev pub IsWelcome : List Step → ServerId → Type 0
IsWelcome past server = Once (λ before step. HasGreeted before server × ((answer : ReclaimedOf)
    × ComesIn step server (epoch_at (step ∷ before) server) 0 (Reclaimed answer))) past

-- the server has said Bye
abbrev pub HasBye : List Step → ServerId → Type 0
HasBye past server = Once (λ before step. (e n : ℕ) × ComesIn step server e n Bye) past

-- # Outstanding requests. Those that are numbered under a fileset keep their numbers wherever the fileset is. Fileset 0
-- stands for calls about filesets themselves: it is nowhere, and each server has numbers of its own under it.

-- the step sends the Fetch
abbrev pub SendsFetch : Step → FetchOf → Type 0
SendsFetch step fetch = (server : ServerId) × (epoch : ℕ) × (moves : ℕ) × Sends step server epoch moves (Fetch fetch)

-- the step sends the Change; under fileset 0, to this server
abbrev pub SendsChange : Step → ServerId → ChangeOf → Type 0
SendsChange step server change = (to : ServerId) × (epoch : ℕ) × (moves : ℕ) × Sends step to epoch moves (Change change)
    × (change.fileset.0 ≡ 0 → to ≡ server)

-- the step's cause is a Done that counts: under fileset 0, without moves and of this server's present epoch; else of
-- the fileset's stay
abbrev pub DoneComes : List Step → Step → ServerId → DoneOf → Type 0
DoneComes past step server done =
    ((done.fileset.0 ≡ 0) × Comes past step server (Done done)) ⊎ About past step done.fileset (Done done)

-- the Fetch of this number is outstanding: it was sent, and no Grant with its number has come since
abbrev pub Asking : List Step → FilesetId → ℕ → Type 0
Asking [] fileset number = ⊥
Asking (step ∷ past) fileset number =
    (((fetch : FetchOf) × SendsFetch step fetch × (fetch.fid.fileset ≡ fileset) × (fetch.number ≡ number))
    ⊎ Asking past fileset number) × ((grant : GrantOf) → About past step fileset (Grant grant)
    → grant.bring.fid.fileset ≡ fileset → grant.bring.number ≡ number → ⊥)

-- the Change of this number is outstanding: it was sent, and no Done with its number has come since
abbrev pub Changing : List Step → ServerId → FilesetId → ℕ → Type 0
Changing [] server fileset number = ⊥
Changing (step ∷ past) server fileset number =
    (((change : ChangeOf) × SendsChange step server change × (change.fileset ≡ fileset) × (change.number ≡ number))
    ⊎ Changing past server fileset number)
    × ((done : DoneOf) → DoneComes past step server done → done.fileset ≡ fileset → done.bring.number ≡ number → ⊥)
