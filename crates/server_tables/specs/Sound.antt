-- Which messages a server says, and tables from which it says these alone, whatever its store tells.
use Rattle.std.specs.Prelude.{◌≡◌, true, ℕ, List}
use Rattle.base_types.specs.declared.ids.HostId.{HostId}
use Rattle.base_types.specs.declared.ids.Node.TheVariants.{Server}
use Rattle.base_types.specs.declared.ids.ServerId.{ServerId}
use Rattle.tree_calls.specs.declared.roster.Roster.{Roster}
use Rattle.token_types.specs.declared.token.Token.{Token}
use Rattle.message_types.specs.Soundness.{Each, IsHost, IsServer, IsSound}
use Rattle.message_types.specs.declared.message.Body.{Body}
use Rattle.message_types.specs.declared.message.Body.TheVariants.{Done, Reclaim, Reclaimed}
use Rattle.message_types.specs.declared.message.Direction.TheVariants.{ToServer}
use Rattle.message_types.specs.declared.message.Message.{Message}
use Rattle.run_rules.specs.Runs.{IsFrom}
use Rattle.server_tables.specs.Places.{is_of}
use Rattle.server_tables.specs.Standing.{tokens_of}
use Rattle.server_tables.specs.Steps.{to_host}
use Rattle.server_tables.specs.declared.recovering.Answered.{Answered}
use Rattle.server_tables.specs.declared.recovering.Claimed.{Claimed}
use Rattle.server_tables.specs.declared.tables.LastChange.{LastChange}
use Rattle.server_tables.specs.declared.tables.Tables.{Tables}

-- a sound message of a server to a host
pub record IsSaid (server : ServerId) (roster : Roster) (m : Message) : Type 0 where
  pub from : IsFrom (Server server) m
  pub sound : IsSound roster m

abbrev pub AreSaid : ServerId → Roster → List Message → Type 0
AreSaid server roster sent = Each (IsSaid server roster) sent

-- a host says a server a message of an epoch, about a fileset that has never moved, or about none
abbrev pub to_server : ServerId → HostId → ℕ → Body → Message
to_server server host epoch body =
    record { direction = ToServer; host = host; server = server; epoch = epoch; moves = 0; body = body }

-- a host to which a server may say something: both are declared
pub record CanHear (server : ServerId) (roster : Roster) (host : HostId) : Type 0 where
  pub declared : IsHost roster host
  pub own : IsServer roster server

-- a token that a server may ask back: it issued it, on a file that is here
pub record CanBeAsked (server : ServerId) (roster : Roster) (t : Token) : Type 0 where
  pub hears : CanHear server roster t.host
  pub issued : t.id.server ≡ server
  pub here : is_of server t.fid.fileset ≡ true

-- What was answered was sound in its epoch, and so is each claim that waits.
pub record AreSound (x : Tables) : Type 0 where
  -- tokens are granted in the present epoch
  pub epoch : x.tokens.grants.table.epoch ≡ x.hosts.epoch
  pub listed : Each (CanHear x.server x.roster) x.hosts.listed
  pub tokens : Each (CanBeAsked x.server x.roster) (tokens_of x.tokens.grants)
  pub changes : Each (λ (c : LastChange). IsSound x.roster (to_host x.server c.host c.epoch 0 (Done c.done))) x.changes
  pub claims : Each (λ (c : Claimed). IsSound x.roster (to_server x.server c.host x.hosts.epoch (Reclaim c.claim)))
      x.recovering.claims
  pub answers : Each (λ (a : Answered).
      IsSound x.roster (to_host x.server a.host x.hosts.epoch 0 (Reclaimed a.answer))) x.recovering.answers
