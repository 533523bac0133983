-- What a server's tables and its store are, whatever was done.
use Rattle.std.specs.Prelude.{◌≡◌, List, true, is_some}
use Rattle.base_types.specs.declared.ids.HostId.{HostId}
use Rattle.base_types.specs.declared.ids.ServerId.{ServerId}
use Rattle.tree_calls.specs.Rosters.{user_of}
use Rattle.tree_calls.specs.declared.roster.Roster.{Roster}
use Rattle.message_types.specs.Soundness.{Each, IsHost}
use Rattle.message_types.specs.declared.asking.Fetch.{Fetch as FetchOf}
use Rattle.message_types.specs.declared.message.Message.{Message}
use Rattle.run_rules.specs.Wants.{body_of}
use Rattle.run_rules.specs.declared.applied.Request.TheVariants.{Fetch as Asks}
use Rattle.run_rules.specs.declared.applied.Wanted.{Wanted}
use Rattle.store_state.specs.declared.state.StoreState.{StoreState}
use Rattle.server_tables.specs.Counting.{IsCounted}
use Rattle.server_tables.specs.declared.pending.Pending.{Pending}
use Rattle.server_tables.specs.declared.tables.Tables.{Tables}
use Rattle.server_says.specs.Keepers.{HasBrought}
use Rattle.server_says.specs.Messages.{IsFor, IsStoreOf}

-- a want that waits came in such a message, about a fileset that has never moved, and a Fetch wants what it says
pub record CameSo (server : ServerId) (roster : Roster) (w : Wanted) : Type 0 where
  pub m : Message
  pub came : IsFor server roster m
  pub host : m.host ≡ w.host
  pub moves : m.moves ≡ 0
  pub body : m.body ≡ body_of w.request
  pub needs : (fetch : FetchOf) → w.request ≡ Asks fetch → w.needs ≡ fetch.needs

-- The store is the server's, for the same roster, in which each host is a user's; each want that waits came in a sound
-- message, and the numbers of wants suffice.
pub record IsServed (x : Tables) (state : StoreState) : Type 0 where
  pub store : IsStoreOf x state
  pub users : (host : HostId) → IsHost x.roster host → is_some (user_of x.roster host) ≡ true
  pub counted : IsCounted x
  pub asked : Each (λ (p : Pending). CameSo x.server x.roster p.wanted) x.pending

-- each want that waits was brought by one of these messages
abbrev pub AreBrought : List Message → List Pending → Type 0
AreBrought came pendings = Each (λ (p : Pending). HasBrought came p.wanted.host (body_of p.wanted.request)) pendings
