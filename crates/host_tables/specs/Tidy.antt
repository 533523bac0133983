-- What the tables of a host keep to, whatever its past is: so that each message that it sends is sound.
use Rattle.base_types.specs.declared.ids.Fid.{Fid}
use Rattle.base_types.specs.declared.ids.HostId.{HostId}
use Rattle.base_types.specs.declared.ids.ServerId.{ServerId}
use Rattle.base_types.specs.declared.limits.TheConstants.{FILE_BYTES_MAX}
use Rattle.host_tables.specs.LeavingSteps.{Left, with_left}
use Rattle.host_tables.specs.LeavingWhole.{SaysLeft}
use Rattle.host_tables.specs.Quiet.{Moved}
use Rattle.host_tables.specs.RevokeSteps.{SaysRevoked}
use Rattle.host_tables.specs.Saying.{SaysAgain}
use Rattle.host_tables.specs.Tables.{content, held_of, site_at}
use Rattle.host_tables.specs.declared.calls.Home.{Home}
use Rattle.host_gives.specs.declared.leavings.Leaving.{Leaving}
use Rattle.host_tables.specs.declared.calls.Request.TheVariants.{Change as AChange, Fetch as AFetch}
use Rattle.host_tables.specs.declared.files.Floor.{Floor}
use Rattle.host_tables.specs.declared.sites.Site.{Site}
use Rattle.host_tables.specs.declared.tables.Tables.{Tables}
use Rattle.message_types.specs.Soundness.{AreFileBytes, HasRoom, IsCall, IsDecided, IsEnd, IsFetched, IsHost}
use Rattle.message_types.specs.Soundness.{IsServer, IsShort, IsSound}
use Rattle.message_types.specs.declared.asking.Change.{Change as ChangeOf}
use Rattle.message_types.specs.declared.asking.Fetch.{Fetch as FetchOf}
use Rattle.message_types.specs.declared.giving.Ends.{Ends}
use Rattle.message_types.specs.declared.giving.Give.{Give}
use Rattle.message_types.specs.declared.message.Body.TheVariants.{Change, Done, Fetch, GiveBack, Grant, Returned}
use Rattle.message_types.specs.declared.message.Body.TheVariants.{Revoke}
use Rattle.message_types.specs.declared.message.Direction.TheVariants.{ToServer}
use Rattle.message_types.specs.declared.message.Message.{Message}
use Rattle.message_types.specs.declared.telling.Done.{Done as DoneOf}
use Rattle.message_types.specs.declared.telling.Grant.{Grant as GrantOf}
use Rattle.message_types.specs.declared.tokens.Named.{Named}
use Rattle.message_types.specs.declared.tokens.Revoke.{Revoke as RevokeOf}
use Rattle.run_rules.specs.Messages.{home}
use Rattle.run_rules.specs.Past.{In}
use Rattle.run_rules.specs.Steps.{servers_of}
use Rattle.run_rules.specs.declared.step.Asked.{Asked}
use Rattle.run_rules.specs.declared.step.Step.{Step}
use Rattle.std.specs.Prelude.{IfSome, IsTrue, List, None, Some, [], length, map, ◌≡◌, ◌≤◌, ◌⊎◌}
use Rattle.token_types.specs.declared.token.Need.{Need}
use Rattle.token_types.specs.declared.token.Token.{Token}
use Rattle.token_types.specs.declared.token.TokenId.{TokenId}
use Rattle.tree_calls.specs.declared.roster.Roster.{Roster}
use Rattle.tree_laws.specs.Parts.Part.{Size}

-- a token of the host, issued by the server of its file, which is declared
pub record IsTidyToken (roster : Roster) (host : HostId) (t : Token) : Type 0 where
  pub host_is : t.host ≡ host
  pub issued : t.id.server ≡ home t.fid.fileset
  pub declared : IsServer roster (home t.fid.fileset)
  pub room : HasRoom t.kind

pub record IsTidyGive (roster : Roster) (g : Give) : Type 0 where
  pub from : 1 ≤ g.number
  pub declared : IsServer roster (home g.fid.fileset)
  pub issued : (i : TokenId) → In i g.ids → i.server ≡ home g.fid.fileset
  pub bytes : AreFileBytes g.pieces
  pub size : IfSome g.length (λ n. n ≤ FILE_BYTES_MAX)
  pub ends : IfSome g.ends (λ (ends : Ends). IsEnd ends.call)

pub record IsTidyFetch (roster : Roster) (f : FetchOf) : Type 0 where
  pub from : 1 ≤ f.number
  pub declared : IsServer roster (home f.fid.fileset)
  pub needs : (n : Need) → In n f.needs → (n.fid ≡ f.fid) × IsFetched n.kind × HasRoom n.kind
  pub count : IsShort f.needs

pub record IsTidyChange (roster : Roster) (v : ServerId) (c : ChangeOf) : Type 0 where
  pub from : 1 ≤ c.number
  pub declared : IsServer roster v
  pub numbered : (c.fileset.0 ≡ 0) ⊎ (home c.fileset ≡ v)
  pub call : IsCall roster c.call
  pub decided : IsTrue c.enter ⊎ IsDecided v c.call

-- the servers of which something is known
abbrev pub servers_in : List Site → List ServerId
servers_in sites = map (λ (site : Site). site.server) sites

pub record IsTidy (roster : Roster) (m : Tables) : Type 0 where
  pub host : IsHost roster m.host
  -- the sites are those of the declared servers, from the first on
  pub some : 1 ≤ length roster.capacity
  pub few : length roster.capacity ≤ 255
  pub servers : servers_in m.sites ≡ servers_of roster
  pub held : (t : Token) → In t (held_of m) → IsTidyToken roster m.host t
  -- no file is seen longer than one can be
  pub sizes : (fid : Fid) → content m.cache fid Size ≤ FILE_BYTES_MAX
  pub leaving : (y : Leaving) → In y m.leaving → IsTidyToken roster m.host y.token
  pub gives : (y : Message) (g : Give) → In y m.gives.gives → y.body ≡ GiveBack g → IsTidyGive roster g
  pub fetch : (f : FetchOf) → m.request ≡ Some (AFetch f) → IsTidyFetch roster f
  pub change : (v : ServerId) (c : ChangeOf) → m.request ≡ Some (AChange v c) → IsTidyChange roster v c
  pub call : (c : Asked) → m.call ≡ Some c → IsCall roster c.call
  pub homes : (h : Home) → In h m.homes → IsServer roster (home h.id)
  pub floors : (f : Floor) → In f m.floors → IsServer roster (home f.fid.fileset)

-- a message of the host to a server, in the present epoch of that
pub record IsOutgoing (m : Tables) (y : Message) : Type 0 where
  pub way : y.direction ≡ ToServer
  pub host_is : y.host ≡ m.host
  pub no_moves : y.moves ≡ 0
  pub epoch_is : y.epoch ≡ (site_at m.sites y.server).epoch

-- what is said again is sound
abbrev pub AgainSound : Type 0
AgainSound = (roster : Roster) (m : Tables) (x : Moved) (past : List Step) (s : Step) (y : Message) → IsTidy roster m
    → IsOutgoing m y → IsServer roster y.server → SaysAgain m x past s y.server y.body → IsSound roster y

-- and what is said of tokens that leave, where the give-backs that are kept then are tidy
abbrev pub LeftSound : Type 0
LeftSound = (roster : Roster) (m : Tables) (l : Left) (s : Step) (y : Message) → IsTidy roster m
    → IsTidy roster (with_left m l) → IsOutgoing m y → IsServer roster y.server → SaysLeft m l s y.server y.body
    → IsSound roster y

-- and the answers to a sound Revoke: what isn't held is returned under its file
abbrev pub RevokedSound : Type 0
RevokedSound = (roster : Roster) (m : Tables) (l : Left) (message : Message) (r : RevokeOf) (made : List Give)
    (y : Message)
    → IsTidy roster m → IsTidy roster (with_left m l) → IsSound roster message → message.body ≡ Revoke r
    → message.moves ≡ 0
    → IsOutgoing m y → IsServer roster y.server
    → ((w : Named) (i : TokenId) → y.body ≡ Returned w → In i w.ids
    → ((t : Token) × In t (held_of m) × (t.id ≡ i)) ⊎ (w.fid ≡ r.fid))
    → SaysRevoked m l r made y.server y.body → IsSound roster y

-- new requests
abbrev pub FetchSound : Type 0
FetchSound = (roster : Roster) (m : Tables) (y : Message) (f : FetchOf) → IsTidy roster m → IsOutgoing m y
    → y.body ≡ Fetch f → y.server ≡ home f.fid.fileset → IsTidyFetch roster f → IsSound roster y

abbrev pub ChangeSound : Type 0
ChangeSound = (roster : Roster) (m : Tables) (y : Message) (c : ChangeOf) → IsTidy roster m → IsOutgoing m y
    → y.body ≡ Change c → IsTidyChange roster y.server c → IsSound roster y

-- # What keeps the tables tidy

-- where what is heard or moves changes of the tables only what is told here
pub record IsTidyAfter (roster : Roster) (m new : Tables) : Type 0 where
  pub host_is : new.host ≡ m.host
  pub servers : servers_in new.sites ≡ servers_in m.sites
  pub held : (t : Token) → In t (held_of new) → In t (held_of m) ⊎ IsTidyToken roster m.host t
  pub sizes : (fid : Fid) → (content new.cache fid Size ≡ content m.cache fid Size)
      ⊎ (content new.cache fid Size ≤ FILE_BYTES_MAX)
  pub leaving : (y : Leaving) → In y new.leaving → In y m.leaving ⊎ In y.token (held_of m)
  pub gives : (y : Message) (g : Give) → In y new.gives.gives → y.body ≡ GiveBack g → In y m.gives.gives
      ⊎ IsTidyGive roster g
  pub fetch : (f : FetchOf) → new.request ≡ Some (AFetch f) → (m.request ≡ Some (AFetch f)) ⊎ IsTidyFetch roster f
  pub change : (v : ServerId) (c : ChangeOf) → new.request ≡ Some (AChange v c)
      → (m.request ≡ Some (AChange v c)) ⊎ IsTidyChange roster v c
  pub call : (c : Asked) → new.call ≡ Some c → (m.call ≡ Some c) ⊎ IsCall roster c.call
  pub homes : (h : Home) → In h new.homes → In h m.homes ⊎ IsServer roster (home h.id)
  pub floors : (f : Floor) → In f new.floors → In f m.floors ⊎ IsServer roster (home f.fid.fileset)

abbrev pub TidyStays : Type 0
TidyStays = (roster : Roster) (m new : Tables) → IsTidy roster m → IsTidyAfter roster m new → IsTidy roster new

-- the tokens of a sound Grant or Done are tidy
abbrev pub GrantTidy : Type 0
GrantTidy = (roster : Roster) (message : Message) (g : GrantOf) → IsSound roster message → message.body ≡ Grant g
    → message.moves ≡ 0 → (t : Token) → In t g.bring.tokens → IsTidyToken roster message.host t

abbrev pub DoneTidy : Type 0
DoneTidy = (roster : Roster) (message : Message) (d : DoneOf) → IsSound roster message → message.body ≡ Done d
    → message.moves ≡ 0 → (t : Token) → In t d.bring.tokens → IsTidyToken roster message.host t

-- before the first step nothing is untidy
abbrev pub TidyFirst : Type 0
TidyFirst = (roster : Roster) (m : Tables) → IsHost roster m.host → 1 ≤ length roster.capacity
    → length roster.capacity ≤ 255
    → servers_in m.sites ≡ servers_of roster
    → m.cache.held ≡ [] → m.leaving ≡ [] → m.gives.gives ≡ [] → m.request ≡ None → m.call ≡ None → m.homes ≡ []
    → m.floors ≡ [] → IsTidy roster m
