use Rattle.std.specs.Prelude.{
  ℕ,
  ◌==◌,
  Bool,
  false,
  not,
  nat_le,
  if◌then◌else◌,
  List,
  [],
  ◌∷◌,
  length,
  Option,
  Some,
  None,
  Result,
  Ok,
  Err,
}
use Rattle.std.specs.List.{list_any, find, position}
use Rattle.std.specs.Option.{option_map}
use Rattle.base_types.specs.Name.{same_name}
use Rattle.base_types.specs.declared.user.User.{User}
use Rattle.base_types.specs.declared.ids.HostId.{HostId}
use Rattle.base_types.specs.declared.ids.ServerId.{ServerId}
use Rattle.base_types.specs.declared.ids.Node.{Node}
use Rattle.base_types.specs.declared.ids.Node.TheVariants.{Host, Server}
use Rattle.tree_calls.specs.declared.place.Place.{Place}
use Rattle.script_words.specs.Outcome.{◌>>=◌, found}
use Rattle.script_words.specs.Fields.{word_at, names_of, node_of}
use Rattle.script_lines.specs.declared.context.Placed.{Placed}
use Rattle.script_lines.specs.declared.script.Script.{Script}
use Rattle.script_words.specs.declared.fault.BadWhy.{BadWhy}
use Rattle.script_words.specs.declared.fault.BadWhy.TheVariants.{Word, BadName, Undeclared}

-- where the fileset with this name is placed
abbrev pub find_placed : List Placed → List ℕ → Option Placed
find_placed placed name = find (λ other. same_name other.name name) placed

-- the server of the fileset with this name
abbrev pub server_of : List Placed → List ℕ → Option ServerId
server_of placed name = option_map (λ found. found.server) (find_placed placed name)

-- whether this host has stopped
abbrev pub has_stopped : List HostId → HostId → Bool
has_stopped stopped host = list_any (λ other. other.0 == host.0) stopped

-- the place of the user with this name
abbrev pub user_place : List User → List ℕ → Option ℕ
user_place users name = position (λ user. same_name user.name name) users

-- a place
abbrev pub place_at_server : List ℕ → List (List ℕ) → ServerId → Place
place_at_server fileset path server = record { server = server; fileset = fileset; path = path }

-- a path begins with a fileset that is placed
abbrev pub place_of : List Placed → List (List ℕ) → Result Place BadWhy
place_of placed [] = Err BadName
place_of placed (fileset ∷ path) = do
  server ← found Undeclared (server_of placed fileset)
  Ok (place_at_server fileset path server)

-- the place of a path
unfoldable pub place_at : List Placed → List (List ℕ) → ℕ → Result Place BadWhy
place_at placed words i = do
  word ← word_at words i
  names ← names_of word
  place_of placed names

-- whether a node is declared
abbrev pub is_declared : Script → Node → Bool
is_declared script (Host host) = nat_le host.0 (length script.roster.hosts)
is_declared script (Server server) = nat_le server.0 script.servers

-- a node that must be
abbrev pub node_declared : Script → Node → Result Node BadWhy
node_declared script node = if is_declared script node then Ok node else Err Undeclared

-- a node that must be a host, or a server
abbrev pub only_host : Option Node → Result HostId BadWhy
only_host (Some (Host host)) = Ok host
only_host _ = Err Word

abbrev pub only_server : Option Node → Result ServerId BadWhy
only_server (Some (Server server)) = Ok server
only_server _ = Err Word

-- a host's number, declared or not
unfoldable pub host_named : List (List ℕ) → ℕ → Result HostId BadWhy
host_named words i = do
  word ← word_at words i
  only_host (node_of word)

unfoldable pub server_named : List (List ℕ) → ℕ → Result ServerId BadWhy
server_named words i = do
  word ← word_at words i
  only_server (node_of word)

-- whether a name is placed at another server
abbrev pub is_elsewhere : Option ServerId → ServerId → Bool
is_elsewhere None server = false
is_elsewhere (Some other) server = not (other.0 == server.0)

-- a server that is declared
unfoldable pub server_at : Script → List (List ℕ) → ℕ → Result ServerId BadWhy
server_at script words i = do
  server ← server_named words i
  _ ← node_declared script (Server server)
  Ok server
