use Rattle.std.specs.Prelude.{
  ℕ,
  ◌+◌,
  ◌-◌,
  ◌==◌,
  ◌&&◌,
  Bool,
  true,
  false,
  not,
  nat_lt,
  nat_le,
  min,
  if◌then◌else◌,
  List,
  [],
  ◌∷◌,
  ◌++◌,
  length,
  take,
  drop,
  slice_set,
  Option,
  Some,
  None,
  is_some,
  Result,
  Ok,
  Err,
  codes,
}
use Rattle.std.specs.List.{list_any, find}
use Rattle.base_types.specs.Name.{same_name}
use Rattle.base_types.specs.declared.user.User.{User as UserOf}
use Rattle.base_types.specs.declared.limits.TheConstants.{
  CACHED_TOKENS_DEFAULT,
  CACHED_TOKENS_MAX,
  CACHED_TOKENS_MIN,
  CAPACITY_DEFAULT,
  CAPACITY_MAX,
  CAPACITY_MIN,
  GROUPS_MAX,
  OBJECTS_MAX,
  SERVERS_MAX,
}
use Rattle.base_types.specs.declared.ids.ServerId.{ServerId}
use Rattle.base_types.specs.declared.ids.Node.TheVariants as nodes
use Rattle.tree_calls.specs.declared.call.Call.TheVariants as calls
use Rattle.script_words.specs.Outcome.{◌>>=◌, found, unless}
use Rattle.script_words.specs.Fields.{word_at, end_at, name_at, number_at, is_word, all_named, host_node}
use Rattle.script_lines.specs.Context.{server_of, user_place, host_named, server_at, is_elsewhere}
use Rattle.script_lines.specs.Plan.{plan_line}
use Rattle.script_lines.specs.declared.context.Context.{Context}
use Rattle.script_lines.specs.declared.context.Placed.{Placed}
use Rattle.script_lines.specs.declared.script.TheConstants.{NET_MAX}
use Rattle.script_lines.specs.declared.script.Script.{Script}
use Rattle.tree_calls.specs.declared.roster.Roster.{Roster}
use Rattle.script_lines.specs.declared.script.Line.{Line}
use Rattle.script_lines.specs.declared.script.Deed.TheVariants as deeds
use Rattle.script_lines.specs.declared.headers.Header.{Header}
use Rattle.script_lines.specs.declared.headers.Header.TheVariants.{
  Servers,
  User,
  Host,
  Capacity,
  Fileset,
  Net,
  Plan,
  Begin,
}
use Rattle.script_words.specs.declared.fault.BadWhy.{BadWhy}
use Rattle.script_words.specs.declared.fault.BadWhy.TheVariants.{Word, Undeclared, Repeated, Order, Disks}

-- the header that a first word begins
unfoldable pub header_of : List ℕ → Option Header
header_of word =
    if is_word word (codes "servers") then Some Servers
    else (if is_word word (codes "user") then Some User
    else (if is_word word (codes "host") then Some Host
    else (if is_word word (codes "capacity") then Some Capacity
    else (if is_word word (codes "fileset") then Some Fileset
    else (if is_word word (codes "net") then Some Net
    else (if is_word word (codes "plan") then Some Plan
    else (if is_word word (codes "begin") then Some Begin else None)))))))

-- a context with another script, or with another roster
abbrev pub with_script : Context → Script → Context
with_script context script = record context { script = script }

abbrev pub with_roster : Context → Roster → Context
with_roster context roster = with_script context (record context.script { roster = roster })

-- each server has the default capacity until a line says otherwise
abbrev pub with_servers : Context → ℕ → Context
with_servers context n =
    with_script context (record context.script {
      servers = n;
      roster = record context.script.roster {
        capacity = take n
            (CAPACITY_DEFAULT ∷ CAPACITY_DEFAULT ∷ CAPACITY_DEFAULT ∷ CAPACITY_DEFAULT ∷ []);
      };
    })

-- `servers N`
unfoldable pub servers_line : Context → ℕ → List (List ℕ) → Result Context BadWhy
servers_line context disks words = do
  _ ← unless (not (context.script.servers == 0)) Order
  n ← number_at 1 SERVERS_MAX words 1
  _ ← unless (nat_lt n disks) Disks
  _ ← end_at words 2
  Ok (with_servers context n)

-- the words of a user's groups, at most GROUPS_MAX of them
abbrev pub groups_at : List (List ℕ) → Result (List (List ℕ)) BadWhy
groups_at words = if nat_le (length words) 2 then Err Word
    else Ok (take (min (length words) (GROUPS_MAX + 2) - 2) (drop 2 words))

-- one user more
abbrev pub with_user : Context → List ℕ → List (List ℕ) → Context
with_user context name groups =
    with_roster context (record context.script.roster {
      users = context.script.roster.users
          ++ record { name = name; groups = groups } ∷ [];
    })

-- `user NAME GROUP ..`
unfoldable pub user_line : Context → List (List ℕ) → Result Context BadWhy
user_line context words = do
  name ← name_at words 1
  _ ← unless (is_some (user_place context.script.roster.users name)) Repeated
  group_words ← groups_at words
  groups ← all_named [] group_words
  _ ← end_at words (GROUPS_MAX + 2)
  Ok (with_user context name groups)

-- the limit of a host's tokens, where it gives one
abbrev pub limit_at : List (List ℕ) → Result ℕ BadWhy
limit_at words = if nat_le (length words) 3 then Ok CACHED_TOKENS_DEFAULT
    else number_at CACHED_TOKENS_MIN CACHED_TOKENS_MAX words 3

-- one host more
abbrev pub with_host : Context → ℕ → ℕ → Context
with_host context user limit =
    with_roster context (record context.script.roster {
      hosts = context.script.roster.hosts
          ++ record { user = user; limit = limit } ∷ [];
    })

-- `host cK USER [LIMIT]`: hosts stand in their order
unfoldable pub host_line : Context → List (List ℕ) → Result Context BadWhy
host_line context words = do
  host ← host_named words 1
  _ ← unless (not (host.0 == length context.script.roster.hosts + 1)) Repeated
  name ← name_at words 2
  user ← found Undeclared (user_place context.script.roster.users name)
  limit ← limit_at words
  _ ← end_at words 4
  Ok (with_host context user limit)

-- whether a line gave its capacity, and whether it has a fileset
abbrev pub is_capped : List ServerId → ServerId → Bool
is_capped capped server = list_any (λ other. other.0 == server.0) capped

abbrev pub has_fileset_at : List Placed → ServerId → Bool
has_fileset_at placed server = list_any (λ other. other.server.0 == server.0) placed

-- a server with a capacity
abbrev pub with_capacity : Context → ServerId → ℕ → Context
with_capacity context server blocks =
    record context {
      capped = context.capped ++ server ∷ [];
      script = record context.script {
        roster = record context.script.roster {
          capacity = slice_set context.script.roster.capacity (server.0 - 1) blocks;
        };
      };
    }

-- `capacity sK BLOCKS`: once, and before the server has filesets
unfoldable pub capacity_line : Context → List (List ℕ) → Result Context BadWhy
capacity_line context words = do
  server ← server_at context.script words 1
  _ ← unless (is_capped context.capped server) Repeated
  _ ← unless (has_fileset_at context.placed server) Order
  blocks ← number_at CAPACITY_MIN CAPACITY_MAX words 2
  _ ← end_at words 3
  Ok (with_capacity context server blocks)

-- the user with this name
abbrev pub user_named : List UserOf → List ℕ → Option UserOf
user_named users name = find (λ user. same_name user.name name) users

-- the owner of a fileset
unfoldable pub owner_at : List UserOf → List (List ℕ) → Result UserOf BadWhy
owner_at users words = do
  name ← name_at words 4
  found Undeclared (user_named users name)

-- the call of the setup host that makes a fileset
abbrev pub setup_line : ℕ → ServerId → List ℕ → ℕ → UserOf → Line
setup_line number server name objects owner =
    record { number = number; node = host_node 0; deed = deeds.Call (calls.NewFileset server name objects owner) }

-- one fileset more
abbrev pub with_fileset : Context → Line → List ℕ → ServerId → Context
with_fileset context line name server =
    record context {
      placed = context.placed ++ record { name = name; server = server } ∷ [];
      script = record context.script { setup = context.script.setup ++ line ∷ [] };
    }

-- `fileset NAME sK OBJECTS USER`: a name is placed at one server
unfoldable pub fileset_line : Context → ℕ → List (List ℕ) → Result Context BadWhy
fileset_line context number words = do
  name ← name_at words 1
  server ← server_at context.script words 2
  _ ← unless (is_elsewhere (server_of context.placed name) server) Repeated
  objects ← number_at 1 OBJECTS_MAX words 3
  owner ← owner_at context.script.roster.users words
  _ ← end_at words 5
  Ok (with_fileset context (setup_line number server name objects owner) name server)

-- a net
abbrev pub with_net : Context → ℕ → ℕ → ℕ → ℕ → Context
with_net context seed losses repeats delays =
    with_script context (record context.script {
      net = Some
          (record { seed = seed; losses = losses; repeats = repeats; delays = delays });
    })

-- `net SEED LOSSES REPEATS DELAYS`, once
unfoldable pub net_line : Context → List (List ℕ) → Result Context BadWhy
net_line context words = do
  _ ← unless (is_some context.script.net) Repeated
  seed ← number_at 0 18446744073709551615 words 1
  losses ← number_at 0 NET_MAX words 2
  repeats ← number_at 0 NET_MAX words 3
  delays ← number_at 0 NET_MAX words 4
  _ ← end_at words 5
  Ok (with_net context seed losses repeats delays)

-- the headers end
abbrev pub with_begin : Context → Context
with_begin context = record context { begun = true }

-- `begin`, after a host at least
unfoldable pub begin_line : Context → List (List ℕ) → Result Context BadWhy
begin_line context words = do
  _ ← unless (length context.script.roster.hosts == 0) Order
  _ ← end_at words 1
  Ok (with_begin context)

-- a line by its header
unfoldable pub header_by : Context → Header → ℕ → ℕ → List (List ℕ) → Result Context BadWhy
header_by context Servers disks number words = servers_line context disks words
header_by context User disks number words = user_line context words
header_by context Host disks number words = host_line context words
header_by context Capacity disks number words = capacity_line context words
header_by context Fileset disks number words = fileset_line context number words
header_by context Net disks number words = net_line context words
header_by context Plan disks number words = plan_line context words
header_by context Begin disks number words = begin_line context words

-- the header that comes first
abbrev pub is_servers : Header → Bool
is_servers Servers = true
is_servers _ = false

-- a header line: the first of them says how many servers there are
unfoldable pub header_line : Context → ℕ → ℕ → List (List ℕ) → Result Context BadWhy
header_line context disks number words = do
  word ← word_at words 0
  header ← found Word (header_of word)
  _ ← unless ((context.script.servers == 0) && not (is_servers header)) Order
  header_by context header disks number words
