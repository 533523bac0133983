-- What every script keeps that was read or generated.
use Rattle.std.specs.Prelude.{
  ◌≡◌,
  ℕ,
  ◌==◌,
  ◌≤◌,
  ◌+◌,
  ◌&&◌,
  Bool,
  true,
  false,
  not,
  nat_lt,
  nat_le,
  List,
  [],
  ◌∷◌,
  ◌++◌,
  length,
  flat_map,
  Option,
  Some,
  None,
  is_some,
}
use Rattle.std.specs.List.{list_all, list_any}
use Rattle.base_types.specs.Name.{is_among}
use Rattle.base_types.specs.declared.limits.TheConstants.{GROUPS_MAX, OBJECTS_MAX, SCRIPT_LINES_MAX}
use Rattle.base_types.specs.declared.ids.ServerId.{ServerId}
use Rattle.base_types.specs.declared.ids.Node.{Node}
use Rattle.base_types.specs.declared.ids.Node.TheVariants.{Host, Server}
use Rattle.tree_calls.specs.Limits.{is_between, keeps_limits}
use Rattle.tree_calls.specs.declared.call.Call.{Call as CallOf}
use Rattle.tree_calls.specs.declared.call.Call.TheVariants as calls
use Rattle.script_lines.specs.declared.script.Line.{Line}
use Rattle.script_lines.specs.declared.script.Deed.{Deed}
use Rattle.script_lines.specs.declared.script.Deed.TheVariants.{Call, Raise, Stop, Restart}
use Rattle.script_lines.specs.declared.script.Net.{Net}
use Rattle.script_lines.specs.declared.script.PlanDeed.{PlanDeed}
use Rattle.script_lines.specs.declared.script.PlanDeed.TheVariants.{Drop, Hold, Again}
use Rattle.script_lines.specs.declared.script.PlanLine.{PlanLine}
use Rattle.script_lines.specs.declared.script.TheConstants.{NET_MAX, NUMBER_MAX}
use Rattle.script_lines.specs.declared.script.Script.{Script}

-- whether two nodes are the same
abbrev pub same_node : Node → Node → Bool
same_node (Host a) (Host b) = a.0 == b.0
same_node (Server a) (Server b) = a.0 == b.0
same_node _ _ = false

-- whether a line is a node's
abbrev pub is_of : Node → Line → Bool
is_of node line = same_node line.node node

-- whether a server is one of so many
abbrev pub is_server : ℕ → ServerId → Bool
is_server servers server = is_between 1 servers server.0

-- whether a call is at declared servers, and keeps the limits of objects and groups: the condition on calls
abbrev pub is_sound_call : ℕ → CallOf → Bool
is_sound_call servers (calls.NewFileset server name objects owner) =
    is_server servers server && is_between 1 OBJECTS_MAX objects && is_between 1 GROUPS_MAX (length owner.groups)
is_sound_call servers (calls.Create place) = is_server servers place.server
is_sound_call servers (calls.MakeDir place) = is_server servers place.server
is_sound_call servers (calls.Remove place) = is_server servers place.server
is_sound_call servers (calls.Rename from to) = is_server servers from.server && is_server servers to.server
is_sound_call servers (calls.Truncate place len) = is_server servers place.server
is_sound_call servers (calls.SetAcl place which list) = is_server servers place.server
is_sound_call servers (calls.CloneFileset server fileset new) = is_server servers server
is_sound_call servers (calls.Read place from len) = is_server servers place.server
is_sound_call servers (calls.Write place from bytes) = is_server servers place.server
is_sound_call servers (calls.List place) = is_server servers place.server
is_sound_call servers (calls.Stat place) = is_server servers place.server
is_sound_call servers (calls.GetAcl place which) = is_server servers place.server
is_sound_call servers (calls.Sync place) = is_server servers place.server
is_sound_call servers (calls.Lock label place writing from len) = is_server servers place.server
is_sound_call servers (calls.Unlock label) = true
is_sound_call servers (calls.OpenFile label place kind) = is_server servers place.server
is_sound_call servers (calls.CloseFile label) = true
is_sound_call servers (calls.MoveFileset server fileset to) = is_server servers server && is_server servers to

-- whether a call makes a fileset
abbrev pub makes_fileset : CallOf → Bool
makes_fileset (calls.NewFileset server name objects owner) = true
makes_fileset _ = false

-- whether a host can be asked for a deed, and whether a server can
abbrev pub is_host_deed : ℕ → Deed → Bool
is_host_deed servers (Call call) = is_sound_call servers call && not (makes_fileset call)
is_host_deed servers Restart = false
is_host_deed servers _ = true

abbrev pub is_server_deed : Deed → Bool
is_server_deed (Call call) = false
is_server_deed Stop = false
is_server_deed _ = true

-- whether a line is of a declared node, hosts from number 1 on, which can be asked for its deed
abbrev pub is_sound_deed : ℕ → ℕ → Node → Deed → Bool
is_sound_deed servers hosts (Host host) deed = is_between 1 hosts host.0 && is_host_deed servers deed
is_sound_deed servers hosts (Server server) deed = is_server servers server && is_server_deed deed

-- the same of a line, where there are so many servers and hosts
abbrev pub is_sound_line : ℕ → ℕ → Line → Bool
is_sound_line servers hosts line = is_sound_deed servers hosts line.node line.deed

-- whether a line of the setup is the setup host's call that makes a fileset
abbrev pub is_setup_call : ℕ → Deed → Bool
is_setup_call servers (Call call) = is_sound_call servers call && makes_fileset call
is_setup_call servers _ = false

abbrev pub is_setup_line : ℕ → Line → Bool
is_setup_line servers line = same_node line.node (Host (record { 0 = 0 })) && is_setup_call servers line.deed

-- whether a deed is a host's last
abbrev pub is_stop : Deed → Bool
is_stop Stop = true
is_stop _ = false

-- whether no host has a line after its stop
abbrev pub stops_last : List Line → Bool
stops_last [] = true
stops_last (line ∷ lines) = not (is_stop line.deed && list_any (is_of line.node) lines) && stops_last lines

-- whether the numbers of lines rise, from above this one
abbrev pub numbers_rise : ℕ → List Line → Bool
numbers_rise number [] = true
numbers_rise number (line ∷ lines) = nat_lt number line.number && numbers_rise line.number lines

-- whether two nodes are a declared host and a declared server, in either order
abbrev pub are_ends : ℕ → ℕ → Node → Node → Bool
are_ends servers hosts (Host host) (Server server) = is_between 1 hosts host.0 && is_server servers server
are_ends servers hosts (Server server) (Host host) = is_between 1 hosts host.0 && is_server servers server
are_ends servers hosts _ _ = false

-- whether a message can be of the kind with this number: 14 says that a host is down, of which no line speaks
abbrev pub is_kind : ℕ → Bool
is_kind kind = is_between 1 15 kind && not (kind == 14)

-- whether a message has a flag exactly where it isn't dropped
abbrev pub is_flagged : PlanDeed → Option (List ℕ) → Bool
is_flagged Drop flag = not (is_some flag)
is_flagged Hold flag = is_some flag
is_flagged Again flag = is_some flag

-- whether a line of the plan is of a message between a declared host and a declared server
abbrev pub is_sound_plan : ℕ → ℕ → PlanLine → Bool
is_sound_plan servers hosts line =
    are_ends servers hosts line.from line.to && is_kind line.kind && is_between 1 NUMBER_MAX line.n
    && is_flagged line.deed line.flag

-- whether a net, where there is one, keeps its limits
abbrev pub is_sound_net : Option Net → Bool
is_sound_net None = true
is_sound_net (Some net) = nat_le net.losses NET_MAX && nat_le net.repeats NET_MAX && nat_le net.delays NET_MAX

-- the flags that lines raise
abbrev pub raised_by : Deed → List (List ℕ)
raised_by (Raise flag) = flag ∷ []
raised_by _ = []

abbrev pub raised_in : List Line → List (List ℕ)
raised_in lines = flat_map (λ line. raised_by line.deed) lines

-- whether no name is among those behind it
abbrev pub are_apart : List (List ℕ) → Bool
are_apart [] = true
are_apart (name ∷ names) = not (is_among names name) && are_apart names

-- what every script keeps
pub record IsSound (script : Script) : Type 0 where
  pub servers : script.servers ≡ length script.roster.capacity
  pub roster : keeps_limits script.roster ≡ true
  pub setup : list_all (is_setup_line script.servers) script.setup ≡ true
  pub lines : list_all (is_sound_line script.servers (length script.roster.hosts)) script.lines ≡ true
  pub stops : stops_last script.lines ≡ true
  pub flags : are_apart (raised_in script.lines) ≡ true
  pub numbers : numbers_rise 0 (script.setup ++ script.lines) ≡ true
  pub count : length script.setup + length script.lines ≤ SCRIPT_LINES_MAX
  pub plan : list_all (is_sound_plan script.servers (length script.roster.hosts)) script.plan ≡ true
  pub net : is_sound_net script.net ≡ true
