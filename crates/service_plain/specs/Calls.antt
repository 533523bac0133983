-- What the lines of a script ask for.
use Rattle.std.specs.Prelude.{ℕ, zero, suc, ◌+◌, ◌==◌, nat_le, Bool, false, if◌then◌else◌, List, [], ◌∷◌, filter}
use Rattle.std.specs.List.{flat_map}
use Rattle.base_types.specs.declared.ids.HostId.{HostId}
use Rattle.base_types.specs.declared.ids.ServerId.{ServerId}
use Rattle.base_types.specs.declared.ids.Node.{Node}
use Rattle.base_types.specs.declared.ids.Node.TheVariants.{Host}
use Rattle.tree_calls.specs.declared.call.Call.{Call as CallOf}
use Rattle.tree_calls.specs.declared.entry.Entry.{Entry}
use Rattle.tree_calls.specs.declared.entry.Entry.TheVariants.{Call as Called, Stored, Down, Left}
use Rattle.script_lines.specs.Asks.{call_lines}
use Rattle.script_lines.specs.declared.script.Deed.{Deed}
use Rattle.script_lines.specs.declared.script.Deed.TheVariants.{Call, Stop}
use Rattle.script_lines.specs.declared.script.Line.{Line}
use Rattle.script_lines.specs.declared.script.Script.{Script}

-- a call of a host
pub record Asked : Type 0 where
  pub host : HostId
  pub call : CallOf

-- the call that a line asks a host for
abbrev pub asked_by : Node → Deed → List Asked
asked_by (Host host) (Call call) = record { host = host; call = call } ∷ []
asked_by _ _ = []

-- the calls that lines ask for
abbrev pub calls_of : List Line → List Asked
calls_of lines = flat_map (λ line. asked_by line.node line.deed) lines

-- the calls that lines ask a host for
abbrev pub own_calls : HostId → List Line → List Asked
own_calls host lines = filter (λ asked. asked.host.0 == host.0) (calls_of lines)

-- whether an entry is a call that a script asks for; those that a host makes by itself at its end have greater numbers
abbrev pub is_asked : Script → Entry → Bool
is_asked script (Called host k call reply) = nat_le k (call_lines script host.0)
is_asked script _ = false

-- what a line brings about: a host makes a call, or is down at a server
pub data Act : Type 0 where
  Asks : HostId → CallOf → Act
  Falls : HostId → ServerId → Act

-- a host is down at so many servers from one on, in their order
abbrev pub falls_from : HostId → ℕ → ℕ → List Act
falls_from host server zero = []
falls_from host server (suc n) = Falls host (record { 0 = server }) ∷ falls_from host (server + 1) n

-- what a line brings about where there are so many servers: a host that stops is down at each
abbrev pub acts_by : ℕ → Node → Deed → List Act
acts_by servers (Host host) (Call call) = Asks host call ∷ []
acts_by servers (Host host) Stop = falls_from host 1 servers
acts_by servers _ _ = []

abbrev pub acts_of : ℕ → List Line → List Act
acts_of servers lines = flat_map (λ line. acts_by servers line.node line.deed) lines

-- what an entry says of it: the calls that a script asks for, and the servers at which a host is down
abbrev pub act_in : Script → Entry → List Act
act_in script (Called host k call reply) = if nat_le k (call_lines script host.0) then Asks host call ∷ [] else []
act_in script (Stored host fid spans len) = []
act_in script (Down host server) = Falls host server ∷ []
act_in script (Left server id) = []

abbrev pub acts_in : Script → List Entry → List Act
acts_in script entries = flat_map (act_in script) entries
