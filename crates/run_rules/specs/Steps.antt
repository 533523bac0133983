-- Steps, whose they are, and the lines of a script that they go by. All lists of steps have the newest first.
use Rattle.std.specs.List.{enumerate_from}
use Rattle.std.specs.Option.{option_map_or}
use Rattle.std.specs.Prelude.{Bool, List, None, Some, [], false, filter, if◌then◌else◌, map, max, slice_get, unwrap_or}
use Rattle.std.specs.Prelude.{ℕ, ◌+◌, ◌-◌, ◌==◌, ◌∷◌, ◌≡◌}
use Rattle.base_types.specs.declared.ids.HostId.{HostId}
use Rattle.base_types.specs.declared.ids.Node.{Node}
use Rattle.base_types.specs.declared.ids.Node.TheVariants.{Host, Server}
use Rattle.base_types.specs.declared.ids.ServerId.{ServerId}
use Rattle.base_types.specs.declared.limits.TheConstants.{CACHED_TOKENS_DEFAULT}
use Rattle.tree_calls.specs.declared.roster.Roster.{Roster}
use Rattle.script_lines.specs.declared.script.Line.{Line}
use Rattle.script_lines.specs.declared.script.Script.{Script}
use Rattle.run_rules.specs.declared.step.Cause.{Cause}
use Rattle.run_rules.specs.declared.step.Cause.TheVariants.{Line as LineOf, Restart}
use Rattle.run_rules.specs.declared.step.Step.{Step}

-- # Whose steps

-- whether two nodes are one
abbrev pub is_node : Node → Node → Bool
is_node (Host host) (Host other) = host.0 == other.0
is_node (Server server) (Server other) = server.0 == other.0
is_node _ _ = false

-- a step of a node in which nothing happens but its cause
abbrev pub bare : Node → Cause → Step
bare node cause = record {
  node = node;
  cause = cause;
  asked = None;
  taken = [];
  answers = [];
  wrote = None;
  begun = [];
  made = [];
  dropped = [];
  applied = [];
  admitted = [];
  sent = [];
  shipped = [];
  reserved = [];
}

-- nothing happens in the step but its cause
abbrev pub IsBareStep : Step → Type 0
IsBareStep step = step ≡ bare step.node step.cause

-- a host's own steps
abbrev pub steps_of_host : HostId → List Step → List Step
steps_of_host host past = filter (λ step. is_node step.node (Host host)) past

-- a server's own steps
abbrev pub steps_of_server : ServerId → List Step → List Step
steps_of_server server past = filter (λ step. is_node step.node (Server server)) past

-- # Lines: which are a node's, how many have gone, and who takes part

-- the host that makes the filesets before the others begin
abbrev pub setup : HostId
setup = record { 0 = 0 }

-- a node's lines, in order; those of the setup host make the filesets
abbrev pub lines_of : Script → Node → List Line
lines_of script (Host host) =
    if host.0 == 0 then script.setup else filter (λ line. is_node (Host host) line.node) script.lines
lines_of script (Server server) = filter (λ line. is_node (Server server) line.node) script.lines

-- the servers, from the first on
abbrev pub servers_of : Roster → List ServerId
servers_of roster = map (λ (at, capacity). record { 0 = at + 1 }) (enumerate_from 0 roster.capacity)

-- how many tokens that aren't in use a host caches at most
abbrev pub limit_of : Roster → HostId → ℕ
limit_of roster host =
    if host.0 == 0 then CACHED_TOKENS_DEFAULT
    else option_map_or (λ line. line.limit) (slice_get roster.hosts (host.0 - 1)) CACHED_TOKENS_DEFAULT

-- the epoch in which a server starts, at least 1
abbrev pub first_epoch : List ℕ → ServerId → ℕ
first_epoch epochs server = max 1 (unwrap_or (slice_get epochs (server.0 - 1)) 1)

-- how many lines of a node go with such a cause
abbrev pub goes_with : Cause → ℕ
goes_with (LineOf line) = 1
goes_with (Restart line) = 1
goes_with _ = 0

-- how many of a node's lines have gone
abbrev pub lines_gone : List Step → ℕ
lines_gone [] = 0
lines_gone (s ∷ past) = goes_with s.cause + lines_gone past

-- the next of some lines, of this number
abbrev pub IsNextLine : List Line → List Step → ℕ → Line → Type 0
IsNextLine lines past number line = (slice_get lines (lines_gone past) ≡ Some line) × (line.number ≡ number)
