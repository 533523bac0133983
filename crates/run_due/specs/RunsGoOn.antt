-- Runs that aren't ended, and the order of lines of several nodes.
use Rattle.std.specs.Prelude.{◌≡◌, ◌≢◌, ◌<◌, ℕ, List, [], length}
use Rattle.base_types.specs.declared.ids.HostId.{HostId}
use Rattle.base_types.specs.declared.ids.ServerId.{ServerId}
use Rattle.base_types.specs.declared.ids.Node.TheVariants.{Host}
use Rattle.script_lines.specs.declared.script.Script.{Script}
use Rattle.script_lines.specs.declared.script.Line.{Line}
use Rattle.script_lines.specs.declared.script.Deed.TheVariants.{Await}
use Rattle.run_rules.specs.declared.journal.Journal.{Journal}
use Rattle.run_rules.specs.Doings.{HasGoneAway, Listed}
use Rattle.run_rules.specs.Doings.{doings_of}
use Rattle.run_rules.specs.Past.{In}
use Rattle.run_rules.specs.Runs.{FlagsMet, HostIsDone, IsEnded, IsLine, IsRaised, TakesPart}
use Rattle.run_rules.specs.Runs.{firsts_of, past_of}
use Rattle.run_rules.specs.Steps.{lines_gone, lines_of, servers_of, setup}
use Rattle.run_rules.specs.Steps.{steps_of_host, steps_of_server}
use Rattle.run_rules.specs.declared.step.Cause.TheVariants.{Line as LineOf}
use Rattle.run_rules.specs.declared.step.Step.{Step}
use Rattle.base_types.specs.declared.ids.Node.TheVariants.{Server}

-- A journal in which a line of a host or a server is left isn't ended; so an empty one isn't, of a script with lines;
-- nor is one in which a server knows a host that isn't away.
pub record RunsGoOn : Type 0 where
  pub host : (script : Script) (journal : Journal) (host : HostId) → TakesPart script (Host host)
      → lines_gone (steps_of_host host (past_of journal)) ≢ length (lines_of script (Host host))
      → IsEnded script journal → ⊥
  pub silent : (script : Script) (journal : Journal) (host : HostId) → TakesPart script (Host host)
      → journal.steps ≡ [] → 0 < length (lines_of script (Host host)) → IsEnded script journal → ⊥
  pub server : (script : Script) (journal : Journal) (server : ServerId) → In server (servers_of script.roster)
      → lines_gone (steps_of_server server (past_of journal)) ≢ length (lines_of script (Server server))
      → IsEnded script journal → ⊥
  pub known : (script : Script) (journal : Journal) (server : ServerId) (host : HostId)
      → In server (servers_of script.roster)
      → Listed (doings_of (firsts_of journal server) server (past_of journal)) host
      → (HasGoneAway (doings_of (firsts_of journal server) server (past_of journal)) host → ⊥)
      → IsEnded script journal → ⊥
  -- a line behind an await comes after the flag, and a host's line after the setup host is done
  pub awaits : (script : Script) (past : List Step) (s : Step) (n : ℕ) (line : Line) (flag : List ℕ)
      → FlagsMet script past s → s.cause ≡ LineOf n → IsLine script s.node n line → line.deed ≡ Await flag
      → (IsRaised script past flag → ⊥) → ⊥
  pub setup : (script : Script) (past : List Step) (s : Step) (h : HostId) (n : ℕ) → FlagsMet script past s
      → s.node ≡ Host h → h ≢ setup → s.cause ≡ LineOf n → (HostIsDone script setup past → ⊥) → ⊥
