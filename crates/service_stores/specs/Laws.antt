-- A run of the plain engine is a history that the stores of servers can keep.
use Rattle.std.specs.Prelude.{◌≡◌, ◌≤◌, ℕ, List, ◌++◌, length, Ok}
use Rattle.base_types.specs.declared.limits.TheConstants.{HOSTS_MAX}
use Rattle.tree_calls.specs.declared.call.Call.{Call as CallOf}
use Rattle.tree_calls.specs.declared.place.Place.{Place}
use Rattle.message_types.specs.Soundness.{Each, HasCount, IsShort, places_in}
use Rattle.store_acts.specs.Sound.{HasName}
use Rattle.script_lines.specs.Sound.{IsSound}
use Rattle.script_lines.specs.declared.script.Script.{Script}
use Rattle.script_reader.specs.Scripts.{script_of}
use Rattle.script_generator.specs.Workload.{generated}
use Rattle.script_generator.specs.declared.script.TheConstants.{CALLS_MAX}
use Rattle.service_plain.specs.Calls.{calls_of}
use Rattle.service_plain.specs.Played.{IsPlayed}
use Rattle.service_plain.specs.declared.played.Played.{Played}
use Rattle.store_laws.specs.Happening.{MayHappen}

-- a call that a line can say: a fileset that it makes gets a name, and its paths and bytes have room for their counts
pub record IsSayable (call : CallOf) : Type 0 where
  pub named : HasName call
  pub paths : Each (λ (place : Place). IsShort place.path) (places_in call)
  pub bytes : HasCount call

-- each call that a script asks for can be said
abbrev pub AreSayable : Script → Type 0
AreSayable script = Each (λ asked. IsSayable asked.call) (calls_of (script.setup ++ script.lines))

-- A run of a script that keeps its limits, and in which each call can be said, may happen, where hosts number their
-- calls from 1.
abbrev pub RunsMayHappen : Type 0
RunsMayHappen =
    (script : Script) (played : Played) → IsSound script → AreSayable script → IsPlayed script played
    → MayHappen (λ host. 1) played.start played.history

-- each call of a script that is read can be said
abbrev pub ReadIsSayable : Type 0
ReadIsSayable = (bytes : List ℕ) (disks : ℕ) (script : Script) → script_of bytes disks ≡ Ok script → AreSayable script

-- a script that is read for so many disks has at least as many servers
abbrev pub HaveServers : Type 0
HaveServers =
    (bytes : List ℕ) (disks : ℕ) (script : Script) → script_of bytes disks ≡ Ok script
    → disks ≤ length script.roster.capacity

-- each call of a script that is generated can be said
abbrev pub GeneratedIsSayable : Type 0
GeneratedIsSayable =
    (seed hosts calls : ℕ) → hosts ≤ HOSTS_MAX → calls ≤ CALLS_MAX → AreSayable (generated seed hosts calls)
