-- Which script a command runs.
use Rattle.std.specs.Prelude.{◌≡◌, ℕ, Bool, true, false, List, take, Option, Some, None, Result, Ok, Err}
use Rattle.base_types.specs.declared.limits.TheConstants.{SCRIPT_BYTES}
use Rattle.script_lines.specs.declared.script.Script.{Script}
use Rattle.script_reader.specs.Scripts.{script_of}
use Rattle.script_reader.specs.declared.refused.ScriptRefused.{ScriptRefused}
use Rattle.script_reader.specs.declared.refused.ScriptRefused.TheVariants.{Memory}
use Rattle.script_generator.specs.Workload.{generated}
use Rattle.script_commands.specs.declared.command.Command.{Command}
use Rattle.script_commands.specs.declared.command.Command.TheVariants.{Play as Plays, Check}
use Rattle.script_commands.specs.declared.command.Play.{Play}
use Rattle.script_commands.specs.declared.command.Play.TheVariants.{Run, Gen}
use Rattle.service_run.specs.declared.script.NotRead.{NotRead}
use Rattle.service_run.specs.declared.script.NotRead.TheVariants.{Script as NoScriptFor, Memory as NoMemoryFor}
use Rattle.service_run.specs.World.{Shown}

-- the script that a command runs: what the bytes of the source say, or the generated one
unfoldable pub script_for : Play → List ℕ → Result Script ScriptRefused
script_for (Run json workers disks) bytes = script_of bytes disks
script_for (Gen seed hosts calls workers) bytes = Ok (generated seed hosts calls)

-- whether a script is read, and not generated
abbrev pub reads : Play → Bool
reads (Run json workers disks) = true
reads (Gen seed hosts calls workers) = false

-- how many disks a script runs over
abbrev pub disks_of : Play → ℕ
disks_of (Run json workers disks) = disks
disks_of (Gen seed hosts calls workers) = 0

-- whether words make the program read
abbrev pub is_reading : Option Command → Bool
is_reading None = false
is_reading (Some (Plays play)) = reads play
is_reading (Some (Check workers)) = false

-- what bytes of the source, at most `SCRIPT_BYTES` from its front, are for a command; a source that tells nothing may
-- have had any
pub record IsRead {told : Type 0}
    (before : Shown told) (play : Play) (read : Result Script ScriptRefused) : Type 0 where
  pub bytes : List ℕ
  pub had : told → bytes ≡ take SCRIPT_BYTES before.bytes
  pub says : script_for play bytes ≡ read

-- why there is no script where bytes are refused
abbrev pub not_read : ScriptRefused → NotRead
not_read Memory = NoMemoryFor
not_read why = NoScriptFor why

-- why there is no script
abbrev pub IsCause : {told : Type 0} → Shown told → Play → NotRead → Type 0
IsCause before play (NoScriptFor why) = IsRead before play (Err why)
IsCause before play _ = Unit {0}
