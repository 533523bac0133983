-- What was read for a command.
use Rattle.std.proofs.Common.{◌≡◌, ℕ, true, List, take, Result, Ok, Err, refl, sym, ap, ◌∙◌}
use Rattle.std.specs.Prelude.{IsErrOf}
use Rattle.base_types.specs.declared.limits.TheConstants.{SCRIPT_BYTES}
use Rattle.script_lines.specs.declared.script.Script.{Script}
use Rattle.script_generator.specs.Workload.{generated}
use Rattle.script_reader.specs.Scripts.{script_of, Refuses}
use Rattle.script_reader.specs.declared.refused.ScriptRefused.TheVariants.{BadLine, Stuck, Memory}
use Rattle.script_reader.specs.declared.refused.ScriptRefused.{ScriptRefused}
use Rattle.script_commands.specs.declared.command.Play.TheVariants.{Run, Gen}
use Rattle.script_commands.specs.declared.command.Play.{Play}
use Rattle.service_run.specs.Scripts.{script_for, reads, disks_of, not_read, IsRead, IsCause}
use Rattle.service_run.specs.declared.script.NotRead.{NotRead}
use Rattle.service_run.specs.declared.script.NotRead.TheVariants.{Input}
use Rattle.service_run.specs.World.{Shown}

reads_so : (play : Play) (bytes : List ℕ) → reads play ≡ true → script_for play bytes ≡ script_of bytes (disks_of play)
unfolding script_for
reads_so (Run json workers disks) bytes h = refl
reads_so (Gen seed hosts calls workers) bytes h = cc

-- what the bytes of a source are for a command that reads them
pub was_read : (told : Type 0) (before : Shown told) (play : Play) (bytes : List ℕ) (read : Result Script ScriptRefused) → reads play ≡ true →
    (told → bytes ≡ take SCRIPT_BYTES before.bytes) → script_of bytes (disks_of play) ≡ read → IsRead before play read
was_read told before play bytes read h had e = record { bytes = bytes; had = had; says = reads_so play bytes h ∙ e }

-- why bytes that were read are refused
pub cause_read : (told : Type 0) (before : Shown told) (play : Play) (bytes : List ℕ) (why : ScriptRefused) (made : NotRead) → reads play ≡ true →
    (told → bytes ≡ take SCRIPT_BYTES before.bytes) → Refuses why (script_of bytes (disks_of play)) → made ≡ not_read why → IsCause before play made
cause_read told before play bytes (BadLine number bad) made h had r e = rw e (was_read told before play bytes (Err (BadLine number bad)) h had r)
cause_read told before play bytes (Stuck number) made h had r e = rw e (was_read told before play bytes (Err (Stuck number)) h had r)
cause_read told before play bytes Memory made h had r e = rw e tt

pub never_input : (why : ScriptRefused) (made : NotRead) → made ≡ not_read why → IsErrOf {T = Script} (Err made) Input → ⊥
never_input (BadLine number bad) made e h = cc
never_input (Stuck number) made e h = cc
never_input Memory made e h = cc

-- a generated script needs no bytes
pub was_made : (told : Type 0) (before : Shown told) (play : Play) (seed hosts calls workers : ℕ) (script : Script) → play ≡ Gen seed hosts calls workers → script ≡ generated seed hosts calls → IsRead before play (Ok script)
unfolding script_for
was_made told before play seed hosts calls workers script e g = rw e (record { bytes = take SCRIPT_BYTES before.bytes; had = λ _. refl; says = ap (λ s. Ok s) (sym g) })
