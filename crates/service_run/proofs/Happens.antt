-- Scripts that are run, and what is known of their runs.
use Rattle.std.proofs.Common.{◌≡◌, ◌≤◌, Ok, subst, length, arith}
use Rattle.service_stores.proofs.Generated.{generated_is_sayable}
use Rattle.service_stores.proofs.Read.{have_servers, read_is_sayable}
use Rattle.service_stores.specs.Laws.{AreSayable}
use Rattle.script_generator.specs.Workload.{generated}
use Rattle.script_lines.specs.declared.script.Script.{Script}
use Rattle.script_commands.specs.Command.{IsPlayWithin}
use Rattle.script_commands.specs.declared.command.Play.{Play}
use Rattle.script_commands.specs.declared.command.Play.TheVariants.{Run, Gen}
use Rattle.service_run.specs.Scripts.{script_for, disks_of, IsRead}
use Rattle.service_run.specs.World.{Shown}

-- each call of a script that a command runs can be said
pub sayable : (told : Type 0) (before : Shown told) (play : Play) (script : Script) → IsPlayWithin play → IsRead before play (Ok script) → AreSayable script
unfolding script_for
sayable told before (Run json workers disks) script within read = read_is_sayable read.bytes disks script read.says
sayable told before (Gen seed hosts calls workers) script within read =
    (let says = read.says in
    let is : generated seed hosts calls ≡ script = cc in
    subst AreSayable is (generated_is_sayable seed hosts calls within.1 within.3))

-- and it has a server for each disk
pub servers_for : (told : Type 0) (before : Shown told) (play : Play) (script : Script) → IsRead before play (Ok script) → disks_of play ≤ length script.roster.capacity
unfolding script_for
servers_for told before (Run json workers disks) script read = have_servers read.bytes disks script read.says
servers_for told before (Gen seed hosts calls workers) script read = omega arith
