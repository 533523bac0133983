-- Whose a step of a host's machine is, and what is due of it, over the steps that its tables stand for.
use Rattle.std.specs.Prelude.{List, length, ℕ, ◌≡◌}
use Rattle.base_types.specs.declared.ids.Node.TheVariants.{Host}
use Rattle.host_manager.specs.Running.{IsAskable, IsRunning}
use Rattle.host_tables.specs.declared.tables.Tables.{Tables}
use Rattle.message_types.specs.Soundness.{IsSound}
use Rattle.message_types.specs.declared.message.Direction.TheVariants.{ToHost}
use Rattle.message_types.specs.declared.message.Message.{Message}
use Rattle.run_rules.specs.HostDue.{HostDue}
use Rattle.run_rules.specs.Past.{In}
use Rattle.run_rules.specs.Runs.{IsFrom}
use Rattle.run_rules.specs.Steps.{IsNextLine, lines_gone, lines_of}
use Rattle.run_rules.specs.declared.step.Step.{Step}
use Rattle.script_lines.specs.declared.script.Deed.{Deed}
use Rattle.script_lines.specs.declared.script.Line.{Line}
use Rattle.script_lines.specs.declared.script.Script.{Script}

-- it is the host's own, and so is what it sends
pub record IsOwn (m : Tables) (s : Step) : Type 0 where
  pub node : s.node ≡ Host m.host
  pub from : (y : Message) → In y s.sent → IsFrom (Host m.host) y

-- what is due is done: by a line of the host
abbrev pub LineDue : Tables → ℕ → Deed → Step → Type 0
LineDue old number deed s = (script : Script) (past : List Step) → IsRunning script old past
    → (line : Line) → IsNextLine (lines_of script (Host old.host)) past number line → line.deed ≡ deed
    → IsAskable script.roster deed
    → HostDue script old.host past s

-- by a message
abbrev pub TakeDue : Tables → Message → Step → Type 0
TakeDue old message s = (script : Script) (past : List Step) → IsRunning script old past
    → IsSound script.roster message → message.host ≡ old.host → message.direction ≡ ToHost
    → HostDue script old.host past s

-- at a lapse, to evict, and at the end, when all lines have gone
abbrev pub OwnDue : Tables → Step → Type 0
OwnDue old s = (script : Script) (past : List Step) → IsRunning script old past → HostDue script old.host past s

abbrev pub EndDue : Tables → Step → Type 0
EndDue old s = (script : Script) (past : List Step) → IsRunning script old past
    → lines_gone past ≡ length (lines_of script (Host old.host))
    → HostDue script old.host past s
