-- Which calls a host's machine may be asked for, and what it owes where it answers a call at once, without memory.
use Rattle.std.specs.Prelude.{List, None, [], filter, length, take, true, ℕ, ◌+◌, ◌∷◌, ◌≡◌, ◌≤◌}
use Rattle.base_types.specs.declared.ids.HostId.{HostId}
use Rattle.base_types.specs.declared.ids.Node.TheVariants.{Host}
use Rattle.host_cache.specs.Holding.{is_idle}
use Rattle.host_calls.specs.Looking.{OnlyTells}
use Rattle.host_manager.specs.declared.machine.Machine.{Machine}
use Rattle.host_tables.specs.Drafts.{no_draft, step_of}
use Rattle.host_manager.specs.Running.{IsRunning, RunsOn}
use Rattle.host_tables.specs.Stands.{CanReply}
use Rattle.host_tables.specs.declared.tables.Tables.{Tables}
use Rattle.message_calls.specs.Replies.{spell_reply}
use Rattle.message_types.specs.Soundness.{IsCall}
use Rattle.run_rules.specs.HostDue.{HostDue}
use Rattle.run_rules.specs.Steps.{IsNextLine, lines_of}
use Rattle.run_rules.specs.declared.step.Cause.TheVariants.{Line as LineOf}
use Rattle.run_rules.specs.declared.step.Step.{Step}
use Rattle.script_lines.specs.declared.script.Deed.TheVariants.{Call as MakesCall}
use Rattle.script_lines.specs.declared.script.Line.{Line}
use Rattle.script_lines.specs.declared.script.Script.{Script}
use Rattle.tree_calls.specs.declared.call.Call.{Call}
use Rattle.tree_calls.specs.declared.reply.Reply.{Reply}

-- the tables of a machine
abbrev pub tables_of : Machine → Tables
tables_of machine = machine.tables

-- it caches no more tokens than it may; no call is open, too, so that a line may go
abbrev pub HasRoom : Tables → Type 0
HasRoom m = length (filter is_idle m.cache.held) ≤ m.limit

abbrev pub IsFree : Tables → Type 0
IsFree m = (m.call ≡ None) × HasRoom m

-- the step of a line whose call is answered at once
abbrev pub answered_step : HostId → ℕ → ℕ → Call → Reply → Step
answered_step host line k call reply = step_of (Host host) (LineOf line) (record no_draft {
  answers = record { host = host; k = k; call = call; reply = reply; first = true } ∷ [];
})

-- the spelling of the reply is in front of the room and can be read back, the step of the next line is right, and what
-- is due is done
pub record SpokenRight (old new : Tables) (call : Call) (out : List ℕ) (count : ℕ) : Type 0 where
  pub tells : OnlyTells call
  pub can : CanReply old call
  pub spelled : take count out ≡ (spell_reply can.reply).bytes
  pub fits : (spell_reply can.reply).fits ≡ true
  pub right : (script : Script) (past : List Step) → IsRunning script old past → (number : ℕ) (line : Line)
      → IsNextLine (lines_of script (Host old.host)) past number line → line.deed ≡ MakesCall call
      → IsCall script.roster call
      → RunsOn script old new past (answered_step old.host number (old.begun + 1) call can.reply)
  pub due : (script : Script) (past : List Step) → IsRunning script old past → (number : ℕ) (line : Line)
      → IsNextLine (lines_of script (Host old.host)) past number line → line.deed ≡ MakesCall call
      → IsCall script.roster call
      → HostDue script old.host past (answered_step old.host number (old.begun + 1) call can.reply)
