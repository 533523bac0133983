-- What the Changes of a run ask.
use Rattle.std.specs.Prelude.{List, Some, false, true, ℕ, ◌≡◌}
use Rattle.base_types.specs.declared.ids.HostId.{HostId}
use Rattle.base_types.specs.declared.ids.ServerId.{ServerId}
use Rattle.tree_calls.specs.declared.call.Call.TheVariants.{MoveFileset}
use Rattle.need_host.specs.Questions.{fileset_of, is_change}
use Rattle.message_types.specs.declared.asking.Change.{Change as ChangeOf}
use Rattle.message_types.specs.declared.message.Body.TheVariants.{Change}
use Rattle.script_lines.specs.declared.script.Script.{Script}
use Rattle.need_laws.specs.Known.{IsAt}
use Rattle.run_rules.specs.Messages.{Said}
use Rattle.run_rules.specs.Runs.{IsRun, past_of}
use Rattle.run_rules.specs.Steps.{steps_of_host}
use Rattle.run_rules.specs.declared.journal.Journal.{Journal}

-- What a Change asks of a server: to enter the fileset by which its call names a place at the server, whatever the call
-- is; or to decide a call that servers decide, and that names filesets of this server alone; or to move one of them.
pub data AsksRightly (v : ServerId) (c : ChangeOf) : Type 0 where
  Enters : c.enter ≡ true → (name : List ℕ) → fileset_of c.call ≡ Some (v, name) → AsksRightly v c
  Decides : c.enter ≡ false → is_change c.call ≡ true → IsAt v c.call → AsksRightly v c
  Moves : c.enter ≡ false → (name : List ℕ) (to : ServerId) → c.call ≡ MoveFileset v name to → AsksRightly v c

-- so does each Change that a host sends to a server
abbrev pub ChangesAskRightly : Type 0
ChangesAskRightly =
    (script : Script) (journal : Journal) → IsRun script journal → (h : HostId) (v : ServerId) (e n : ℕ) (c : ChangeOf)
    → Said (steps_of_host h (past_of journal)) v e n (Change c) → AsksRightly v c
