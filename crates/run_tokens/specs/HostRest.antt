-- A host at rest may do nothing: then no rule is in another's way.
use Rattle.run_rules.specs.HostDue.{HostDue, IsUnanswered}
use Rattle.run_rules.specs.HostMay.{AwaitsReclaimed, HostMay}
use Rattle.run_rules.specs.Messages.{Asking, Changing, HasStopped}
use Rattle.run_rules.specs.Steps.{bare}
use Rattle.run_rules.specs.Tokens.{NoneOpen}
use Rattle.run_rules.specs.Views.{Stance}
use Rattle.std.specs.Prelude.{List, ℕ}
use Rattle.base_types.specs.declared.ids.FilesetId.{FilesetId}
use Rattle.base_types.specs.declared.ids.HostId.{HostId}
use Rattle.base_types.specs.declared.ids.ServerId.{ServerId}
use Rattle.tree_calls.specs.declared.roster.Roster.{Roster}
use Rattle.script_lines.specs.declared.script.Script.{Script}
use Rattle.run_rules.specs.declared.step.Step.{Step}
use Rattle.run_rules.specs.declared.step.Cause.TheVariants.{Lapse}
use Rattle.base_types.specs.declared.ids.Node.TheVariants.{Host}
use Rattle.message_types.specs.declared.message.Body.{Body}

-- A host that hasn't stopped is at rest: no call is open, and it waits for no answer.
pub record IsAtRest (roster : Roster) (host : HostId) (past : List Step) : Type 0 where
  pub live : HasStopped past → ⊥
  pub none_open : NoneOpen past
  pub none_fetched : (fs : FilesetId) (n : ℕ) → Asking past fs n → ⊥
  pub none_changed : (v : ServerId) (fs : FilesetId) (n : ℕ) → Changing past v fs n → ⊥
  pub none_outstanding : (v : ServerId) (n : ℕ) (b : Body) → IsUnanswered past v n b → ⊥
  pub none_claimed : (v : ServerId) → AwaitsReclaimed past v → ⊥
  pub stance : Stance roster host past (bare (Host host) Lapse)

abbrev pub HostMayRest : Type 0
HostMayRest = (script : Script) (host : HostId) (past : List Step) → IsAtRest script.roster host past
    → HostMay script host past (bare (Host host) Lapse) × HostDue script host past (bare (Host host) Lapse)
