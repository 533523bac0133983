-- What a step may do by its cause, whatever becomes of the open call; and what the steps of a call may do.
use Rattle.base_types.specs.declared.ids.HostId.{HostId}
use Rattle.base_types.specs.declared.ids.Node.TheVariants.{Host}
use Rattle.base_types.specs.declared.ids.ServerId.{ServerId}
use Rattle.host_tables.specs.Answering.{AnswersCall}
use Rattle.host_tables.specs.Half.{half}
use Rattle.host_tables.specs.Sending.{LinesMay, MaySend}
use Rattle.host_tables.specs.Stands.{Stands}
use Rattle.host_tables.specs.declared.tables.Tables.{Tables}
use Rattle.message_types.specs.declared.giving.Give.{Give}
use Rattle.message_types.specs.declared.message.Body.TheVariants.{GiveBack, Returned}
use Rattle.message_types.specs.declared.message.Message.{Message}
use Rattle.message_types.specs.declared.telling.Bring.{Bring}
use Rattle.message_types.specs.declared.tokens.Named.{Named}
use Rattle.run_rules.specs.HostTokens.{HostTakes}
use Rattle.run_rules.specs.Messages.{HasStopped, Sends, SendsTo, stay_of}
use Rattle.run_rules.specs.HostMay.{HostMay}
use Rattle.run_rules.specs.Past.{In}
use Rattle.run_rules.specs.Steps.{limit_of, lines_of, servers_of}
use Rattle.run_rules.specs.Tokens.{HoldsId, IsOutstanding, Uses}
use Rattle.run_rules.specs.Views.{Stance}
use Rattle.run_rules.specs.declared.step.Step.{Step}
use Rattle.script_lines.specs.declared.script.Script.{Script}
use Rattle.std.specs.Prelude.{Bool, List, ℕ, ◌∷◌, ◌≡◌}
use Rattle.token_types.specs.declared.token.Token.{Token}
use Rattle.tree_calls.specs.declared.call.Call.{Call}

pub record CauseMay (script : Script) (host : HostId) (past : List Step) (s : Step) : Type 0 where
  pub live : HasStopped past → ⊥
  pub takes : (t : Token) → In t s.taken
      → (w : Bring) × Uses past s w × In t w.tokens × (t.fid ≡ w.fid) × (HoldsId past t.id → ⊥)
  pub takes_all : HostTakes past s
  pub new_gives : (g : Give) → IsOutstanding (s ∷ past) g → (IsOutstanding past g → ⊥) → (HasStopped (s ∷ past) → ⊥)
      → SendsTo s (stay_of (s ∷ past) g.fid.fileset) (GiveBack g)
  pub lines : LinesMay (lines_of script (Host host)) (limit_of script.roster host) (servers_of script.roster) past s

-- a step in which a call is answered does what it may, where its cause is met and what it sends may be sent
abbrev pub RepliesMay : Type 0
RepliesMay = (script : Script) (m : Tables) (past : List Step) (s : Step) (learnt : Stands script m (half s ∷ past))
    (k : ℕ) (call : Call) (first : Bool) → AnswersCall m past s k call first → CauseMay script m.host past s
    → ((w : Named) (v : ServerId) (e n : ℕ) → Sends s v e n (Returned w) → ⊥)
    → ((stance : Stance script.roster m.host past s) (x : Message) → In x s.sent
    → MaySend script.roster m.host past s stance x)
    → HostMay script m.host past s
