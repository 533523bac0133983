-- Steps by a Grant that is used.
use Rattle.base_types.specs.declared.ids.Fid.{Fid}
use Rattle.base_types.specs.declared.ids.HostId.{HostId}
use Rattle.base_types.specs.declared.ids.ServerId.{ServerId}
use Rattle.host_tables.specs.Answering.{BegunBy, wrote_by}
use Rattle.host_tables.specs.Granting.{AfterGrant, BringsAnew, IsUsed, grants}
use Rattle.host_tables.specs.Stands.{CanReply, Stands, verdict_from}
use Rattle.host_tables.specs.Tables.{held_of}
use Rattle.host_tables.specs.declared.tables.Tables.{Tables}
use Rattle.message_types.specs.declared.message.Message.{Message}
use Rattle.message_types.specs.declared.telling.Grant.{Grant as GrantOf}
use Rattle.run_rules.specs.HostMay.{HostMay}
use Rattle.run_rules.specs.declared.applied.Answer.{Answer as AnswerOf}
use Rattle.run_rules.specs.declared.step.Asked.{Asked}
use Rattle.run_rules.specs.declared.step.Labelled.{Labelled}
use Rattle.run_rules.specs.declared.step.Step.{Step}
use Rattle.script_lines.specs.Judge.{taken}
use Rattle.script_lines.specs.declared.script.Script.{Script}
use Rattle.std.specs.Prelude.{List, Option, Some, [], false, ℕ, ◌∷◌, ◌≡◌}
use Rattle.token_types.specs.declared.token.Token.{Token}
use Rattle.tree_calls.specs.declared.reply.Reply.{Reply}

abbrev pub grants_and : HostId → ServerId → ℕ → ℕ → GrantOf → List Token → List AnswerOf → Option Fid → List Labelled
    → List Message → Step
grants_and host server epoch moves g taken answers wrote begun sent =
    record (grants host server epoch moves g taken) { answers = answers; wrote = wrote; begun = begun; sent = sent }

abbrev pub late_answer : Tables → Asked → Reply → AnswerOf
late_answer m c reply = record { host = m.host; k = c.k; call = c.call; reply = reply; first = false }

-- Tokens are taken, and the open call is answered.
abbrev pub GrantedAnswers : Type 0
GrantedAnswers = (script : Script) (m new : Tables) (past : List Step) (server : ServerId) (epoch moves : ℕ)
    (g : GrantOf)
    (taken : List Token) (c : Asked) (can : CanReply new c.call) (begun : List Labelled) → Stands script m past
    → IsUsed m past server epoch moves g → BringsAnew past g taken
    → AfterGrant m new g taken past (grants m.host server epoch moves g taken) → m.call ≡ Some c
    → BegunBy (held_of new) c.call (verdict_from new c.call) begun
    → HostMay script m.host past
    (grants_and m.host server epoch moves g taken (late_answer new c can.reply ∷ [])
    (wrote_by (verdict_from new c.call)) begun [])
