-- A call that is answered in the step that begins it, by a line.
use Rattle.base_types.specs.declared.ids.Fid.{Fid}
use Rattle.base_types.specs.declared.ids.HostId.{HostId}
use Rattle.base_types.specs.declared.ids.Node.TheVariants.{Host}
use Rattle.host_cache.specs.Holding.{is_idle}
use Rattle.host_tables.specs.Answering.{BegunBy, wrote_by}
use Rattle.host_tables.specs.Half.{learning}
use Rattle.host_tables.specs.Stands.{CanReply, IsAtRest, Stands, verdict_from}
use Rattle.host_tables.specs.Tables.{held_of}
use Rattle.host_tables.specs.declared.tables.Tables.{Tables}
use Rattle.run_rules.specs.HostMay.{HostMay}
use Rattle.run_rules.specs.Steps.{IsNextLine, lines_of}
use Rattle.run_rules.specs.declared.applied.Answer.{Answer as AnswerOf}
use Rattle.run_rules.specs.declared.step.Cause.TheVariants.{Line as LineOf}
use Rattle.run_rules.specs.declared.step.Labelled.{Labelled}
use Rattle.run_rules.specs.declared.step.Step.{Step}
use Rattle.script_lines.specs.declared.script.Deed.TheVariants.{Call as MakesCall}
use Rattle.script_lines.specs.declared.script.Line.{Line}
use Rattle.script_lines.specs.declared.script.Script.{Script}
use Rattle.std.specs.Prelude.{List, None, Option, [], filter, length, true, ℕ, ◌+◌, ◌∷◌, ◌≡◌, ◌≤◌}
use Rattle.tree_calls.specs.declared.call.Call.{Call}
use Rattle.tree_calls.specs.declared.reply.Reply.{Reply}

abbrev pub answers_line : HostId → ℕ → AnswerOf → Option Fid → List Labelled → Step
answers_line host line answer wrote begun =
    record (learning host (LineOf line) []) { answers = answer ∷ []; wrote = wrote; begun = begun }

abbrev pub first_answer : Tables → Call → Reply → AnswerOf
first_answer m call reply = record { host = m.host; k = m.begun + 1; call = call; reply = reply; first = true }

-- what the caller of a line knows: it is the host's next one, and makes this call
pub record IsNextCall (script : Script) (host : HostId) (past : List Step) (number : ℕ) (call : Call) : Type 0 where
  pub line : Line
  pub next : IsNextLine (lines_of script (Host host)) past number line
  pub deed : line.deed ≡ MakesCall call

-- no call is open, and nothing may be evicted
pub record IsFree (m : Tables) : Type 0 where
  pub none_open : m.call ≡ None
  pub few : length (filter is_idle m.cache.held) ≤ m.limit

-- The call is answered at once, by one step.
abbrev pub AnsweredAtOnce : Type 0
AnsweredAtOnce = (script : Script) (m : Tables) (past : List Step) (line : ℕ) (call : Call) (can : CanReply m call)
    (begun : List Labelled) → Stands script m past → IsAtRest m past → IsFree m
    → IsNextCall script m.host past line call
    → BegunBy (held_of m) call (verdict_from m call) begun
    → HostMay script m.host past (answers_line m.host line (first_answer m call can.reply)
    (wrote_by (verdict_from m call)) begun)
