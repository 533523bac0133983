-- A Change that becomes ready only after the decisions of a step. A host's Change waits while the server is in its
-- grace period, which the claim of the last host ends: the step decides first, and admits the claim then. So the Change
-- is decided in the next step, of a turn that no message begins.
use Rattle.base_types.specs.declared.ids.Node.TheVariants.{Server}
use Rattle.message_types.specs.declared.asking.Change.{Change as ChangeOf}
use Rattle.message_types.specs.declared.giving.Reclaim.{Reclaim as ReclaimOf}
use Rattle.message_types.specs.declared.message.Body.TheVariants.{Change, Done, Hello, Reclaim, Reclaimed, Restarted}
use Rattle.message_types.specs.declared.telling.Done.{Done as DoneOf}
use Rattle.message_types.specs.declared.telling.DoneIs.TheVariants.{Reply as HasReply}
use Rattle.run_examples.specs.Journal.{asks, asks_too, enter_for, line, start, takes_request, tells, tells_too, wants}
use Rattle.run_examples.specs.Journal.{script as two_hosts}
use Rattle.run_examples.specs.Steps.{at_file, from_other, other, restarts, to_other}
use Rattle.run_rules.specs.Doings.{doings_of}
use Rattle.run_rules.specs.ServerDue.{ServerDue}
use Rattle.run_rules.specs.declared.applied.Answer.{Answer}
use Rattle.run_rules.specs.declared.applied.Applied.TheVariants.{Done as Decided}
use Rattle.run_rules.specs.declared.applied.Request.TheVariants.{Change as AsksChange}
use Rattle.run_rules.specs.declared.step.Cause.TheVariants.{Flushed, Line, Message as Came}
use Rattle.run_rules.specs.declared.step.Step.{Step}
use Rattle.run_tokens.specs.ServerRest.{ServerMeets}
use Rattle.run_tokens.specs.Worked.{client, entered, no_fid, root, serves, site_one, to_host, to_server, welcome}
use Rattle.script_lines.specs.declared.script.Deed.TheVariants.{Raise, Restart}
use Rattle.script_lines.specs.declared.script.Script.{Script}
use Rattle.std.specs.Prelude.{List, [], codes, false, ◌∷◌}
use Rattle.tree_calls.specs.declared.call.Call.{Call}
use Rattle.tree_calls.specs.declared.call.Call.TheVariants.{Remove}
use Rattle.tree_calls.specs.declared.reply.Refusal.TheVariants.{NoEntry}
use Rattle.tree_calls.specs.declared.reply.Reply.TheVariants.{Refused}

-- the server restarts, and raises a flag later
abbrev pub script : Script
script = record two_hosts {
  lines = line 8 (Server site_one) Restart ∷ line 12 (Server site_one) (Raise (codes "f")) ∷ [];
}

-- a call that the call table refuses: nothing has this name
abbrev pub removes : Call
removes = Remove (record at_file { path = codes "x" ∷ [] })

abbrev pub removal : ChangeOf
removal = record { number = 1; fileset = root.fileset; fid = root; enter = false; k = 1; call = removes }

-- a host that holds nothing claims nothing
abbrev pub claims_none : ReclaimOf
claims_none = record { tokens = []; numbers = [] }

-- two hosts come, and one enters the fileset; the server restarts; that host claims
abbrev pub restarted : List Step
restarted =
    serves (Came (asks (Reclaim claims_none))) [] (record { host = client; tokens = [] } ∷ [])
    (tells (Reclaimed welcome) ∷ [])
    ∷ record restarts { sent = tells Restarted ∷ tells_too Restarted ∷ [] }
    ∷ serves (Came (from_other 0 Hello)) [] [] (to_other (Reclaimed welcome) ∷ [])
    ∷ takes_request (to_server 1 (Change (enter_for removes))) (wants client (AsksChange (enter_for removes)) [])
    (to_host (Done entered) ∷ [])
    ∷ serves (Came (to_server 0 Hello)) [] [] (to_host (Reclaimed welcome) ∷ []) ∷ []

-- its Change comes
abbrev pub waits : Step
waits = takes_request (asks (Change removal)) (wants client (AsksChange removal) []) []

-- the other host claims: the grace period is over
abbrev pub ends_grace : Step
ends_grace =
    serves (Came (asks_too (Reclaim claims_none))) [] (record { host = other; tokens = [] } ∷ [])
    (tells_too (Reclaimed welcome) ∷ [])

-- the server does its next line
abbrev pub raises : Step
raises = serves (Line 12) [] [] []

-- the Change is decided, and its host is told
abbrev pub answer : Answer
answer = record { host = client; k = 1; call = removes; reply = Refused NoEntry; first = false }

abbrev pub refused : DoneOf
refused = record {
  fileset = root.fileset;
  outcome = HasReply (Refused NoEntry);
  bring = record { number = 1; fid = no_fid; stamp = 0; tokens = [] };
}

abbrev pub decides : Step
decides =
    serves Flushed (Decided (record { fileset = root.fileset; number = 1; answer = answer }) ∷ []) []
    (tells (Done refused) ∷ [])

-- the server's step after these meets all rules; what is due of it there is done
abbrev pub Meets : List Step → Step → Type 0
Meets past s = ServerMeets script start site_one past (doings_of 1 site_one past) s

abbrev pub IsDue : List Step → Step → Type 0
IsDue past s = ServerDue script start site_one past (doings_of 1 site_one past) s

-- The Change waits, and the last claim ends the grace period after the decisions of its step. Then no line of the
-- server goes on, since the Change could be decided; it is decided, and answered, in a step that no message begins, and
-- then the line goes on.
pub record LateChangeIsDecidedNext : Type 0 where
  pub waits_first : Meets restarted waits
  pub claim_admitted : Meets (waits ∷ restarted) ends_grace
  pub no_line : IsDue (ends_grace ∷ waits ∷ restarted) raises → ⊥
  pub decided_next : Meets (ends_grace ∷ waits ∷ restarted) decides
  pub line_then : Meets (decides ∷ ends_grace ∷ waits ∷ restarted) raises
