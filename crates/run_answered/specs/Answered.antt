-- In an ended run the calls of each host are answered, each once and in their order. Lists of steps have the newest
-- first.
use Rattle.std.specs.List.{list_any}
use Rattle.std.specs.Prelude.{List, [], map, true, ◌++◌, ◌∷◌, ◌≡◌, ◌⊎◌}
use Rattle.base_types.specs.declared.ids.HostId.{HostId}
use Rattle.base_types.specs.declared.ids.Node.TheVariants.{Host}
use Rattle.tree_calls.specs.declared.call.Call.{Call}
use Rattle.tree_calls.specs.declared.entry.Entry.{Entry}
use Rattle.message_types.specs.Soundness.{Each, IsEnd}
use Rattle.script_lines.specs.Sound.{is_stop}
use Rattle.script_lines.specs.declared.script.Script.{Script}
use Rattle.run_rules.specs.Past.{appended}
use Rattle.run_rules.specs.Runs.{IsEnded, IsRun, TakesPart, history_of, past_of}
use Rattle.run_tokens.specs.Pasts.{history}
use Rattle.run_rules.specs.Steps.{lines_of, steps_of_host}
use Rattle.run_rules.specs.Tokens.{IsOpen, NoneOpen}
use Rattle.run_rules.specs.declared.journal.Journal.{Journal}
use Rattle.run_rules.specs.declared.step.Asked.{Asked}
use Rattle.run_rules.specs.declared.step.Step.{Step}
use Rattle.run_due.specs.Begun.{NumberedFrom, begun_by, calls_of}
use Rattle.run_answered.specs.Entries.{entered}

-- A host's calls in the history are those that it has begun, each once and in their order; or all of these but the last
-- one, where that is open.
abbrev pub HasEntries : List Step → HostId → Type 0
HasEntries past host =
    (entered host (history past) ≡ begun_by (steps_of_host host past))
    ⊎ ((last : Asked) × IsOpen (steps_of_host host past) last
    × (entered host (history past) ++ last ∷ [] ≡ begun_by (steps_of_host host past)))

-- so it is in every run, after each step
abbrev pub CallsHaveEntries : Type 0
CallsHaveEntries =
    (script : Script) (journal : Journal) → IsRun script journal → (past more : List Step)
    → appended more past ≡ past_of journal → (host : HostId) → HasEntries past host

-- A host's calls are answered once each, numbered from 1: those of its lines, in their order, and then those by which
-- it ends what it has in use; none of these where it stops.
pub record IsAnswered (script : Script) (history : List Entry) (host : HostId) : Type 0 where
  pub numbers : NumberedFrom 1 (entered host history)
  pub implied : List Call
  pub calls : map (λ asked. asked.call) (entered host history) ≡ calls_of (lines_of script (Host host)) ++ implied
  pub ends : Each IsEnd implied
  pub stopped : list_any (λ line. is_stop line.deed) (lines_of script (Host host)) ≡ true → implied ≡ []

-- so they are of each host in an ended run
abbrev pub CallsAreAnswered : Type 0
CallsAreAnswered =
    (script : Script) (journal : Journal) → IsRun script journal → IsEnded script journal
    → (host : HostId) → TakesPart script (Host host) → IsAnswered script (history_of journal.steps) host

-- and none is left open
abbrev pub EndedRunsLeaveNoneOpen : Type 0
EndedRunsLeaveNoneOpen =
    (script : Script) (journal : Journal) → IsRun script journal → IsEnded script journal
    → (host : HostId) → TakesPart script (Host host) → NoneOpen (steps_of_host host (past_of journal))
