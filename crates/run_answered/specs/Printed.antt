-- The lines that are printed of the replies to a host's calls.
use Rattle.std.specs.List.{list_all, range_with_len}
use Rattle.std.specs.Prelude.{List, [], filter, flat_map, length, map, take, true, ℕ, ◌==◌, ◌∷◌, ◌≡◌}
use Rattle.base_types.specs.declared.ids.HostId.{HostId}
use Rattle.base_types.specs.declared.ids.Node.TheVariants.{Host}
use Rattle.tree_calls.specs.declared.entry.Entry.{Entry}
use Rattle.tree_calls.specs.declared.entry.Entry.TheVariants.{Call as Called}
use Rattle.tree_calls.specs.declared.reply.Reply.{Reply}
use Rattle.script_lines.specs.Asks.{call_lines}
use Rattle.script_lines.specs.Sound.{IsSound}
use Rattle.script_lines.specs.declared.script.Script.{Script}
use Rattle.script_output.specs.Reports.{answers_to}
use Rattle.store_laws.specs.Shape.{is_own}
use Rattle.run_rules.specs.Runs.{IsEnded, IsRun, TakesPart, history_of}
use Rattle.run_rules.specs.declared.journal.Journal.{Journal}

-- the reply to a call
abbrev pub reply_in : Entry → List Reply
reply_in (Called host k call reply) = reply ∷ []
reply_in _ = []

-- the first calls of a host in a history, as many
abbrev pub first_calls : HostId → ℕ → List Entry → List Entry
first_calls host count history = take count (filter (is_own host) history)

-- The lines that are printed of a host: the K-th has its number, K, and the reply to the K-th of its calls, up to the
-- last that its lines ask for.
pub record TellsReplies (script : Script) (history : List Entry) (host : HostId) : Type 0 where
  pub hosts : list_all (λ answer. answer.host.0 == host.0) (answers_to script history host.0) ≡ true
  pub numbers : map (λ answer. answer.k) (answers_to script history host.0)
      ≡ range_with_len 1 (length (answers_to script history host.0))
  pub replies : map (λ answer. answer.reply) (answers_to script history host.0)
      ≡ flat_map reply_in (first_calls host (call_lines script host.0) history)

-- so they are of each host of an ended run
abbrev pub RunsTellReplies : Type 0
RunsTellReplies =
    (script : Script) (journal : Journal) → IsRun script journal → IsEnded script journal → (host : HostId)
    → TakesPart script (Host host) → TellsReplies script (history_of journal.steps) host

-- and where the script is sound there is one for each line that asks the host for a call
abbrev pub EachLineIsTold : Type 0
EachLineIsTold =
    (script : Script) (journal : Journal) → IsSound script → IsRun script journal → IsEnded script journal
    → (host : HostId) → TakesPart script (Host host)
    → length (answers_to script (history_of journal.steps) host.0) ≡ call_lines script host.0
