-- What is so of hosts once nothing more can happen in a run. Lists of steps and doings have the newest first.
use Rattle.std.specs.Prelude.{List, filter, length, ℕ, ◌≡◌, ◌≢◌}
use Rattle.base_types.specs.declared.ids.HostId.{HostId}
use Rattle.base_types.specs.declared.ids.Node.{Node}
use Rattle.base_types.specs.declared.ids.Node.TheVariants.{Host}
use Rattle.base_types.specs.declared.ids.ServerId.{ServerId}
use Rattle.token_types.specs.declared.token.Token.{Token}
use Rattle.script_lines.specs.declared.script.Deed.TheVariants.{Await}
use Rattle.script_lines.specs.declared.script.Line.{Line}
use Rattle.script_lines.specs.declared.script.Script.{Script}
use Rattle.message_types.specs.declared.giving.Give.{Give}
use Rattle.message_types.specs.declared.message.Body.{Body}
use Rattle.message_types.specs.declared.message.Body.TheVariants.{Bye, Change, Fetch, Hello}
use Rattle.run_rules.specs.Doings.{Hears, doings_of}
use Rattle.run_rules.specs.HostDue.{IsUnanswered}
use Rattle.run_rules.specs.Messages.{HasGreeted, HasSaid, HasStopped}
use Rattle.run_rules.specs.Past.{Once}
use Rattle.run_rules.specs.Runs.{HostIsDone, IsRaised, TakesPart, firsts_of, past_of}
use Rattle.run_rules.specs.Steps.{IsNextLine, is_node, lines_gone, lines_of, setup, steps_of_host}
use Rattle.run_rules.specs.Tokens.{Held, IsKnown, IsOpen, Made, NoneOpen, NoneUsed}
use Rattle.run_rules.specs.declared.journal.Journal.{Journal}
use Rattle.run_rules.specs.declared.step.Asked.{Asked}
use Rattle.run_rules.specs.declared.step.Step.{Step}
use Rattle.run_goes_on.specs.Rest.{RunRests}
use Rattle.run_goes_on.specs.Waiting.{IsQuiet}

-- a greeting, or a request
abbrev pub IsAsked : Body → Type 0
IsAsked Hello = Unit {0}
IsAsked (Fetch fetch) = Unit {0}
IsAsked (Change change) = Unit {0}
IsAsked _ = ⊥

-- a host's greeting or request is outstanding at a server, and has come there
pub record StandsAtServer (journal : Journal) (host : HostId) : Type 0 where
  pub server : ServerId
  pub moves : ℕ
  pub body : Body
  pub asked : IsAsked body
  pub unanswered : IsUnanswered (steps_of_host host (past_of journal)) server moves body
  pub came : Once (λ before a. Hears a host body) (doings_of (firsts_of journal server) server (past_of journal))

-- So it is of a host with an open call, where all that was sent is over: it waits for a server, which knows of it.
abbrev pub OpenCallsStandAtServers : Type 0
OpenCallsStandAtServers =
    (script : Script) (journal : Journal) → IsQuiet script journal → (host : HostId) (call : Asked)
    → (HasStopped (steps_of_host host (past_of journal)) → ⊥) → IsOpen (steps_of_host host (past_of journal)) call
    → StandsAtServer journal host

-- no node's next line awaits a flag that isn't raised
abbrev pub NoneAwaits : Script → List Step → Type 0
NoneAwaits script run = (node : Node) (line : Line) (flag : List ℕ) → TakesPart script node
    → IsNextLine (lines_of script node) (filter (λ s. is_node s.node node) run) line.number line
    → line.deed ≡ Await flag → IsRaised script run flag

-- A host has come to its end: its lines have gone, no label is in use, it holds no token, each give-back that it made
-- is known as applied, and it has said Bye to each server that it greeted.
pub record HasComeToItsEnd (script : Script) (host : HostId) (past : List Step) : Type 0 where
  pub gone : lines_gone past ≡ length (lines_of script (Host host))
  pub unused : NoneUsed past
  pub none_held : (token : Token) → Held past token → ⊥
  pub known : (give : Give) → Made past give → IsKnown past give
  pub byes : (server : ServerId) → HasGreeted past server → HasSaid past server Bye

-- So has each host in a run that rests, in which no line awaits a flag, where none of its calls is open, once the setup
-- host is done; but a host that has stopped.
abbrev pub HostsComeToTheirEnd : Type 0
HostsComeToTheirEnd =
    (script : Script) (journal : Journal) → IsQuiet script journal → RunRests script journal
    → NoneAwaits script (past_of journal) → (host : HostId) → TakesPart script (Host host)
    → (HasStopped (steps_of_host host (past_of journal)) → ⊥) → NoneOpen (steps_of_host host (past_of journal))
    → (host ≢ setup → HostIsDone script setup (past_of journal))
    → HasComeToItsEnd script host (steps_of_host host (past_of journal))

-- and each server that it greeted has said Bye to it: it is done
abbrev pub HostsAreDone : Type 0
HostsAreDone =
    (script : Script) (journal : Journal) → IsQuiet script journal → RunRests script journal
    → NoneAwaits script (past_of journal) → (host : HostId) → TakesPart script (Host host)
    → (HasStopped (steps_of_host host (past_of journal)) → ⊥) → NoneOpen (steps_of_host host (past_of journal))
    → (host ≢ setup → HostIsDone script setup (past_of journal)) → HostIsDone script host (past_of journal)
