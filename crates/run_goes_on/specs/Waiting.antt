-- What hosts wait for in a run, and what has come of it once all that was sent is over. Lists of steps and doings have
-- the newest first.
use Rattle.std.specs.Prelude.{ℕ, ◌≡◌, List}
use Rattle.base_types.specs.declared.ids.HostId.{HostId}
use Rattle.base_types.specs.declared.ids.ServerId.{ServerId}
use Rattle.token_types.specs.declared.token.Token.{Token}
use Rattle.script_lines.specs.declared.script.Script.{Script}
use Rattle.message_types.specs.declared.giving.Give.{Give}
use Rattle.message_types.specs.declared.message.Body.{Body}
use Rattle.message_types.specs.declared.message.Body.TheVariants.{Bye, Change, Fetch, GiveBack, Hello}
use Rattle.run_rules.specs.Doings.{HasGoneAway, Hears, NoGrace, doings_of}
use Rattle.run_rules.specs.HostDue.{IsUnanswered}
use Rattle.run_rules.specs.HostMay.{AwaitsReclaimed}
use Rattle.run_rules.specs.Messages.{HasBye, HasSaid, HasStopped}
use Rattle.run_rules.specs.Past.{Once, appended}
use Rattle.run_rules.specs.Runs.{IsDutiful, IsRun, firsts_of, past_of}
use Rattle.run_rules.specs.ServerMay.{IsOwed}
use Rattle.run_rules.specs.Steps.{steps_of_host}
use Rattle.run_rules.specs.Tokens.{IsKnown, IsOpen, Made}
use Rattle.run_rules.specs.declared.journal.Journal.{Journal}
use Rattle.run_rules.specs.declared.step.Asked.{Asked}
use Rattle.run_rules.specs.declared.step.Step.{Step}
use Rattle.run_goes_on.specs.Rest.{AllIsOver, NoneIsHeld}

-- what a host says for its calls: a greeting, a request, a give-back
abbrev pub IsForCall : Body → Type 0
IsForCall Hello = Unit {0}
IsForCall (Fetch fetch) = Unit {0}
IsForCall (Change change) = Unit {0}
IsForCall (GiveBack give) = Unit {0}
IsForCall _ = ⊥

-- Such a message of the host is outstanding: an answer to it is to come, and each lapse sends it again.
pub record AwaitsAnswer (past : List Step) : Type 0 where
  pub server : ServerId
  pub moves : ℕ
  pub body : Body
  pub for_call : IsForCall body
  pub unanswered : IsUnanswered past server moves body

-- After each step of a run a host that has an open call awaits an answer.
abbrev pub OpenCallsAwaitAnswers : Type 0
OpenCallsAwaitAnswers =
    (script : Script) (journal : Journal) → IsRun script journal → (past later : List Step)
    → appended later past ≡ past_of journal → (host : HostId) (call : Asked)
    → IsOpen (steps_of_host host past) call → (HasStopped (steps_of_host host past) → ⊥)
    → AwaitsAnswer (steps_of_host host past)

-- the run does what is due, and all that was sent is over: it came, or a lapse came after it was lost; none is held
pub record IsQuiet (script : Script) (journal : Journal) : Type 0 where
  pub run : IsRun script journal
  pub dutiful : IsDutiful script journal
  pub over : AllIsOver script (past_of journal)
  pub none_held : NoneIsHeld script (past_of journal)

-- where all is over, each message of a host that is outstanding at a server has come there, but of a host that has
-- stopped
abbrev pub WhatWaitsHasCome : Type 0
WhatWaitsHasCome =
    (script : Script) (journal : Journal) → IsQuiet script journal → (host : HostId)
    → (HasStopped (steps_of_host host (past_of journal)) → ⊥) → (server : ServerId) (moves : ℕ) (body : Body)
    → IsUnanswered (steps_of_host host (past_of journal)) server moves body
    → Once (λ before a. Hears a host body) (doings_of (firsts_of journal server) server (past_of journal))

-- and each give-back that a host has made is known as applied, but of a host that has stopped
abbrev pub GivesAreKnown : Type 0
GivesAreKnown =
    (script : Script) (journal : Journal) → IsQuiet script journal → (host : HostId)
    → (HasStopped (steps_of_host host (past_of journal)) → ⊥) → (give : Give)
    → Made (steps_of_host host (past_of journal)) give → IsKnown (steps_of_host host (past_of journal)) give

-- and no claim of a host waits for its answer at a server where the host hasn't gone away, but of a host that has
-- stopped
abbrev pub ClaimsAreAnswered : Type 0
ClaimsAreAnswered =
    (script : Script) (journal : Journal) → IsQuiet script journal → (host : HostId)
    → (HasStopped (steps_of_host host (past_of journal)) → ⊥) → (server : ServerId)
    → (HasGoneAway (doings_of (firsts_of journal server) server (past_of journal)) host → ⊥)
    → AwaitsReclaimed (steps_of_host host (past_of journal)) server → ⊥

-- so does no greeting
abbrev pub GreetingsAreAnswered : Type 0
GreetingsAreAnswered =
    (script : Script) (journal : Journal) → IsQuiet script journal → (host : HostId)
    → (HasStopped (steps_of_host host (past_of journal)) → ⊥) → (server : ServerId) (moves : ℕ)
    → (HasGoneAway (doings_of (firsts_of journal server) server (past_of journal)) host → ⊥)
    → IsUnanswered (steps_of_host host (past_of journal)) server moves Hello → ⊥

-- nor a Bye
abbrev pub ByesAreAnswered : Type 0
ByesAreAnswered =
    (script : Script) (journal : Journal) → IsQuiet script journal → (host : HostId)
    → (HasStopped (steps_of_host host (past_of journal)) → ⊥) → (server : ServerId)
    → HasSaid (steps_of_host host (past_of journal)) server Bye
    → (HasBye (steps_of_host host (past_of journal)) server → ⊥) → ⊥

-- So no grace period stands: each host that is live at a server has reclaimed in its epoch.
abbrev pub NoGracePeriodStands : Type 0
NoGracePeriodStands =
    (script : Script) (journal : Journal) → IsQuiet script journal → (server : ServerId)
    → NoGrace (doings_of (firsts_of journal server) server (past_of journal))

-- and no token that a server asked back is owed: it was returned, given back, or kept
abbrev pub NothingIsOwed : Type 0
NothingIsOwed =
    (script : Script) (journal : Journal) → IsQuiet script journal → (server : ServerId) (token : Token)
    → IsOwed server (doings_of (firsts_of journal server) server (past_of journal)) token → ⊥
