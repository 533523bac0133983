-- That a run in which nothing more can happen is ended. Lists of steps and doings have the newest first.
use Rattle.std.specs.Prelude.{Bool, List, true, ℕ, ◌<◌, ◌≡◌}
use Rattle.base_types.specs.declared.ids.HostId.{HostId}
use Rattle.base_types.specs.declared.ids.Node.TheVariants.{Server}
use Rattle.base_types.specs.declared.ids.ServerId.{ServerId}
use Rattle.token_types.specs.declared.token.Token.{Token}
use Rattle.tree_calls.specs.declared.call.Call.TheVariants.{Lock}
use Rattle.tree_calls.specs.declared.place.Place.{Place}
use Rattle.script_lines.specs.Sound.{IsSound}
use Rattle.script_lines.specs.declared.script.Deed.TheVariants.{Call as MakesCall}
use Rattle.script_lines.specs.declared.script.Line.{Line}
use Rattle.script_lines.specs.declared.script.Script.{Script}
use Rattle.message_types.specs.declared.asking.Change.{Change as ChangeOf}
use Rattle.message_types.specs.declared.message.Body.{Body}
use Rattle.message_types.specs.declared.message.Body.TheVariants.{Change, Fetch}
use Rattle.run_rules.specs.Doings.{Reserved, doings_of}
use Rattle.run_rules.specs.HostDue.{IsUnanswered}
use Rattle.run_rules.specs.Messages.{HasStopped}
use Rattle.run_rules.specs.Past.{In}
use Rattle.run_rules.specs.Runs.{IsEnded, IsRun, TakesPart, firsts_of, past_of}
use Rattle.run_rules.specs.Steps.{steps_of_host}
use Rattle.run_rules.specs.Tokens.{NoneOpen}
use Rattle.run_rules.specs.Wants.{IsQueued, moves_fileset}
use Rattle.run_rules.specs.declared.applied.Request.{Request}
use Rattle.run_rules.specs.declared.applied.Request.TheVariants.{Change as Changes, Fetch as Asks}
use Rattle.run_rules.specs.declared.applied.Wanted.{Wanted}
use Rattle.run_rules.specs.declared.journal.Journal.{Journal}
use Rattle.run_goes_on.specs.Resting.{NoneAwaits}
use Rattle.run_goes_on.specs.Rest.{RunRests}
use Rattle.run_goes_on.specs.Waiting.{IsQuiet}

-- # Requests and wants

-- a host's request
abbrev pub IsRequest : Body → Type 0
IsRequest (Fetch fetch) = Unit {0}
IsRequest (Change change) = Unit {0}
IsRequest _ = ⊥

-- the want is of the request, by fileset and number
abbrev pub IsSame : Body → Request → Type 0
IsSame (Fetch fetch) (Asks other) = (other.fid.fileset ≡ fetch.fid.fileset) × (other.number ≡ fetch.number)
IsSame (Change change) (Changes other) = (other.fileset ≡ change.fileset) × (other.number ≡ change.number)
IsSame _ _ = ⊥

-- it waits at the server as a want
abbrev pub StandsAsWant : Journal → HostId → ServerId → Body → Type 0
StandsAsWant journal host server body =
    (w : Wanted) × IsQueued (doings_of (firsts_of journal server) server (past_of journal)) w × (w.host ≡ host)
    × IsSame body w.request

-- each lock that a line asks for is of one byte at least: a script with one of no bytes isn't read
abbrev pub LocksBytes : Script → Type 0
LocksBytes script = (line : Line) (label : List ℕ) (place : Place) (writing : Bool) (from len : ℕ)
    → In line script.lines → line.deed ≡ MakesCall (Lock label place writing from len) → 0 < len

-- Where all that was sent is over, no request of a host that is outstanding is without its want at its server, but of a
-- host that has stopped.
abbrev pub RequestsStandAsWants : Type 0
RequestsStandAsWants =
    (script : Script) (journal : Journal) → IsQuiet script journal → IsSound script → LocksBytes script
    → (host : HostId) → (HasStopped (steps_of_host host (past_of journal)) → ⊥) → (server : ServerId) (moves : ℕ)
    (body : Body) → IsRequest body → IsUnanswered (steps_of_host host (past_of journal)) server moves body
    → (StandsAsWant journal host server body → ⊥) → ⊥

-- # In a run that rests

-- no move of a fileset waits at a server; so far none is made
abbrev pub NoMoveWaits : Journal → Type 0
NoMoveWaits journal = (server : ServerId) (w : Wanted) (change : ChangeOf)
    → IsQueued (doings_of (firsts_of journal server) server (past_of journal)) w → w.request ≡ Changes change
    → moves_fileset change.call ≡ true → ⊥

-- then no want waits at all
abbrev pub NoWantsWait : Type 0
NoWantsWait =
    (script : Script) (journal : Journal) → IsQuiet script journal → RunRests script journal → NoMoveWaits journal
    → (server : ServerId) (w : Wanted) → IsQueued (doings_of (firsts_of journal server) server (past_of journal)) w → ⊥

-- so no host has an open call, but one that has stopped
abbrev pub NoCallsAreOpen : Type 0
NoCallsAreOpen =
    (script : Script) (journal : Journal) → IsQuiet script journal → RunRests script journal → NoMoveWaits journal
    → IsSound script → LocksBytes script → (host : HostId)
    → (HasStopped (steps_of_host host (past_of journal)) → ⊥) → NoneOpen (steps_of_host host (past_of journal))

-- # The end

-- A run in which nothing more can happen is ended; but where a held message or a line waits for a flag that isn't
-- raised, or a move of a fileset waits.
abbrev pub RunsEnd : Type 0
RunsEnd =
    (script : Script) (journal : Journal) → IsSound script → LocksBytes script → IsQuiet script journal
    → RunRests script journal → NoneAwaits script (past_of journal) → NoMoveWaits journal → IsEnded script journal

-- no exporter keeps a token any more: what its server wrote down is on its disk
abbrev pub AllIsFlushed : Script → Journal → Type 0
AllIsFlushed script journal = (server : ServerId) (token : Token) → TakesPart script (Server server)
    → Reserved (doings_of (firsts_of journal server) server (past_of journal)) token → ⊥

-- And the other way round: where a run is ended no node does anything more by itself but flush, none awaits a flag, and
-- no move waits.
abbrev pub EndedRunsRest : Type 0
EndedRunsRest =
    (script : Script) (journal : Journal) → IsRun script journal → IsEnded script journal
    → AllIsFlushed script journal
    → RunRests script journal × NoneAwaits script (past_of journal) × NoMoveWaits journal
