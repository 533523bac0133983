-- What the examples show: each step meets all rules of its host, after the steps that led to it; and so does a lapse
-- after it.
use Rattle.std.specs.Prelude.{List, [], false, length, suc, true, ◌∷◌}
use Rattle.base_types.specs.declared.ids.HostId.{HostId}
use Rattle.tree_calls.specs.declared.roster.Roster.{Roster}
use Rattle.token_types.specs.declared.token.Token.{Token}
use Rattle.run_rules.specs.Doings.{doings_of}
use Rattle.run_rules.specs.HostDue.{HostDue}
use Rattle.run_rules.specs.HostMay.{HostMay}
use Rattle.run_rules.specs.HostTokens.{LastUsed}
use Rattle.run_rules.specs.Messages.{IsWelcome}
use Rattle.run_rules.specs.Past.{In}
use Rattle.run_rules.specs.ServerDue.{ServerDue}
use Rattle.run_tokens.specs.ServerRest.{ServerMeets}
use Rattle.run_rules.specs.ServerMay.{ServerMay}
use Rattle.base_types.specs.declared.ids.Node.TheVariants.{Server}
use Rattle.script_lines.specs.declared.script.Deed.TheVariants.{Call as MakesCall, Restart, Stop}
use Rattle.script_lines.specs.declared.script.Script.{Script}
use Rattle.message_types.specs.declared.message.Body.TheVariants.{Done, GiveBack, Reclaimed, Revoke, Bye, Restarted}
use Rattle.message_types.specs.declared.message.Message.{Message}
use Rattle.run_tokens.specs.Worked.{client, entered, from_server, site_one, to_host, to_server, welcome}
use Rattle.run_rules.specs.declared.step.Step.{Step}
use Rattle.run_examples.specs.Steps.{asks_lock, asks_update, begin, claims_all, claims_gift, ends, frees, gift, gives}
use Rattle.run_examples.specs.Steps.{asks_file, asks_for, asks_root, enters, evicted, evicts, file, frees_last, greets}
use Rattle.run_examples.specs.Journal.{script, second_change, start, step_34, waiting}
use Rattle.run_examples.specs.Steps.{hears, hears_bytes, hears_empty, hears_misplaced}
use Rattle.run_examples.specs.Steps.{hears_moved, hears_nameless, hears_unmade}
use Rattle.run_examples.specs.Steps.{other_stops}
use Rattle.run_examples.specs.Steps.{returns_other}
use Rattle.run_examples.specs.Steps.{calls_back, grown, needs, recall, returns_all, shared, stores_and_grants}
use Rattle.run_examples.specs.Steps.{asks_both, asks_second_block, asks_status, ends_again, ends_second, freed_first}
use Rattle.run_examples.specs.Steps.{gives_first_block, gives_shown, gives_status, learns_first_block, learns_status}
use Rattle.run_examples.specs.Steps.{locks_again, locks_second, shown_gift, syncs, takes_second_block, writes_wide}
use Rattle.run_examples.specs.Steps.{unlocks_last}
use Rattle.run_tokens.specs.JournalWorked.{roster}
use Rattle.tree_objects.specs.Spans.{span_between}
use Rattle.token_types.specs.declared.token.Kind.TheVariants.{Bytes, Status}
use Rattle.run_examples.specs.Steps.{grows, hears_bye, keeps, lapses, learns, learns_freed, lock_gift, locked, locks}
use Rattle.run_examples.specs.Steps.{reclaimed}
use Rattle.run_examples.specs.Steps.{admits, answers_bye, file_tree, hears_down, hears_returned, restarts, served}
use Rattle.run_examples.specs.Steps.{server_lapses}
use Rattle.run_examples.specs.Steps.{stores}
use Rattle.run_examples.specs.Steps.{restarted, restarted_late, says_bye, script_of, stops, takes_lock, unlocks, writes}

abbrev pub writing : Script
writing = script_of (MakesCall writes ∷ [])

abbrev pub stopping : Script
stopping = script_of (MakesCall writes ∷ Stop ∷ [])

abbrev pub locking : Script
locking = script_of (MakesCall locks ∷ MakesCall unlocks ∷ [])

abbrev pub locking_alone : Script
locking_alone = script_of (MakesCall locks ∷ [])

-- a script whose host caches four tokens at most
abbrev pub caching : Script
caching = record writing { roster = record roster { hosts = record { user = 0; limit = 4 } ∷ [] } }

-- a script in which the server restarts
abbrev pub restarting : Script
restarting = record writing { lines = record { number = 8; node = Server site_one; deed = Restart } ∷ [] }

-- the host may do the step after these, and does in it what is due
abbrev pub Does : Script → HostId → List Step → Step → Type 0
Does script host past s = HostMay script host past s × HostDue script host past s

-- so it is with the step after these, and with a lapse after it, in which this is sent again
abbrev pub Meets : Script → List Step → Step → List Message → Type 0
Meets script past s again = Does script client past s × Does script client (s ∷ past) (lapses again)

-- A host asks for the status of a file that it doesn't know, and then for what its Write lacks; a lapse asks again.
abbrev pub WriteIsAskedFor : Type 0
WriteIsAskedFor =
    Meets writing (asks_root ∷ enters writes ∷ greets writes ∷ []) asks_file
    (asks_for 2 file (needs file (Status false) ∷ []) ∷ [])
    × Meets writing (begin writes) asks_update
    (asks_for 3 file (needs file (Status true) ∷ needs file (Bytes true (span_between 0 1024)) ∷ []) ∷ [])

-- a Write that grows its file, is answered when the tokens come that it lacked
abbrev pub WriteIsAnswered : Type 0
WriteIsAnswered = Meets writing (asks_update ∷ begin writes) grows []

-- Of what a Revoke names the dirty parts go into a give-back, and the rest is returned; a lapse sends the give-back
-- again, until its Gone comes.
abbrev pub RevokeIsAnswered : Type 0
RevokeIsAnswered =
    Meets writing grown gives (to_server 1 (GiveBack gift) ∷ []) × Meets writing (gives ∷ grown) learns []

-- A host claims what it holds, dirty or clean, when the server has restarted; with a give-back on its way, that too. A
-- lapse claims again, until the claim is answered.
abbrev pub RestartIsAnswered : Type 0
RestartIsAnswered =
    Meets writing grown restarted (claims_all ∷ [])
    × Meets writing (gives ∷ grown) restarted_late (to_server 2 (GiveBack gift) ∷ claims_gift ∷ [])
    × Meets writing (restarted ∷ grown) reclaimed []

-- a host stops with dirty parts: then it does nothing more
abbrev pub StopIsAllowed : Type 0
StopIsAllowed = Does stopping client grown stops

-- At the end a host gives back and returns all that it holds, and says Bye when that is known as applied; a lapse says
-- Bye again, until the server has said Bye.
abbrev pub EndIsAllowed : Type 0
EndIsAllowed =
    Meets writing grown ends (to_server 1 (GiveBack gift) ∷ [])
    × Meets writing (learns ∷ ends ∷ grown) says_bye (to_server 1 Bye ∷ [])
    × Meets writing (says_bye ∷ learns ∷ ends ∷ grown) hears_bye []

-- A lock is answered with the token that it lacked. A Revoke of a token in use is answered by Kept, and then the end of
-- the use by a give-back, whose Gone ends the call.
abbrev pub LockIsKept : Type 0
LockIsKept =
    Meets locking (asks_lock ∷ begin locks) takes_lock []
    × Meets locking locked keeps []
    × Meets locking (keeps ∷ locked) frees (to_server 1 (GiveBack lock_gift) ∷ [])
    × Meets locking (frees ∷ keeps ∷ locked) learns_freed []

-- At the end the host itself ends a use that no server has to learn of, and returns its token with all others; another
-- use it gives back.
abbrev pub UseIsEnded : Type 0
UseIsEnded =
    Meets locking_alone locked unlocks_last []
    × Meets locking_alone (unlocks_last ∷ locked) returns_all []
    × Meets locking_alone (keeps ∷ locked) frees_last (to_server 1 (GiveBack lock_gift) ∷ [])

-- A host that caches too many tokens evicts one; what is dirty under it goes into a give-back.
abbrev pub EvictionIsAllowed : Type 0
EvictionIsAllowed = Meets caching grown evicts (to_server 1 (GiveBack evicted) ∷ [])

-- a script whose first label is freed and taken again, one with a wide Write, and one with a Sync
abbrev pub relocking : Script
relocking = script_of (MakesCall locks ∷ MakesCall locks_second ∷ MakesCall unlocks ∷ MakesCall locks ∷ [])

abbrev pub widening : Script
widening = script_of (MakesCall writes ∷ MakesCall writes_wide ∷ [])

abbrev pub syncing : Script
syncing = script_of (MakesCall writes ∷ MakesCall syncs ∷ [])

-- A label that is taken again is answered from cache, and at the end it goes after one that was taken in between.
abbrev pub LabelsTakenTwiceEnd : Type 0
LabelsTakenTwiceEnd =
    Meets relocking freed_first locks_again []
    × Meets relocking (locks_again ∷ freed_first) ends_second []
    × Meets relocking (ends_second ∷ locks_again ∷ freed_first) ends_again []

-- A Fetch asks for all bytes that its call needs, held or not.
abbrev pub FetchAsksForAll : Type 0
FetchAsksForAll =
    Meets widening (learns_first_block ∷ gives_first_block ∷ asks_second_block ∷ grown) takes_second_block
    (asks_both ∷ [])

-- A Grant that shows bytes that are dirty is taken; what is given back is what the host sees then.
abbrev pub GrantOverDirtyIsTaken : Type 0
GrantOverDirtyIsTaken =
    Meets syncing (asks_status ∷ learns_status ∷ gives_status ∷ grown) gives_shown
    (to_server 1 (GiveBack shown_gift) ∷ [])

-- so does a step of the server, from a tree that has the file on, after its own steps
abbrev pub Serves : Script → List Step → Step → List Message → Type 0
Serves script past s again =
    ServerMeets script file_tree site_one past (doings_of 1 site_one past) s
    × ServerMeets script file_tree site_one (s ∷ past) (doings_of 1 site_one (s ∷ past)) (server_lapses again)

-- A give-back is stored and answered by Gone; a Returned is heard; a host goes down, once, or says Bye, which is
-- answered; a restart tells each host, and a lapse those again that haven't reclaimed; a claim is admitted and
-- answered.
pub record ServerReacts : Type 0 where
  pub gift_stored : Serves writing served stores []
  pub returned_heard : Serves writing (stores ∷ served) hears_returned []
  pub down_heard : Serves writing served hears_down []
  pub bye_answered : Serves writing (hears_returned ∷ stores ∷ served) answers_bye []
  pub restart_told : Serves restarting served restarts (from_server Restarted ∷ [])
  pub claim_admitted : Serves restarting (restarts ∷ served) admits []

-- A Fetch that a granted token blocks makes its server ask the token back, and again at a lapse; it is granted when the
-- token has come back, on what is kept then.
abbrev pub BlockedFetchIsGranted : Type 0
BlockedFetchIsGranted =
    Serves writing shared calls_back (to_host (Revoke (recall 4)) ∷ [])
    × Serves writing (calls_back ∷ shared) stores_and_grants []

-- A token that was asked back is owed, also when the want in whose way it was has gone: a lapse asks it back again.
abbrev pub OwedIsAskedAgain : Type 0
OwedIsAskedAgain = Serves writing (calls_back ∷ shared) other_stops (to_host (Revoke (recall 4)) ∷ [])

-- What a server says out of turn is refused: a Reclaimed for which nobody asked, a Done that is sent again at a lapse,
-- and a Bye that is sent twice. A host that greeted nobody isn't welcome by a Reclaimed.
pub record OutOfTurnIsRefused : Type 0 where
  pub unasked : ServerMay writing file_tree site_one served (doings_of 1 site_one served)
      (server_lapses (to_host (Reclaimed welcome) ∷ [])) → ⊥
  pub again : ServerDue writing file_tree site_one served (doings_of 1 site_one served)
      (server_lapses (to_host (Done entered) ∷ [])) → ⊥
  pub twice : ServerDue writing file_tree site_one served (doings_of 1 site_one served)
      (record answers_bye { sent = to_host Bye ∷ to_host Bye ∷ [] }) → ⊥
  pub ungreeted : IsWelcome (hears (to_host (Reclaimed welcome)) [] [] ∷ []) site_one → ⊥

-- A Change that enters, with a call that names no fileset, makes no want.
abbrev pub NamelessIsIgnored : Type 0
NamelessIsIgnored = Serves writing served hears_nameless []

-- Sound messages that only a wrong peer sends admit a step, too: a Gone of a give-back that wasn't made; a Done under
-- fileset 0 with moves, while the Change that it names is outstanding; a Done that brings bytes, and shows none; a
-- Revoke that names a token of another file; a Change of a lock that is numbered under another fileset than its file's,
-- or is of no bytes.
pub record OddMessagesAreBorne : Type 0 where
  pub unmade : Meets writing grown hears_unmade []
  pub moved : Does writing client (enters writes ∷ greets writes ∷ []) hears_moved
  pub bytes : Does writing client (enters writes ∷ greets writes ∷ []) hears_bytes
  pub other_file : Meets writing grown returns_other []
  pub misplaced : Serves writing served hears_misplaced []
  pub empty : Serves writing served hears_empty []

-- A Change that comes while another of its host and fileset waits makes no want; the one that waits is decided.
abbrev pub Reacts : List Step → Step → Type 0
Reacts past s = ServerMeets script start site_one past (doings_of 1 site_one past) s

abbrev pub SecondChangeIsIgnored : Type 0
SecondChangeIsIgnored = Reacts waiting second_change × Reacts (second_change ∷ waiting) step_34

-- A token that a host's step takes counts as used by it, and so isn't the oldest while another idle one was used
-- earlier.
abbrev pub TakenIsUsed : Type 0
TakenIsUsed = (roster : Roster) (host : HostId) (past : List Step) (s : Step) (t : Token) → In t s.taken
    → LastUsed roster host (s ∷ past) t (suc (length past))
