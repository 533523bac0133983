-- Runs of a script, and the history of a journal. Lists of steps have the newest first where they are called past.
use Rattle.std.specs.List.{list_all}
use Rattle.std.specs.Prelude.{List, [], flat_map, length, map, true, ℕ, ◌&&◌, ◌++◌, ◌==◌, ◌∷◌, ◌≡◌, ◌≢◌, ◌≤◌, ◌⊎◌}
use Rattle.base_types.specs.declared.ids.HostId.{HostId}
use Rattle.base_types.specs.declared.ids.Node.{Node}
use Rattle.base_types.specs.declared.ids.Node.TheVariants.{Host, Server}
use Rattle.base_types.specs.declared.ids.ServerId.{ServerId}
use Rattle.tree_answers.specs.WellFormed.{IsWellFormed}
use Rattle.tree_answers.specs.declared.tree.Tree.{Tree}
use Rattle.tree_calls.specs.declared.entry.Entry.{Entry}
use Rattle.tree_calls.specs.declared.entry.Entry.TheVariants.{Call, Down, Left as LeftEntry, Stored as StoredEntry}
use Rattle.tree_filesets.specs.WellFormed.{is_at_rest}
use Rattle.script_lines.specs.declared.script.Deed.TheVariants.{Await, Raise}
use Rattle.script_lines.specs.declared.script.Line.{Line}
use Rattle.script_lines.specs.declared.script.Script.{Script}
use Rattle.message_types.specs.Soundness.{IsSound}
use Rattle.message_types.specs.declared.message.Direction.TheVariants.{ToHost, ToServer}
use Rattle.message_types.specs.declared.message.Message.{Message}
use Rattle.run_rules.specs.Doings.{HasGoneAway, Listed, SentTo, doings_of}
use Rattle.run_rules.specs.HostDue.{HostDue}
use Rattle.run_rules.specs.HostMay.{HostMay}
use Rattle.run_rules.specs.Messages.{HasBye, HasGreeted, HasStopped, Said, home}
use Rattle.run_rules.specs.Past.{Always, In, Once, appended}
use Rattle.run_rules.specs.ServerDue.{ServerDue}
use Rattle.run_rules.specs.ServerMay.{ServerMay}
use Rattle.run_rules.specs.Steps.{first_epoch, lines_gone, lines_of, servers_of, setup, steps_of_host, steps_of_server}
use Rattle.run_rules.specs.declared.applied.Answer.{Answer}
use Rattle.run_rules.specs.declared.applied.Applied.{Applied}
use Rattle.run_rules.specs.declared.applied.Applied.TheVariants.{Done, IsDown, Moves, Replied, Stored, Wants}
use Rattle.run_rules.specs.declared.applied.Move.{Move}
use Rattle.run_rules.specs.declared.applied.Move.TheVariants.{Arrives, Left}
use Rattle.run_rules.specs.declared.journal.Journal.{Journal}
use Rattle.run_rules.specs.declared.step.Cause.TheVariants.{Line as LineOf, Message as Came}
use Rattle.run_rules.specs.declared.step.Step.{Step}

-- # The history of a journal

-- the entry of a call
abbrev pub call_entry : Answer → Entry
call_entry answer = Call answer.host answer.k answer.call answer.reply

-- Of a move the entries are its call, where its head comes to, and that the fileset has left.
abbrev pub entries_moved : ServerId → Move → List Entry
entries_moved server (Arrives head) = call_entry head.written.answer ∷ []
entries_moved server (Left fileset to) = LeftEntry server fileset ∷ []
entries_moved server _ = []

-- What a server applies is an entry: a Change that it writes down, the call that a give-back ends, what became kept,
-- a host that is down. A want is none.
abbrev pub entries_in : ServerId → Applied → List Entry
entries_in server (Stored host fid spans len) = StoredEntry host fid spans len ∷ []
entries_in server (Replied answer) = call_entry answer ∷ []
entries_in server (IsDown host) = Down host server ∷ []
entries_in server (Wants wanted) = []
entries_in server (Done written) = call_entry written.answer ∷ []
entries_in server (Moves of) = entries_moved server of

-- a host applies nothing
abbrev pub applied_entries : Node → List Applied → List Entry
applied_entries (Host host) applied = []
applied_entries (Server server) applied = flat_map (entries_in server) applied

-- of a step: each call that it answers, and then what it applies, in order
abbrev pub entries_of : Step → List Entry
entries_of step = map call_entry step.answers ++ applied_entries step.node step.applied

-- the history of steps, in their order
abbrev pub history_of : List Step → List Entry
history_of steps = flat_map entries_of steps

-- # What comes was sent

-- a message that is the cause of a host's step is addressed to it, and its server sent it in an earlier step
abbrev pub CameToHost : (ServerId → ℕ) → HostId → List Step → Step → Type 0
CameToHost firsts host past s = (m : Message) → s.cause ≡ Came m → (m.host ≡ host) × (m.direction ≡ ToHost)
    × SentTo (doings_of (firsts m.server) m.server past) host m.epoch m.moves m.body

-- a message that is the cause of a server's step is addressed to it, and its host sent it in an earlier step
abbrev pub CameToServer : ServerId → List Step → Step → Type 0
CameToServer server past s = (m : Message) → s.cause ≡ Came m
    → (m.server ≡ server) × (m.direction ≡ ToServer) × Said (steps_of_host m.host past) server m.epoch m.moves m.body

-- the messages that a node sends are its own
abbrev pub IsFrom : Node → Message → Type 0
IsFrom (Host host) m = (m.host ≡ host) × (m.direction ≡ ToServer)
IsFrom (Server server) m = (m.server ≡ server) × (m.direction ≡ ToHost)

-- # Runs

-- a tree from which runs start: well formed, with nothing unsaved or in use, and each fileset where it was made
pub record IsValid (tree : Tree) : Type 0 where
  pub well_formed : IsWellFormed tree
  pub at_rest : list_all is_at_rest tree.filesets ≡ true
  pub locks : tree.locks ≡ []
  pub opens : tree.opens ≡ []
  pub unmoved : tree.away ≡ []
  pub at_home : list_all (λ fileset. (fileset.server.0 == (home fileset.id).0) && (fileset.moves == 0)) tree.filesets
      ≡ true

-- a step of a node is one that it may do, and its cause was sent before
abbrev pub StepMeets : Script → Tree → (ServerId → ℕ) → Node → List Step → Step → Type 0
StepMeets script start firsts (Host host) past s =
    HostMay script host (steps_of_host host past) s × CameToHost firsts host past s
StepMeets script start firsts (Server server) past s =
    ServerMay script start server (steps_of_server server past) (doings_of (firsts server) server past) s
    × CameToServer server past s

-- it is a line of the node, of this number
abbrev pub IsLine : Script → Node → ℕ → Line → Type 0
IsLine script node n line = In line (lines_of script node) × (line.number ≡ n)

-- an earlier step raised the flag
abbrev pub IsRaised : Script → List Step → List ℕ → Type 0
IsRaised script past flag = Once (λ before s. (n : ℕ) × (line : Line)
    × (s.cause ≡ LineOf n) × IsLine script s.node n line × (line.deed ≡ Raise flag)) past

-- a host is done: all its lines have gone, and it has stopped, or has the Bye of each server that it greeted
abbrev pub HostIsDone : Script → HostId → List Step → Type 0
HostIsDone script host past = (lines_gone (steps_of_host host past) ≡ length (lines_of script (Host host)))
    × (HasStopped (steps_of_host host past)
    ⊎ ((v : ServerId) → HasGreeted (steps_of_host host past) v → HasBye (steps_of_host host past) v))

-- A step that passes an `await` stands after the one that raised the flag; a line of another host, after the setup
-- host is done.
pub record FlagsMet (script : Script) (past : List Step) (s : Step) : Type 0 where
  pub awaits : (n : ℕ) (line : Line) (flag : List ℕ) → s.cause ≡ LineOf n → IsLine script s.node n line
      → line.deed ≡ Await flag → IsRaised script past flag
  pub setup_first : (host : HostId) (n : ℕ) → s.node ≡ Host host → host ≢ setup → s.cause ≡ LineOf n
      → HostIsDone script setup past

-- the node takes part
abbrev pub TakesPart : Script → Node → Type 0
TakesPart script (Host host) = host.0 ≤ length script.roster.hosts
TakesPart script (Server server) = In server (servers_of script.roster)

-- each step meets the rules of its node, the flags are met, and each message that is sent is its node's own, and
-- sound
abbrev pub StepsMeet : Script → Tree → (ServerId → ℕ) → List Step → Type 0
StepsMeet script start firsts past =
    Always (λ before s. StepMeets script start firsts s.node before s × FlagsMet script before s
    × TakesPart script s.node × ((m : Message) → In m s.sent → IsFrom s.node m × IsSound script.roster m)) past

-- the steps of a journal
abbrev pub past_of : Journal → List Step
past_of journal = appended journal.steps []

-- the epoch in which each server starts
abbrev pub firsts_of : Journal → ServerId → ℕ
firsts_of journal server = first_epoch journal.epochs server

-- a journal is a run of a script
pub record IsRun (script : Script) (journal : Journal) : Type 0 where
  pub start : Tree
  pub starts : journal.start ≡ start ∷ []
  pub valid : IsValid start
  pub roster : start.roster ≡ script.roster
  pub epochs : length journal.epochs ≡ length script.roster.capacity
  pub steps : StepsMeet script start (firsts_of journal) (past_of journal)

-- a node's step does what is due of it
abbrev pub StepDue : Script → Tree → (ServerId → ℕ) → Node → List Step → Step → Type 0
StepDue script start firsts (Host host) past s = HostDue script host (steps_of_host host past) s
StepDue script start firsts (Server server) past s =
    ServerDue script start server (steps_of_server server past) (doings_of (firsts server) server past) s

-- in each step of a journal what is due is done
pub record IsDutiful (script : Script) (journal : Journal) : Type 0 where
  pub start : Tree
  pub starts : journal.start ≡ start ∷ []
  pub steps : Always (λ before s. StepDue script start (firsts_of journal) s.node before s) (past_of journal)

-- the run is ended: each host is done, each server's lines have gone, and each host that a server knows is away
pub record IsEnded (script : Script) (journal : Journal) : Type 0 where
  pub hosts : (host : HostId) → TakesPart script (Host host) → HostIsDone script host (past_of journal)
  pub lines : (server : ServerId) → In server (servers_of script.roster)
      → lines_gone (steps_of_server server (past_of journal)) ≡ length (lines_of script (Server server))
  pub servers : (server : ServerId) (host : HostId) → In server (servers_of script.roster)
      → let past =
      doings_of (firsts_of journal server) server (past_of journal) in Listed past host → HasGoneAway past host
