-- When nothing more can happen in a run: what was sent has come, no lapse is due, and no line, eviction or end can go.
use Rattle.std.specs.Prelude.{List, drop, filter, length, ℕ, [], ◌∷◌, ◌≡◌, ◌≢◌, ◌⊎◌}
use Rattle.base_types.specs.declared.ids.HostId.{HostId}
use Rattle.base_types.specs.declared.ids.Node.{Node}
use Rattle.base_types.specs.declared.ids.Node.TheVariants.{Host, Server}
use Rattle.base_types.specs.declared.ids.ServerId.{ServerId}
use Rattle.tree_answers.specs.declared.tree.Tree.{Tree}
use Rattle.token_types.specs.declared.token.Token.{Token}
use Rattle.script_lines.specs.declared.script.Deed.TheVariants.{Await}
use Rattle.script_lines.specs.declared.script.Line.{Line}
use Rattle.script_lines.specs.declared.script.Script.{Script}
use Rattle.message_types.specs.declared.giving.Give.{Give}
use Rattle.message_types.specs.declared.message.Body.TheVariants.{Bye}
use Rattle.message_types.specs.declared.message.Message.{Message}
use Rattle.run_rules.specs.Doings.{Doing, Reserved, doings_of}
use Rattle.run_rules.specs.Doings.Doing.{Flushes}
use Rattle.run_rules.specs.HostTokens.{MayEvict}
use Rattle.run_rules.specs.Kept.{filesets_kept}
use Rattle.run_rules.specs.Messages.{HasGreeted, HasSaid, HasStopped}
use Rattle.run_rules.specs.Past.{In, appended}
use Rattle.run_rules.specs.Plans.{MayCome, Posting, posted, receiver, resender, sent_in, ways_in}
use Rattle.run_rules.specs.Runs.{HostIsDone, IsRaised, TakesPart, firsts_of, past_of}
use Rattle.run_rules.specs.ServerDue.{HasDecided}
use Rattle.run_rules.specs.Steps.{IsNextLine, bare, is_node, limit_of, lines_gone, lines_of, setup, steps_of_host}
use Rattle.run_rules.specs.Steps.{steps_of_server}
use Rattle.run_rules.specs.Tokens.{Held, IsKnown, LabelInUse, Made, NoneOpen}
use Rattle.run_rules.specs.declared.fate.Fate.TheVariants.{Lost as IsLost}
use Rattle.run_rules.specs.declared.fate.Way.{Way}
use Rattle.run_rules.specs.declared.fate.Way.TheVariants.{Held as IsHeld}
use Rattle.run_rules.specs.declared.journal.Journal.{Journal}
use Rattle.run_rules.specs.declared.step.Cause.TheVariants.{Flushed, Lapse, Message as Came}
use Rattle.run_rules.specs.declared.step.Labelled.{Labelled}
use Rattle.run_rules.specs.declared.step.Step.{Step}

-- # What was sent. `past` is the run before a step, `later` is the run after it, the oldest step first.

-- the messages that a step sends, each with what becomes of it
abbrev pub posted_by : Script → List Step → Step → List Posting
posted_by script past s = drop (length (sent_in past)) (posted script (sent_in (s ∷ past)))

-- a later step takes the message
abbrev pub IsTakenIn : List Step → Message → Type 0
IsTakenIn later m = (t : Step) × In t later × (t.cause ≡ Came m)

-- a later step is a lapse of the node
abbrev pub LapsesIn : List Step → Node → Type 0
LapsesIn later node = (t : Step) × In t later × (t.node ≡ node) × (t.cause ≡ Lapse)

-- a host that has stopped takes nothing any more
abbrev pub IsStopped : List Step → Node → Type 0
IsStopped run (Host host) = HasStopped (steps_of_host host run)
IsStopped run (Server server) = ⊥

-- Nothing more comes of a message: each copy that may come was taken; where it was lost, the node that sends again has
-- had a lapse; but for hosts that have stopped.
pub record IsOver (script : Script) (run later : List Step) (p : Posting) : Type 0 where
  pub taken : (way : Way) → In way (ways_in p.fate) → MayCome script run way
      → IsTakenIn later p.message ⊎ IsStopped run (receiver p.message)
  pub lapsed : p.fate ≡ IsLost → LapsesIn later (resender p.message) ⊎ IsStopped run (resender p.message)

-- it is so of each message that was sent
abbrev pub AllIsOver : Script → List Step → Type 0
AllIsOver script run = (past later : List Step) (s : Step) (p : Posting) → appended (s ∷ later) past ≡ run
    → In p (posted_by script past s) → IsOver script run later p

-- no message waits for a flag any more
abbrev pub NoneIsHeld : Script → List Step → Type 0
NoneIsHeld script run = (past later : List Step) (s : Step) (p : Posting) (flag : List ℕ)
    → appended (s ∷ later) past ≡ run → In p (posted_by script past s) → In (IsHeld flag) (ways_in p.fate)
    → IsRaised script run flag

-- # What nodes may do by themselves. `past` is the host's own steps.

-- a host may go on with its lines: it hasn't stopped, no call is open, and it has no token to evict
pub record IsFree (script : Script) (host : HostId) (past : List Step) : Type 0 where
  pub live : HasStopped past → ⊥
  pub none_open : NoneOpen past
  pub none_left : MayEvict past (limit_of script.roster host) → ⊥

-- the node's next line may go: a host is free, and waits for the setup host; what the line awaits is raised
pub record LineCanGo (script : Script) (run past : List Step) (node : Node) (line : Line) : Type 0 where
  pub next : IsNextLine (lines_of script node) past line.number line
  pub met : (flag : List ℕ) → line.deed ≡ Await flag → IsRaised script run flag
  pub free : (host : HostId) → node ≡ Host host
      → IsFree script host past × (host ≢ setup → HostIsDone script setup run)

-- a host has something to end yet: a label, a token, or where all that is given back is known as applied its stay with
-- a server that it greeted
abbrev pub HasToEnd : List Step → Type 0
HasToEnd past = ((usage : Labelled) × LabelInUse past usage)
    ⊎ (((token : Token) × Held past token)
    ⊎ (((give : Give) → Made past give → IsKnown past give)
    × ((server : ServerId) × HasGreeted past server × (HasSaid past server Bye → ⊥))))

-- it may end that: its lines have gone
pub record CanEnd (script : Script) (host : HostId) (past : List Step) : Type 0 where
  pub gone : lines_gone past ≡ length (lines_of script (Host host))
  pub free : IsFree script host past
  pub left : HasToEnd past

-- A flush would do nothing at a server: its exporter keeps no token, and on these kept filesets nothing is left to
-- decide.
pub record ServerRests (server : ServerId) (tree : Tree) (past : List Doing) : Type 0 where
  pub flushed : (token : Token) → Reserved past token → ⊥
  pub decided : HasDecided server tree past (Flushes ∷ past) (bare (Server server) Flushed)

-- # The run rests: no node does anything more by itself

pub record RunRests (script : Script) (journal : Journal) : Type 0 where
  pub lines : (node : Node) (line : Line) → TakesPart script node
      → LineCanGo script (past_of journal) (filter (λ s. is_node s.node node) (past_of journal)) node line → ⊥
  pub evictions : (host : HostId) → TakesPart script (Host host)
      → (HasStopped (steps_of_host host (past_of journal)) → ⊥)
      → MayEvict (steps_of_host host (past_of journal)) (limit_of script.roster host) → ⊥
  pub ends : (host : HostId) → TakesPart script (Host host)
      → CanEnd script host (steps_of_host host (past_of journal)) → ⊥
  pub servers : (start : Tree) (server : ServerId) → journal.start ≡ start ∷ [] → TakesPart script (Server server)
      → ServerRests server (filesets_kept start server (steps_of_server server (past_of journal)))
      (doings_of (firsts_of journal server) server (past_of journal))
