-- What nodes keep to at the board, each by its own turns alone.
use Rattle.std.specs.Prelude.{List, Option, Some, Bool, [], false, if◌then◌else◌, true, ℕ, ◌++◌, ◌+◌, ◌∷◌, ◌≡◌, ◌≤◌}
use Rattle.base_types.specs.declared.ids.Node.{Node}
use Rattle.message_types.specs.declared.message.Message.{Message}
use Rattle.message_types.specs.Soundness.{IsSound}
use Rattle.script_lines.specs.Sound.{same_node}
use Rattle.script_lines.specs.declared.script.Deed.TheVariants.{Await, Restart as RestartLine}
use Rattle.script_lines.specs.declared.script.Line.{Line}
use Rattle.script_lines.specs.declared.script.Script.{Script}
use Rattle.run_rules.specs.Past.{EachInTurn, In, appended}
use Rattle.run_rules.specs.Runs.{IsFrom, IsLine}
use Rattle.run_rules.specs.Steps.{IsNextLine, lines_of}
use Rattle.run_rules.specs.declared.step.Cause.{Cause}
use Rattle.run_rules.specs.declared.step.Cause.TheVariants.{Line as LineOf, Restart, Message as CameBy}
use Rattle.run_rules.specs.declared.step.Cause.TheVariants.{Lapse as LapsesBy}
use Rattle.run_rules.specs.declared.step.Step.{Step}
use Rattle.hub_board.specs.Hubs.{Hubbed, given_of, with_steps, with_turn}
use Rattle.hub_board.specs.declared.given.Given.{Given}
use Rattle.hub_board.specs.declared.given.Given.TheVariants.{Message as Came, Raised as WasRaised, Lapse as Lapsed}
use Rattle.hub_board.specs.declared.given.Turn.{Turn}
use Rattle.hub_laws.specs.Taking.{Embeds}

-- what a turn gave
abbrev pub gave : Hubbed → Turn → Option Given
gave hub t = given_of (with_steps hub t.node t.steps) t.node t.gift

-- a turn as its node knows it: the steps that it handed in, and what it was then given
pub record Round : Type 0 where
  pub steps : List Step
  pub given : Option Given

abbrev pub round_of : Hubbed → Turn → Round
round_of hub t = record { steps = t.steps; given = gave hub t }

-- the turns of a node as it knows them, in order
abbrev pub rounds_of : Hubbed → Node → List Turn → List Round
rounds_of hub node [] = []
rounds_of hub node (t ∷ turns) =
    if same_node t.node node then (round_of hub t ∷ rounds_of (with_turn hub t) node turns)
    else rounds_of (with_turn hub t) node turns

-- From here on rounds and steps have the newest first. The steps of some rounds:
abbrev pub steps_in : List Round → List Step
steps_in [] = []
steps_in (r ∷ past) = appended r.steps (steps_in past)

-- the messages that were given
abbrev pub message_in : Option Given → List Message
message_in (Some (Came m)) = m ∷ []
message_in _ = []

abbrev pub messages_given : List Round → List Message
messages_given [] = []
messages_given (r ∷ past) = message_in r.given ++ messages_given past

-- the messages that are causes of steps
abbrev pub message_of : Cause → List Message
message_of (CameBy m) = m ∷ []
message_of _ = []

abbrev pub messages_taken : List Step → List Message
messages_taken [] = []
messages_taken (s ∷ past) = message_of s.cause ++ messages_taken past

-- how many lapses were given, and how many are causes of steps
abbrev pub lapse_in : Option Given → ℕ
lapse_in (Some Lapsed) = 1
lapse_in _ = 0

abbrev pub lapses_given : List Round → ℕ
lapses_given [] = 0
lapses_given (r ∷ past) = lapse_in r.given + lapses_given past

abbrev pub is_lapse : Cause → Bool
is_lapse LapsesBy = true
is_lapse _ = false

abbrev pub lapses_taken : List Step → ℕ
lapses_taken [] = 0
lapses_taken (s ∷ past) = (if is_lapse s.cause then 1 else 0) + lapses_taken past

-- a line that goes in a step is the next one; `restart` goes by itself
pub record LineGoes (lines : List Line) (own : List Step) (s : Step) : Type 0 where
  pub line : (n : ℕ) → s.cause ≡ LineOf n → (line : Line) × IsNextLine lines own n line
  pub restart : (n : ℕ) → s.cause ≡ Restart n
      → (line : Line) × IsNextLine lines own n line × (line.deed ≡ RestartLine)

-- the node was told that a flag was raised
abbrev pub WasTold : List Round → List ℕ → Type 0
WasTold past flag = (r : Round) × In r past × (r.given ≡ Some (WasRaised flag))

-- What a node keeps to when it hands steps in: they are its own; its lines go in order, and one that awaits a flag only
-- after the node was told of it; what it sends is its own, and sound; the messages that are causes of its steps so far
-- are some of those that it was given in its earlier turns, each as often at most; and so are lapses.
pub record Keeps (script : Script) (node : Node) (past : List Round) (now : Round) : Type 0 where
  pub own : (s : Step) → In s now.steps → s.node ≡ node
  pub lines : EachInTurn (LineGoes (lines_of script node)) now.steps (steps_in past)
  pub awaits : (s : Step) → In s now.steps → (n : ℕ) (line : Line) (flag : List ℕ) → s.cause ≡ LineOf n
      → IsLine script node n line → line.deed ≡ Await flag → WasTold past flag
  pub sends : (s : Step) → In s now.steps → (m : Message) → In m s.sent → IsFrom node m × IsSound script.roster m
  pub messages : Embeds (messages_taken (steps_in (now ∷ past))) (messages_given past)
  pub lapses : lapses_taken (steps_in (now ∷ past)) ≤ lapses_given past

-- it does so in all its turns
abbrev pub NodeKeeps : Script → Hubbed → List Turn → Node → Type 0
NodeKeeps script first turns node = EachInTurn (Keeps script node) (rounds_of first node turns) []
