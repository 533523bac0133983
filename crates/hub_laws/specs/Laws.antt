-- What the board makes of a run whose nodes keep to what they are given.
use Rattle.std.specs.List.{count_by}
use Rattle.std.specs.Prelude.{Bool, List, Option, Some, [], false, map, true, ℕ, ◌&&◌, ◌++◌, ◌∷◌, ◌≡◌, ◌≤◌}
use Rattle.base_types.specs.declared.ids.Node.{Node}
use Rattle.base_types.specs.declared.ids.Node.TheVariants.{Host, Server}
use Rattle.base_types.specs.declared.ids.ServerId.{ServerId}
use Rattle.tree_answers.specs.declared.tree.Tree.{Tree}
use Rattle.message_types.specs.Soundness.{IsSound}
use Rattle.message_types.specs.declared.message.Message.{Message}
use Rattle.script_lines.specs.Sound.{same_node}
use Rattle.script_lines.specs.declared.script.Deed.TheVariants.{Await}
use Rattle.script_lines.specs.declared.script.Line.{Line}
use Rattle.script_lines.specs.declared.script.Script.{Script}
use Rattle.hub_board.specs.Hubs.{AreGiven, Hubbed, after as after_turns, first_hub, has_ended, may_begin, with_steps}
use Rattle.hub_board.specs.Hubs.{with_turn}
use Rattle.hub_board.specs.declared.given.Gift.{Gift}
use Rattle.hub_board.specs.declared.given.Gift.TheVariants.{Begun}
use Rattle.hub_board.specs.Turning.{steps_of}
use Rattle.hub_board.specs.declared.given.Given.TheVariants.{Message as Came}
use Rattle.hub_board.specs.declared.given.Turn.{Turn}
use Rattle.run_rules.specs.Past.{Always}
use Rattle.run_rules.specs.Plans.{IsPlanned, due_first}
use Rattle.run_rules.specs.Runs.{CameToHost, CameToServer, IsLine, IsRaised, firsts_of, past_of}
use Rattle.run_rules.specs.declared.journal.Journal.{Journal}
use Rattle.run_rules.specs.declared.step.Cause.TheVariants.{Line as LineOf}
use Rattle.run_rules.specs.declared.step.Step.{Step}
use Rattle.hub_laws.specs.Keeping.{NodeKeeps, gave}

-- lapses are due at the start where the start tree says so, and nowhere else
abbrev pub AreDue : List Tree → List ServerId → Type 0
AreDue start rooms = (node : Node) → count_by (λ due. same_node due node) (map Server rooms) ≤ due_first start node

-- A run at a board: each turn gave what there was, the journal has the steps of the turns, and each node keeps to what
-- it is given.
pub record IsKept (script : Script) (rooms : List ServerId) (turns : List Turn) (journal : Journal) : Type 0 where
  pub given : AreGiven (first_hub script rooms) turns
  pub steps : journal.steps ≡ steps_of turns
  pub due : AreDue journal.start rooms
  pub nodes : (node : Node) → NodeKeeps script (first_hub script rooms) turns node

-- its journal keeps to the plan of the script
abbrev pub KeptIsPlanned : Type 0
KeptIsPlanned = (script : Script) (rooms : List ServerId) (turns : List Turn) (journal : Journal)
    → IsKept script rooms turns journal → IsPlanned script journal

-- the cause of each step was sent before, to its node
abbrev pub CauseSent : (ServerId → ℕ) → Node → List Step → Step → Type 0
CauseSent firsts (Host host) past s = CameToHost firsts host past s
CauseSent firsts (Server server) past s = CameToServer server past s

abbrev pub KeptIsSent : Type 0
KeptIsSent = (script : Script) (rooms : List ServerId) (turns : List Turn) (journal : Journal)
    → IsKept script rooms turns journal
    → Always (λ before s. CauseSent (firsts_of journal) s.node before s) (past_of journal)

-- each message that a turn gives is sound
abbrev pub GivesSound : Script → Hubbed → List Turn → Type 0
GivesSound script hub [] = Unit {0}
GivesSound script hub (t ∷ turns) =
    ((m : Message) → gave hub t ≡ Some (Came m) → IsSound script.roster m) × GivesSound script (with_turn hub t) turns

abbrev pub KeptIsSound : Type 0
KeptIsSound = (script : Script) (rooms : List ServerId) (turns : List Turn) (journal : Journal)
    → IsKept script rooms turns journal → GivesSound script (first_hub script rooms) turns

-- a step that passes an `await` stands after one that raised the flag
abbrev pub AwaitIsMet : Script → List Step → Step → Type 0
AwaitIsMet script past s = (n : ℕ) (line : Line) (flag : List ℕ) → s.cause ≡ LineOf n → IsLine script s.node n line
    → line.deed ≡ Await flag → IsRaised script past flag

abbrev pub KeptIsMet : Type 0
KeptIsMet = (script : Script) (rooms : List ServerId) (turns : List Turn) (journal : Journal)
    → IsKept script rooms turns journal → Always (AwaitIsMet script) (past_of journal)

-- a node is told that the setup host has ended
abbrev pub is_begun : Option Gift → Bool
is_begun (Some Begun) = true
is_begun _ = false

-- Each host is told so once at most, and no other node ever; and then it has ended.
pub record IsBegun (first : Hubbed) (turns : List Turn) : Type 0 where
  pub once : (node : Node) → count_by (λ t. same_node t.node node && is_begun t.gift) turns ≤ 1
  pub ended : (earlier later : List Turn) (t : Turn) → turns ≡ earlier ++ t ∷ later → is_begun t.gift ≡ true
      → (may_begin t.node ≡ true) × (has_ended (with_steps (after_turns first earlier) t.node t.steps) ≡ true)

abbrev pub GivenIsBegun : Type 0
GivenIsBegun = (first : Hubbed) (turns : List Turn) → AreGiven first turns → IsBegun first turns
