-- What the board takes as raised.
use Rattle.std.specs.Prelude.{List, Some, [], ℕ, ◌∷◌, ◌≡◌}
use Rattle.message_types.specs.declared.message.Message.{Message}
use Rattle.script_lines.specs.declared.script.Script.{Script}
use Rattle.run_rules.specs.Past.{In, appended}
use Rattle.run_rules.specs.Plans.{sent_in}
use Rattle.run_rules.specs.Runs.{IsRaised}
use Rattle.run_rules.specs.declared.step.Step.{Step}
use Rattle.hub_board.specs.Hubs.{Hubbed, flags_of, with_turn}
use Rattle.hub_board.specs.declared.given.Given.TheVariants.{Message as Came}
use Rattle.hub_board.specs.declared.given.Turn.{Turn}
use Rattle.hub_laws.specs.Keeping.{gave}

-- each flag that the board takes as raised at a turn was raised by a step of that turn, or earlier
abbrev pub BoardRaises : Script → Hubbed → List Turn → List Step → Type 0
BoardRaises script hub [] past = Unit {0}
BoardRaises script hub (t ∷ turns) past =
    ((flag : List ℕ) → In flag (flags_of hub t.node t.steps) → IsRaised script (appended t.steps past) flag)
    × BoardRaises script (with_turn hub t) turns (appended t.steps past)

-- each message that a turn gives was sent by a step of that turn, or earlier
abbrev pub GivesSent : Hubbed → List Turn → List Step → Type 0
GivesSent hub [] past = Unit {0}
GivesSent hub (t ∷ turns) past =
    ((m : Message) → gave hub t ≡ Some (Came m) → In m (sent_in (appended t.steps past)))
    × GivesSent (with_turn hub t) turns (appended t.steps past)
