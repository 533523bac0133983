-- The beginning of a small run, as turns at a board.
use Rattle.std.specs.Prelude.{List, None, Option, Some, [], ◌∷◌}
use Rattle.base_types.specs.declared.ids.Node.{Node}
use Rattle.base_types.specs.declared.ids.Node.TheVariants.{Host, Server}
use Rattle.hub_board.specs.declared.given.Gift.{Gift}
use Rattle.hub_board.specs.declared.given.Gift.TheVariants.{Begun, Message}
use Rattle.hub_board.specs.declared.given.Turn.{Turn}
use Rattle.run_tokens.specs.JournalWorked.{start}
use Rattle.run_rules.specs.declared.journal.Journal.{Journal}
use Rattle.run_tokens.specs.Worked.{client, greets, site_one, welcomes}
use Rattle.run_rules.specs.declared.step.Step.{Step}

abbrev pub turn : Node → List Step → Option Gift → Turn
turn node steps gift = record { node = node; steps = steps; gift = gift }

-- a host is told that the setup host has ended, and greets a server; the server gets that and welcomes it
abbrev pub turns : List Turn
turns =
    turn (Host client) [] (Some Begun)
    ∷ turn (Host client) (greets ∷ []) None
    ∷ turn (Server site_one) [] (Some Message)
    ∷ turn (Server site_one) (welcomes ∷ []) None
    ∷ turn (Host client) [] (Some Message)
    ∷ []

abbrev pub journal : Journal
journal = record { start = start ∷ []; epochs = 1 ∷ []; steps = greets ∷ welcomes ∷ [] }
