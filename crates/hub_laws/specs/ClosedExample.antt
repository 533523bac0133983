-- A small run, as it stands at a hub that was closed.
use Rattle.std.specs.Prelude.{List, [], map}
use Rattle.base_types.specs.declared.ids.Node.{Node}
use Rattle.hub_cell.specs.Passes.{TableId}
use Rattle.hub_board.specs.Hubs.{first_hub, nodes_of}
use Rattle.hub_turns.specs.Meetings.{turns_of}
use Rattle.hub_turns.specs.Views.{HubView, NodeView}
use Rattle.run_tokens.specs.JournalWorked.{script}
use Rattle.hub_laws.specs.Example.{journal, turns}
use Rattle.hub_laws.specs.Closings.{IsClosed}

abbrev pub hub : TableId → HubView
hub id = record { id = id; nodes = 3; first = first_hub script []; roster = script.roster }

-- each pass has seen all turns, and its node's were made through it
abbrev pub pass : TableId → Node → NodeView
pass id node = record { node = node; hub = id; seen = turns; made = turns_of node turns }

abbrev pub passes : TableId → List NodeView
passes id = map (pass id) (nodes_of script)

-- it was closed with its passes, and all nodes have kept to what they were given
abbrev pub ExampleIsClosed : Type 0
ExampleIsClosed = (id : TableId) → IsClosed script [] (hub id) turns (passes id) journal
