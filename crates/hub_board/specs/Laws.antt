-- What a turn leaves is what all turns have come to.
use Rattle.std.specs.Prelude.{List, Option}
use Rattle.base_types.specs.declared.ids.Node.{Node}
use Rattle.run_rules.specs.declared.step.Step.{Step}
use Rattle.hub_board.specs.Hubs.{Hubbed}
use Rattle.hub_board.specs.Turning.{HasTurned, IsOf, Posted}
use Rattle.hub_board.specs.declared.given.Given.{Given}

abbrev pub GoesOn : Type 0
GoesOn = (first : Hubbed) (before now : Posted) (node : Node) (steps : List Step) (given : Option Given)
    → IsOf first before → HasTurned before now node steps given → IsOf first now
