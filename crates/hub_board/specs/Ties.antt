-- What the setup host has with each server: whether it has ended is told by it.
use Rattle.std.specs.Prelude.{Bool, List, [], false, true, ◌∷◌}
use Rattle.base_types.specs.Lists.{changed_at}
use Rattle.message_types.specs.declared.message.Body.{Body}
use Rattle.message_types.specs.declared.message.Body.TheVariants.{Hello, Bye}
use Rattle.message_types.specs.declared.message.Message.{Message}
use Rattle.run_rules.specs.declared.step.Cause.{Cause}
use Rattle.run_rules.specs.declared.step.Cause.TheVariants.{Message as Came}
use Rattle.hub_board.specs.declared.tie.Tie.{Tie}
use Rattle.hub_board.specs.declared.tie.Tie.TheVariants.{Apart, Greeted, Parted}

-- by the numbers of the servers, from 0
abbrev pub no_ties : List Tie
no_ties = Apart ∷ Apart ∷ Apart ∷ Apart ∷ Apart ∷ []

abbrev pub greeted : Tie → Tie
greeted Apart = Greeted
greeted tie = tie

abbrev pub parted : Tie → Tie
parted tie = Parted

-- it owes no Bye
abbrev pub is_loose : Tie → Bool
is_loose Greeted = false
is_loose _ = true

abbrev pub sent_body : Body → List Tie → Message → List Tie
sent_body Hello ties m = changed_at ties m.server.0 greeted
sent_body _ ties m = ties

abbrev pub with_sent : List Tie → Message → List Tie
with_sent ties m = sent_body m.body ties m

abbrev pub came_body : Body → List Tie → Message → List Tie
came_body Bye ties m = changed_at ties m.server.0 parted
came_body _ ties m = ties

abbrev pub with_cause : List Tie → Cause → List Tie
with_cause ties (Came m) = came_body m.body ties m
with_cause ties _ = ties

abbrev pub with_all_sent : List Tie → List Message → List Tie
with_all_sent ties [] = ties
with_all_sent ties (m ∷ ms) = with_all_sent (with_sent ties m) ms
