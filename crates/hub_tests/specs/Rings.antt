-- The nodes of the ring.
use Rattle.std.specs.Prelude.{List, length, ◌≡◌}
use Rattle.tree_calls.specs.declared.roster.Roster.{Roster}
use Rattle.run_rules.specs.declared.step.Step.{Step}
use Rattle.hub_turns.specs.Meetings.{AreSent}

-- the setup host, another host and two servers
pub record IsRing (roster : Roster) : Type 0 where
  pub hosts : length roster.hosts ≡ 1
  pub servers : length roster.capacity ≡ 2

-- what these steps send is sound among them
pub record AreHeard (steps : List Step) : Type 0 where
  pub sound : (roster : Roster) → IsRing roster → AreSent roster steps
