use Rattle.std.proofs.Common.{◌≡◌}
use Rattle.std.specs.List.{list_any}
use Rattle.host_gives.specs.Leavings.{is_leaving, leaving_in}
use Rattle.host_gives.proofs.leavings.Leavings.has.Given as goal

-- a token is among those that are left where it is among all
abbrev pub invariant-loop-tokens : goal.invariant-loop-tokens
invariant-loop-tokens l =
    (goal.iterator-loop-tokens).can_next l.gives × (goal.iterator-loop-tokens).is_finite l.gives
    × (list_any (is_leaving l.id) (leaving_in l.gives) ≡ list_any (is_leaving l.id) l.self)
