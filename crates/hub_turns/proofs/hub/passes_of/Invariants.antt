use Rattle.std.proofs.Common.{◌≡◌, ◌+◌, [], map, take}
use Rattle.hub_turns.specs.Meetings.{first_pass}
use Rattle.hub_turns.proofs.hub.passes_of.Given as goal

abbrev pub invariant-loop-place : goal.invariant-loop-place
invariant-loop-place l =
    (l.first.cell ≡ l.cell.id) × (l.first.seen ≡ []) × (l.first.made ≡ []) × (l.first.spare + l.place ≡ l.last)
    × (l.passes.items ≡ map (first_pass l.cell.id) (take l.place l.nodes))
