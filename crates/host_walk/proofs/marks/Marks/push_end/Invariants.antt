use Rattle.std.proofs.Common.{◌≡◌, ◌∷◌, ◌++◌, take}
use Rattle.host_walk.specs.Trying.{status_need}
use Rattle.host_walk.proofs.marks.Marks.push_end.Given as goal

-- the status and the needs so far
abbrev pub invariant-loop-need : goal.invariant-loop-need
invariant-loop-need l = l.self ≡ l.fn.self ++ status_need l.fn.at ∷ take l.need-index l.needs
