use Rattle.std.proofs.Common.{◌≡◌, map, take}
use Rattle.hub_node.proofs.lines.each_of.Given as goal

abbrev pub invariant-loop-line : goal.invariant-loop-line
invariant-loop-line l = map (λ line. line.now) l.lines.items ≡ take l.line-index l.all
