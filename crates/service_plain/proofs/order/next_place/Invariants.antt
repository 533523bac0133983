use Rattle.std.proofs.Common.{◌≡◌, filter, drop}
use Rattle.script_lines.specs.Sound.{is_of}
use Rattle.service_plain.proofs.order.next_place.Given as goal

abbrev pub invariant-loop-place : goal.invariant-loop-place
invariant-loop-place l = filter (is_of l.node) (drop l.place l.lines) ≡ filter (is_of l.node) (drop l.from l.lines)
