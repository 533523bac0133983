use Rattle.std.proofs.Common.{◌≡◌, drop, length}
use Rattle.script_lines.specs.Ways.{stage_from, unknown}
use Rattle.script_lines.proofs.clones.stage.Given as goal

abbrev pub invariant-loop-route : goal.invariant-loop-route
invariant-loop-route l = stage_from l.old l.table (drop l.route-index l.routes) ≡ stage_from l.old (unknown (length l.routes)) l.routes
