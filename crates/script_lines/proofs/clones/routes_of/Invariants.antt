use Rattle.std.proofs.Common.{◌≡◌, ◌++◌, drop, map}
use Rattle.script_lines.specs.Ways.{route_of}
use Rattle.script_lines.proofs.clones.routes_of.Given as goal

abbrev pub invariant-loop-clone : goal.invariant-loop-clone
invariant-loop-clone l = l.routes ++ map (route_of l.placed l.clones) (drop l.clone-index l.clones) ≡ map (route_of l.placed l.clones) l.clones
