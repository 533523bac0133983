use Rattle.std.proofs.Common.{◌≡◌, map, take}
use Rattle.std.specs.List.{filter}
use Rattle.run_rules.specs.Steps.{is_node}
use Rattle.script_lines.specs.declared.script.Line.{Line}
use Rattle.hub_node.proofs.lines.lines_among.Given as goal

abbrev pub invariant-loop-line : goal.invariant-loop-line
invariant-loop-line l =
    map (λ line. line.now) l.lines.items ≡ filter (λ (line : Line). is_node l.node line.node) (take l.line-index l.all)
