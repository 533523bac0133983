use Rattle.std.proofs.Common.{None, sym, ap, ◌∙◌, subst}
use Rattle.base_types.specs.declared.ids.Node.TheVariants.{Host}
use Rattle.host_node.proofs.Turns.{fresh}
use Rattle.host_node.specs.Standing.{IsPlayable}
use Rattle.run_rules.specs.Steps.{lines_of}
use Rattle.script_lines.specs.declared.script.Script.{Script}
use Rattle.host_node.proofs.host.HostNode.new.Goals as goal

pub returns-in-Ok : goal.returns-in-Ok
returns-in-Ok c = λ run is script.
    fresh run c.args.host c.in-Ok.manager c.new-between.result c.in_ok-lines.lines c.is_setup-begun.result
    (subst IsPlayable (sym is) script) c.in-Ok.ensures.host
    (c.in-Ok.ensures.rests run.script (ap (λ (s : Script). s.roster) is))
    (c.in_ok-lines.ensures
    ∙ ap (λ (s : Script). record { lines = lines_of s (Host c.args.host); gone = 0; told = None }) (sym is))
    c.is_setup-begun.ensures (c.new-between.ensures c.in_ok-lines.lines.lines c.args.host)
