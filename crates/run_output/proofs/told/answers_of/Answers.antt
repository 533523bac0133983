use Rattle.std.proofs.Common.{◌≡◌, ◌++◌, ◌+◌, ◌-◌, ◌∙◌, List, ap, arith, suc}
use Rattle.base_types.specs.declared.limits.TheConstants.{HOSTS_MAX}
use Rattle.script_lines.specs.Asks.{call_lines}
use Rattle.script_output.specs.Reports.{answers_of, answers_to}
use Rattle.script_output.specs.declared.report.Answer.{Answer as Told}
use Rattle.run_rules.specs.Runs.{history_of}
use Rattle.run_output.proofs.Sorting.{next_host}
use Rattle.run_output.proofs.told.answers_of.Goals as goal

pub loop-host-preserved : goal.loop-host-preserved
loop-host-preserved c =
    let script = c.args.script.now in
    let history = history_of c.args.steps.now in
    let host = c.loop-host.host in
    let left : HOSTS_MAX + 1 - host ≡ suc (HOSTS_MAX + 1 - (host + 1)) = omega (arith, c.loop-host-test.true) in
    next_host (answers_to script history) host (HOSTS_MAX + 1 - host) (HOSTS_MAX + 1 - (host + 1)) c.loop-host.answers c.push_host.new.answers
    (answers_of script history) left
    (c.in_ok-push_host.ensures ∙ ap (λ (told : List Told). c.loop-host.answers ++ told) (c.in_ok-sorted.ensures host (call_lines script host)))
    c.loop-host.invariant
