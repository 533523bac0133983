use Rattle.host_manager.proofs.manager.Manager.answer_into.Goals as goal
use Rattle.host_manager.specs.Running.{IsRunning}
use Rattle.host_manager.specs.Spoken.{SpokenRight, tables_of}
use Rattle.host_manager.specs.declared.machine.Machine.{Machine}
use Rattle.host_tells.specs.Spoken.{StaysSilent}
use Rattle.run_rules.specs.declared.step.Step.{Step}
use Rattle.script_lines.specs.declared.script.Script.{Script}
use Rattle.std.proofs.Common.{List, MatchOption, length, subst}

pub returns : goal.returns
returns c =
    let new = tables_of c.answer_again.new.self in
    subst (λ (m : Machine). (script : Script) (past : List Step) → IsRunning script (tables_of m) past
    → MatchOption c.answer_again.result (StaysSilent (tables_of m) new c.args.call.now (length c.args.out.now))
    (λ count. SpokenRight (tables_of m) new c.args.call.now c.answer_again.new.out count)) c.self.view_is
    c.answer_again.ensures.told
