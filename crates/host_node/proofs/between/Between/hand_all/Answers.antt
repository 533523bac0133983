use Rattle.std.proofs.Common.{◌≡◌, ◌++◌, ◌∙◌, List, [], subst}
use Rattle.std.specs.Prelude.{OnOk}
use Rattle.host_node.proofs.Turns.{on_ok}
use Rattle.host_node.proofs.Waiting.{none_kept}
use Rattle.run_rules.specs.declared.step.Step.{Step}
use Rattle.host_node.proofs.between.Between.hand_all.Goals as goal

pub returns-clause-handed : goal.returns-clause-handed
returns-clause-handed c = λ waiting kept.
    subst (λ (l : List Step). OnOk c.hand_each.result (c.hand_each.new.steps.steps ≡ c.args.steps.now.steps ++ l))
    ((λ i. (c.replace-made.ensures.value i).items) ∙ c.in_ok-spell_out.ensures.steps waiting kept) c.hand_each.ensures

pub returns-clause-none : goal.returns-clause-none
returns-clause-none c = λ host.
    let none = c.in_ok-spell_out.ensures.none in
    on_ok c.hand_each.result _ _
    (λ at. none_kept c.args.lines.now.lines host [] _ _ _
    ((λ i. (c.replace-made.ensures.after i).items) ∙ c.new.ensures.items) none.0 none.1) c.hand_each.ensures
