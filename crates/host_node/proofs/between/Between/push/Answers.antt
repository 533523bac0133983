use Rattle.std.proofs.Common.{◌++◌, ◌∷◌, List, [], ap, ◌∙◌}
use Rattle.host_node.proofs.Turns.{on_both}
use Rattle.host_node.proofs.Waiting.{none_kept}
use Rattle.host_manager.specs.Spoken.{tables_of}
use Rattle.run_rules.specs.declared.step.Step.{Step}
use Rattle.host_node.proofs.between.Between.push.Goals as goal

pub returns : goal.returns
returns c = λ steps kept.
    on_both c.spell_out-spelled.result _ _ _
    (λ at none. none_kept c.args.lines.now.lines (tables_of c.args.manager.now).host (steps ++ c.args.step ∷ []) _ _ _
    (c.in_ok-push.ensures.items ∙ ap (λ (l : List Step). l ++ c.args.step ∷ []) at) none.0 none.1)
    (c.spell_out-spelled.ensures.steps steps kept) c.spell_out-spelled.ensures.none
