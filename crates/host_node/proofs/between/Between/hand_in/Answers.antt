use Rattle.std.proofs.Common.{◌≡◌, ◌++◌, ◌∙◌, List, [], ap, sym}
use Rattle.std.proofs.lemmas.List.{append-nil}
use Rattle.host_node.proofs.Waiting.{none_kept, none_waits}
use Rattle.run_rules.specs.declared.step.Step.{Step}
use Rattle.host_manager.specs.Spoken.{tables_of}
use Rattle.host_node.proofs.between.Between.hand_in.Goals as goal

pub returns-then-is_empty-clause-handed : goal.returns-then-is_empty-clause-handed
returns-then-is_empty-clause-handed c = λ waiting kept.
    let none = c.is_empty.ensures c.if-is_empty.true in
    let b = c.args.self.now in
    let is : waiting ≡ [] =
    none_waits c.args.lines.now.lines (tables_of c.args.manager.now).host waiting b.steps.items b.entries.items
    b.spelled
    none.0 none.1 kept in
    sym (ap (λ (l : List Step). c.args.steps.now.steps ++ l) is ∙ append-nil c.args.steps.now.steps)

pub returns-then-is_empty-clause-none : goal.returns-then-is_empty-clause-none
returns-then-is_empty-clause-none c = λ host.
    let none = c.is_empty.ensures c.if-is_empty.true in
    none_kept c.args.lines.now.lines host [] _ _ _ none.0 none.1 none.2
