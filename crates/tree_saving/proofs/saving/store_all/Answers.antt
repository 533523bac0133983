use Rattle.std.proofs.Common.{ap, ◌∙◌}
use Rattle.tree_answers.specs.Histories.{after_history}
use Rattle.tree_saving.proofs.Reached.{stores_all}
use Rattle.tree_saving.proofs.saving.store_all.Goals as goal

pub returns : goal.returns
returns c =
    stores_all c.args.host c.args.tree.now _ _ c.in_ok-entries.ensures (c.in_ok-follow.ensures ∙ ap (λ entries. after_history c.args.tree.now entries) c.as_slice.ensures) c.requires.formed c.requires.apart
