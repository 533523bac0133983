use Rattle.std.proofs.Common.{ap, ◌∙◌}
use Rattle.tree_answers.specs.Histories.{after_history}
use Rattle.tree_saving.specs.Saving.{downs_from}
use Rattle.tree_saving.proofs.Downs.{downs_all}
use Rattle.tree_saving.proofs.saving.down_all.Goals as goal

pub returns : goal.returns
returns c =
    downs_all c.args.host c.args.tree.now _ _ (c.in_ok-entries.ensures ∙ ap (λ n. downs_from c.args.host 1 n) c.len-servers.ensures)
    (c.in_ok-follow.ensures ∙ ap (λ entries. after_history c.args.tree.now entries) c.as_slice.ensures) c.requires.formed c.requires.apart
