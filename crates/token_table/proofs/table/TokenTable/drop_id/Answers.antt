use Rattle.std.proofs.Common.{◌∙◌, ap, is_some}
use Rattle.token_types.specs.Conflicts.{same_id}
use Rattle.token_table.specs.Tables.{has_id}
use Rattle.token_table.proofs.Sound.{sound_filter, found_any}
use Rattle.token_table.proofs.table.TokenTable.drop_id.Goals as goal

pub invariant_of-self : goal.invariant_of-self
invariant_of-self c = rw c.drop_id.ensures.after (sound_filter _ _ c.self.invariant)

pub returns-clause-there : goal.returns-clause-there
returns-clause-there c =
    ap is_some c.drop_id.ensures.token ∙ found_any (λ t. same_id t.id c.args.id) c.self.inside.shelf.tokens
    ∙ ap (λ v. has_id v.tokens c.args.id) c.self.view_is
