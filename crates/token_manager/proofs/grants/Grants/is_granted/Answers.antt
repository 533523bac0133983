use Rattle.std.proofs.Common.{is_some, ap, sym, ◌∙◌}
use Rattle.token_types.specs.Conflicts.{same_id}
use Rattle.token_table.proofs.Nearby.{copied_some}
use Rattle.token_table.proofs.Sound.{found_any}
use Rattle.token_manager.proofs.grants.Grants.is_granted.Goals as goal

pub returns : goal.returns
returns c =
    c.is_some.ensures ∙ sym (copied_some c.get.result) ∙ ap is_some c.get.ensures
    ∙ found_any (λ token. same_id token.id c.args.id) c.args.self.now.table.tokens
