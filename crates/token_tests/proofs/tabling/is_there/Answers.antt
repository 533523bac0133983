use Rattle.std.proofs.Common.{is_some, ap, ◌∙◌}
use Rattle.token_types.specs.Conflicts.{same_id}
use Rattle.token_tests.proofs.Finding.{some_found}
use Rattle.token_tests.proofs.tabling.is_there.Goals as goal

pub returns-in-Some : goal.returns-in-Some
returns-in-Some c =
    ap is_some c.in-Some.ensures ∙ some_found (λ token. same_id token.id c.args.id) c.args.table.now.tokens

pub returns-in-None : goal.returns-in-None
returns-in-None c =
    ap is_some c.in-None.ensures ∙ some_found (λ token. same_id token.id c.args.id) c.args.table.now.tokens
