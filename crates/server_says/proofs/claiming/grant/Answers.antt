use Rattle.std.proofs.Common.{◌∙◌, List, sym, ap, subst}
use Rattle.std.specs.Prelude.{All}
use Rattle.std.proofs.lemmas.Result.{on_ok_weaker}
use Rattle.run_rules.specs.declared.applied.Admission.{Admission}
use Rattle.token_manager.specs.Grants.{CanClaim}
use Rattle.token_manager.specs.Managers.{Manager, after_admit}
use Rattle.token_types.specs.declared.token.Token.{Token}
use Rattle.server_says.proofs.claiming.grant.Goals as goal

pub admit-requires : goal.admit-requires
admit-requires c =
    subst (λ (ts : List Token). All (CanClaim c.args.tables.now.tokens.grants) ts) (sym c.as_slice.ensures)
    c.requires.can

pub returns-clause-tables : goal.returns-clause-tables
returns-clause-tables c =
    let x = c.args.tables.now in
    on_ok_weaker c.push.result
    (λ e. ap (λ (m : Manager). record x { tokens = m })
    (c.in_ok-admit.ensures.after ∙ ap (λ (ts : List Token). after_admit x.tokens ts) c.as_slice.ensures))
    c.push.ensures.ok

pub returns-clause-draft : goal.returns-clause-draft
returns-clause-draft c =
    on_ok_weaker c.push.result (λ e. ap (λ (l : List Admission). record c.args.draft.now { admitted = l }) e)
    c.push.ensures.ok
