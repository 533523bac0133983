use Rattle.std.proofs.lemmas.Result.{on_ok_weaker}
use Rattle.std.proofs.Common.{[], subst}
use Rattle.std.specs.Prelude.{Option}
use Rattle.tree_calls.specs.declared.part.Status.{Status}
use Rattle.message_types.specs.Soundness.{IsTold}
use Rattle.server_decides.specs.Sending.{empty_made}
use Rattle.server_decides.proofs.Parts.{grant_told, made_same, none_told}
use Rattle.server_decides.proofs.Saying.{empty_says, made_says}
use Rattle.server_decides.proofs.sending.send_grant.Goals as goal

pub returns-in-Some-clause-made : goal.returns-in-Some-clause-made
returns-in-Some-clause-made g c tells p place =
    let x = c.args.tables.now in
    let d = c.args.draft.now in
    let st = (g.S.Store.view c.args.keeper.now.store).state in
    let later = (g.S.Store.view c.status.new.self.store).state in
    on_ok_weaker c.send_tokens.result (λ m. made_same x d x d c.send_tokens.new.tables c.send_tokens.new.draft _ _
    (grant_told x d c.args.at p c.args.fetch.now st later _ c.in-Some.status
    (c.in_ok-status.ensures.asked.state tells) (c.in_ok-status.ensures.status tells) c.in-Some.is) m)
    (c.send_tokens.ensures.made tells p place)

pub returns-in_ok-send_none-in-None-clause-made : goal.returns-in_ok-send_none-in-None-clause-made
returns-in_ok-send_none-in-None-clause-made g c tells p place =
    let x = c.args.tables.now in
    let d = c.args.draft.now in
    let st = (g.S.Store.view c.args.keeper.now.store).state in
    made_same x d x d c.send_none.new.tables c.send_none.new.draft _ _
    (none_told x d c.args.at p c.args.fetch.now st _ (c.in_ok-status.ensures.status tells) c.in-None.is)
    (c.in_ok-send_none-in-None.ensures.made p place)

pub returns-in-Some-clause-says : goal.returns-in-Some-clause-says
returns-in-Some-clause-says g c p place may =
    c.send_tokens.ensures.says p place may
    (subst (λ (o : Option Status). IsTold o [] []) c.in-Some.is c.in_ok-status.ensures.sound)

pub returns-in_ok-send_none-in-None-clause-says : goal.returns-in_ok-send_none-in-None-clause-says
returns-in_ok-send_none-in-None-clause-says g c p place may =
    let x = c.args.tables.now in
    let d = c.args.draft.now in
    made_says x d c.send_none.new.tables c.send_none.new.draft (empty_made x d c.args.at p c.args.fetch.now)
    (c.in_ok-send_none-in-None.ensures.made p place) (empty_says x d c.args.at p c.args.fetch.now may)
