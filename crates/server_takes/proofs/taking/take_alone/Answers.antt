use Rattle.std.proofs.Common.{◌≡◌, [], refl, sym, subst}
use Rattle.std.specs.Prelude.{None}
use Rattle.message_types.specs.declared.message.Body.{Body}
use Rattle.server_takes.specs.Taking.{IsRequestTaken}
use Rattle.server_takes.proofs.Bodies.{alone_taken, on_both}
use Rattle.std.proofs.lemmas.Result.{on_ok_weaker}
use Rattle.server_takes.proofs.taking.take_alone.Goals as goal

pub returns-in-Fetch-clause-taken : goal.returns-in-Fetch-clause-taken
returns-in-Fetch-clause-taken c quiet =
    let x = c.args.tables.now in
    let d = c.args.draft.now in
    let host = c.args.message.now.host in
    on_both c.take_fetch.result _ _ _
    (λ p q. subst (λ (b : Body). IsRequestTaken x d host [] None c.take_fetch.new.tables c.take_fetch.new.draft b)
    (sym c.in-Fetch.is)
    (record { tables = p; draft = q })) c.take_fetch.ensures.tables c.take_fetch.ensures.draft

pub returns-in-Returned-clause-taken : goal.returns-in-Returned-clause-taken
returns-in-Returned-clause-taken c quiet =
    let x = c.args.tables.now in
    let d = c.args.draft.now in
    let host = c.args.message.now.host in
    on_ok_weaker c.take_returned.result
    (λ p. subst (λ (b : Body). IsRequestTaken x d host [] None c.take_returned.new.tables d b)
    (sym c.in-Returned.is)
    (record { tables = p; draft = refl })) c.take_returned.ensures.tables

pub returns-in-Kept-clause-taken : goal.returns-in-Kept-clause-taken
returns-in-Kept-clause-taken c quiet =
    let x = c.args.tables.now in
    let d = c.args.draft.now in
    let host = c.args.message.now.host in
    subst (λ (b : Body). IsRequestTaken x d host [] None c.take_kept.new.tables d b) (sym c.in-Kept.is)
    (record { tables = c.take_kept.ensures.tables; draft = refl })

pub returns-in-Reclaim-clause-taken : goal.returns-in-Reclaim-clause-taken
returns-in-Reclaim-clause-taken c quiet =
    let x = c.args.tables.now in
    let d = c.args.draft.now in
    let host = c.args.message.now.host in
    on_both c.take_claim.result _ _ _
    (λ p q. subst (λ (b : Body). IsRequestTaken x d host [] None c.take_claim.new.tables c.take_claim.new.draft b)
    (sym c.in-Reclaim.is)
    (p, q)) c.take_claim.ensures.tables c.take_claim.ensures.draft

pub returns-in_default-clause-taken : goal.returns-in_default-clause-taken
returns-in_default-clause-taken c quiet =
    let x = c.args.tables.now in
    let d = c.args.draft.now in
    let m = c.args.message.now in
    alone_taken x d m.host x d m.body quiet c.in_default.not-Fetch c.in_default.not-Returned c.in_default.not-Kept
    c.in_default.not-Reclaim refl refl
