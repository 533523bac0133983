use Rattle.std.proofs.Common.{◌≡◌, ◌∙◌, ap, subst}
use Rattle.std.specs.Prelude.{IfOk, OnOk}
use Rattle.store_acts.specs.Acts.{act_done}
use Rattle.store_acts.specs.declared.act.Act.{Act}
use Rattle.store_acts.specs.declared.act.Act.TheVariants.{Do}
use Rattle.store_state.specs.declared.state.StoreState.{StoreState}
use Rattle.server_looks.specs.Acts.{IsRepeatable, doing, next_number}
use Rattle.server_looks.proofs.acting.do_call.Goals as goal

pub returns-clause-reply : goal.returns-clause-reply
returns-clause-reply g c tells again =
    let s = (g.S.Store.view c.args.keeper.now.store).state in
    let t = (g.S.Store.view c.numbered_at.new.keeper.store).state in
    let host = c.args.host in
    let call = c.args.call.now in
    let e : t ≡ s = c.in_ok-fileset.ensures.asked.state tells in
    let a : c.in_ok-act.act ≡ doing s host call = c.in_ok-act.ensures ∙ ap (λ n. Do host n call)
    (c.in_ok-number.ensures tells
    ∙ ap (λ (u : StoreState). next_number u host c.in_ok-fileset.fileset) e ∙ ap (next_number s host)
    (c.in_ok-fileset.ensures.id tells)) in
    subst (λ (u : StoreState). IsRepeatable u (doing s host call) → IfOk c.apply_one.result
    (λ reply. reply ≡ (act_done u (doing s host call)).done.reply)) e
    (subst (λ (b : Act). IsRepeatable t b → IfOk c.apply_one.result (λ reply. reply ≡ (act_done t b).done.reply)) a
    (c.apply_one.ensures.reply tells)) again

pub returns-clause-state : goal.returns-clause-state
returns-clause-state g c tells again =
    let s = (g.S.Store.view c.args.keeper.now.store).state in
    let t = (g.S.Store.view c.numbered_at.new.keeper.store).state in
    let host = c.args.host in
    let call = c.args.call.now in
    let e : t ≡ s = c.in_ok-fileset.ensures.asked.state tells in
    let a : c.in_ok-act.act ≡ doing s host call = c.in_ok-act.ensures ∙ ap (λ n. Do host n call)
    (c.in_ok-number.ensures tells
    ∙ ap (λ (u : StoreState). next_number u host c.in_ok-fileset.fileset) e ∙ ap (next_number s host)
    (c.in_ok-fileset.ensures.id tells)) in
    let next = (g.S.Store.view c.apply_one.new.keeper.store).state in
    subst (λ (u : StoreState). IsRepeatable u (doing s host call) → OnOk c.apply_one.result
    (next ≡ (act_done u (doing s host call)).state)) e
    (subst (λ (b : Act). IsRepeatable t b → OnOk c.apply_one.result (next ≡ (act_done t b).state)) a
    (c.apply_one.ensures.state tells)) again
