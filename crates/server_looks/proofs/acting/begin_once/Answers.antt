use Rattle.std.proofs.Common.{◌≡◌, ◌∙◌, ◌⊎◌, inl, inr}
use Rattle.store_acts.specs.declared.act.Act.TheVariants.{Epoch}
use Rattle.store_state.specs.declared.state.StoreState.{StoreState}
use Rattle.store_acts.specs.Acts.{act_done}
use Rattle.server_looks.specs.Acts.{epoch_begun}
use Rattle.server_looks.proofs.Again.{epoch_done, of_one, on_err_is}
use Rattle.server_looks.proofs.acting.begin_once.Goals as goal

begun_or_not : (start after : StoreState) → (after ≡ start) ⊎ (after ≡ (act_done start Epoch).state) → (after ≡ start) ⊎
    (after ≡ epoch_begun start)
begun_or_not start after (inl e) = inl e
begun_or_not start after (inr e) = inr (e ∙ epoch_done start)

pub returns-in_err-apply_batch-clause-fault : goal.returns-in_err-apply_batch-clause-fault
returns-in_err-apply_batch-clause-fault g c tells =
    let start = (g.S.Store.view c.args.keeper.now.store).state in
    let after = (g.S.Store.view c.apply_batch.new.keeper.store).state in
    let first = c.in_err-apply_batch.ensures.fault tells (tt, tt) in
    on_err_is c.from_residual.result _ (begun_or_not start after (of_one start after Epoch first.0 first.1 first.2))

pub returns-clause-state : goal.returns-clause-state
returns-clause-state g c tells =
    c.in_ok-apply_batch.ensures.state tells (tt, tt) ∙ epoch_done (g.S.Store.view c.args.keeper.now.store).state
