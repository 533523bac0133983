use Rattle.std.proofs.Common.{◌≡◌, ◌∙◌, true, false}
use Rattle.std.proofs.lemmas.Result.{on_ok_weaker}
use Rattle.server_takes.proofs.Parts.{bye_ends, bye_known, bye_lists, bye_rests}
use Rattle.server_takes.specs.Taking.{ends_now}
use Rattle.server_takes.proofs.greeting.take_bye.Goals as goal

pub returns-then-not-ends_now-clause-tables : goal.returns-then-not-ends_now-clause-tables
returns-then-not-ends_now-clause-tables g c = bye_known c.args.tables.now c.args.host
    (g.S.Store.view c.args.keeper.now.store).state c.args.epoch (cc)

pub returns-then-not-ends_now-clause-state : goal.returns-then-not-ends_now-clause-state
returns-then-not-ends_now-clause-state g c tells = bye_rests c.args.tables.now c.args.host
    (g.S.Store.view c.args.keeper.now.store).state c.args.epoch (cc)

pub returns-clause-tables : goal.returns-clause-tables
returns-clause-tables g c =
    let ends : ends_now c.args.tables.now c.args.host c.args.epoch ≡ true = cc in
    on_ok_weaker c.end.result (λ e. e ∙ bye_ends c.args.tables.now c.args.host
    (g.S.Store.view c.args.keeper.now.store).state c.args.epoch ends) c.end.ensures.tables

pub returns-clause-state : goal.returns-clause-state
returns-clause-state g c tells =
    let ends : ends_now c.args.tables.now c.args.host c.args.epoch ≡ true = cc in
    on_ok_weaker c.end.result (λ e. e ∙ bye_lists c.args.tables.now c.args.host
    (g.S.Store.view c.args.keeper.now.store).state c.args.epoch ends) (c.end.ensures.state tells)
