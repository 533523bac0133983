use Rattle.std.proofs.Common.{◌≡◌, ◌∙◌, true, false}
use Rattle.std.proofs.lemmas.Result.{on_ok_weaker}
use Rattle.server_takes.proofs.Parts.{hello_comes, hello_known, hello_lists, hello_rests}
use Rattle.server_takes.specs.Taking.{comes_new}
use Rattle.server_takes.proofs.greeting.take_hello.Goals as goal

pub returns-then-not-comes_new-clause-tables : goal.returns-then-not-comes_new-clause-tables
returns-then-not-comes_new-clause-tables g c = hello_known c.args.tables.now c.args.host
    (g.S.Store.view c.args.keeper.now.store).state (cc)

pub returns-then-not-comes_new-clause-state : goal.returns-then-not-comes_new-clause-state
returns-then-not-comes_new-clause-state g c tells = hello_rests c.args.tables.now c.args.host
    (g.S.Store.view c.args.keeper.now.store).state (cc)

pub returns-clause-tables : goal.returns-clause-tables
returns-clause-tables g c =
    let new : comes_new c.args.tables.now c.args.host ≡ true = cc in
    on_ok_weaker c.welcome.result (λ e. e ∙ hello_comes c.args.tables.now c.args.host
    (g.S.Store.view c.args.keeper.now.store).state new) c.welcome.ensures.tables

pub returns-clause-state : goal.returns-clause-state
returns-clause-state g c tells =
    let new : comes_new c.args.tables.now c.args.host ≡ true = cc in
    on_ok_weaker c.welcome.result (λ e. e ∙ hello_lists c.args.tables.now c.args.host
    (g.S.Store.view c.args.keeper.now.store).state new) (c.welcome.ensures.state tells)
