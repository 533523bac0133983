use Rattle.std.proofs.Common.{refl, sym, subst}
use Rattle.std.proofs.lemmas.Result.{on_ok_weaker}
use Rattle.server_decides.specs.Deciding.{HasEffect, IsMadeBy, MayBeDone, anew_made}
use Rattle.server_decides.specs.declared.deciding.Decision.{Decision}
use Rattle.server_decides.proofs.Parts.{anew_served}
use Rattle.server_decides.proofs.Saying.{anew_says, made_says}
use Rattle.server_decides.proofs.deciding.make.Goals as goal

pub do_want-requires-clause-may : goal.do_want-requires-clause-may
do_want-requires-clause-may g c =
    subst (λ (k : Decision). MayBeDone k c.args.pending.wanted.request) c.in-Do.is c.requires.may

pub returns-in_ok-make_anew-in-Anew-clause-decided : goal.returns-in_ok-make_anew-in-Anew-clause-decided
returns-in_ok-make_anew-in-Anew-clause-decided g c tells =
    let x = c.args.tables.now in
    let d = c.args.draft.now in
    let st = (g.S.Store.view c.args.keeper.now.store).state in
    let made = c.in_ok-make_anew-in-Anew.ensures in
    subst (IsMadeBy x d st c.args.pending c.make_anew.new.tables c.make_anew.new.draft st) (sym c.in-Anew.is)
    (record { tables = made.tables; draft = made.draft }, refl)

pub returns-in_ok-make_anew-in-Anew-clause-served : goal.returns-in_ok-make_anew-in-Anew-clause-served
returns-in_ok-make_anew-in-Anew-clause-served g c =
    let p = c.args.pending in
    let effect : HasEffect p.wanted.request =
    subst (λ (k : Decision). MayBeDone k p.wanted.request) c.in-Anew.is c.requires.may in
    anew_served c.args.tables.now c.make_anew.new.tables c.args.draft.now p c.in-Anew.needs
    (g.S.Store.view c.args.keeper.now.store) c.requires.served c.requires.came effect
    c.in_ok-make_anew-in-Anew.ensures.tables
    c.in_ok-make_anew-in-Anew.ensures.counted

pub returns-in-Refuse-clause-decided : goal.returns-in-Refuse-clause-decided
returns-in-Refuse-clause-decided g c tells =
    let x = c.args.tables.now in
    let st = (g.S.Store.view c.args.keeper.now.store).state in
    on_ok_weaker c.refuse_want.result (λ h. subst (IsMadeBy x c.args.draft.now st c.args.pending
    c.refuse_want.new.tables c.refuse_want.new.draft (g.S.Store.view c.refuse_want.new.keeper.store).state)
    (sym c.in-Refuse.is) h)
    (c.refuse_want.ensures.refused tells)

pub returns-in-Do-clause-decided : goal.returns-in-Do-clause-decided
returns-in-Do-clause-decided g c tells =
    let x = c.args.tables.now in
    let st = (g.S.Store.view c.args.keeper.now.store).state in
    on_ok_weaker c.do_want.result (λ h. subst (IsMadeBy x c.args.draft.now st c.args.pending c.do_want.new.tables
    c.do_want.new.draft (g.S.Store.view c.do_want.new.keeper.store).state) (sym c.in-Do.is) h)
    (c.do_want.ensures.done tells)

pub returns-in_ok-make_anew-in-Anew-clause-says : goal.returns-in_ok-make_anew-in-Anew-clause-says
returns-in_ok-make_anew-in-Anew-clause-says g c sound =
    let x = c.args.tables.now in
    let d = c.args.draft.now in
    let made = c.in_ok-make_anew-in-Anew.ensures in
    made_says x d c.make_anew.new.tables c.make_anew.new.draft (anew_made x d c.args.pending c.in-Anew.needs)
    (record { tables = made.tables; draft = made.draft }) (anew_says x d c.args.pending c.in-Anew.needs sound)
