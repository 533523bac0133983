use Rattle.std.proofs.Common.{◌≡◌, true, false, sym, subst}
use Rattle.std.specs.Prelude.{IfSome}
use Rattle.run_rules.specs.declared.applied.Request.{Request}
use Rattle.server_decides.specs.Deciding.{IsDecision, MayBeDone, is_passed}
use Rattle.server_decides.proofs.Parts.{fetch_due, looked_due, passed_due, store_call, store_host}
use Rattle.server_decides.proofs.deciding.decision_on.Goals as goal

pub returns-in_default-clause-due : goal.returns-in_default-clause-due
returns-in_default-clause-due g c tells =
    fetch_due c.args.tables.now (g.S.Store.view c.args.keeper.now.store).state c.args.pending.now c.args.is_fresh
    c.args.pending.now.wanted.request c.in_default.not-Change

pub returns-then-is_passed-clause-due : goal.returns-then-is_passed-clause-due
returns-then-is_passed-clause-due g c tells =
    let passed : is_passed c.args.tables.now c.args.pending.now c.args.is_fresh ≡ true = cc in
    passed_due c.args.tables.now (g.S.Store.view c.args.keeper.now.store).state c.args.pending.now c.args.is_fresh
    c.in-Change.change c.args.pending.now.wanted.request c.in-Change.is passed

pub found_by-requires-clause-host : goal.found_by-requires-clause-host
found_by-requires-clause-host g c = store_host c.args.tables.now (g.S.Store.view c.args.keeper.now.store).state
    c.args.pending.now.wanted c.requires.of c.requires.came

pub found_by-requires-clause-call : goal.found_by-requires-clause-call
found_by-requires-clause-call g c = store_call c.args.tables.now (g.S.Store.view c.args.keeper.now.store).state
    c.args.pending.now.wanted c.requires.of c.requires.came c.in-Change.change c.in-Change.is

pub returns-clause-due : goal.returns-clause-due
returns-clause-due g c tells =
    let x = c.args.tables.now in
    let p = c.args.pending.now in
    let passed : is_passed x p c.args.is_fresh ≡ false = cc in
    let change = c.in-Change.change in
    let found = c.in_ok-found.found in
    looked_due x (g.S.Store.view c.args.keeper.now.store).state p c.args.is_fresh change p.wanted.request found
    c.judged.result c.in-Change.is passed (λ user known. c.in_ok-found.ensures.refusal tells user known)
    (λ user known. c.in_ok-found.ensures.needs tells user known)
    (subst (λ o. IsDecision change p.wanted.needs o found c.judged.result) c.outlook-outlook.ensures
    c.judged.ensures.due)

pub returns-clause-may : goal.returns-clause-may
returns-clause-may g c =
    subst (λ (r : Request). IfSome c.judged.result (λ decision. MayBeDone decision r)) (sym c.in-Change.is)
    c.judged.ensures.may
