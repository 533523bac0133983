use Rattle.std.proofs.Common.{◌≡◌, true, false}
use Rattle.std.specs.Prelude.{None, if◌then◌else◌}
use Rattle.std.proofs.lemmas.Result.{IfOk-weaker}
use Rattle.run_rules.specs.Wants.{is_use}
use Rattle.server_says.specs.Asking.{entered_told}
use Rattle.server_decides.specs.Sending.{IsChangeSending, entering_by}
use Rattle.server_decides.proofs.Saying.{used_sayable}
use Rattle.server_decides.proofs.Served.{change_here}
use Rattle.server_decides.proofs.Parts.{change_enters, change_rests, change_uses, store_call, store_host}
use Rattle.server_decides.proofs.sending.changed.Goals as goal

pub returns-then-change-clause-sending : goal.returns-then-change-clause-sending
returns-then-change-clause-sending g c tells =
    let x = c.args.tables.now in
    let st = (g.S.Store.view c.args.keeper.now.store).state in
    let change = c.args.change.now in
    let granted = c.args.is_granted in
    let enters : change.enter ≡ true = cc in
    IfOk-weaker c.entered.result
    (λ s. s ≡ (if granted then entering_by change (entered_told st change.call) else None))
    (λ s. IsChangeSending x st c.args.pending.now granted s change)
    (λ s e. change_enters x st c.args.pending.now granted s change enters e) (c.entered.ensures.sending tells)

pub returns-then-not-is_use-clause-sending : goal.returns-then-not-is_use-clause-sending
returns-then-not-is_use-clause-sending g c tells =
    let change = c.args.change.now in
    let rests : change.enter ≡ false = cc in
    let other : is_use change.call ≡ false = cc in
    change_rests c.args.tables.now (g.S.Store.view c.args.keeper.now.store).state c.args.pending.now
    c.args.is_granted change rests other

pub found_by-requires-clause-host : goal.found_by-requires-clause-host
found_by-requires-clause-host g c = store_host c.args.tables.now (g.S.Store.view c.args.keeper.now.store).state
    c.args.pending.now.wanted c.requires.of c.requires.came

pub found_by-requires-clause-call : goal.found_by-requires-clause-call
found_by-requires-clause-call g c = store_call c.args.tables.now (g.S.Store.view c.args.keeper.now.store).state
    c.args.pending.now.wanted c.requires.of c.requires.came c.args.change.now c.requires.request

pub returns-clause-sending : goal.returns-clause-sending
returns-clause-sending g c tells =
    let x = c.args.tables.now in
    let st = (g.S.Store.view c.args.keeper.now.store).state in
    let change = c.args.change.now in
    let rests : change.enter ≡ false = cc in
    let uses : is_use change.call ≡ true = cc in
    change_uses x st c.args.pending.now c.args.is_granted change c.in_ok-found.found c.used.result rests uses
    (λ user known. c.in_ok-found.ensures.refusal tells user known)
    (λ user known. c.in_ok-found.ensures.needs tells user known) c.used.ensures

pub returns-then-change-clause-sayable : goal.returns-then-change-clause-sayable
returns-then-change-clause-sayable g c =
    let x = c.args.tables.now in
    c.entered.ensures.sayable (change_here x.server x.roster c.args.pending.now.wanted c.requires.came
    c.args.change.now c.requires.request)

pub returns-clause-sayable : goal.returns-clause-sayable
returns-clause-sayable g c =
    let x = c.args.tables.now in
    let p = c.args.pending.now in
    used_sayable x.server c.args.change.now p.wanted.needs c.args.is_granted c.in_ok-found.found c.used.result
    c.used.ensures (change_here x.server x.roster p.wanted c.requires.came c.args.change.now c.requires.request)
