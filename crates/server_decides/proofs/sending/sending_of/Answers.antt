use Rattle.std.proofs.Common.{◌≡◌, ◌∙◌, true, false, subst}
use Rattle.std.proofs.lemmas.Result.{IfOk-weaker}
use Rattle.run_rules.specs.declared.applied.Request.TheVariants.{Change as Changes, Fetch as Asks}
use Rattle.server_decides.specs.Deciding.{is_waiting, outlook_at}
use Rattle.server_decides.specs.Sending.{IsChangeSending, IsSending, is_granted}
use Rattle.server_decides.proofs.Parts.{ready_so, waits_so}
use Rattle.server_decides.proofs.Saying.{fetched_sayable}
use Rattle.server_decides.proofs.Served.{fetch_here}
use Rattle.server_decides.proofs.sending.sending_of.Goals as goal

pub returns-then-is_waiting-clause-sending : goal.returns-then-is_waiting-clause-sending
returns-then-is_waiting-clause-sending g c tells =
    let waits : is_waiting (outlook_at c.args.tables.now c.args.pending.now.number) ≡ true = cc in
    waits_so c.args.tables.now (g.S.Store.view c.args.keeper.now.store).state c.args.pending.now waits

pub returns-in_ok-fetched-in-Fetch-clause-sending : goal.returns-in_ok-fetched-in-Fetch-clause-sending
returns-in_ok-fetched-in-Fetch-clause-sending g c tells =
    let x = c.args.tables.now in
    let p = c.args.pending.now in
    let free : is_waiting (outlook_at x p.number) ≡ false = cc in
    let fetch = c.in-Fetch.fetch in
    let granted : c.is_granted-is_granted.result ≡ is_granted (outlook_at x p.number) = cc in
    ready_so x (g.S.Store.view c.args.keeper.now.store).state p (Asks fetch) _ c.in-Fetch.is free
    (c.in_ok-fetched-in-Fetch.ensures ∙ (cc))

pub returns-in-Change-clause-sending : goal.returns-in-Change-clause-sending
returns-in-Change-clause-sending g c tells =
    let x = c.args.tables.now in
    let p = c.args.pending.now in
    let st = (g.S.Store.view c.args.keeper.now.store).state in
    let change = c.in-Change.change in
    let free : is_waiting (outlook_at x p.number) ≡ false = cc in
    let granted : c.is_granted-is_granted.result ≡ is_granted (outlook_at x p.number) = cc in
    IfOk-weaker c.changed.result (λ s. IsChangeSending x st p c.is_granted-is_granted.result s change)
    (IsSending x st p)
    (λ s h. ready_so x st p (Changes change) s c.in-Change.is free
    (subst (λ b. IsChangeSending x st p b s change) granted h)) (c.changed.ensures.sending tells)

pub returns-in_ok-fetched-in-Fetch-clause-sayable : goal.returns-in_ok-fetched-in-Fetch-clause-sayable
returns-in_ok-fetched-in-Fetch-clause-sayable g c =
    let x = c.args.tables.now in
    let w = c.args.pending.now.wanted in
    fetched_sayable x.server c.is_granted-is_granted.result c.in-Fetch.fetch _ c.in_ok-fetched-in-Fetch.ensures
    (fetch_here x.server x.roster w c.requires.came c.in-Fetch.fetch c.in-Fetch.is)
