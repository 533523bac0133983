use Rattle.std.proofs.Common.{◌≡◌, ◌∙◌, ap, sym, subst, length, arith}
use Rattle.store_acts.specs.Acts.{state_after}
use Rattle.store_acts.specs.Sound.{AllFit}
use Rattle.server_looks.proofs.Again.{on_err_is, take_all}
use Rattle.server_looks.proofs.Came.{went_all, went_first}
use Rattle.server_looks.proofs.acting.apply_batch.Goals as goal

pub returns-in_err-first_reply-clause-fault : goal.returns-in_err-first_reply-clause-fault
returns-in_err-first_reply-clause-fault g c tells fit =
    let state = (g.S.Store.view c.args.keeper.now.store).state in
    let batch = c.args.batch.now in
    let whole = subst (λ s. AllFit (g.S.Store.view s).state batch → (g.S.Store.view c.apply.new.self).state
    ≡ state_after (g.S.Store.view s).state batch)
    c.in_ok-spend.ensures.store (c.in_ok-dones.ensures.state tells) fit in
    on_err_is c.from_residual-in_err-first_reply.result _
    (length batch, omega arith, whole ∙ ap (state_after state) (sym (take_all batch)))

pub returns-in_err-dones-clause-went : goal.returns-in_err-dones-clause-went
returns-in_err-dones-clause-went g c =
    went_first g.S.Store.tells g.S.Store.view c.args.keeper.now.store c.spend.new.self.store c.apply.new.self
    c.in_ok-spend.ensures.store c.args.batch.now c.requires.acts c.requires.fits
    c.in_err-dones.ensures.same c.in_err-dones.ensures.fault

pub returns-in_err-first_reply-clause-went : goal.returns-in_err-first_reply-clause-went
returns-in_err-first_reply-clause-went g c =
    went_all g.S.Store.tells g.S.Store.view c.args.keeper.now.store c.spend.new.self.store c.apply.new.self
    c.in_ok-spend.ensures.store c.args.batch.now c.requires.acts c.requires.fits
    c.in_ok-dones.ensures.same c.in_ok-dones.ensures.state

pub returns-clause-went : goal.returns-clause-went
returns-clause-went g c =
    went_all g.S.Store.tells g.S.Store.view c.args.keeper.now.store c.spend.new.self.store c.apply.new.self
    c.in_ok-spend.ensures.store c.args.batch.now c.requires.acts c.requires.fits
    c.in_ok-dones.ensures.same c.in_ok-dones.ensures.state
