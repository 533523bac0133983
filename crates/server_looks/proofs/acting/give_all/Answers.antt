use Rattle.std.proofs.Common.{◌≡◌, ◌∙◌}
use Rattle.server_looks.proofs.Again.{all_fit_again, all_once_more}
use Rattle.server_looks.proofs.GivenAgain.{all_fit}
use Rattle.server_looks.proofs.acting.give_all.Goals as goal

pub apply_batch-requires-clause-fits : goal.apply_batch-requires-clause-fits
apply_batch-requires-clause-fits g c = λ state. all_fit c.args.gives.now state c.requires.gives

pub apply_batch-requires-in-Err-Store-clause-fits : goal.apply_batch-requires-in-Err-Store-clause-fits
apply_batch-requires-in-Err-Store-clause-fits g c = λ state. all_fit c.args.gives.now state c.requires.gives

pub returns-in_ok-apply_batch-in-Err-Store-clause-state : goal.returns-in_ok-apply_batch-in-Err-Store-clause-state
returns-in_ok-apply_batch-in-Err-Store-clause-state g c tells again =
    let start = (g.S.Store.view c.args.keeper.now.store).state in
    let opened = (g.S.Store.view c.mend.new.self.store).state in
    let first = c.in-Err-Store.ensures.fault tells again.fits in
    let so_far = c.in_ok-mend-in-Err-Store.ensures.mended.state tells ∙ first.2 in
    c.in_ok-apply_batch-in-Err-Store.ensures.state tells
    (all_fit_again start opened c.args.gives.now first.0 again so_far)
    ∙ all_once_more start opened c.args.gives.now first.0 again so_far
