use Rattle.std.proofs.Common.{◌≡◌, ◌∙◌, [], ◌∷◌}
use Rattle.std.proofs.lemmas.Result.{IfOk-weaker}
use Rattle.store_acts.specs.Acts.{act_done, dones_of}
use Rattle.server_looks.specs.Acts.{first_reply}
use Rattle.server_looks.proofs.Again.{fits_once_more, of_one, on_ok_then, reply_once_more, same_then, state_once_more}
use Rattle.server_looks.proofs.acting.apply_one.Goals as goal

pub returns-in-Err-Store-clause-reply : goal.returns-in-Err-Store-clause-reply
returns-in-Err-Store-clause-reply g c tells again =
    let start = (g.S.Store.view c.args.keeper.now.store).state in
    let after = (g.S.Store.view c.apply_batch.new.keeper.store).state in
    let opened = (g.S.Store.view c.mend.new.self.store).state in
    let first = c.in-Err-Store.ensures.fault tells (again.fits, tt) in
    let so_far = same_then start after opened (act_done start c.args.act).state
    (c.in_ok-mend-in-Err-Store.ensures.mended.state tells)
    (of_one start after c.args.act first.0 first.1 first.2) in
    let fits = fits_once_more start opened c.args.act again so_far in
    IfOk-weaker c.apply_batch-in-Err-Store.result (λ reply. reply ≡ first_reply (dones_of opened (c.args.act ∷ [])))
    (λ reply. reply ≡ (act_done start c.args.act).done.reply)
    (λ reply e. e ∙ reply_once_more start opened c.args.act again so_far)
    (c.apply_batch-in-Err-Store.ensures.reply tells fits)

pub returns-in-Err-Store-clause-state : goal.returns-in-Err-Store-clause-state
returns-in-Err-Store-clause-state g c tells again =
    let start = (g.S.Store.view c.args.keeper.now.store).state in
    let after = (g.S.Store.view c.apply_batch.new.keeper.store).state in
    let opened = (g.S.Store.view c.mend.new.self.store).state in
    let first = c.in-Err-Store.ensures.fault tells (again.fits, tt) in
    let so_far = same_then start after opened (act_done start c.args.act).state
    (c.in_ok-mend-in-Err-Store.ensures.mended.state tells)
    (of_one start after c.args.act first.0 first.1 first.2) in
    let fits = fits_once_more start opened c.args.act again so_far in
    on_ok_then c.apply_batch-in-Err-Store.result _ _ (λ e. e ∙ state_once_more start opened c.args.act again so_far)
    (c.apply_batch-in-Err-Store.ensures.state tells fits)

pub apply_batch-requires-clause-fits : goal.apply_batch-requires-clause-fits
apply_batch-requires-clause-fits g c = λ state. (c.requires.fits state, tt)

pub apply_batch-requires-in-Err-Store-clause-fits : goal.apply_batch-requires-in-Err-Store-clause-fits
apply_batch-requires-in-Err-Store-clause-fits g c = λ state. (c.requires.fits state, tt)
