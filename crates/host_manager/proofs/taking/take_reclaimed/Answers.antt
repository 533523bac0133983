use Rattle.std.proofs.Common.{ap, fold, ◌∙◌}
use Rattle.std.proofs.lemmas.Result.{on_ok_weaker}
use Rattle.host_asks.specs.Asking.{doing}
use Rattle.host_manager.specs.Learning.{learning_given}
use Rattle.host_manager.specs.Taking.{bye_again, request_again}
use Rattle.host_manager.proofs.taking.take_reclaimed.Goals as goal

pub returns : goal.returns
returns c =
    let m = c.args.tables.now in
    let site = c.args.site in
    on_ok_weaker c.part_again.result (λ t. t ∙ ap (bye_again site) (c.in_ok-ask_again.ensures
    ∙ ap (request_again site.server) (c.in_ok-learn_all.ensures
    ∙ (λ i. fold (λ at one. learning_given one at) (doing (record m { sites = c.put_site.ensures i }) c.args.draft.now)
    (c.as_slice.ensures i)))))
    c.part_again.ensures
