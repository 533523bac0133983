use Rattle.std.proofs.Common.{◌≡◌, ◌∙◌, []}
use Rattle.std.specs.Prelude.{if◌then◌else◌}
use Rattle.std.proofs.lemmas.Result.{IfOk-weaker}
use Rattle.server_keeps.specs.Asking.{change_refused, refusal_told}
use Rattle.server_looks.specs.declared.looking.Found.{Found}
use Rattle.server_looks.proofs.Looked.{calls_refused}
use Rattle.server_looks.proofs.looking.found_by.Goals as goal

pub returns-else-change-clause-refusal : goal.returns-else-change-clause-refusal
returns-else-change-clause-refusal g c tells user known =
    let state = (g.S.Store.view c.args.keeper.now.store).state in
    let host = c.args.host in
    let change = c.args.change.now in
    IfOk-weaker c.found_calling.result (λ (found : Found). found.refusal ≡ refusal_told state host user change.call)
    (λ (found : Found). found.refusal ≡ change_refused state host user change)
    (λ found e. e ∙ calls_refused state host user change c.if-change.false)
    (c.found_calling.ensures.refusal tells user known)
