use Rattle.std.proofs.Common.{Bool, ap, if◌then◌else◌, sym, ◌∙◌}
use Rattle.std.proofs.lemmas.Result.{on_ok_weaker}
use Rattle.host_asks.specs.Asking.{doing}
use Rattle.host_leaves.specs.Sending.{sending_request}
use Rattle.host_manager.proofs.taking.ask_again.Goals as goal

pub returns-then-not-is_asked_at : goal.returns-then-not-is_asked_at
returns-then-not-is_asked_at c =
    let m = c.args.tables.now in
    let d = c.args.draft.now in
    ap (λ (b : Bool). if b then doing m (sending_request m m.request d) else doing m d)
    (sym (sym c.is_asked_at.ensures ∙ c.if-not-is_asked_at.true))

pub returns : goal.returns
returns c =
    let m = c.args.tables.now in
    let d = c.args.draft.now in
    on_ok_weaker c.send_request.result (λ t. ap (doing m) t
    ∙ ap (λ (b : Bool). if b then doing m (sending_request m m.request d) else doing m d)
    (sym (sym c.is_asked_at.ensures ∙ c.if-not-is_asked_at.false))) c.send_request.ensures
