use Rattle.std.proofs.Common.{Bool, ap, if◌then◌else◌, sym, ◌∙◌}
use Rattle.std.proofs.lemmas.Result.{on_ok_weaker}
use Rattle.host_asks.specs.Asking.{doing}
use Rattle.host_leaves.specs.Sending.{saying}
use Rattle.message_types.specs.declared.message.Body.TheVariants.{Bye}
use Rattle.host_manager.proofs.taking.part_again.Goals as goal

pub returns-then-not-awaits_bye : goal.returns-then-not-awaits_bye
returns-then-not-awaits_bye c =
    let m = c.args.tables.now in
    let d = c.args.draft.now in
    ap (λ (b : Bool). if b then doing m (saying m c.args.site.server Bye d) else doing m d)
    (sym (sym c.awaits_bye.ensures ∙ c.if-not-awaits_bye.true))

pub returns : goal.returns
returns c =
    let m = c.args.tables.now in
    let d = c.args.draft.now in
    on_ok_weaker c.say.result (λ t. ap (doing m) t
    ∙ ap (λ (b : Bool). if b then doing m (saying m c.args.site.server Bye d) else doing m d)
    (sym (sym c.awaits_bye.ensures ∙ c.if-not-awaits_bye.false))) c.say.ensures
