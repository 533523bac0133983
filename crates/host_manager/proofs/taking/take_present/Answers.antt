use Rattle.std.proofs.Common.{refl, sym, ◌∙◌}
use Rattle.std.proofs.lemmas.Result.{on_ok_weaker}
use Rattle.host_manager.specs.Taking.Takes.{Passes, TakesIt}
use Rattle.host_manager.proofs.taking.take_present.Goals as goal

pub returns-then-not-is_present : goal.returns-then-not-is_present
returns-then-not-is_present c = λ stay. Passes c.args.message.now.body stay
    (sym c.is_present.ensures ∙ c.if-not-is_present.true) refl

pub returns : goal.returns
returns c =
    on_ok_weaker c.take_body.result (λ t stay. TakesIt c.args.message.now.body stay
    (sym c.is_present.ensures ∙ c.if-not-is_present.false) (t stay)) c.take_body.ensures
