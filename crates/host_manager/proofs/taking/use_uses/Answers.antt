use Rattle.std.proofs.Common.{refl, sym, ◌∙◌}
use Rattle.std.proofs.lemmas.Result.{on_ok_weaker}
use Rattle.host_manager.specs.Learning.{brings_uses}
use Rattle.host_tables.proofs.Lists.{true_false}
use Rattle.host_manager.proofs.taking.use_uses.Goals as goal

pub returns-then-not-brings_uses-clause-uses : goal.returns-then-not-brings_uses-clause-uses
returns-then-not-brings_uses-clause-uses c = λ t. absurd (true_false (brings_uses c.args.bring.now) t
    (sym c.brings_uses.ensures ∙ c.if-not-brings_uses.true))

pub returns-then-not-brings_uses-clause-none : goal.returns-then-not-brings_uses-clause-none
returns-then-not-brings_uses-clause-none c = λ f. refl

pub returns-clause-uses : goal.returns-clause-uses
returns-clause-uses c = on_ok_weaker c.use_bring.result (λ u t. u) c.use_bring.ensures

pub returns-clause-none : goal.returns-clause-none
returns-clause-none c =
    on_ok_weaker c.use_bring.result (λ u f. absurd (true_false (brings_uses c.args.bring.now)
    (sym c.brings_uses.ensures ∙ c.if-not-brings_uses.false) f)) c.use_bring.ensures
