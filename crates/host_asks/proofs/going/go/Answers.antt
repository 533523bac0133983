use Rattle.std.proofs.Common.{refl, sym, ◌∙◌}
use Rattle.std.proofs.lemmas.Result.{IfOk-weaker}
use Rattle.host_asks.specs.Asking.{doing}
use Rattle.host_asks.specs.Going.{Goes, Settles}
use Rattle.host_asks.specs.Going.Goes.{Ends, Waits}
use Rattle.host_asks.proofs.Gone.{none_is, some_not}
use Rattle.host_asks.proofs.going.go.Goals as goal

pub returns-then-is_some : goal.returns-then-is_some
returns-then-is_some c =
    Waits (some_not c.args.tables.now.request (sym c.is_some.ensures ∙ c.if-is_some.true)) refl

pub settle-requires : goal.settle-requires
settle-requires c =
    c.in-Ends.ensures.backed

pub returns-in-Ends : goal.returns-in-Ends
returns-in-Ends c =
    let old = (doing c.args.tables.now c.args.draft.now) in
    let new = (doing c.settle.new.tables c.settle.new.draft) in
    IfOk-weaker c.settle.result
    (λ answered. Settles c.args.current.k c.args.current.call.now c.args.current.first old new c.in-Ends.verdict
    answered)
    (λ answered. Goes c.args.current.k c.args.current.call.now c.args.current.first old new answered)
    (λ answered s. Ends (none_is c.args.tables.now.request (sym c.is_some.ensures ∙ c.if-is_some.false))
    c.in-Ends.verdict c.in-Ends.ensures.starts c.in-Ends.ensures.pathless answered s) c.settle.ensures

pub walk-requires-clause-idle : goal.walk-requires-clause-idle
walk-requires-clause-idle c =
    none_is c.args.tables.now.request (sym c.is_some.ensures ∙ c.if-is_some.false)

pub walk-requires-clause-walks : goal.walk-requires-clause-walks
walk-requires-clause-walks c =
    c.in-Walks.ensures.starts

pub walk-requires-clause-fresh : goal.walk-requires-clause-fresh
walk-requires-clause-fresh c =
    c.in-Walks.ensures.backed
