use Rattle.std.proofs.Common.{sym, ◌∙◌}
use Rattle.std.proofs.lemmas.Result.{on_ok_weaker}
use Rattle.host_asks.specs.Asking.{doing}
use Rattle.host_asks.proofs.Asked.{for_change, for_comes, for_fetch, for_none}
use Rattle.host_asks.proofs.asking.ask_for.Goals as goal

pub returns-then-awaits_give : goal.returns-then-awaits_give
returns-then-awaits_give c =
    for_none c.args.need c.args.current.k c.args.current.call.now (doing c.args.tables.now c.args.draft.now)
    (sym c.awaits_give.ensures ∙ c.if-awaits_give.true)

pub returns-then-not-branch : goal.returns-then-not-branch
returns-then-not-branch c =
    for_comes c.args.need c.args.current.k c.args.current.call.now (doing c.args.tables.now c.args.draft.now)
    c.home-server.result c.home-server.ensures (sym c.awaits_give.ensures ∙ c.if-awaits_give.false)
    (sym c.in_ok-may_ask.ensures.may ∙ c.if-not-branch.true) (doing c.may_ask.new.tables c.may_ask.new.draft)
    c.in_ok-may_ask.ensures.after

pub returns-then-is_use : goal.returns-then-is_use
returns-then-is_use c =
    on_ok_weaker c.change.result
    (for_change c.args.need c.args.current.k c.args.current.call.now (doing c.args.tables.now c.args.draft.now)
    c.home-server.result c.home-server.ensures (sym c.in_ok-may_ask.ensures.may ∙ c.if-not-branch.false)
    (doing c.may_ask.new.tables c.may_ask.new.draft) c.in_ok-may_ask.ensures.after
    (doing c.change.new.tables c.change.new.draft) (sym c.is_use.ensures ∙ c.if-is_use.true)) c.change.ensures

pub returns : goal.returns
returns c =
    on_ok_weaker c.fetch.result
    (for_fetch c.args.need c.args.current.k c.args.current.call.now (doing c.args.tables.now c.args.draft.now)
    c.home-server.result c.home-server.ensures (sym c.in_ok-may_ask.ensures.may ∙ c.if-not-branch.false)
    (doing c.may_ask.new.tables c.may_ask.new.draft) c.in_ok-may_ask.ensures.after
    (doing c.fetch.new.tables c.fetch.new.draft) (sym c.is_use.ensures ∙ c.if-is_use.false)
    (sym c.awaits_give.ensures ∙ c.if-awaits_give.false)) c.fetch.ensures
