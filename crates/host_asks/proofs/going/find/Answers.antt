use Rattle.std.proofs.Common.{Ok}
use Rattle.std.proofs.lemmas.Result.{IfOk-weaker}
use Rattle.host_asks.specs.Asking.{doing}
use Rattle.host_asks.specs.Going.{Settles, SettlesOn}
use Rattle.host_asks.proofs.going.find.Goals as goal

pub settle_by-requires : goal.settle_by-requires
settle_by-requires c = c.mark_where.ensures.backed c.requires

pub returns : goal.returns
returns c =
    let new = (doing c.settle_by.new.tables c.settle_by.new.draft) in
    IfOk-weaker c.settle_by.result
    (λ answered. Settles c.args.current.k c.args.current.call.now c.args.current.first (doing c.mark_where.new.tables
    c.args.draft.now) new (Ok c.args.verdict) answered)
    (λ answered. SettlesOn c.args.current.k c.args.current.call.now c.args.current.first c.args.root c.args.path.now
    (Ok c.args.verdict) (doing c.args.tables.now c.args.draft.now) new answered)
    (λ answered s. record {
      marked = c.mark_where.new.tables;
      marks = c.mark_where.ensures.marks;
      settles = s;
    }) c.settle_by.ensures
