use Rattle.std.proofs.Common.{Some, ap, ◌∙◌}
use Rattle.host_asks.proofs.Gone.{back_so, when_answered, when_open}
use Rattle.host_asks.proofs.going.put_back.Goals as goal

pub returns-then-is_answered : goal.returns-then-is_answered
returns-then-is_answered c =
    let m = c.args.tables.now in
    back_so c.args.gone c.in-Ok.is_answered c.in-Ok.is m m c.args.asked
    (when_answered c.in-Ok.is_answered m (record m { call = Some c.args.asked }) c.if-is_answered.true)

pub returns : goal.returns
returns c =
    let m = c.args.tables.now in
    back_so c.args.gone c.in-Ok.is_answered c.in-Ok.is m (record m { call = c.keep.new.kept }) c.args.asked
    (ap (λ k. record m { call = k }) c.keep.ensures
    ∙ when_open c.in-Ok.is_answered m (record m { call = Some c.args.asked }) c.if-is_answered.false)
