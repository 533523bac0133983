use Rattle.std.proofs.Common.{sym, ◌∙◌}
use Rattle.host_manager.proofs.Learnt.{ends_none, ends_some}
use Rattle.host_manager.proofs.learning.end_call.Goals as goal

pub returns-in_default : goal.returns-in_default
returns-in_default c = sym (ends_none c.args.message.now c.args.tables.now (sym c.ended_number.ensures
    ∙ c.in_default.is))

pub returns : goal.returns
returns c =
    let m = c.args.tables.now in
    c.close.ensures ∙ ends_some c.args.message.now m c.in-Some.k (sym c.ended_number.ensures ∙ c.in-Some.is)
