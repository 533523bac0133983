use Rattle.std.proofs.lemmas.Result.{on_ok_weaker}
use Rattle.server_says.proofs.Asked.{asked_one, said_one}
use Rattle.server_says.proofs.revoking.ask_for.Goals as goal

pub returns-clause-tables : goal.returns-clause-tables
returns-clause-tables c =
    on_ok_weaker c.say.result
    (λ e. asked_one c.args.tables.now c.next_stamp.new.self c.mark_all.new.manager c.args.first
    c.args.tokens.now c.in_ok-ids.ids c.as_slice.result.now c.in_ok-ids.ensures c.as_slice.ensures c.mark_all.ensures
    c.in_ok-stamp.ensures.after) c.say.ensures

pub returns-clause-draft : goal.returns-clause-draft
returns-clause-draft c =
    on_ok_weaker c.say.result
    (λ e. said_one c.args.tables.now c.next_stamp.new.self c.mark_all.new.manager c.args.first
    c.args.tokens.now c.in_ok-ids.ids c.as_slice.result.now c.in_ok-ids.ensures c.as_slice.ensures c.mark_all.ensures
    c.in_ok-stamp.ensures.after c.args.draft.now c.say.new.self c.in_ok-stamp.stamp c.in_ok-stamp.ensures.stamp e)
    c.say.ensures
