use Rattle.std.proofs.Common.{◌∙◌}
use Rattle.std.proofs.lemmas.Result.{on_ok_weaker}
use Rattle.host_leaves.proofs.Making.{making_is}
use Rattle.host_leaves.proofs.giving.make.Goals as goal

pub returns-clause-tables : goal.returns-clause-tables
returns-clause-tables c =
    on_ok_weaker c.push-made.result (λ made. c.in_ok-added.ensures) c.push-made.ensures.ok

pub returns-clause-draft : goal.returns-clause-draft
returns-clause-draft c =
    on_ok_weaker c.push-made.result
    (making_is c.args.tables.now c.args.give c.args.draft.now c.note_due-due.new.draft c.push-made.new.self
    c.in_ok-due.ensures) c.push-made.ensures.ok
