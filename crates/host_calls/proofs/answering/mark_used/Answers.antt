use Rattle.host_calls.proofs.Marked.{marked_backed}
use Rattle.host_calls.proofs.answering.mark_used.Goals as goal

pub returns-clause-backed : goal.returns-clause-backed
returns-clause-backed c =
    λ b. marked_backed c.args.tables.now c.mark_along.new.tables c.args.call.now c.args.root c.args.path.now
    c.args.verdict.now c.mark_along.ensures b
