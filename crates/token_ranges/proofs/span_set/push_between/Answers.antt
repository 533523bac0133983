use Rattle.token_ranges.proofs.Apart.{add_last}
use Rattle.token_ranges.proofs.span_set.push_between.Goals as goal

pub returns-in_ok-push-clause-apart : goal.returns-in_ok-push-clause-apart
returns-in_ok-push-clause-apart c = λ low high below before all. rw c.in_ok-push.ensures.ok
    (add_last low high _ _ c.if-from-to.true below before)
