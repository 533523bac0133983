use Rattle.std.proofs.Common.{◌≡◌, rules, subst}
use Rattle.message_types.specs.declared.giving.Reclaimed.{Reclaimed as ReclaimedOf}
use Rattle.run_rules.specs.Past.{In}
use Rattle.server_tables.proofs.Found.{in_at}
use Rattle.server_says.proofs.claiming.has_answer.Goals as goal

-- the answer that was found is the one that is asked for
pub returns-then-is_same_answer : goal.returns-then-is_same_answer
returns-then-is_same_answer c =
    let item = c.other-item.result in
    let same : item ≡ c.args.answer.now = c.is_same_answer.ensures.0 c.if-is_same_answer.true in
    let at_it = in_at c.args.answers.now c.loop-other.other-index item c.loop-other-test.true c.other-item.is in
    (λ t. subst (λ (z : ReclaimedOf). In z c.args.answers.now) same at_it, λ m. search rules)
