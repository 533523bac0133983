use Rattle.hub_tests.proofs.Members.{ok_heard}
use Rattle.hub_tests.proofs.member.step_alone.Goals as goal

pub returns : goal.returns
returns c =
    ok_heard c.one_step.result (λ p. p.steps) c.in_ok-step.step c.one_step.ensures
    (λ roster ring. c.in_ok-step.ensures roster ring)
