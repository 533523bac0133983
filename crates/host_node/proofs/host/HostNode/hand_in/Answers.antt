use Rattle.std.proofs.Common.{◌≡◌, ◌++◌, List, subst}
use Rattle.std.specs.Prelude.{OnOk}
use Rattle.host_node.proofs.Turns.{handed_in, handed_none}
use Rattle.run_rules.specs.declared.step.Step.{Step}
use Rattle.host_node.proofs.host.HostNode.hand_in.Goals as goal

pub returns-then-self : goal.returns-then-self
returns-then-self c = λ part past made given st.
    handed_none part c.args.self.now past made given st c.if-self.true c.args.steps.now.steps c.requires.none

pub returns : goal.returns
returns c = λ part past made given st.
    handed_in part c.args.self.now past made given st c.if-self.false c.hand_in.new.self c.hand_in.result
    c.hand_in.new.steps.steps
    (λ waiting holds. subst (λ (l : List Step). OnOk c.hand_in.result
    (c.hand_in.new.steps.steps ≡ l ++ waiting)) c.requires.none
    (c.hand_in.ensures.handed waiting holds))
    c.hand_in.ensures.none
