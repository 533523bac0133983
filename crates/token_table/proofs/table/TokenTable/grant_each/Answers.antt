use Rattle.token_table.proofs.Sound.{absent_each, sound_granted}
use Rattle.token_table.proofs.table.TokenTable.grant_each.Goals as goal

pub invariant_of-self-2 : goal.invariant_of-self-2
invariant_of-self-2 c = rw c.in_ok-push_next.ensures.after (sound_granted _ c.args.host c.args.needs.now
    c.self.invariant)

pub returns-clause-new : goal.returns-clause-new
returns-clause-new c = rw (c.in_ok-tokens.ensures, ← c.self.view_is)
    (absent_each _ c.args.host c.args.needs.now c.self.invariant)
