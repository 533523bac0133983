use Rattle.std.proofs.Common.{Some, subst}
use Rattle.host_tells.specs.Spoken.{Spells}
use Rattle.tree_calls.specs.declared.reply.Reply.{Reply}
use Rattle.host_tells.proofs.Spelled.{access_none, access_told}
use Rattle.host_tells.proofs.at_once.spell_shown.Goals as goal

pub returns-in-Some : goal.returns-in-Some
returns-in-Some c =
    subst (λ (r : Reply). Spells (Some r) c.args.out.now c.spell_access.new.out c.spell_access.result)
    (access_told c.args.which c.args.status.now c.in-Some.list.now c.in-Some.ensures) c.spell_access.ensures

pub returns-in-None : goal.returns-in-None
returns-in-None c =
    subst (λ (r : Reply). Spells (Some r) c.args.out.now c.spell_refused.new.out c.spell_refused.result)
    (access_none c.args.which c.args.status.now c.in-None.ensures) c.spell_refused.ensures
