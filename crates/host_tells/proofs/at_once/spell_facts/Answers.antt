use Rattle.std.proofs.Common.{Some, subst}
use Rattle.host_tells.specs.Spoken.{Spells}
use Rattle.tree_calls.specs.declared.reply.Reply.{Reply}
use Rattle.host_tells.proofs.Spelled.{facts_seen, unseen}
use Rattle.host_calls.specs.Looking.{facts_of}
use Rattle.host_tables.specs.Tables.{content}
use Rattle.host_tells.proofs.at_once.spell_facts.Goals as goal

pub returns-in-Some : goal.returns-in-Some
returns-in-Some c =
    subst (λ (r : Reply). Spells (Some r) c.args.out.now c.spell_told.new.out c.spell_told.result)
    (facts_seen c.args.tables.now.cache c.args.fid c.args.tables.now.user c.in-Some.status.now c.in-Some.ensures)
    c.spell_told.ensures

pub returns-in-None : goal.returns-in-None
returns-in-None c =
    subst (λ (r : Reply). Spells (Some r) c.args.out.now c.spell_refused.new.out c.spell_refused.result)
    (unseen c.args.tables.now.cache c.args.fid (facts_of (content c.args.tables.now.cache) c.args.tables.now.user
    c.args.fid) c.in-None.ensures) c.spell_refused.ensures
