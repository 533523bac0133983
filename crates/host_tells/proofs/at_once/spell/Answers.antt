use Rattle.std.proofs.Common.{Result, subst, sym}
use Rattle.host_calls.specs.Looking.{CanRead, meant}
use Rattle.host_calls.specs.declared.looking.Verdict.{Verdict}
use Rattle.host_tells.specs.Spoken.{Spells}
use Rattle.need_host.specs.Calls.{reply_now}
use Rattle.tree_calls.specs.declared.reply.Refusal.{Refusal}
use Rattle.host_tells.proofs.at_once.spell.Goals as goal

pub returns-in-Err : goal.returns-in-Err
returns-in-Err c call =
    subst (λ (v : Result Verdict Refusal). Spells (reply_now (meant c.args.tables.now call v)) c.args.out.now
    c.spell_refused.new.out
    c.spell_refused.result) (sym c.in-Err.is) c.spell_refused.ensures

pub spell_by-requires : goal.spell_by-requires
spell_by-requires c =
    subst (λ (v : Result Verdict Refusal). CanRead c.args.tables.now v) c.in-Ok.is c.requires

pub returns-in-Ok : goal.returns-in-Ok
returns-in-Ok c call =
    subst (λ (v : Result Verdict Refusal). Spells (reply_now (meant c.args.tables.now call v)) c.args.out.now
    c.spell_by.new.out
    c.spell_by.result) (sym c.in-Ok.is) (c.spell_by.ensures call)
