use Rattle.std.proofs.Common.{Err, Ok, refl, subst}
use Rattle.host_calls.specs.Looking.{Walked}
use Rattle.host_tells.specs.Spoken.SpeaksAlong.{LacksIt}
use Rattle.host_walk.specs.declared.sight.Stop.{Stop}
use Rattle.host_tells.proofs.Speaking.{along_by, backed_read, comes_refused, comes_to}
use Rattle.host_tells.proofs.at_once.answer_along.Goals as goal

pub returns-in-Err-Lacks : goal.returns-in-Err-Lacks
returns-in-Err-Lacks c =
    LacksIt c.in-Err-Lacks._need (subst (λ (s : Stop). Walked c.args.tables.now c.args.call.now c.args.root
    c.args.path.now (Err s))
    c.in-Err-Lacks.field-0-is c.in-Err-Lacks.ensures.walked) refl

pub returns-in-Err-Refused : goal.returns-in-Err-Refused
returns-in-Err-Refused c =
    let refusal = c.in-Err-Refused.refusal in
    along_by c.args.tables.now c.args.call.now c.args.root c.args.path.now (Err refusal)
    (comes_refused c.args.tables.now c.args.call.now c.args.root c.args.path.now refusal (subst (λ (s : Stop). Walked
    c.args.tables.now c.args.call.now c.args.root c.args.path.now (Err s))
    c.in-Err-Refused.field-0-is c.in-Err-Refused.ensures.walked)) c.args.out.now c.answer_so.new.out
    c.answer_so.new.tables
    c.answer_so.result c.answer_so.ensures.spells c.answer_so.ensures.marks

pub answer_so-requires-in-Ok : goal.answer_so-requires-in-Ok
answer_so-requires-in-Ok c =
    backed_read c.args.tables.now c.args.call.now c.in-Ok.verdict (c.in-Ok.ensures.backed c.requires)

pub returns-in-Ok : goal.returns-in-Ok
returns-in-Ok c =
    let verdict = c.in-Ok.verdict in
    along_by c.args.tables.now c.args.call.now c.args.root c.args.path.now (Ok verdict)
    (comes_to c.args.tables.now c.args.call.now c.args.root c.args.path.now verdict c.in-Ok.ensures.walked
    c.in-Ok.ensures.leads) c.args.out.now c.answer_so-in-Ok.new.out
    c.answer_so-in-Ok.new.tables c.answer_so-in-Ok.result c.answer_so-in-Ok.ensures.spells
    c.answer_so-in-Ok.ensures.marks
