use Rattle.std.proofs.Common.{◌∙◌, ap}
use Rattle.std.proofs.lemmas.Result.{on_ok_weaker}
use Rattle.message_types.specs.declared.giving.Reclaimed.{Reclaimed as ReclaimedOf}
use Rattle.message_types.specs.declared.message.Body.TheVariants.{Reclaimed}
use Rattle.server_tables.specs.Claims.{answered_so}
use Rattle.server_tables.specs.declared.recovering.Recovering.{Recovering}
use Rattle.server_takes.specs.Drafts.{saying, word}
use Rattle.server_says.proofs.claiming.tell.Goals as goal

pub returns-clause-tables : goal.returns-clause-tables
returns-clause-tables c =
    let x = c.args.tables.now in
    on_ok_weaker c.note_answer.result
    (λ e. ap (λ (r : Recovering). record x { recovering = r }) e
    ∙ ap (λ (a : ReclaimedOf). record x {
      recovering = record x.recovering { answers = answered_so x.recovering.answers c.args.host a };
    }) c.in_ok-noted.ensures) c.note_answer.ensures

pub returns-clause-draft : goal.returns-clause-draft
returns-clause-draft c =
    on_ok_weaker c.note_answer.result
    (λ e. c.in_ok-say.ensures ∙ ap (λ (a : ReclaimedOf). saying c.args.draft.now
    (word c.args.tables.now c.args.host (Reclaimed a))) c.in_ok-said.ensures) c.note_answer.ensures
