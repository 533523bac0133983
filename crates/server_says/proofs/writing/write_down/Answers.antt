use Rattle.std.proofs.Common.{◌∙◌, ap}
use Rattle.std.proofs.lemmas.Result.{on_ok_weaker}
use Rattle.message_types.specs.declared.message.Body.TheVariants.{Done as IsDone}
use Rattle.server_takes.specs.Drafts.{saying, word}
use Rattle.server_takes.specs.declared.draft.Draft.{Draft}
use Rattle.server_says.specs.Writing.{done_of}
use Rattle.server_says.proofs.writing.write_down.Goals as goal

pub returns-clause-tables : goal.returns-clause-tables
returns-clause-tables c = c.note_reply.ensures

pub returns-clause-draft : goal.returns-clause-draft
returns-clause-draft c =
    on_ok_weaker c.note_reply.result
    (λ e. c.in_ok-say_reply.ensures
    ∙ ap (λ (d : Draft). saying d
    (word c.args.tables.now c.args.host (IsDone (done_of c.args.change.now c.args.reply.now))))
    c.in_ok-note_written.ensures) c.note_reply.ensures
