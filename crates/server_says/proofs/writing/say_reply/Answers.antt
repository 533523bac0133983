use Rattle.std.proofs.Common.{◌∙◌, ap}
use Rattle.std.proofs.lemmas.Result.{on_ok_weaker}
use Rattle.message_types.specs.declared.message.Body.TheVariants.{Done as IsDone}
use Rattle.message_types.specs.declared.telling.Done.{Done as DoneOf}
use Rattle.server_takes.specs.Drafts.{saying, word}
use Rattle.server_says.proofs.writing.say_reply.Goals as goal

pub returns : goal.returns
returns c =
    on_ok_weaker c.say.result
    (λ e. e ∙ ap (λ (o : DoneOf). saying c.args.draft.now (word c.args.tables.now c.args.host (IsDone o)))
    c.in_ok-done.ensures) c.say.ensures
