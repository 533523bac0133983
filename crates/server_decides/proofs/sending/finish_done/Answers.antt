use Rattle.std.proofs.Common.{◌∙◌, ap}
use Rattle.std.proofs.lemmas.Result.{on_ok_weaker}
use Rattle.message_types.specs.declared.message.Body.TheVariants.{Done as IsDone}
use Rattle.message_types.specs.declared.telling.Done.{Done as DoneOf}
use Rattle.server_says.specs.Drafts.{saying, word}
use Rattle.server_decides.proofs.sending.finish_done.Goals as goal

pub returns : goal.returns
returns c =
    let x = c.args.tables.now in
    let d = c.args.draft.now in
    on_ok_weaker c.note_done.result (λ e. record {
      tables = e;
      draft = c.in_ok-say.ensures
          ∙ ap (λ (o : DoneOf). saying d (word x c.args.host (IsDone o))) c.in_ok-said.ensures;
    }) c.note_done.ensures
