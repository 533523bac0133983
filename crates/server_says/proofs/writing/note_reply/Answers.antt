use Rattle.std.proofs.Common.{◌∙◌, Some, ap}
use Rattle.std.proofs.lemmas.Result.{on_ok_weaker}
use Rattle.message_types.specs.declared.telling.Done.{Done as DoneOf}
use Rattle.run_rules.specs.declared.applied.Written.{Written}
use Rattle.server_tables.specs.Answers.{renewed}
use Rattle.server_says.specs.Writing.{done_of}
use Rattle.server_says.proofs.writing.note_reply.Goals as goal

pub returns : goal.returns
returns c =
    let x = c.args.tables.now in
    let host = c.args.host in
    on_ok_weaker c.note_done.result
    (λ e. e
    ∙ ap (λ (o : DoneOf). record x { changes = renewed x host o (Some c.in_ok-written.written) }) c.in_ok-done.ensures
    ∙ ap (λ (w : Written). record x {
      changes = renewed x host (done_of c.args.change.now c.args.reply.now) (Some w);
    }) c.in_ok-written.ensures) c.note_done.ensures
