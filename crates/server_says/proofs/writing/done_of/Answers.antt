use Rattle.std.proofs.Common.{◌∙◌, ap}
use Rattle.tree_calls.specs.declared.reply.Reply.{Reply}
use Rattle.message_types.specs.declared.telling.DoneIs.TheVariants.{Reply as Replied}
use Rattle.server_tables.specs.Answers.{done_without}
use Rattle.server_says.proofs.writing.done_of.Goals as goal

pub returns : goal.returns
returns c =
    c.without_token.ensures
    ∙ ap (λ (r : Reply). done_without c.args.change.now.fileset (Replied r) c.args.change.now.number)
    c.in_ok-reply.ensures
