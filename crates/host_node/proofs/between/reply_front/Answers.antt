use Rattle.std.proofs.Common.{◌∙◌, List, ℕ, ap, refl}
use Rattle.host_node.proofs.Waiting.{read_same}
use Rattle.host_node.specs.Between.{spelled_of}
use Rattle.message_calls.proofs.Replies.{reply_right}
use Rattle.message_calls.specs.Replies.{reply_at}
use Rattle.host_node.proofs.between.reply_front.Goals as goal

pub returns-in-Ok : goal.returns-in-Ok
returns-in-Ok c = λ lines said behind is bytes.
    read_same (reply_at c.args.bytes.now) c.in-Ok.reply said.reply c.in-Ok.behind.now behind c.in-Ok.ensures
    (ap (λ (l : List ℕ). reply_at l) bytes
    ∙ reply_right.again said.reply (spelled_of said) behind
    (record { chosen = tt; fits = is.fits; whole = refl }))
