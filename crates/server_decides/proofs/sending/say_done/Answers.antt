use Rattle.std.proofs.lemmas.Result.{on_ok_weaker}
use Rattle.server_tables.specs.Answers.{done_without}
use Rattle.server_tables.specs.Updates.{unqueued}
use Rattle.server_decides.specs.Sending.{done_made, said_made}
use Rattle.server_decides.proofs.Parts.{done_counted, done_left, done_so, made_same}
use Rattle.server_decides.proofs.sending.say_done.Goals as goal

pub returns-clause-made : goal.returns-clause-made
returns-clause-made c p place =
    let x = c.args.tables.now in
    let d = c.args.draft.now in
    let t = c.take_out-host.new.tables in
    let h = c.take_out-host.result in
    let done = c.without_token-done.result in
    on_ok_weaker c.finish_done.result (λ m. made_same x d t d c.finish_done.new.tables c.finish_done.new.draft
    (done_made t d h done) (said_made x d c.args.at p c.args.fileset c.args.number c.args.outcome)
    (done_so d t (unqueued x c.args.at p.number) h p.wanted.host done
    (done_without c.args.fileset c.args.outcome c.args.number)
    (c.take_out-host.ensures.tables p place) (c.take_out-host.ensures.host p place) c.without_token-done.ensures) m)
    c.finish_done.ensures

pub returns-clause-left : goal.returns-clause-left
returns-clause-left c =
    on_ok_weaker c.finish_done.result (λ m. done_left c.args.tables.now c.take_out-host.new.tables c.args.draft.now
    c.finish_done.new.tables c.finish_done.new.draft c.args.at c.take_out-host.result c.without_token-done.result
    c.take_out-host.ensures.left m) c.finish_done.ensures

pub returns-clause-counted : goal.returns-clause-counted
returns-clause-counted c =
    on_ok_weaker c.finish_done.result (λ m. done_counted c.take_out-host.new.tables c.args.draft.now
    c.finish_done.new.tables c.finish_done.new.draft c.take_out-host.result c.without_token-done.result
    c.take_out-host.ensures.counted m) c.finish_done.ensures
