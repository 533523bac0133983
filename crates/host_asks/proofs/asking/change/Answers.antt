use Rattle.std.proofs.lemmas.Result.{on_ok_weaker}
use Rattle.host_asks.specs.Asking.{doing}
use Rattle.host_asks.proofs.Asked.{change_done}
use Rattle.host_asks.proofs.asking.change.Goals as goal

pub returns : goal.returns
returns c =
    on_ok_weaker c.send_request.result
    (change_done c.args.server c.args.fileset c.args.fid c.args.enter c.args.current.k c.args.current.call.now
    (doing c.args.tables.now c.args.draft.now) c.in_ok-number.number c.next_change.new.changed c.in_ok-call.call
    c.put_request.new.outstanding c.send_request.new.draft
    c.in_ok-number.ensures.number c.in_ok-number.ensures.after c.in_ok-call.ensures
    c.put_request.ensures) c.send_request.ensures
