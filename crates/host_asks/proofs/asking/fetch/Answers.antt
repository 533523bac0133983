use Rattle.std.proofs.Common.{refl}
use Rattle.std.proofs.lemmas.Result.{on_ok_weaker}
use Rattle.host_asks.specs.Asking.{doing}
use Rattle.host_asks.proofs.Asked.{fetch_done}
use Rattle.message_types.specs.declared.asking.Fetch.{Fetch}
use Rattle.host_asks.proofs.asking.fetch.Goals as goal

pub returns : goal.returns
returns c =
    let fetch : Fetch = record { number = c.in_ok-number.number; fid = c.args.fid; needs = c.in_ok-needs.needs } in
    on_ok_weaker c.send_request.result (λ sent. record {
      fetch = fetch;
      number = c.in_ok-number.ensures.number;
      file = refl;
      needs = c.in_ok-needs.ensures.asks;
      room = c.in_ok-needs.ensures.sound.0;
      count = c.in_ok-needs.ensures.sound.1;
      after = fetch_done fetch (doing c.args.tables.now c.args.draft.now) c.next_fetch.new.fetched
          c.put_request.new.outstanding
          c.send_request.new.draft
          c.in_ok-number.ensures.after c.put_request.ensures sent;
    }) c.send_request.ensures
