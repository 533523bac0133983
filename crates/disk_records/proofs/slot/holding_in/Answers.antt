use Rattle.disk_records.proofs.LoadSlots.{holding_made}
use Rattle.disk_records.proofs.slot.holding_in.Goals as goal

pub returns : goal.returns
returns c =
    holding_made c.args.home c.args.server.now c.args.header.now c.args.numbers.now c.args.anodes c.in_ok-said.said c.in_ok-said.ensures c.stay_of.result c.stay_of.ensures c.is_clone.result c.is_clone.ensures c.in_ok-records.records c.in_ok-records.ensures
