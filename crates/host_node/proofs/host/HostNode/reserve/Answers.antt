use Rattle.host_node.proofs.Turns.{with_room}
use Rattle.host_node.proofs.host.HostNode.reserve.Goals as goal

pub returns : goal.returns
returns c = λ part past made st.
    with_room part c.args.self.now past made c.reserve.new.self (c.reserve.ensures c.args.self.now.lines.lines) st
