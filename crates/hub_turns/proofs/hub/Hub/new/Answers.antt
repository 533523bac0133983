use Rattle.std.proofs.Common.{ap, length, arith}
use Rattle.hub_turns.proofs.Starts.{nodes_count}
use Rattle.hub_turns.proofs.hub.Hub.new.Goals as goal

pub overflow_cast-len : goal.overflow_cast-len
overflow_cast-len c =
    let hosts = c.requires.hosts in
    let servers = c.requires.servers in
    let are = ap length c.in_ok-nodes.ensures in
    let count = nodes_count c.args.script.now in
    let is = c.len.ensures in omega arith
