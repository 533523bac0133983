use Rattle.std.proofs.Common.{◌+◌, [], length, arith}
use Rattle.service_hosts.proofs.Laid.{over_long}
use Rattle.service_hosts.proofs.nodes.hosts_for.Goals as goal

pub add_hosts-requires-clause-room : goal.add_hosts-requires-clause-room
add_hosts-requires-clause-room g c = let room = c.in_ok-reserve.ensures.ok in omega (arith, room)

pub returns-clause-room : goal.returns-clause-room
returns-clause-room g c =
    let hosts = length c.args.script.now.roster.hosts + 1 in
    let long = over_long c.add_hosts.new.nodes.items hosts [] c.in_ok-add_hosts.ensures.over in
    let room = c.in_ok-reserve.ensures.ok in
    let same = c.add_hosts.ensures.room in
    omega (arith, long, room, same)
