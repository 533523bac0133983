use Rattle.std.proofs.Common.{◌≡◌, ◌≤◌, ◌<◌, ◌+◌, ◌-◌, ◌∙◌, ap, length, sym, arith}
use Rattle.base_types.specs.declared.ids.Node.TheVariants.{Server}
use Rattle.service_hosts.proofs.Places.{host_place, nodes_long, server_place}
use Rattle.service_hosts.proofs.Starting.{has_limits}
use Rattle.service_hosts.specs.Runs.{setup_node}
use Rattle.service_run.proofs.lines.node_at.Goals as goal

pub overflow_cast-host : goal.overflow_cast-host
overflow_cast-host c =
    (let few = (has_limits c.args.script.now.roster c.requires.sound.roster).hosts in
    let len = c.len-hosts.ensures in
    omega arith)

pub overflow_cast-server : goal.overflow_cast-server
overflow_cast-server c =
    (let few = (has_limits c.args.script.now.roster c.requires.sound.roster).servers in
    let servers = c.requires.sound.servers in
    let long = nodes_long c.args.script.now in
    let within = c.requires.within in
    let len = c.len-hosts.ensures in
    omega arith)

pub overflow_add-result : goal.overflow_add-result
overflow_add-result c =
    (let few = (has_limits c.args.script.now.roster c.requires.sound.roster).servers in
    let servers = c.requires.sound.servers in
    let long = nodes_long c.args.script.now in
    let within = c.requires.within in
    let len = c.len-hosts.ensures in
    omega arith)

pub returns-then-place-hosts : goal.returns-then-place-hosts
returns-then-place-hosts c =
    (let len = c.len-hosts.ensures in sym (host_place c.args.script.now c.args.place setup_node (omega arith)))

pub returns-else-place-hosts : goal.returns-else-place-hosts
returns-else-place-hosts c =
    (let long = nodes_long c.args.script.now in
    let within = c.requires.within in
    let len = c.len-hosts.ensures in
    sym (server_place c.args.script.now (c.args.place - (c.len-hosts.result + 1)) c.args.place setup_node (omega arith)
    (omega arith)))
