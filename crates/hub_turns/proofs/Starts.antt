-- A hub at the start.
use Rattle.std.proofs.Common.{◌≡◌, ℕ, zero, suc, ◌+◌, [], ◌∷◌, length, length-append, arith}
use Rattle.base_types.specs.declared.ids.Node.TheVariants.{Host, Server}
use Rattle.script_lines.specs.declared.script.Script.{Script}
use Rattle.hub_board.specs.Hubs.{hosts_up_to, nodes_of, servers_up_to}

hosts_count : (n : ℕ) → length (hosts_up_to n) ≡ n + 1
hosts_count zero = omega arith
hosts_count (suc n) =
    let i = hosts_count n in
    let more = length-append (hosts_up_to n) (Host (record { 0 = suc n }) ∷ []) in omega arith

servers_count : (n : ℕ) → length (servers_up_to n) ≡ n
servers_count zero = omega arith
servers_count (suc n) =
    let i = servers_count n in
    let more = length-append (servers_up_to n) (Server (record { 0 = suc n }) ∷ []) in omega arith

-- how many nodes take part
pub nodes_count : (script : Script) → length (nodes_of script) ≡ length script.roster.hosts + 1 + script.servers
nodes_count script =
    let all = length-append (hosts_up_to (length script.roster.hosts)) (servers_up_to script.servers) in
    let hosts = hosts_count (length script.roster.hosts) in
    let servers = servers_count script.servers in omega arith
