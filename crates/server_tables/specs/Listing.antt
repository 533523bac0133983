-- What a server's list of hosts says, and what becomes of it.
use Rattle.std.specs.Prelude.{ℕ, ◌+◌, ◌==◌, Bool, ◌&&◌, ◌||◌, not, List, [], ◌∷◌, ◌++◌, if◌then◌else◌}
use Rattle.std.specs.List.{list_all, list_any}
use Rattle.base_types.specs.declared.ids.HostId.{HostId}
use Rattle.server_tables.specs.declared.hosts.Hosts.{Hosts}

abbrev pub has_host : List HostId → HostId → Bool
has_host hosts host = list_any (λ other. other.0 == host.0) hosts

-- a host is on the list, and hasn't gone away
abbrev pub is_live : Hosts → HostId → Bool
is_live x host = has_host x.listed host && not (has_host x.away host)

-- each host on the list has gone away, or has reclaimed
abbrev pub no_grace : Hosts → Bool
no_grace x = list_all (λ host. has_host x.away host || has_host x.reclaimed host) x.listed

abbrev pub is_alone : Hosts → Bool
is_alone x = list_all (λ host. has_host x.away host) x.listed

abbrev pub no_hosts : ℕ → Hosts
no_hosts epoch = record { epoch = epoch; listed = []; down = []; away = []; listed_now = []; reclaimed = [] }

abbrev pub reclaiming : Hosts → HostId → Hosts
reclaiming x host = record x { reclaimed = x.reclaimed ++ host ∷ [] }

abbrev pub stopping : Hosts → HostId → Hosts
stopping x host = record x { down = x.down ++ host ∷ [] }

unfoldable pub leaving : Hosts → HostId → Hosts
leaving x host = if has_host x.away host then x else record x { away = x.away ++ host ∷ [] }

abbrev pub next_epoch : Hosts → Hosts
next_epoch x = record x { epoch = x.epoch + 1; listed_now = []; reclaimed = [] }
