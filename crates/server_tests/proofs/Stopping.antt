-- A host that has stopped ends no grace period.
use Rattle.std.proofs.Common.{◌≡◌, subst, sym}
use Rattle.base_types.specs.declared.ids.HostId.{HostId}
use Rattle.server_tables.specs.Counting.{AreCounted, IsCounted}
use Rattle.server_tables.specs.Listing.{no_grace, stopping}
use Rattle.server_tables.specs.declared.hosts.Hosts.{Hosts}
use Rattle.server_tables.specs.declared.tables.Tables.{Tables}

pub stopped_counted : (x : Tables) (h : Hosts) (host : HostId) → h ≡ stopping x.hosts host → IsCounted x
    → IsCounted (record x { hosts = h })
stopped_counted x h host e counted =
    subst (λ h. AreCounted (no_grace h) x.tokens.asked x.tokens.latest x.pending x.next) (sym e) counted
