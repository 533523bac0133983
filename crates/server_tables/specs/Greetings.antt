-- A host that comes on the list.
use Rattle.std.specs.Prelude.{[], ◌∷◌, ◌++◌}
use Rattle.base_types.specs.declared.ids.HostId.{HostId}
use Rattle.run_rules.specs.ServerDue.{empty_reclaimed}
use Rattle.server_tables.specs.declared.tables.Tables.{Tables}
use Rattle.server_tables.specs.declared.hosts.Hosts.{Hosts}

abbrev pub listing : Hosts → HostId → Hosts
listing hosts host = record hosts {
  listed = hosts.listed ++ host ∷ [];
  listed_now = hosts.listed_now ++ host ∷ [];
  reclaimed = hosts.reclaimed ++ host ∷ [];
}

abbrev pub welcoming : Tables → HostId → Tables
welcoming x host = record x {
  hosts = listing x.hosts host;
  recovering =
      record x.recovering { answers = x.recovering.answers ++ record { host = host; answer = empty_reclaimed } ∷ [] };
}
