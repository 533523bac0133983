-- The tables after a restart.
use Rattle.std.specs.Prelude.{suc, []}
use Rattle.token_manager.specs.Grants.{no_grants}
use Rattle.server_tables.specs.declared.tables.Tables.{Tables}

-- What is of the epoch goes; the list of hosts, and all numbers, stay.
abbrev pub restarted : Tables → Tables
restarted x = record x {
  hosts = record x.hosts { epoch = suc x.hosts.epoch; listed_now = []; reclaimed = [] };
  tokens = record x.tokens { grants = no_grants x.server (suc x.hosts.epoch); queue = [] };
  pending = [];
  stamp = 0;
  recovering = record { claims = []; taken = []; given_up = []; answers = [] };
}
