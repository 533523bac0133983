-- The tables of a server that starts.
use Rattle.std.specs.Prelude.{ℕ, []}
use Rattle.base_types.specs.declared.ids.ServerId.{ServerId}
use Rattle.tree_calls.specs.declared.roster.Roster.{Roster}
use Rattle.token_manager.specs.Managers.{new_manager}
use Rattle.server_tables.specs.declared.tables.Tables.{Tables}

abbrev pub starting : ServerId → ℕ → Roster → Tables
starting server epoch roster = record {
  server = server;
  roster = roster;
  hosts = record { epoch = epoch; listed = []; down = []; away = []; listed_now = []; reclaimed = [] };
  tokens = new_manager server epoch;
  pending = [];
  next = 0;
  stamp = 0;
  gives = [];
  changes = [];
  recovering = record { claims = []; taken = []; given_up = []; answers = [] };
}
