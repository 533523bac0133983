-- A machine before its first step.
use Rattle.std.specs.Prelude.{[]}
use Rattle.std.specs.Prelude.{List}
use Rattle.host_tables.specs.declared.sites.Site.{Site}
use Rattle.std.specs.declared.alloc.Global.{Global}
use Rattle.base_types.specs.declared.ids.HostId.{HostId}
use Rattle.base_types.specs.declared.user.User.{User}
use Rattle.host_cache.specs.Seen.{Kept}
use Rattle.host_dirty.specs.declared.dirty.Dirty.{Dirty}
use Rattle.host_tables.specs.Machine.{Rests}
use Rattle.host_tables.specs.declared.tables.Tables.{Tables}
use Rattle.run_rules.specs.Steps.{limit_of}
use Rattle.script_lines.specs.declared.script.Script.{Script}
use Rattle.std.specs.Prelude.{None, Some, ℕ, ◌≡◌}
use Rattle.tree_calls.specs.Rosters.{user_of}

abbrev pub new_tables : Global → HostId → User → ℕ → Kept → Dirty → List Site → Tables
new_tables alloc host user limit cache dirty sites = record {
  alloc = alloc;
  host = host;
  user = user;
  limit = limit;
  cache = cache;
  dirty = dirty;
  lengths = [];
  uses = record { labels = []; pinned = [] };
  gives = record { gives = []; counters = [] };
  leaving = [];
  ending = None;
  floors = [];
  sites = sites;
  request = None;
  fetched = [];
  changed = [];
  homes = [];
  lost = [];
  call = None;
  begun = 0;
}

-- it stands for no steps, and is at rest
abbrev pub StandsFirst : Tables → HostId → Type 0
StandsFirst m host = (script : Script) → user_of script.roster host ≡ Some m.user
    → m.limit ≡ limit_of script.roster host
    → m.host ≡ host → Rests script m []
