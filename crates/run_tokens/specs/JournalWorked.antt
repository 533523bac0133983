-- The script and the tree of the small run.
use Rattle.std.specs.Prelude.{None, Some, [], codes, false, ◌∷◌}
use Rattle.base_types.specs.declared.user.User.{User}
use Rattle.tree_calls.specs.declared.roster.Roster.{Roster}
use Rattle.tree_objects.specs.declared.content.Object.{Object}
use Rattle.script_lines.specs.declared.script.Script.{Script}
use Rattle.base_types.specs.declared.ids.Node.TheVariants.{Host}
use Rattle.script_lines.specs.declared.script.Deed.TheVariants.{Call as MakesCall}
use Rattle.tree_answers.specs.declared.tree.Tree.{Tree}
use Rattle.tree_filesets.specs.declared.fileset.Fileset.{Fileset}
use Rattle.tree_objects.specs.declared.content.Content.TheVariants.{Dir}
use Rattle.run_tokens.specs.Worked.{client, site_one, stat, access}

abbrev pub owner : User
owner = record { name = codes "u"; groups = codes "g" ∷ [] }

abbrev pub roster : Roster
roster = record { users = owner ∷ []; hosts = record { user = 0; limit = 64 } ∷ []; capacity = 16384 ∷ [] }

-- a host asks twice for the status of the root of a fileset
abbrev pub script : Script
script = record {
  servers = 1;
  roster = roster;
  setup = [];
  plan = [];
  net = None;
  lines =
      record { number = 6; node = Host client; deed = MakesCall stat }
      ∷ record { number = 7; node = Host client; deed = MakesCall stat }
      ∷ [];
}

-- its root, which is empty
abbrev pub root_object : Object
root_object = record { owner = codes "u"; group = codes "g"; content = Dir [] (access ∷ access ∷ access ∷ []) }

-- the fileset
abbrev pub home_fileset : Fileset
home_fileset = record {
  server = site_one;
  id = record { 0 = 65537 };
  name = codes "home";
  read_only = false;
  objects = 1;
  moves = 0;
  anodes = record { unique = 1; object = Some root_object } ∷ [];
}

abbrev pub start : Tree
start = record {
  roster = roster;
  servers = record { capacity = 16384; next = 2 } ∷ [];
  filesets = home_fileset ∷ [];
  away = [];
  locks = [];
  opens = [];
}
