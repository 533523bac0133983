-- How filesets come about.
use Rattle.std.specs.Prelude.{ℕ, ◌+◌, ◌-◌, true, false, List, [], ◌∷◌, map, replicate, Some, None, Result}
use Rattle.std.specs.Option.{option_map}
use Rattle.base_types.specs.Outcomes.{and_then}
use Rattle.base_types.specs.declared.access.AccessEntry.{AccessEntry}
use Rattle.base_types.specs.declared.access.Who.TheVariants.{UserObj, GroupObj, OtherObj}
use Rattle.base_types.specs.declared.ids.FilesetId.{FilesetId}
use Rattle.base_types.specs.declared.ids.ServerId.{ServerId}
use Rattle.base_types.specs.declared.user.User.{User}
use Rattle.tree_calls.specs.declared.reply.Refusal.{Refusal}
use Rattle.tree_calls.specs.declared.reply.Refusal.TheVariants.{ReadOnly}
use Rattle.tree_objects.specs.declared.content.Content.TheVariants.{Dir}
use Rattle.tree_objects.specs.declared.content.Anode.{Anode}
use Rattle.tree_objects.specs.Objects.{object_as_cloned}
use Rattle.tree_filesets.specs.declared.fileset.Fileset.{Fileset}
use Rattle.tree_filesets.specs.Checks.{unless, permission}
use Rattle.tree_filesets.specs.Rights.{control_right}
use Rattle.tree_filesets.specs.Creation.{owned}
use Rattle.tree_filesets.specs.Walk.{target}

-- the three entries that each access list has: rights of the owner, of the group and of others
abbrev pub three_entries : ℕ → ℕ → ℕ → List AccessEntry
three_entries owner group other =
    record { who = UserObj; rights = owner }
    ∷ record { who = GroupObj; rights = group } ∷ record { who = OtherObj; rights = other } ∷ []

-- the lists of a new root: its own and that of new directories are rwxcid, rx, rx; that of new files is rwxc, r, r
abbrev pub root_lists : List (List AccessEntry)
root_lists = three_entries 63 5 5 ∷ three_entries 15 1 1 ∷ three_entries 63 5 5 ∷ []

-- an anode that was never used
abbrev pub unused_anode : Anode
unused_anode = record { unique = 0; object = None }

-- the anodes of a new fileset: an empty root, and then unused ones
abbrev pub new_anodes : User → ℕ → List Anode
new_anodes owner objects =
    record { unique = 1; object = Some (owned owner (Dir [] root_lists)) } ∷ replicate (objects - 1) unused_anode

-- a new fileset of so many objects
unfoldable pub new_fileset : ServerId → FilesetId → List ℕ → ℕ → User → Fileset
new_fileset server id name objects owner = record {
  server = server;
  id = id;
  name = name;
  read_only = false;
  objects = objects;
  moves = 0;
  anodes = new_anodes owner objects;
}

-- the checks of a clone or a move on the fileset alone: ReadOnly (it is a clone); Denied (control) on the root
unfoldable pub control_check : Fileset → User → Result (Unit {0}) Refusal
control_check fileset user =
    unless fileset.read_only ReadOnly (
    and_then (target fileset user []) (λ (anode, root). permission root user control_right))

-- what a clone holds at an anode; the unique number stays, also where nothing stands
abbrev pub anode_as_cloned : Anode → Anode
anode_as_cloned anode = record anode { object = option_map object_as_cloned anode.object }

-- a clone: a read-only copy of all objects under another id and name, in which what was present is kept
unfoldable pub cloned : Fileset → FilesetId → List ℕ → Fileset
cloned fileset id name =
    record fileset { id = id; name = name; read_only = true; moves = 0; anodes = map anode_as_cloned fileset.anodes }

-- a fileset at another server, with one move more, in which what was present is kept
unfoldable pub moved : Fileset → ServerId → Fileset
moved fileset to =
    record fileset { server = to; moves = fileset.moves + 1; anodes = map anode_as_cloned fileset.anodes }
