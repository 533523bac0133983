-- Records of filesets that moved away from servers.
use Rattle.std.specs.Prelude.{
  ℕ,
  ◌==◌,
  nat_lt,
  Bool,
  false,
  ◌&&◌,
  ◌||◌,
  not,
  if◌then◌else◌,
  List,
  length,
  insert,
  map,
  filter,
  Option,
  unwrap_or,
}
use Rattle.std.specs.List.{find, list_any, position}
use Rattle.std.specs.Option.{option_map}
use Rattle.base_types.specs.Name.{same_name}
use Rattle.base_types.specs.declared.ids.FilesetId.{FilesetId}
use Rattle.base_types.specs.declared.ids.ServerId.{ServerId}
use Rattle.tree_answers.specs.declared.tree.Away.{Away}

-- whether this is a server's record of a fileset
abbrev pub is_away : ServerId → FilesetId → Away → Bool
is_away server id away = (away.server.0 == server.0) && (away.fileset.0 == id.0)

-- whether a server has a record of a fileset
abbrev pub has_away : List Away → ServerId → FilesetId → Bool
has_away records server id = list_any (is_away server id) records

-- whether this is a server's record of a name
abbrev pub is_away_named : ServerId → List ℕ → Away → Bool
is_away_named server name away = (away.server.0 == server.0) && same_name away.name name

-- the fileset of which a server has a record with a name
abbrev pub away_id : List Away → ServerId → List ℕ → Option FilesetId
away_id records server name = option_map (λ away. away.fileset) (find (is_away_named server name) records)

-- whether a server's record of a fileset comes before another: by server, and then by id
abbrev pub away_before : ServerId → FilesetId → Away → Bool
away_before server id away =
    nat_lt server.0 away.server.0 || ((server.0 == away.server.0) && nat_lt id.0 away.fileset.0)

-- where a server's record of a fileset goes: before the first that comes after it
abbrev pub away_place : List Away → ServerId → FilesetId → ℕ
away_place records server id = unwrap_or (position (away_before server id) records) (length records)

-- the records with one more
abbrev pub with_away : List Away → Away → List Away
with_away records away = insert records (away_place records away.server away.fileset) away

-- the records without a server's of a fileset
abbrev pub without_away : List Away → ServerId → FilesetId → List Away
without_away records server id = filter (λ away. not (is_away server id away)) records

-- whether a server keeps room for a fileset that moved away
abbrev pub is_room_kept : List Away → ServerId → FilesetId → Bool
is_room_kept records server id = list_any (λ away. is_away server id away && away.room_kept) records

-- the records once a server keeps no more room for a fileset
abbrev pub room_freed : List Away → ServerId → FilesetId → List Away
room_freed records server id =
    map (λ away. if is_away server id away then record away { room_kept = false } else away) records
