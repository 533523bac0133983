-- Where filesets stand in the list, and what a tree answers.
use Rattle.std.specs.Prelude.{
  ℕ,
  ◌==◌,
  nat_lt,
  Bool,
  false,
  ◌&&◌,
  ◌||◌,
  not,
  if◌then◌else◌,
  List,
  length,
  Option,
  Some,
  None,
  unwrap_or,
  Result,
  Ok,
  Err,
}
use Rattle.std.specs.List.{find, list_any, position}
use Rattle.base_types.specs.Name.{same_name}
use Rattle.base_types.specs.Outcomes.{and_then}
use Rattle.base_types.specs.declared.ids.ServerId.{ServerId}
use Rattle.base_types.specs.declared.ids.FilesetId.{FilesetId}
use Rattle.tree_calls.specs.declared.place.Place.{Place}
use Rattle.tree_calls.specs.declared.reply.Refusal.{Refusal}
use Rattle.tree_calls.specs.declared.reply.Refusal.TheVariants.{NoFileset, CrossFileset}
use Rattle.tree_calls.specs.declared.reply.Reply.{Reply}
use Rattle.tree_calls.specs.declared.reply.Reply.TheVariants.{Refused}
use Rattle.tree_filesets.specs.declared.fileset.Fileset.{Fileset}
use Rattle.tree_filesets.specs.Checks.{unless}
use Rattle.tree_answers.specs.declared.tree.Tree.{Tree}
use Rattle.tree_answers.specs.Away.{is_away_named, away_id}

-- what a tree answers to a call: the reply, and the tree after it
pub record Answer : Type 0 where
  pub reply : Reply
  pub tree : Tree

-- a refused call changes nothing
abbrev pub refuse : Tree → Refusal → Answer
refuse tree refusal = record { reply = Refused refusal; tree = tree }

-- whether this is the fileset of a server with a name
abbrev pub is_named : ServerId → List ℕ → Fileset → Bool
is_named server name fileset = (fileset.server.0 == server.0) && same_name fileset.name name

-- whether this is the fileset with an id
abbrev pub has_id : FilesetId → Fileset → Bool
has_id id fileset = fileset.id.0 == id.0

abbrev pub found_or : {A : Type 0} → Option A → Refusal → Result A Refusal
found_or None refusal = Err refusal
found_or (Some value) refusal = Ok value

-- whether a server has a fileset with a name
abbrev pub is_here : List Fileset → ServerId → List ℕ → Bool
is_here filesets server name = list_any (is_named server name) filesets

-- whether a fileset has an id, where there is one
abbrev pub has_this_id : Option FilesetId → Fileset → Bool
has_this_id None fileset = false
has_this_id (Some id) fileset = has_id id fileset

-- The fileset that a server and a name lead to: the one of that name at the server, or, where there is none, the one
-- that the server's record of that name tells of.
abbrev pub leads_to : Tree → ServerId → List ℕ → Fileset → Bool
leads_to tree server name =
    if is_here tree.filesets server name then is_named server name else has_this_id (away_id tree.away server name)

-- where the fileset of a server with a name stands in the list
unfoldable pub fileset_place : Tree → ServerId → List ℕ → Result ℕ Refusal
fileset_place tree server name = found_or (position (leads_to tree server name) tree.filesets) NoFileset

-- the fileset of a server with a name
unfoldable pub fileset_named : Tree → ServerId → List ℕ → Result Fileset Refusal
fileset_named tree server name = found_or (find (leads_to tree server name) tree.filesets) NoFileset

-- whether a server has a fileset, or a record of one, with a name
abbrev pub is_taken : Tree → ServerId → List ℕ → Bool
is_taken tree server name = is_here tree.filesets server name || list_any (is_away_named server name) tree.away

-- whether two places are in one fileset
abbrev pub same_fileset : Place → Place → Bool
same_fileset from to = (from.server.0 == to.server.0) && same_name from.fileset to.fileset

-- the fileset in which an object moves: that of the place from which, which has to be that to which
abbrev pub move_place : Tree → Place → Place → Result ℕ Refusal
move_place tree from to =
    and_then (fileset_place tree from.server from.fileset) (λ place.
    unless (not (same_fileset from to)) CrossFileset (Ok place))

-- where a fileset goes in the list: before the first with a greater id
abbrev pub id_place : List Fileset → FilesetId → ℕ
id_place filesets id = unwrap_or (position (λ fileset. nat_lt id.0 fileset.id.0) filesets) (length filesets)
