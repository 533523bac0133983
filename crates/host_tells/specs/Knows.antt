-- What a host knows of the file that it read last.
use Rattle.std.specs.Prelude.{List, Ok, Some, [], false, length, ℕ, ◌++◌, ◌+◌, ◌<◌, ◌∷◌, ◌≡◌}
use Rattle.base_types.specs.declared.ids.FilesetId.{FilesetId}
use Rattle.base_types.specs.declared.span.Span.{Span}
use Rattle.host_cache.specs.Seen.{seen}
use Rattle.host_tables.specs.Tables.{content, held_of, home_of}
use Rattle.host_tables.specs.declared.tables.Tables.{Tables}
use Rattle.host_tells.specs.declared.last.Known.{Known}
use Rattle.host_tells.specs.declared.last.Last.{Last}
use Rattle.host_walk.specs.Bytes.{read_count}
use Rattle.host_walk.specs.Marks.{marks_of, used_all}
use Rattle.host_walk.specs.Trying.{Finds, status_need}
use Rattle.need_host.specs.Looks.{outcome, rounded}
use Rattle.need_host.specs.Walks.{permitted_look, root_of, walk_look}
use Rattle.token_types.specs.Covers.{Covers}
use Rattle.token_types.specs.declared.token.Kind.TheVariants.{Bytes}
use Rattle.token_types.specs.declared.token.Need.{Need}
use Rattle.tree_calls.specs.declared.call.Call.{Call}
use Rattle.tree_calls.specs.declared.call.Call.TheVariants.{Read}
use Rattle.tree_calls.specs.declared.place.Place.{Place}
use Rattle.tree_filesets.specs.Rights.{read_right}
use Rattle.tree_laws.specs.Parts.{Nature}
use Rattle.tree_laws.specs.Parts.Part.{Size}
use Rattle.tree_objects.specs.Spans.{span_between}

-- a place as bytes: its server, and each name behind its length
abbrev pub name_bytes : List ℕ → List ℕ → List ℕ
name_bytes name behind = length name ∷ name ++ behind

abbrev pub path_bytes : List (List ℕ) → List ℕ
path_bytes [] = []
path_bytes (name ∷ names) = name_bytes name (path_bytes names)

abbrev pub place_bytes : Place → List ℕ
place_bytes place = place.server.0 ∷ name_bytes place.fileset (path_bytes place.path)

-- to see the blocks that were read
abbrev pub blocks_need : Known → Need
blocks_need known = record { fid = known.fid; kind = Bytes false known.blocks }

-- The place leads to the file, which the user may read, and the tokens cover all that is looked at on the way.
pub record LeadsThere (m : Tables) (place : Place) (known : Known) : Type 0 where
  pub id : FilesetId
  pub entered : home_of m.homes place.server place.fileset ≡ Some id
  pub root : known.root ≡ root_of id
  pub nature : Nature
  pub found : Finds (held_of m) (content m.cache) (permitted_look m.user known.root place.path read_right)
      (known.fid, nature)
  pub walked : outcome (content m.cache) (walk_look m.user known.root place.path) ≡ Ok known.fid
  pub status : Covers (held_of m) (status_need known.fid)
  pub size : content m.cache known.fid Size ≡ known.length

-- and the blocks
pub record IsFound (m : Tables) (place : Place) (known : Known) : Type 0 where
  pub leads : LeadsThere m place known
  pub blocks : Covers (held_of m) (blocks_need known)

-- and where a Read of it marks what it used, nothing changes
pub record IsKnown (m : Tables) (place : Place) (known : Known) : Type 0 where
  pub found : IsFound m place known
  pub marked : used_all (marks_of (content m.cache) m.user (blocks_need known ∷ []) place.path known.root)
      (seen m.cache) ≡ seen m.cache

-- these bytes are what a Read of the file reads, and they lie in the same blocks
pub record IsWithin (known : Known) (from len : ℕ) (span : Span) : Type 0 where
  pub span_is : span ≡ span_between from (from + read_count from len known.length)
  pub some : span.from < span.to
  pub blocks : rounded span.from span.to ≡ known.blocks

abbrev pub ReadsIt : Call → Place → Known → Span → Type 0
ReadsIt call place known span = (from : ℕ) × (len : ℕ) × (call ≡ Read place from len) × IsWithin known from len span

-- what is known of the file that was read last holds of it
abbrev pub IsLast : Tables → Last → Type 0
IsLast m last = (known : Known) → last.known ≡ Some known → (place : Place) → place_bytes place ≡ last.place.items →
    IsKnown m place known
