-- The servers of the names that clones make, by a table of them that grows stage by stage.
use Rattle.std.specs.Prelude.{
  ℕ,
  zero,
  suc,
  List,
  [],
  ◌∷◌,
  length,
  map,
  replicate,
  slice_get,
  slice_set,
  position,
  Option,
  Some,
  None,
  unwrap_or,
}
use Rattle.base_types.specs.Name.{same_name}
use Rattle.base_types.specs.declared.ids.ServerId.{ServerId}
use Rattle.script_lines.specs.Context.{find_placed}
use Rattle.script_lines.specs.declared.context.Placed.{Placed}
use Rattle.script_lines.specs.declared.clones.CloneLine.{CloneLine}
use Rattle.script_lines.specs.declared.clones.Way.{Way}
use Rattle.script_lines.specs.declared.clones.Way.TheVariants.{At, Clone, Nowhere}
use Rattle.script_lines.specs.declared.clones.Route.{Route}

-- where a name leads: it is placed, or it is that of clones, the first of which stands here
abbrev pub way_by : Option Placed → Option ℕ → Way
way_by (Some found) clone = At found.server
way_by None (Some clone) = Clone clone
way_by None None = Nowhere

unfoldable pub way_of : List Placed → List CloneLine → List ℕ → Way
way_of placed clones name = way_by (find_placed placed name) (position (λ clone. same_name clone.new name) clones)

-- where the new name and the source of a clone lead
abbrev pub route_of : List Placed → List CloneLine → CloneLine → Route
route_of placed clones clone =
    record { name = way_of placed clones clone.new; source = way_of placed clones clone.source }

unfoldable pub routes_of : List Placed → List CloneLine → List Route
routes_of placed clones = map (route_of placed clones) clones

-- the server at a place of a table
abbrev pub server_in : List (Option ServerId) → ℕ → Option ServerId
server_in table place = unwrap_or (slice_get table place) None

-- the server to which a way leads
abbrev pub server_by : List (Option ServerId) → Way → Option ServerId
server_by table (At server) = Some server
server_by table (Clone place) = server_in table place
server_by table Nowhere = None

-- the first of two that is there
abbrev pub first_of : Option ServerId → Option ServerId → Option ServerId
first_of (Some server) other = Some server
first_of None other = other

-- a table in which the first clone of a name that has a server decides
abbrev pub put_first : List (Option ServerId) → Way → Option ServerId → List (Option ServerId)
put_first table (Clone place) server = slice_set table place (first_of (server_in table place) server)
put_first table _ server = table

abbrev pub stage_from : List (Option ServerId) → List (Option ServerId) → List Route → List (Option ServerId)
stage_from old table [] = table
stage_from old table (route ∷ routes) = stage_from old (put_first table route.name (server_by old route.source)) routes

-- a table without servers
abbrev pub unknown : ℕ → List (Option ServerId)
unknown n = replicate n None

-- what is known after a stage, and after so many
unfoldable pub stage : List Route → List (Option ServerId) → List (Option ServerId)
stage routes old = stage_from old (unknown (length routes)) routes

abbrev pub stages : ℕ → List Route → List (Option ServerId)
stages zero routes = unknown (length routes)
stages (suc n) routes = stage routes (stages n routes)
