-- Where the sources of clones lead along the first clone of each name, by more and more steps.
use Rattle.std.specs.Prelude.{ℕ, zero, suc, ◌+◌, List, length, map, slice_get, Option, Some, None, unwrap_or}
use Rattle.std.specs.List.{range_with_len}
use Rattle.base_types.specs.declared.ids.ServerId.{ServerId}
use Rattle.script_lines.specs.Ways.{way_of}
use Rattle.script_lines.specs.declared.context.Placed.{Placed}
use Rattle.script_lines.specs.declared.clones.CloneLine.{CloneLine}
use Rattle.script_lines.specs.declared.clones.Way.{Way}
use Rattle.script_lines.specs.declared.clones.Way.TheVariants.{At, Clone, Nowhere}

-- one step from the source of a clone
abbrev pub way_from : List Placed → List CloneLine → Option CloneLine → Way
way_from placed clones None = Nowhere
way_from placed clones (Some clone) = way_of placed clones clone.source

-- a way that goes on from the source of a clone
abbrev pub goes_on : Way → (ℕ → Way) → Way
goes_on (At server) next = At server
goes_on (Clone clone) next = next clone
goes_on Nowhere next = Nowhere

-- where the source of a clone leads by one step and so many further ones
abbrev pub leads : ℕ → List Placed → List CloneLine → ℕ → Way
leads zero placed clones clone = way_from placed clones (slice_get clones clone)
leads (suc steps) placed clones clone =
    goes_on (way_from placed clones (slice_get clones clone)) (leads steps placed clones)

-- the same of all clones
unfoldable pub all_lead : ℕ → List Placed → List CloneLine → List Way
all_lead steps placed clones = map (leads steps placed clones) (range_with_len 0 (length clones))

-- how many further steps are known after so many doublings
abbrev pub steps_after : ℕ → ℕ
steps_after zero = 0
steps_after (suc rounds) = steps_after rounds + steps_after rounds + 1

-- the way of a clone in a list of them
abbrev pub way_in : List Way → ℕ → Way
way_in ways clone = unwrap_or (slice_get ways clone) Nowhere

-- twice as many steps
unfoldable pub doubled : List Way → List Way
doubled ways = map (λ clone. goes_on (way_in ways clone) (way_in ways)) (range_with_len 0 (length ways))

-- the server to which a way leads
abbrev pub server_at_end : Way → Option ServerId
server_at_end (At server) = Some server
server_at_end (Clone clone) = None
server_at_end Nowhere = None
