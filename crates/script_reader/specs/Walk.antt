use Rattle.std.specs.Prelude.{
  ℕ,
  zero,
  suc,
  ◌==◌,
  Bool,
  true,
  if◌then◌else◌,
  List,
  [],
  ◌∷◌,
  ◌++◌,
  length,
  slice_get,
  Option,
  Some,
  None,
}
use Rattle.std.specs.List.{list_any}
use Rattle.base_types.specs.Name.{is_among}
use Rattle.base_types.specs.declared.ids.Node.{Node}
use Rattle.script_lines.specs.Sound.{same_node}
use Rattle.script_lines.specs.declared.script.Line.{Line}
use Rattle.script_lines.specs.declared.script.Deed.{Deed}
use Rattle.script_lines.specs.declared.script.Deed.TheVariants.{Raise, Await}
use Rattle.script_reader.specs.declared.walk.Walk.{Walk}

abbrev pub is_blocked : List Node → Node → Bool
is_blocked blocked node = list_any (λ other. same_node other node) blocked

-- an await goes when its flag is raised, and any other line at once
abbrev pub can_go : List (List ℕ) → Deed → Bool
can_go flags (Await flag) = is_among flags flag
can_go flags _ = true

abbrev pub gone : Walk → Deed → Walk
gone walk (Raise flag) = record walk { flags = walk.flags ++ flag ∷ [] }
gone walk _ = walk

-- a line goes where its node stands at it and it can
abbrev pub stepped : Walk → ℕ → Line → Walk
stepped walk place line =
    if is_blocked walk.blocked line.node then record walk { left = walk.left ++ place ∷ [] }
    else (if can_go walk.flags line.deed then gone walk line.deed
    else record walk { left = walk.left ++ place ∷ []; blocked = walk.blocked ++ line.node ∷ [] })

abbrev pub walk_of : List (List ℕ) → Walk
walk_of flags = record { flags = flags; left = []; blocked = [] }

abbrev pub stepped_at : Walk → ℕ → Option Line → Walk
stepped_at walk place None = walk
stepped_at walk place (Some line) = stepped walk place line

-- one pass over the lines at these places
abbrev pub pass_from : List Line → Walk → List ℕ → Walk
pass_from lines walk [] = walk
pass_from lines walk (place ∷ places) = pass_from lines (stepped_at walk place (slice_get lines place)) places

abbrev pub count_up : ℕ → List ℕ
count_up zero = []
count_up (suc n) = count_up n ++ n ∷ []

abbrev pub after_pass : ℕ → Walk → (Walk → List ℕ) → List ℕ
after_pass count walk next = if length walk.left == count then walk.left else next walk

-- passes until one moves nothing, at most so many
abbrev pub rounds : ℕ → List Line → List (List ℕ) → List ℕ → List ℕ
rounds zero lines flags places = places
rounds (suc n) lines flags places =
    after_pass (length places) (pass_from lines (walk_of flags) places) (λ walk. rounds n lines walk.flags walk.left)

abbrev pub number_of : Option Line → Option ℕ
number_of None = None
number_of (Some line) = Some line.number

abbrev pub first_number : List Line → List ℕ → Option ℕ
first_number lines [] = None
first_number lines (place ∷ places) = number_of (slice_get lines place)

-- the least line at which a node stands when nothing can go: lines are left in their order
unfoldable pub stuck_at : List Line → Option ℕ
stuck_at lines = first_number lines (rounds (length lines) lines [] (count_up (length lines)))
