-- The lines of objects, level by level.
use Rattle.std.proofs.Common.{◌≡◌, ℕ, zero, suc, ◌-◌, ◌≢◌, List, [], ◌∷◌, ◌++◌, refl, arith}
use Rattle.std.specs.List.{flat_map}
use Rattle.std.specs.Option.{option_map_or}
use Rattle.tree_objects.specs.declared.content.Object.{Object}
use Rattle.tree_objects.specs.declared.content.Anode.{Anode}
use Rattle.tree_filesets.specs.Walk.{object_at}
use Rattle.tree_filesets.specs.Laws.{entries_in}
use Rattle.script_output.specs.Dump.{object_lines, lines_below}

-- with one level at least
pub lines_more : (levels : ℕ) (anodes : List Anode) (path : List ℕ) (object : Object) → levels ≢ 0 →
    lines_below levels anodes path object
    ≡ object_lines path object
    ++ flat_map (λ entry. option_map_or (lines_below (levels - 1) anodes (path ++ 47 ∷ entry.name)) (object_at anodes entry.anode) []) (entries_in object.content)
lines_more zero anodes path object h = absurd (h refl)
lines_more (suc levels) anodes path object h = let e : suc levels - 1 ≡ levels = omega arith in rw e refl
