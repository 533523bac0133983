use Rattle.std.specs.Prelude.{Bool, true, false}
use Rattle.base_types.specs.declared.ids.OpenKind.{OpenKind}
use Rattle.base_types.specs.declared.ids.OpenKind.TheVariants.{Writing, Executing, Shared, Exclusive}

-- whether opens of two hosts conflict: exclusive with each kind, and writing with executing and shared
abbrev pub opens_conflict : OpenKind → OpenKind → Bool
opens_conflict Exclusive _ = true
opens_conflict _ Exclusive = true
opens_conflict Writing Executing = true
opens_conflict Writing Shared = true
opens_conflict Executing Writing = true
opens_conflict Shared Writing = true
opens_conflict _ _ = false
