use Rattle.std.proofs.Common.{◌≡◌, drop}
use Rattle.base_types.specs.Access.{is_distinct}
use Rattle.base_types.proofs.access.is_distinct.Given as goal

-- what is left decides
abbrev pub invariant-loop-i : goal.invariant-loop-i
invariant-loop-i l = is_distinct l.entries ≡ is_distinct (drop l.i l.entries)
