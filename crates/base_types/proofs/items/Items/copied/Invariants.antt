use Rattle.std.proofs.Common.{◌≡◌, take}
use Rattle.base_types.proofs.items.Items.copied.Given as goal

-- the copies so far are the values so far
abbrev pub invariant-loop-value : goal.invariant-loop-value
invariant-loop-value g l = l.elements.items ≡ take l.value-index l.values
