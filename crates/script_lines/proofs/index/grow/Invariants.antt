use Rattle.std.proofs.Common.{◌≡◌, ℕ, [], length, get_or}
use Rattle.script_lines.proofs.index.grow.Given as goal

abbrev pub invariant-loop-place : goal.invariant-loop-place
invariant-loop-place l = record {
  count : length l.slots ≡ l._place;
  kept : (i : ℕ) → get_or l.slots i [] ≡ get_or l.fn.slots i [];
}
