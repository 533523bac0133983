use Rattle.std.proofs.Common.{◌≡◌, ℕ, [], length, get_or}
use Rattle.run_output.proofs.told.grow.Given as goal

abbrev pub invariant-loop-place : goal.invariant-loop-place
invariant-loop-place l = record {
  count : length l.sorted ≡ l._place;
  kept : (i : ℕ) → get_or l.sorted i [] ≡ get_or l.fn.sorted i [];
}
