use Rattle.std.proofs.Common.{◌≡◌, ◌<◌, ◌≤◌, ℕ, get_or}
use Rattle.disk_anode.proofs.parts.clear_from.Given as goal

abbrev pub invariant-loop-k : goal.invariant-loop-k
invariant-loop-k l = record {
  below : (j : ℕ) → j < l.fn.n → get_or l.bytes j 0 ≡ get_or l.initial.bytes j 0;
  done : (j : ℕ) → l.fn.n ≤ j → j < l.k → get_or l.bytes j 0 ≡ 0;
}
