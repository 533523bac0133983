use Rattle.std.proofs.Common.{◌≡◌, ◌≤◌, ℕ, ◌*◌}
use Rattle.std.specs.Prelude.{◌==◌}
use Rattle.disk_layout.specs.Numbers.{number_at}
use Rattle.disk_anode.specs.Room.{how_many}
use Rattle.disk_acts.proofs.counting.zeros.Given as goal

abbrev pub invariant-loop-i : goal.invariant-loop-i
invariant-loop-i l = record {
  zeros : l.zeros ≡ how_many (λ (i : ℕ). number_at 2 (2 * i) l.page == 0) l.i;
  few : l.zeros ≤ l.i;
}
