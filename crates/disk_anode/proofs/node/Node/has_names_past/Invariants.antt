use Rattle.std.proofs.Common.{◌≡◌, ◌<◌, ◌+◌, ◌*◌, ℕ}
use Rattle.std.specs.Prelude.{false, ◌==◌, ◌&&◌, not, nat_le}
use Rattle.disk_anode.specs.Node.{pointer_of}
use Rattle.disk_anode.specs.Anode.{bytes_of}
use Rattle.disk_anode.proofs.node.Node.has_names_past.Given as goal

abbrev pub invariant-loop-j : goal.invariant-loop-j
invariant-loop-j l = (m : ℕ) → m < l.j → (nat_le (bytes_of l.self) (1024 * (12 + m)) && not (pointer_of l.self (16 + m) == 0)) ≡ false
