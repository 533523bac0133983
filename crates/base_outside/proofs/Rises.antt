-- How counts of faults rise.
use Rattle.std.proofs.Common.{ℕ, ◌+◌, ◌≤◌, arith}
use Rattle.base_types.specs.Faults.{RoseBy}

-- two rises make one of both
pub rise_twice : (m n a b c : ℕ) → RoseBy m a b → RoseBy n b c → b ≤ c → RoseBy (m + n) a c
rise_twice m n a b c first second le = omega arith

-- a rise lasts
pub rise_lasts : (n a b c : ℕ) → RoseBy n a b → b ≤ c → RoseBy n a c
rise_lasts n a b c rose le = omega arith

pub rise_before : (n a b c : ℕ) → a ≤ b → RoseBy n b c → RoseBy n a c
rise_before n a b c le rose = omega arith
