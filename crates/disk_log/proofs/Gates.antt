-- Gates that are closed one by one.
use Rattle.std.proofs.Common.{◌≡◌, ◌≢◌, ◌<◌, ◌≤◌, ◌⊎◌, ℕ, ◌+◌, ◌*◌, List, inl, inr, sym, ◌∙◌, ap, arith, get_or}
use Rattle.std.proofs.lemmas.Bool.{cases_lt}
use Rattle.base_types.specs.Image.{byte_at, bytes_from}
use Rattle.base_outside.proofs.Image.{get_or-bytes_from}
use Rattle.disk_layout.specs.Places.{entry_start}
use Rattle.disk_layout.specs.Entry.{gate_at, SameButGates}
use Rattle.disk_log.specs.Switch.{ClosesGates}

-- some gates are among more
pub within_gates : (start first n low m : ℕ) (a b : List ℕ) → low ≤ first → first + n ≤ low + m → SameButGates start first n a b → SameButGates start low m a b
within_gates start first n low m a b from up_to same = record {
  bodies = same.bodies;
  below = λ k lt. same.below k (omega arith);
  above = λ k le. same.above k (omega arith);
}

-- gates that were closed stay so, and more are closed behind them
pub closed_more : (start low n first m : ℕ) (a b : List ℕ) → low + n ≡ first → SameButGates start first m a b → ClosesGates start low n a → ClosesGates start first m b → ClosesGates start low (n + m) b
closed_more start low n first m a b next same before now i from below = by (cases_lt i first)
  where
    by : (i < first) ⊎ (first ≤ i) → gate_at start b i ≢ 1
    by (inl lt) = λ is. before i from (omega arith) (sym (same.below (entry_start start i) (omega arith)) ∙ is)
    by (inr le) = now i le (omega arith)

pub closed_one : (start slot : ℕ) (image : List ℕ) → gate_at start image slot ≢ 1 → ClosesGates start slot 1 image
closed_one start slot image shut i from below = let e : i ≡ slot = omega arith in λ is. shut (ap (gate_at start image) (sym e) ∙ is)

-- the gate of an entry among bytes that were read, while only earlier ones were written
pub gate_read : (start first i n : ℕ) (old now bytes : List ℕ) (gate : ℕ) → bytes ≡ bytes_from old (entry_start start first) n → 1536 * i < n → SameButGates start first i old now → gate ≡ get_or bytes (1536 * i) 0 → gate ≡ gate_at start now (first + i)
gate_read start first i n old now bytes gate read lt same is =
    let e : entry_start start first + 1536 * i ≡ entry_start start (first + i) = omega arith in
    is ∙ ap (λ (l : List ℕ). get_or l (1536 * i) 0) read ∙ get_or-bytes_from old (entry_start start first) n (1536 * i) lt ∙ ap (byte_at old) e ∙ sym (same.above (entry_start start (first + i)) (omega arith))
