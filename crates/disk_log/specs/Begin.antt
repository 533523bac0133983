-- What a log answers where a transaction is to begin.
use Rattle.std.specs.Prelude.{◌≡◌, ◌≤◌, ◌<◌, ℕ, length, Result, Ok, Err}
use Rattle.std.proofs.Common.{get_or}
use Rattle.disk_log.specs.State.{State, free_in, begun}
use Rattle.disk_log.specs.declared.fault.LogFault.{LogFault}
use Rattle.disk_log.specs.declared.fault.LogFault.TheVariants.{Failed, Full, NotALog, Memory}
use Rattle.disk_log.specs.declared.kept.Tx.{Tx}

-- A transaction has begun in a free slot, where so many entries are free. Else the log is as before: too few entries
-- are free, or memory ran out.
abbrev pub IsBegun : ℕ → Result Tx LogFault → State → State → Type 0
IsBegun needed (Ok tx) old new = (needed ≤ free_in old)
    × (tx.slot < length old.reservations) × (get_or old.reservations tx.slot 0 ≡ 0) × (new ≡ begun old tx.slot needed)
IsBegun needed (Err (Full free wanted)) old new =
    (free ≡ free_in old) × (wanted ≡ needed) × (free_in old < needed) × (new ≡ old)
IsBegun needed (Err Memory) old new = new ≡ old
IsBegun needed (Err Failed) old new = ⊥
IsBegun needed (Err (NotALog place)) old new = ⊥
