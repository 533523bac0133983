-- What contracts see of a log.
use Rattle.std.specs.Prelude.{ℕ}
use Rattle.base_types.specs.View.{View}
use Rattle.disk_log.specs.State.{State, IsSound, HasNoOpen}
use Rattle.disk_log.specs.declared.kept.Kept.{Kept}
use Rattle.disk_log.specs.declared.kept.Tx.{Tx}
use Rattle.disk_log.specs.declared.log.Log.{Log}

abbrev pub state_in : Kept → State
state_in kept = record {
  superblock = kept.superblock;
  half = kept.half;
  entries = kept.entries.items;
  forced = kept.forced;
  puts = kept.puts.items;
  reservations = kept.reservations;
  reserved = kept.reserved;
}

abbrev pub disk_of : {D : Type 0} → Log D → D
disk_of log = log.disk

abbrev pub state_of : {D : Type 0} → Log D → State
state_of log = state_in log.kept

abbrev pub slot_of : Tx → ℕ
slot_of tx = tx.slot

-- a log that has not failed
abbrev pub IsSoundLog : {D : Type 0} → Type 0 → (D → View) → Log D → Type 0
IsSoundLog tells view log = IsSound tells (view log.disk) log.kept.pages (state_of log)

-- and that has no open transaction
pub record IsIdle {D : Type 0} (tells : Type 0) (view : D → View) (log : Log D) : Type 0 where
  pub sound : IsSoundLog tells view log
  pub none_open : HasNoOpen (state_of log)
