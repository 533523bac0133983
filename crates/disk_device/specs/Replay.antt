-- A disk's changes done again, and what a crash behind them may leave.
use Rattle.std.specs.Prelude.{◌≡◌, ℕ, ◌+◌, ◌-◌, List, [], ◌∷◌, ◌++◌, length, take, drop, replicate}
use Rattle.base_types.specs.Image.{Torn}
use Rattle.disk_device.specs.declared.act.Act.{Act}
use Rattle.disk_device.specs.declared.act.Act.TheVariants.{Wrote, Tore, Synced}

-- the bytes with a piece at a place, behind zeros where they end before it
abbrev pub overwritten : ℕ → List ℕ → List ℕ → List ℕ
overwritten at piece old =
    let grown = old ++ replicate (at + length piece - length old) 0 in
    take at grown ++ (piece ++ drop (at + length piece) grown)

-- what a read gives, what stood at the last sync, and the ranges that were written since, the last one first
pub record State : Type 0 where
  pub reads : List ℕ
  pub durable : List ℕ
  pub ranges : List (ℕ × ℕ)

abbrev pub at_first : List ℕ → State
at_first start = record { reads = start; durable = start; ranges = [] }

abbrev pub after_act : State → Act → State
after_act state (Wrote at piece) = record {
  reads = overwritten at piece state.reads;
  durable = state.durable;
  ranges = (at, length piece) ∷ state.ranges;
}
after_act state (Tore at len) = record state { ranges = (at, len) ∷ state.ranges }
after_act state Synced = record { reads = state.reads; durable = state.reads; ranges = [] }

abbrev pub state_after : State → List Act → State
state_after state [] = state
state_after state (act ∷ acts) = state_after (after_act state act) acts

-- an image that has any bytes in these ranges
abbrev pub IsTornFrom : List ℕ → List (ℕ × ℕ) → List ℕ → Type 0
IsTornFrom durable [] c = c ≡ durable
IsTornFrom durable (range ∷ ranges) c = (d : List ℕ) × IsTornFrom durable ranges d × Torn range.0 range.1 d c

-- a crash may leave this image
abbrev pub IsOutcome : State → List ℕ → Type 0
IsOutcome state c = IsTornFrom state.durable state.ranges c
