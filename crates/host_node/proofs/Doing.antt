-- What a line makes a host do, as its machine answers it.
use Rattle.std.proofs.Common.{ℕ}
use Rattle.std.specs.Prelude.{Err, IfOk, Ok, Result}
use Rattle.base_types.specs.declared.errors.NoMemory.{NoMemory}
use Rattle.host_manager.specs.Due.{IsOwn, LineDue}
use Rattle.host_node.specs.Doing.{DoesLine}
use Rattle.host_manager.specs.Running.{LineRight, StopRight}
use Rattle.host_tables.specs.declared.tables.Tables.{Tables}
use Rattle.run_rules.specs.declared.step.Step.{Step}
use Rattle.script_lines.specs.declared.script.Deed.TheVariants.{Call, Stop}
use Rattle.tree_calls.specs.declared.call.Call.{Call as CallOf}

pub calls_it : (r : Result Step NoMemory) (old new : Tables) (number : ℕ) (call : CallOf)
    → IfOk r (λ s. LineRight old new number (Call call) s) → IfOk r (IsOwn old) → IfOk r (LineDue old number
    (Call call))
    → IfOk r (λ s. DoesLine old new number (Call call) s)
calls_it (Ok s) old new number call right own due = record { right = right; own = own; due = due }
calls_it (Err e) old new number call right own due = tt

pub stops_it : (r : Result Step NoMemory) (old new : Tables) (number : ℕ)
    → IfOk r (λ s. StopRight old number s) → IfOk r (IsOwn old) → IfOk r (LineDue old number Stop)
    → IfOk r (λ s. DoesLine old new number Stop s)
stops_it (Ok s) old new number right own due = record { right = right; own = own; due = due }
stops_it (Err e) old new number right own due = tt
