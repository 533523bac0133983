-- Plan lines, and how many messages they wait for.
use Rattle.std.specs.List.{find}
use Rattle.std.specs.Prelude.{Bool, List, None, Option, Some, false, if◌then◌else◌, map, option_map}
use Rattle.std.specs.Prelude.{ℕ, ◌&&◌, ◌-◌, ◌==◌}
use Rattle.base_types.specs.Name.{same_name}
use Rattle.message_types.specs.declared.message.Message.{Message}
use Rattle.script_lines.specs.declared.script.PlanLine.{PlanLine}
use Rattle.run_rules.specs.Plans.{counts, planned_fate}
use Rattle.run_rules.specs.declared.fate.Fate.{Fate}
use Rattle.hub_wire.specs.declared.plan.Waiting.{Waiting}

-- A plan line, and how many of the messages that it counts lack up to its own, that one counted; 0 where it was sent.
pub record Lacking : Type 0 where
  pub line : PlanLine
  pub lacking : ℕ

-- whether the message that comes is the line's own
abbrev pub is_own : Message → Lacking → Bool
is_own m l = counts l.line m && (l.lacking == 1)

-- what the first plan line for a message makes of it
abbrev pub planned : List Lacking → Message → Option Fate
planned lines m = option_map (λ l. planned_fate l.line.deed l.line.flag) (find (is_own m) lines)

-- the line when the message was sent
abbrev pub passed : Message → Lacking → Lacking
passed m l = if counts l.line m then record l { lacking = l.lacking - 1 } else l

abbrev pub is_raised_by : List ℕ → Option (List ℕ) → Bool
is_raised_by flag None = false
is_raised_by flag (Some name) = same_name name flag

-- a line whose flag is raised waits for none
abbrev pub raised_line : List ℕ → Lacking → Lacking
raised_line flag l = if is_raised_by flag l.line.flag then record l { line = record l.line { flag = None } } else l

-- how the wire keeps them: after the steps that are counted, and with those that are made ready
abbrev pub waiting_at : PlanLine → Waiting
waiting_at line = record { line = line; counted = line.n; ready = line.n }

abbrev pub counted_lines : List Waiting → List Lacking
counted_lines lines = map (λ w. record { line = w.line; lacking = w.counted }) lines

abbrev pub ready_lines : List Waiting → List Lacking
ready_lines lines = map (λ w. record { line = w.line; lacking = w.ready }) lines

abbrev pub is_at : Message → Waiting → Bool
is_at m w = counts w.line m && (w.ready == 1)

abbrev pub with_message : Message → Waiting → Waiting
with_message m w = if counts w.line m then record w { ready = w.ready - 1 } else w

abbrev pub with_flag : List ℕ → Waiting → Waiting
with_flag flag w = if is_raised_by flag w.line.flag then record w { line = record w.line { flag = None } } else w

abbrev pub accepted : Waiting → Waiting
accepted w = record w { counted = w.ready }

abbrev pub forgotten : Waiting → Waiting
forgotten w = record w { ready = w.counted }
