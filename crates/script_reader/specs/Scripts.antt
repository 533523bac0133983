use Rattle.std.specs.Prelude.{
  ◌≡◌,
  ℕ,
  ◌+◌,
  ◌&&◌,
  not,
  nat_lt,
  if◌then◌else◌,
  List,
  [],
  ◌∷◌,
  length,
  Option,
  Some,
  None,
  Result,
  Ok,
  Err,
}
use Rattle.base_types.specs.Outcomes.{and_then}
use Rattle.base_types.specs.declared.limits.TheConstants.{SCRIPT_LINES_MAX}
use Rattle.script_words.specs.Lines.{lines_of}
use Rattle.script_lines.specs.Judge.{nothing_said, line_judged}
use Rattle.script_lines.specs.Clones.{with_clones}
use Rattle.script_reader.specs.Walk.{stuck_at}
use Rattle.script_lines.specs.declared.context.Context.{Context}
use Rattle.script_lines.specs.declared.script.Script.{Script}
use Rattle.script_words.specs.declared.fault.BadWhy.{BadWhy}
use Rattle.script_words.specs.declared.fault.BadWhy.TheVariants.{Order, Disks, Lines}
use Rattle.script_reader.specs.declared.refused.ScriptRefused.{ScriptRefused}
use Rattle.script_reader.specs.declared.refused.ScriptRefused.TheVariants.{BadLine, Stuck, Memory}

-- what a reader returned is what a text says, unless memory ran out
abbrev pub Refuses : {Y : Type 0} → ScriptRefused → Result Y ScriptRefused → Type 0
Refuses Memory read = Unit {0}
Refuses refusal read = read ≡ Err refusal

abbrev pub Reads : {X : Type 0} → Result X ScriptRefused → Result X ScriptRefused → Type 0
Reads (Ok value) read = read ≡ Ok value
Reads (Err refusal) read = Refuses refusal read

-- the same for what a call left
abbrev pub Leaves : {X : Type 0} → Result (Unit {0}) ScriptRefused → X → Result X ScriptRefused → Type 0
Leaves (Ok _) left read = read ≡ Ok left
Leaves (Err refusal) left read = Refuses refusal read

-- after the last header the names of all clones are placed
abbrev pub entered : Context → Context → List (List ℕ) → Context
entered context next lines = if next.begun && not context.begun then with_clones next lines else next

abbrev pub at_line : ℕ → Context → List (List ℕ) → Result Context BadWhy → Result Context ScriptRefused
at_line number context lines (Ok next) = Ok (entered context next lines)
at_line number context lines (Err why) = Err (BadLine number why)

-- what has been said after a line with these lines after it
unfoldable pub next_judged : Context → ℕ → ℕ → List ℕ → List (List ℕ) → Result Context ScriptRefused
next_judged context disks number line lines = at_line number context lines (line_judged context disks number line)

-- what lines from a number on say, or the first that is refused
abbrev pub judged_from : Context → ℕ → ℕ → List (List ℕ) → Result Context ScriptRefused
judged_from context disks number [] = Ok context
judged_from context disks number (line ∷ lines) =
    if nat_lt SCRIPT_LINES_MAX number then Err (BadLine (SCRIPT_LINES_MAX + 1) Lines)
    else and_then (next_judged context disks number line lines) (λ next. judged_from next disks (number + 1) lines)

-- too many lines come before all but too many disks
abbrev pub too_many : Result Context ScriptRefused → Result Context ScriptRefused
too_many (Err (BadLine number Disks)) = Err (BadLine number Disks)
too_many _ = Err (BadLine (SCRIPT_LINES_MAX + 1) Lines)

-- headers end
abbrev pub ended_by : ℕ → Context → Result Script ScriptRefused
ended_by lines context = if context.begun then Ok context.script else Err (BadLine (lines + 1) Order)

abbrev pub limited : ℕ → Result Context ScriptRefused → Result Context ScriptRefused
limited lines judged = if nat_lt SCRIPT_LINES_MAX lines then too_many judged else judged

-- the script of bytes, but for the walk along its awaits
unfoldable pub script_before_walk : List ℕ → ℕ → Result Script ScriptRefused
script_before_walk bytes disks =
    and_then (limited (length (lines_of bytes)) (judged_from nothing_said disks 1 (lines_of bytes)))
    (λ context. ended_by (length (lines_of bytes)) context)

abbrev pub unstuck : Script → Option ℕ → Result Script ScriptRefused
unstuck script None = Ok script
unstuck script (Some number) = Err (Stuck number)

-- the script of bytes, or the first line that is refused
unfoldable pub script_of : List ℕ → ℕ → Result Script ScriptRefused
script_of bytes disks = and_then (script_before_walk bytes disks) (λ script. unstuck script (stuck_at script.lines))
