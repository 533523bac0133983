use Rattle.std.proofs.Common.{◌≡◌, ℕ, ◌+◌, List, [], ◌∷◌, ◌++◌, nat_lt, cond, true, false, Result, Ok, Err, refl, ap}
use Rattle.std.specs.List.{AllByRecursion}
use Rattle.base_types.specs.declared.limits.TheConstants.{SCRIPT_LINES_MAX}
use Rattle.base_types.specs.Outcomes.{and_then}
use Rattle.script_words.specs.declared.fault.BadWhy.{BadWhy}
use Rattle.script_words.specs.declared.fault.BadWhy.TheVariants.{Lines}
use Rattle.script_lines.specs.Judge.{line_judged}
use Rattle.script_lines.specs.Clones.{ClonesNothing}
use Rattle.script_lines.proofs.Cloned.{same_places}
use Rattle.script_lines.specs.declared.context.Context.{Context}
use Rattle.script_reader.specs.Scripts.{entered, at_line, next_judged, judged_from}
use Rattle.script_reader.specs.Laws.{LaterLinesChangeNothing}
use Rattle.script_reader.specs.declared.refused.ScriptRefused.TheVariants.{BadLine}

pub same_entered : (context next : Context) (lines more : List (List ℕ)) → AllByRecursion ClonesNothing more → entered context next (lines ++ more) ≡ entered context next lines
same_entered context next lines more h = rw (same_places next lines more h) refl

pub same_at_line : (number : ℕ) (context : Context) (judged : Result Context BadWhy) (lines more : List (List ℕ)) → AllByRecursion ClonesNothing more → at_line number context (lines ++ more) judged ≡ at_line number context lines judged
same_at_line number context (Ok next) lines more h = ap (λ c. Ok c) (same_entered context next lines more h)
same_at_line number context (Err why) lines more h = refl

pub same_next : (context : Context) (disks number : ℕ) (line : List ℕ) (lines more : List (List ℕ)) → AllByRecursion ClonesNothing more → next_judged context disks number line (lines ++ more) ≡ next_judged context disks number line lines
unfolding next_judged
same_next context disks number line lines more h = same_at_line number context (line_judged context disks number line) lines more h

pub later_changes_nothing : LaterLinesChangeNothing
later_changes_nothing context disks number [] more refusal h e = cc
later_changes_nothing context disks number (line ∷ lines) more refusal h e = elim (nat_lt SCRIPT_LINES_MAX number) as (λ v. cond v (Err (BadLine (SCRIPT_LINES_MAX + 1) Lines)) (and_then (next_judged context disks number line lines) (λ next. judged_from next disks (number + 1) lines)) ≡ Err refusal → cond v (Err (BadLine (SCRIPT_LINES_MAX + 1) Lines)) (and_then (next_judged context disks number line (lines ++ more)) (λ next. judged_from next disks (number + 1) (lines ++ more))) ≡ Err refusal) [
  | true ↦ λ f. f
  | false ↦ rw (same_next context disks number line lines more h) (elim (next_judged context disks number line lines) as (λ v. and_then v (λ next. judged_from next disks (number + 1) lines) ≡ Err refusal → and_then v (λ next. judged_from next disks (number + 1) (lines ++ more)) ≡ Err refusal) [
    | Ok next ↦ later_changes_nothing next disks (number + 1) lines more refusal h
    | Err r ↦ λ f. f
  ])
] e
