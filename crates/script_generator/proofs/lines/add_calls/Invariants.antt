use Rattle.std.proofs.Common.{◌≡◌, ◌≤◌, ◌+◌, ◌*◌, length}
use Rattle.script_generator.specs.Words.{generator, after_words}
use Rattle.script_generator.specs.Workload.{all_calls, with_tasks}
use Rattle.script_generator.proofs.lines.add_calls.Given as goal

abbrev pub invariant-loop-h : goal.invariant-loop-h
invariant-loop-h l = (l.lines ≡ with_tasks l.first l.initial.lines (all_calls l.seed l.h l.calls)) × (length l.lines ≤ length l.initial.lines + 400 * l.h) × (l.rng ≡ after_words (l.h * l.calls) (generator l.seed))
