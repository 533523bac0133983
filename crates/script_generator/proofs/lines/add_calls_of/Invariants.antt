use Rattle.std.proofs.Common.{◌≡◌, ◌+◌, length}
use Rattle.script_generator.specs.Words.{after_words}
use Rattle.script_generator.specs.Workload.{calls_by, with_tasks}
use Rattle.script_generator.proofs.lines.add_calls_of.Given as goal

abbrev pub invariant-loop-i : goal.invariant-loop-i
invariant-loop-i l = (l.lines ≡ with_tasks l.first l.initial.lines (calls_by l.initial.rng l.author.host l.i)) × (length l.lines ≡ length l.initial.lines + l.i) × (l.rng ≡ after_words l.i l.initial.rng)
