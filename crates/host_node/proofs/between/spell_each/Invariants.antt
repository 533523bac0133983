use Rattle.std.proofs.Common.{List, drop}
use Rattle.host_manager.specs.Spoken.{tables_of}
use Rattle.host_node.specs.Between.{AreKept}
use Rattle.run_rules.specs.declared.step.Step.{Step}
use Rattle.host_node.proofs.between.spell_each.Given as goal

abbrev pub invariant-loop-entry : goal.invariant-loop-entry
invariant-loop-entry l = (all : List Step)
    → AreKept l.lines.lines (tables_of l.manager).host all l.initial.steps.items l.entries l.spelled
    → AreKept l.lines.lines (tables_of l.manager).host all l.steps.items (drop l.entry-index l.entries) l.rest
