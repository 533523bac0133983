use Rattle.disk_classes_tests.specs.Ready.{IsReady}
use Rattle.disk_classes_tests.proofs.acts.all_acted.Given as goal

abbrev pub invariant-loop-words : goal.invariant-loop-words
invariant-loop-words g l =
    (goal.iterator-loop-words g).can_next l.words-iterator ×
    (goal.iterator-loop-words g).is_finite l.words-iterator ×
    IsReady g.D.Disk.tells g.D.Disk.view l.classes
