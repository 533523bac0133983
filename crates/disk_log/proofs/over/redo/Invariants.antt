use Rattle.std.proofs.Common.{◌≡◌, drop}
use Rattle.disk_layout.specs.Pages.{redone}
use Rattle.disk_log.proofs.over.redo.Given as goal

abbrev pub invariant-loop-entry : goal.invariant-loop-entry
invariant-loop-entry l = redone (drop l.entry-index l.entries) (λ q. l.out) l.page ≡ redone l.entries (λ q. l.initial.out) l.page
