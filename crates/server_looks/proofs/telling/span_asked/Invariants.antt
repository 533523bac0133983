use Rattle.std.proofs.Common.{◌≡◌, drop}
use Rattle.std.specs.List.{fold}
use Rattle.server_keeps.specs.Granting.{asked_with}
use Rattle.server_looks.proofs.telling.span_asked.Given as goal

abbrev pub invariant-loop-need : goal.invariant-loop-need
invariant-loop-need l =
    fold (λ asked need. asked_with asked need.kind) l.asked (drop l.need-index l.needs)
    ≡ fold (λ asked need. asked_with asked need.kind) l.initial.asked l.needs
