use Rattle.std.proofs.Common.{◌≡◌, drop, fold}
use Rattle.host_asks.specs.Asking.{doing}
use Rattle.host_manager.specs.Learning.{learning_given}
use Rattle.host_manager.proofs.taking.learn_all.Given as goal

abbrev pub invariant-loop-one : goal.invariant-loop-one
invariant-loop-one l =
    fold (λ at one. learning_given one at) (doing l.tables l.draft) (drop l.one-index l.applied)
    ≡ fold (λ at one. learning_given one at) (doing l.initial.tables l.initial.draft) l.applied
