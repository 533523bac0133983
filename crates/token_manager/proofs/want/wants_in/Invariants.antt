use Rattle.std.proofs.Common.{◌≡◌, ◌++◌, drop}
use Rattle.token_manager.specs.Wants.{wants_in}
use Rattle.token_manager.proofs.want.wants_in.Given as goal

abbrev pub invariant-loop-want : goal.invariant-loop-want
invariant-loop-want l =
    l.wants ++ wants_in (drop l.want-index l.queue) l.fileset ≡ wants_in l.queue l.fileset
