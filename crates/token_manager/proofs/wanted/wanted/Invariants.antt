use Rattle.std.proofs.Common.{◌≡◌, ◌++◌, [], take, drop}
use Rattle.token_manager.specs.Grants.{wanted_from}
use Rattle.token_manager.proofs.wanted.wanted.Given as goal

abbrev pub invariant-loop-index : goal.invariant-loop-index
invariant-loop-index l =
    l.found ++ wanted_from l.grants (take l.index l.wants) (drop l.index l.wants) ≡ wanted_from l.grants [] l.wants
