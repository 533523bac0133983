use Rattle.std.proofs.Common.{◌≡◌, ◌++◌, drop, filter}
use Rattle.token_types.specs.Conflicts.{blocks}
use Rattle.token_table.proofs.table.push_blocking.Given as goal

abbrev pub invariant-loop-token : goal.invariant-loop-token
invariant-loop-token l =
    l.found ++ filter (blocks l.host l.needs) (drop l.token-index l.tokens)
    ≡ l.initial.found ++ filter (blocks l.host l.needs) l.tokens
