use Rattle.std.proofs.Common.{◌≡◌, ◌++◌, [], take, drop, filter}
use Rattle.token_types.specs.Conflicts.{blocks}
use Rattle.token_table.specs.Tables.{near}
use Rattle.token_table.proofs.table.TokenTable.conflicting.Given as goal

abbrev pub invariant-loop-index : goal.invariant-loop-index
invariant-loop-index l =
    l.tokens ++ filter (blocks l.host l.needs) (near l.self.tokens (take l.index l.needs) (drop l.index l.needs))
    ≡ filter (blocks l.host l.needs) (near l.self.tokens [] l.needs)
