use Rattle.std.proofs.Common.{◌≡◌, [], take, drop}
use Rattle.std.specs.List.{list_any}
use Rattle.token_types.specs.Conflicts.{blocks}
use Rattle.token_table.specs.Tables.{near}
use Rattle.token_table.proofs.table.TokenTable.is_in_the_way.Given as goal

abbrev pub invariant-loop-index : goal.invariant-loop-index
invariant-loop-index l =
    list_any (blocks l.host l.needs) (near l.self.tokens [] l.needs)
    ≡ list_any (blocks l.host l.needs) (near l.self.tokens (take l.index l.needs) (drop l.index l.needs))
