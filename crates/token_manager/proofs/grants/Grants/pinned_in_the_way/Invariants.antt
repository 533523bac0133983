use Rattle.std.proofs.Common.{◌≡◌, [], take, drop}
use Rattle.std.specs.List.{find}
use Rattle.token_table.specs.Tables.{near}
use Rattle.token_manager.specs.Grants.{is_pinned_ahead}
use Rattle.token_manager.proofs.grants.Grants.pinned_in_the_way.Given as goal

abbrev pub invariant-loop-index : goal.invariant-loop-index
invariant-loop-index l =
    find (is_pinned_ahead l.self.notes l.want) (near l.self.table.tokens [] l.needs)
    ≡ find (is_pinned_ahead l.self.notes l.want) (near l.self.table.tokens (take l.index l.needs)
    (drop l.index l.needs))
