use Rattle.std.proofs.Common.{arith}
use Rattle.token_table.proofs.Sound.{absent}
use Rattle.token_table.proofs.table.TokenTable.grant.Goals as goal

pub returns-clause-new : goal.returns-clause-new
returns-clause-new c = rw (c.token_for-token.ensures, ← c.self.view_is) (absent _ _ (omega arith) c.self.invariant)
