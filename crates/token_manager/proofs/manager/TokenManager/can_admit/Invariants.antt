use Rattle.std.proofs.Common.{take}
use Rattle.std.specs.Prelude.{All}
use Rattle.token_manager.specs.Grants.{CanClaim}
use Rattle.token_manager.proofs.manager.TokenManager.can_admit.Given as goal

abbrev pub invariant-loop-token : goal.invariant-loop-token
invariant-loop-token l = All (CanClaim l.self.grants) (take l.token-index l.tokens)
