use Rattle.std.proofs.Common.{◌≡◌, [], drop}
use Rattle.server_says.specs.Claiming.{is_claimed, picked}
use Rattle.server_says.proofs.claiming.to_admit.Given as goal

abbrev pub invariant-loop-token : goal.invariant-loop-token
invariant-loop-token l = picked (is_claimed l.tables l.claimed) l.tokens (drop l.token-index l.token-items)
    ≡ picked (is_claimed l.tables l.claimed) [] l.token-items
