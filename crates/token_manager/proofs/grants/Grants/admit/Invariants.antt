use Rattle.std.proofs.Common.{◌≡◌, drop}
use Rattle.token_types.specs.declared.token.Token.{Token}
use Rattle.token_manager.specs.Grants.{CanClaim, with_claims}
use Rattle.token_manager.proofs.grants.Grants.admit.Given as goal

abbrev pub invariant-loop-token : goal.invariant-loop-token
invariant-loop-token l =
    ((token : Token) → CanClaim l.initial.self token → CanClaim l.grants token)
    × (with_claims l.grants (drop l.token-index l.tokens) ≡ with_claims l.initial.self l.tokens)
