-- A host evicts the token that was last used longest ago.
use Rattle.std.proofs.Common.{List, [], ℕ, arith, inl, inr, length, refl, suc, ◌∷◌, ◌≤◌}
use Rattle.base_types.specs.declared.ids.HostId.{HostId}
use Rattle.tree_calls.specs.declared.roster.Roster.{Roster}
use Rattle.token_types.specs.declared.token.Token.{Token}
use Rattle.run_tokens.specs.Evictions.{OldestGoes}
use Rattle.run_rules.specs.HostTokens.{LastUsed}
use Rattle.run_rules.specs.declared.step.Step.{Step}

pub last_before : (roster : Roster) (host : HostId) (past : List Step) (t : Token) (n : ℕ)
    → LastUsed roster host past t n → n ≤ length past
last_before roster host [] t n x = elim x [ ]
last_before roster host (s ∷ past) t n (inl x) = let e = x.1 in omega (arith, e)
last_before roster host (s ∷ past) t n (inr x) = let le = last_before roster host past t n x.0 in omega (arith, le)

pub oldest_goes : OldestGoes
oldest_goes = record {
  young = λ roster host past s t u n uses not_used idle last old.
      let le = last_before roster host past u n last in
      let ge = old u (suc (length past)) n idle (inl (uses, refl)) (inr (last, not_used)) in
      omega (arith, le, ge);
  last = last_before;
}
