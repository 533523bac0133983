-- A host evicts the token that was last used longest ago.
use Rattle.std.specs.Prelude.{List, ℕ, length, ◌∷◌, ◌≤◌}
use Rattle.base_types.specs.declared.ids.HostId.{HostId}
use Rattle.tree_calls.specs.declared.roster.Roster.{Roster}
use Rattle.token_types.specs.declared.token.Token.{Token}
use Rattle.run_rules.specs.HostTokens.{IsOldest, IsUnused, LastUsed, UsesToken}
use Rattle.run_rules.specs.declared.step.Step.{Step}

pub record OldestGoes : Type 0 where
  -- a token that the last step used isn't the oldest, where another idle one was used earlier, and not by that step
  pub young : (roster : Roster) (host : HostId) (past : List Step) (s : Step) (t u : Token) (n : ℕ)
      → UsesToken roster host past s t → (UsesToken roster host past s u → ⊥) → IsUnused (s ∷ past) u
      → LastUsed roster host past u n → IsOldest roster host (s ∷ past) t → ⊥
  -- a token counts as used by the last step that used it
  pub last : (roster : Roster) (host : HostId) (past : List Step) (t : Token) (n : ℕ) → LastUsed roster host past t n
      → n ≤ length past
