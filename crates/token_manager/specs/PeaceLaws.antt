-- Laws of peace: no call makes granted tokens of two hosts conflict.
use Rattle.std.specs.Prelude.{◌≡◌, ℕ, List, ◌++◌}
use Rattle.base_types.specs.declared.ids.HostId.{HostId}
use Rattle.token_types.specs.declared.token.Token.{Token}
use Rattle.token_types.specs.declared.token.TokenId.{TokenId}
use Rattle.token_manager.specs.declared.want.Want.{Want}
use Rattle.token_manager.specs.Laws.{AreAtPeace, IsAtPeace}
use Rattle.token_manager.specs.Managers.{Manager, after_ask, after_ready, after_admit, after_returned, after_kept}
use Rattle.token_manager.specs.Managers.{after_revoked, after_down, after_forget}

-- a want is asked
abbrev pub PeaceThroughAsk : Type 0
PeaceThroughAsk = (manager : Manager) (want : Want) → IsAtPeace manager → IsAtPeace (after_ask manager want)

-- a queued want is decided
abbrev pub PeaceThroughReady : Type 0
PeaceThroughReady = (manager : Manager) → IsAtPeace manager → IsAtPeace (after_ready manager)

-- tokens are admitted that conflict neither with granted ones nor with one another
abbrev pub PeaceThroughAdmit : Type 0
PeaceThroughAdmit =
    (manager : Manager) (tokens : List Token) → AreAtPeace (manager.grants.table.tokens ++ tokens) →
    IsAtPeace (after_admit manager tokens)

-- the calls that take tokens out or change none. Calls that change the queue alone leave the tokens as they are.
pub record StaysAtPeace (manager : Manager) : Type 0 where
  pub returned : (host : HostId) (id : TokenId) → IsAtPeace (after_returned manager host id)
  pub kept : (host : HostId) (id : TokenId) → IsAtPeace (after_kept manager host id)
  pub revoked : (id : TokenId) → IsAtPeace (after_revoked manager id)
  pub down : (host : HostId) → IsAtPeace (after_down manager host)
  pub forget : (epoch : ℕ) → IsAtPeace (after_forget manager epoch)

abbrev pub PeaceThroughLoss : Type 0
PeaceThroughLoss = (manager : Manager) → IsAtPeace manager → StaysAtPeace manager
