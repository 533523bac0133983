-- Steps that do nothing: every rule of tokens allows them, so no rule is in another's way there.
use Rattle.std.specs.Prelude.{List, [], ◌≡◌}
use Rattle.base_types.specs.declared.ids.ServerId.{ServerId}
use Rattle.run_rules.specs.Doings.{Doing}
use Rattle.run_rules.specs.HostTokens.{HostTokens}
use Rattle.run_rules.specs.Messages.{HasStopped}
use Rattle.run_rules.specs.ServerTokens.{ServerStep}
use Rattle.run_rules.specs.declared.step.Step.{Step}

-- a host's step takes, makes, drops and sends nothing
pub record HostDoesNothing (s : Step) : Type 0 where
  pub taken : s.taken ≡ []
  pub made : s.made ≡ []
  pub dropped : s.dropped ≡ []
  pub sent : s.sent ≡ []

-- a server's step applies, grants, sends and keeps nothing
pub record ServerDoesNothing (s : Step) : Type 0 where
  pub applied : s.applied ≡ []
  pub admitted : s.admitted ≡ []
  pub sent : s.sent ≡ []
  pub reserved : s.reserved ≡ []

-- whatever its cause is
pub record MayDoNothing : Type 0 where
  pub host : (past : List Step) (s : Step) → (HasStopped past → ⊥) → HostDoesNothing s → HostTokens past s
  pub server : (server : ServerId) (past : List Doing) (s : Step) → ServerDoesNothing s → ServerStep server past s
