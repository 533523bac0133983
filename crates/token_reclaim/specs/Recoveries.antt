-- What a grace period is seen as, and how it goes on.
use Rattle.std.specs.Prelude.{◌≡◌, ℕ, Bool, ◌==◌, not, List, [], ◌∷◌}
use Rattle.std.specs.List.{list_any, filter}
use Rattle.base_types.specs.declared.ids.HostId.{HostId}
use Rattle.token_types.specs.Conflicts.{same_id}
use Rattle.token_types.specs.declared.token.Token.{Token}
use Rattle.token_types.specs.declared.token.TokenId.{TokenId}

pub record Recovering : Type 0 where
  pub epoch : ℕ
  -- the hosts of the list that it began with that haven't reclaimed, haven't ended and aren't down
  pub awaited : List HostId

-- whether a number is one of these
abbrev pub is_among : List TokenId → TokenId → Bool
is_among ids id = list_any (λ other. same_id other id) ids

-- the tokens of a claim that are admitted: those that weren't given up
abbrev pub to_admit : List TokenId → List Token → List Token
to_admit given_up tokens = filter (λ token. not (is_among given_up token.id)) tokens

-- a host is awaited no longer
abbrev pub without : Recovering → HostId → Recovering
without recovery host = record recovery { awaited = filter (λ other. not (other.0 == host.0)) recovery.awaited }

-- the same of one host after the other
abbrev pub without_each : Recovering → List HostId → Recovering
without_each recovery [] = recovery
without_each recovery (host ∷ hosts) = without_each (without recovery host) hosts

-- in whatever order hosts reclaim, end and go down, those of the first list stay awaited of which none of this is said
abbrev pub GraceLasts : Type 0
GraceLasts =
    (epoch : ℕ) (began hosts : List HostId) →
    without_each (record { epoch = epoch; awaited = began }) hosts
    ≡ record { epoch = epoch; awaited = filter (λ host. not (list_any (λ other. host.0 == other.0) hosts)) began }
