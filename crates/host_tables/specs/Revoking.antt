-- Steps by a Revoke: which of the tokens that it names may be returned.
use Rattle.base_types.specs.declared.ids.HostId.{HostId}
use Rattle.base_types.specs.declared.ids.ServerId.{ServerId}
use Rattle.host_cache.specs.declared.held.Held.{Held}
use Rattle.host_gives.specs.Giving.{names}
use Rattle.host_tables.specs.Half.{learning}
use Rattle.host_tables.specs.declared.tables.Tables.{Tables}
use Rattle.message_types.specs.declared.giving.Give.{Give}
use Rattle.message_types.specs.declared.message.Body.TheVariants.{Revoke}
use Rattle.message_types.specs.declared.message.Direction.TheVariants.{ToHost}
use Rattle.message_types.specs.declared.message.Message.{Message}
use Rattle.message_types.specs.declared.tokens.Revoke.{Revoke as RevokeOf}
use Rattle.run_rules.specs.Past.{In}
use Rattle.run_rules.specs.declared.applied.Leave.{Leave}
use Rattle.run_rules.specs.declared.step.Cause.TheVariants.{Message as Came}
use Rattle.run_rules.specs.declared.step.Step.{Step}
use Rattle.std.specs.List.{list_any}
use Rattle.std.specs.Prelude.{List, [], false, true, ℕ, ◌≡◌}
use Rattle.token_types.specs.declared.token.TokenId.{TokenId}

abbrev pub revoking : HostId → ServerId → ℕ → ℕ → RevokeOf → Message
revoking host server epoch moves r =
    record { direction = ToHost; host = host; server = server; epoch = epoch; moves = moves; body = Revoke r }

abbrev pub revokes : HostId → ServerId → ℕ → ℕ → RevokeOf → List Give → List Leave → List Message → Step
revokes host server epoch moves r made dropped sent =
    record (learning host (Came (revoking host server epoch moves r)) []) {
      made = made;
      dropped = dropped;
      sent = sent;
    }

-- a token with this number is held and in use, or not in use
abbrev pub InUseHere : Tables → TokenId → Type 0
InUseHere m i = (h : Held) × In h m.cache.held × (h.token.id ≡ i) × (h.in_use ≡ true)

-- an id that may be returned: it is in no give-back, and isn't in use
pub record Returnable (m : Tables) (made : List Give) (i : TokenId) : Type 0 where
  pub unnamed : list_any (names i) m.gives.gives ≡ false
  pub ungiven : (g : Give) → In g made → In i g.ids → ⊥
  pub idle : InUseHere m i → ⊥
