-- The tokens that the messages in slots name, found without a walk.
use Rattle.std.specs.Prelude.{◌≡◌, ℕ, ◌==◌, ◌&&◌, Bool, true, List, Option}
use Rattle.std.specs.List.{list_any}
use Rattle.token_types.specs.declared.token.TokenId.{TokenId}
use Rattle.message_types.specs.declared.message.Message.{Message}
use Rattle.host_gives.specs.Giving.{names}
use Rattle.host_gives.specs.Slots.{holds}

abbrev pub IdKey : Type 0
IdKey = ℕ × (ℕ × ℕ)

abbrev pub id_key : TokenId → IdKey
id_key id = (id.server.0, (id.epoch, id.seq))

abbrev pub same_key : IdKey → IdKey → Bool
same_key a b = (a.0 == b.0) && ((a.1.0 == b.1.0) && (a.1.1 == b.1.1))

abbrev pub has_id : List IdKey → TokenId → Bool
has_id named id = list_any (same_key (id_key id)) named

-- none goes
abbrev pub Keeps : List IdKey → List IdKey → Type 0
Keeps old new = (id : TokenId) → has_id old id ≡ true → has_id new id ≡ true

-- each token that a message in a slot names is there
abbrev pub AreNamed : List (Option Message) → List IdKey → Type 0
AreNamed slots named = (id : TokenId) → list_any (holds (names id)) slots ≡ true → has_id named id ≡ true
