-- What each message that a server sends another one leaves so, all that it sends them in a step leaves so.
use Rattle.std.proofs.Common.{List, [], inl, inr, refl, ℕ, ◌∷◌, ◌≡◌}
use Rattle.base_types.specs.declared.ids.ServerId.{ServerId}
use Rattle.message_types.specs.declared.message.Body.{Body}
use Rattle.message_types.specs.declared.message.Message.{Message}
use Rattle.run_rules.specs.Doings.{Doing, InEpoch, epoch, shipped_by_body, shipping}
use Rattle.run_rules.specs.Doings.Doing.{BeginsEpoch, Puts}
use Rattle.run_rules.specs.Past.{Once, appended}

pub ships_keep : (P : List Doing → Type 0)
    → ((S : List Doing) (to : ServerId) (n : ℕ) (b : Body) → P S → P (Puts to n b ∷ S)) → (ms : List Message)
    (S : List Doing) → P S → P (appended (shipping ms) S)
ships_keep P each [] S old = old
ships_keep P each (m ∷ ms) S old =
    ships_keep P each ms (Puts (shipped_by_body m.body m.server) m.moves m.body ∷ S)
    (each S (shipped_by_body m.body m.server) m.moves m.body old)

-- and what is so after them was so before, where each leaves it so backwards
pub ships_back : (P : List Doing → Type 0)
    → ((S : List Doing) (to : ServerId) (n : ℕ) (b : Body) → P (Puts to n b ∷ S) → P S) → (ms : List Message)
    (S : List Doing) → P (appended (shipping ms) S) → P S
ships_back P each [] S now = now
ships_back P each (m ∷ ms) S now =
    each S (shipped_by_body m.body m.server) m.moves m.body
    (ships_back P each ms (Puts (shipped_by_body m.body m.server) m.moves m.body ∷ S) now)

-- what was so once is so after them, and was so before where none of them is it
pub once_shipped : (P : List Doing → Doing → Type 0) (ms : List Message) (S : List Doing) → Once P S
    → Once P (appended (shipping ms) S)
once_shipped P = ships_keep (λ T. Once P T) (λ T to n b o. inr o)

pub once_ships : (P : List Doing → Doing → Type 0)
    → ((S : List Doing) (to : ServerId) (n : ℕ) (b : Body) → P S (Puts to n b) → ⊥) → (ms : List Message)
    (S : List Doing) → Once P (appended (shipping ms) S) → Once P S
once_ships P none =
    ships_back (λ T. Once P T) (λ T to n b o. elim o [ inl k ↦ absurd (none T to n b k) | inr k ↦ k ])

-- the same of what was so in the epoch
pub since_shipped : (P : List Doing → Doing → Type 0) (ms : List Message) (S : List Doing) → InEpoch P S
    → InEpoch P (appended (shipping ms) S)
since_shipped P =
    ships_keep (λ T. InEpoch P T) (λ T to n b o. inr (o, λ k. (let z : Puts to n b ≡ BeginsEpoch k.0 = k.1 in cc)))

pub since_ships : (P : List Doing → Doing → Type 0)
    → ((S : List Doing) (to : ServerId) (n : ℕ) (b : Body) → P S (Puts to n b) → ⊥) → (ms : List Message)
    (S : List Doing) → InEpoch P (appended (shipping ms) S) → InEpoch P S
since_ships P none =
    ships_back (λ T. InEpoch P T) (λ T to n b o. elim o [ inl k ↦ absurd (none T to n b k) | inr k ↦ k.0 ])

pub epoch_shipping : (ms : List Message) (S : List Doing) → epoch (appended (shipping ms) S) ≡ epoch S
epoch_shipping [] S = refl
epoch_shipping (m ∷ ms) S = epoch_shipping ms (Puts (shipped_by_body m.body m.server) m.moves m.body ∷ S)
