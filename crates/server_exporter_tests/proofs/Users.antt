-- Each host of the rows is a user's.
use Rattle.std.proofs.Common.{◌≡◌, ◌≤◌, ◌-◌, ◌==◌, ℕ, zero, suc, List, [], ◌∷◌, length, Some, true, is_some}
use Rattle.std.proofs.Common.{if◌then◌else◌, arith, refl, subst, sym}
use Rattle.std.specs.Prelude.{option_and_then, slice_get}
use Rattle.base_types.specs.declared.ids.HostId.{HostId}
use Rattle.base_types.specs.declared.user.User.{User}
use Rattle.message_types.specs.Soundness.{IsHost}
use Rattle.tree_calls.specs.Rosters.{admin, user_of}
use Rattle.tree_calls.specs.declared.roster.HostLine.{HostLine}
use Rattle.tree_calls.specs.declared.roster.Roster.{Roster}
use Rattle.server_exporter_tests.specs.Serving.{HasTwo, two_hosts}

user_among : (users : List User) → length users ≡ 2 → (n : ℕ) → n ≤ 2
    → is_some (if n == 0 then Some admin else option_and_then (λ line. slice_get users line.user)
    (slice_get two_hosts (n - 1))) ≡ true
user_among [] e n le = absurd (omega (arith, e))
user_among (a ∷ []) e n le = absurd (omega (arith, e))
user_among (a ∷ b ∷ c ∷ users) e n le = absurd (omega (arith, e))
user_among (a ∷ b ∷ []) e zero le = refl
user_among (a ∷ b ∷ []) e (suc zero) le = refl
user_among (a ∷ b ∷ []) e (suc (suc zero)) le = refl
user_among (a ∷ b ∷ []) e (suc (suc (suc n))) le = absurd (omega (arith, le))

pub users_known : (roster : Roster) → HasTwo roster → (host : HostId) → IsHost roster host
    → is_some (user_of roster host) ≡ true
users_known roster two host le =
    subst (λ (hosts : List HostLine). is_some (if host.0 == 0 then Some admin
    else option_and_then (λ line. slice_get roster.users line.user) (slice_get hosts (host.0 - 1))) ≡ true)
    (sym two.hosts)
    (user_among roster.users two.users host.0
    (subst (λ (hosts : List HostLine). host.0 ≤ length hosts) two.hosts le))
