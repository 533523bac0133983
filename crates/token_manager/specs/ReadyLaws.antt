-- Laws of what a grant leaves ready.
use Rattle.std.specs.Prelude.{◌≡◌, ◌<◌, Bool, true, false, ◌&&◌, not, is_none, List, All, IfSome, Some, None}
use Rattle.token_types.specs.declared.token.Token.{Token}
use Rattle.token_table.specs.Tables.{next_tokens}
use Rattle.token_manager.specs.declared.grants.Grants.{Grants}
use Rattle.token_manager.specs.declared.want.Want.{Want}
use Rattle.token_manager.specs.Grants.{is_blocked, blocks_any, pinned_in_the_way, with_grant}
use Rattle.token_manager.specs.Laws.{KeepsLaws}
use Rattle.token_manager.specs.Managers.{Manager, has_to_wait, after_ask, can_decide, first_ready, after_ready}
use Rattle.token_manager.specs.Wants.{first_ahead}

-- the number of the want is above those of all that were asked
abbrev pub IsNext : Manager → Want → Type 0
IsNext manager want = IfSome manager.latest (λ latest. latest < want.number)

-- a want that is granted when it is asked leaves no queued want that can be decided and couldn't be before
abbrev pub AskMakesNoneReady : Type 0
AskMakesNoneReady =
    (manager : Manager) (want other : Want) →
    can_decide (with_grant manager.grants want) manager.queue other ≡ true →
    can_decide manager.grants manager.queue other ≡ true

-- and none of its tokens is in the way of a queued want
abbrev pub AskMakesNoneWanted : Type 0
AskMakesNoneWanted =
    (manager : Manager) (want : Want) → KeepsLaws manager → IsNext manager want → has_to_wait manager want ≡ false →
    All (λ token. blocks_any manager.queue token ≡ false) (next_tokens manager.grants.table want.host want.needs)

-- whether a queued want can be granted: no earlier one conflicts with it, and no granted token of another host does
abbrev pub can_grant : Manager → Want → Bool
can_grant manager want = is_none (first_ahead manager.queue want) && not (is_blocked manager.grants want)

-- a queued want that is granted leaves no other that can be granted and couldn't be before
abbrev pub GrantMakesNoneReady : Type 0
GrantMakesNoneReady =
    (manager : Manager) (want other : Want) → KeepsLaws manager → first_ready manager ≡ Some want →
    pinned_in_the_way manager.grants want ≡ None → can_grant (after_ready manager) other ≡ true →
    can_grant manager other ≡ true
