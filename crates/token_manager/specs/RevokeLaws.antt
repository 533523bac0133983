-- Laws of what is asked back for a want, and of when a want waits.
use Rattle.std.specs.Prelude.{◌≡◌, Bool, true, false, ◌&&◌, ◌||◌, not, nat_lt, List, All}
use Rattle.std.specs.List.{list_any}
use Rattle.token_types.specs.Conflicts.{blocks, conflict, wants_conflict}
use Rattle.token_types.specs.declared.token.Token.{Token}
use Rattle.token_manager.specs.declared.grants.Grants.{Grants}
use Rattle.token_manager.specs.declared.want.Want.{Want}
use Rattle.token_manager.specs.declared.want.Asked.{Asked}
use Rattle.token_manager.specs.declared.want.Asked.TheVariants.{Granted, Waits}
use Rattle.token_table.specs.Marks.{is_pinned}
use Rattle.token_manager.specs.Grants.{to_revoke}
use Rattle.token_manager.specs.Managers.{Manager, ask_answer}

-- Just those granted tokens are asked back that are in the way of the want and aren't pinned: one that passes a test is
-- asked back exactly where there is one of these.
abbrev pub RevokesJustThose : Type 0
RevokesJustThose =
    (grants : Grants) (want : Want) (test : Token → Bool) →
    list_any test (to_revoke grants want)
    ≡ list_any (λ token. blocks want.host want.needs token && (not (is_pinned grants.notes token.id) && test token))
    grants.table.tokens

-- whether the answer to a want is that it waits
abbrev pub is_waiting : Asked → Bool
is_waiting (Waits revoke behind) = true
is_waiting (Granted tokens) = false

-- a want waits exactly where a granted token of another host or an earlier queued want conflicts with it
abbrev pub WaitsJustWhere : Type 0
WaitsJustWhere =
    (manager : Manager) (want : Want) →
    is_waiting (ask_answer manager want)
    ≡ (list_any (blocks want.host want.needs) manager.grants.table.tokens
    || list_any (λ other. nat_lt other.number want.number
    && wants_conflict want.host want.needs other.host other.needs) manager.queue)

-- no token that was granted before conflicts with one that a want is granted
abbrev pub GrantsInPeace : Type 0
GrantsInPeace =
    (manager : Manager) (want : Want) (tokens : List Token) →
    ask_answer manager want ≡ Granted tokens →
    All (λ before. All (λ token. conflict before token ≡ false) tokens) manager.grants.table.tokens
