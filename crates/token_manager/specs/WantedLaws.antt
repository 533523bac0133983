-- Laws of what queued wants ask back.
use Rattle.std.specs.Prelude.{◌≡◌, Bool, ◌&&◌, not, List, map, All}
use Rattle.std.specs.List.{list_any}
use Rattle.token_types.specs.declared.token.Token.{Token}
use Rattle.token_table.specs.Marks.{is_pinned, is_revoked}
use Rattle.token_manager.specs.declared.want.Wanted.{Wanted}
use Rattle.token_manager.specs.Grants.{blocks_any, is_own}
use Rattle.token_manager.specs.Managers.{Manager, wanted}

-- whether a token is to be asked back: it is in the way of a queued want, not pinned and not the server's own
abbrev pub is_wanted : Manager → Token → Bool
is_wanted manager token =
    blocks_any manager.queue token && (not (is_pinned manager.grants.notes token.id) && not (is_own token))

-- just those granted tokens are wanted: one that passes a test is exactly where there is one of these
abbrev pub AreJustWanted : Type 0
AreJustWanted =
    (manager : Manager) (test : Token → Bool) →
    list_any test (map (λ wanted. wanted.token) (wanted manager))
    ≡ list_any (λ token. is_wanted manager token && test token) manager.grants.table.tokens

-- each comes with whether it is noted as asked back
abbrev pub AreMarked : Type 0
AreMarked =
    (manager : Manager) →
    All (λ wanted. wanted.revoked ≡ is_revoked manager.grants.notes wanted.token.id) (wanted manager)
