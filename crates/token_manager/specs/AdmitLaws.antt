-- Laws of the tokens that are admitted after a restart.
use Rattle.std.specs.Prelude.{◌≡◌, List, ◌++◌, if◌then◌else◌, None, Option}
use Rattle.std.specs.List.{find}
use Rattle.std.specs.Option.{option_map}
use Rattle.token_types.specs.Conflicts.{same_id}
use Rattle.token_types.specs.declared.token.Token.{Token}
use Rattle.token_types.specs.declared.token.TokenId.{TokenId}
use Rattle.token_table.specs.Tables.{has_id}
use Rattle.token_table.specs.Marks.{note_at}
use Rattle.token_manager.specs.Grants.{token_at, note_of}
use Rattle.token_manager.specs.Laws.{KeepsLaws}
use Rattle.token_manager.specs.Managers.{Manager, after_admit}

-- the first of the tokens with a number
abbrev pub first_with : List Token → TokenId → Option Token
first_with tokens id = find (λ token. same_id token.id id) tokens

-- the token of each number is the one that was granted, and else the first of the given ones
abbrev pub AdmitsEachOnce : Type 0
AdmitsEachOnce =
    (manager : Manager) (tokens : List Token) (id : TokenId) →
    token_at (after_admit manager tokens).grants id ≡ first_with (manager.grants.table.tokens ++ tokens) id

-- what is noted of a token that was granted stays, and of each other one it is noted that it was claimed
abbrev pub AdmitsUnpinned : Type 0
AdmitsUnpinned =
    (manager : Manager) (tokens : List Token) (id : TokenId) → KeepsLaws manager →
    note_at (after_admit manager tokens).grants.notes id
    ≡ (if has_id manager.grants.table.tokens id then note_at manager.grants.notes id
    else option_map (λ (token : Token). note_of token.host None) (first_with tokens id))
