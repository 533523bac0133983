-- Laws of the tokens that a table grants.
use Rattle.std.specs.Prelude.{◌≡◌, ℕ, ◌+◌, ◌<◌, true, false, List, map, length, All, get_or}
use Rattle.base_types.specs.declared.ids.HostId.{HostId}
use Rattle.token_types.specs.Conflicts.{same_id, need_of}
use Rattle.token_types.specs.declared.token.Need.{Need}
use Rattle.token_types.specs.declared.token.Token.{Token}
use Rattle.token_types.specs.declared.token.TokenId.{TokenId}
use Rattle.token_table.specs.Tables.{Table, IsSound, has_id, next_tokens, granted}

-- a token for each need and back, in their order
abbrev pub GrantsEachNeed : Type 0
GrantsEachNeed =
    (table : Table) (host : HostId) (needs : List Need) → map need_of (next_tokens table host needs) ≡ needs

-- all of the host
abbrev pub GrantsToTheHost : Type 0
GrantsToTheHost =
    (table : Table) (host : HostId) (needs : List Need) →
    All (λ token. token.host ≡ host) (next_tokens table host needs)

-- the number so many places behind the last one of the table
abbrev pub number_after : Table → ℕ → TokenId
number_after table more = record { server = table.server; epoch = table.epoch; seq = table.last + 1 + more }

-- the numbers are the next ones, in order
abbrev pub GrantsTheNextNumbers : Type 0
GrantsTheNextNumbers =
    (table : Table) (host : HostId) (needs : List Need) (place : ℕ) (token : Token) → place < length needs →
    (get_or (next_tokens table host needs) place token).id ≡ number_after table place

-- no token of the table has one of them
abbrev pub GrantsNewNumbers : Type 0
GrantsNewNumbers =
    (table : Table) (host : HostId) (needs : List Need) → IsSound table →
    All (λ token. has_id table.tokens token.id ≡ false) (next_tokens table host needs)

-- tokens of one number stand at one place
abbrev pub OneNumberOneToken : Type 0
OneNumberOneToken =
    (table : Table) (i j : ℕ) (token : Token) → IsSound table → i < length table.tokens → j < length table.tokens →
    same_id (get_or table.tokens i token).id (get_or table.tokens j token).id ≡ true → i ≡ j

-- no number is given again
abbrev pub StaysSound : Type 0
StaysSound = (table : Table) (host : HostId) (needs : List Need) → IsSound table → IsSound (granted table host needs)
