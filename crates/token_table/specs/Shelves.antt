-- How a list of tokens changes.
use Rattle.std.specs.Prelude.{◌≡◌, ℕ, ◌<◌, ◌≤◌, Bool, false, ◌==◌, not, nat_le, List, ◌++◌}
use Rattle.base_types.specs.declared.ids.HostId.{HostId}
use Rattle.base_types.specs.declared.ids.ServerId.{ServerId}
use Rattle.token_types.specs.declared.token.Need.{Need}
use Rattle.token_types.specs.declared.token.Token.{Token}
use Rattle.std.specs.List.{filter}
use Rattle.token_table.specs.Places.{rank, ShelfView, FileKey, same_key, tokens_at, placed, and_token, and_placed}
use Rattle.std.specs.BTreeMap.{BTreeMap}
use Rattle.token_table.specs.Tables.{Table, tokens_from}
use Rattle.token_table.specs.declared.places.Kept.{Kept}
use Rattle.token_table.specs.declared.places.Kept.TheVariants.{OfOthers, UpTo}

-- a table, of its list and its last sequence number
abbrev pub table_of : ShelfView → ℕ → Table
table_of shelf last = record { server = shelf.server; epoch = shelf.epoch; last = last; tokens = shelf.tokens }

-- another token has a smaller rank
abbrev pub IsBefore : ServerId → ℕ → Token → Token → Type 0
IsBefore server epoch token other = rank server epoch other.id < rank server epoch token.id

-- a token has no greater rank
abbrev pub IsUpTo : ServerId → ℕ → ℕ → Token → Type 0
IsUpTo server epoch last token = rank server epoch token.id ≤ last

-- with a token in its place
abbrev pub with_placed : ShelfView → Token → ShelfView
with_placed shelf token = record shelf { tokens = placed shelf.server shelf.epoch token shelf.tokens }

-- a table with a token in its place
abbrev pub with_token : Table → Token → Table
with_token table token = record table { tokens = placed table.server table.epoch token table.tokens }

-- a token was put behind those of its file
abbrev pub IsPutIn : Token → BTreeMap FileKey (List Token) → BTreeMap FileKey (List Token) → Type 0
IsPutIn token files files' = (key : FileKey) → tokens_at files' key ≡ and_token token key (tokens_at files key)

-- the other files have the same tokens
abbrev pub AreSameElsewhere : FileKey → BTreeMap FileKey (List Token) → BTreeMap FileKey (List Token) → Type 0
AreSameElsewhere key files files' =
    (other : FileKey) → same_key other key ≡ false → tokens_at files' other ≡ tokens_at files other

-- a token was put in its place among those of its file
abbrev pub IsPlacedIn : ServerId → ℕ → Token → BTreeMap FileKey (List Token) → BTreeMap FileKey (List Token) → Type 0
IsPlacedIn server epoch token files files' =
    (key : FileKey) → tokens_at files' key ≡ and_placed server epoch token key (tokens_at files key)

-- whether a token stays
abbrev pub keeps : ServerId → ℕ → Kept → Token → Bool
keeps server epoch (OfOthers host) token = not (token.host.0 == host.0)
keeps server epoch (UpTo last) token = nat_le (rank server epoch token.id) last

-- with those that stay
abbrev pub with_kept : ShelfView → Kept → ShelfView
with_kept shelf kept = record shelf { tokens = filter (keeps shelf.server shelf.epoch kept) shelf.tokens }

-- with the tokens that are granted next
abbrev pub with_next : ShelfView → ℕ → HostId → List Need → ShelfView
with_next shelf last host needs =
    record shelf { tokens = shelf.tokens ++ tokens_from shelf.server shelf.epoch last host needs }
