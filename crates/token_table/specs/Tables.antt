-- What a table of tokens is seen as, and how it changes.
use Rattle.std.specs.Prelude.{◌≡◌, ℕ, ◌+◌, Bool, false, ◌==◌, ◌&&◌, ◌||◌, not, if◌then◌else◌, nat_lt, nat_le, List, []}
use Rattle.std.specs.Prelude.{◌∷◌, ◌++◌, length, AllPairs}
use Rattle.std.specs.List.{list_any, filter, AllPass}
use Rattle.base_types.specs.Ids.{same_fid}
use Rattle.base_types.specs.declared.ids.Fid.{Fid}
use Rattle.base_types.specs.declared.ids.HostId.{HostId}
use Rattle.base_types.specs.declared.ids.ServerId.{ServerId}
use Rattle.token_types.specs.Conflicts.{same_id, blocks}
use Rattle.token_types.specs.declared.token.Need.{Need}
use Rattle.token_types.specs.declared.token.Token.{Token}
use Rattle.token_types.specs.declared.token.TokenId.{TokenId}

pub record Table : Type 0 where
  pub server : ServerId
  pub epoch : ℕ
  -- the last sequence number that was given in this epoch; 0 where none was
  pub last : ℕ
  -- in the order in which they came
  pub tokens : List Token

-- whether one of the tokens has this number
abbrev pub has_id : List Token → TokenId → Bool
has_id tokens id = list_any (λ token. same_id token.id id) tokens

-- whether a number can't be given any more: it is of another server, of an earlier epoch, or was given in this one
abbrev pub is_past : Table → TokenId → Bool
is_past table id =
    not (id.server.0 == table.server.0) || nat_lt id.epoch table.epoch || ((id.epoch == table.epoch) && nat_le id.seq
    table.last)

-- no number will be given again, and no two tokens have one
pub record IsSound (table : Table) : Type 0 where
  pub past : AllPass (λ token. is_past table token.id) table.tokens
  pub distinct : AllPairs (λ a b. same_id a.id b.id ≡ false) table.tokens

-- the token that is granted for a need, after so many of its epoch
abbrev pub token_for : ServerId → ℕ → ℕ → HostId → Need → Token
token_for server epoch last host need =
    record {
      id = record { server = server; epoch = epoch; seq = last + 1 };
      host = host;
      fid = need.fid;
      kind = need.kind;
    }

-- a token for each need, with rising numbers
abbrev pub tokens_from : ServerId → ℕ → ℕ → HostId → List Need → List Token
tokens_from server epoch last host [] = []
tokens_from server epoch last host (need ∷ needs) =
    token_for server epoch last host need ∷ tokens_from server epoch (last + 1) host needs

-- the token that the table grants next for a need
abbrev pub next_token : Table → HostId → Need → Token
next_token table host need = token_for table.server table.epoch table.last host need

-- the tokens that the table grants next for these needs
abbrev pub next_tokens : Table → HostId → List Need → List Token
next_tokens table host needs = tokens_from table.server table.epoch table.last host needs

-- the table with tokens for these needs
abbrev pub granted : Table → HostId → List Need → Table
granted table host needs =
    record table { last = table.last + length needs; tokens = table.tokens ++ next_tokens table host needs }

-- the table with these tokens in place of its own
abbrev pub with_tokens : Table → List Token → Table
with_tokens table tokens = record table { tokens = tokens }

-- the tokens but for the one with this number
abbrev pub without_id : List Token → TokenId → List Token
without_id tokens id = filter (λ token. not (same_id token.id id)) tokens

-- the tokens of one file
abbrev pub of_file : List Token → Fid → List Token
of_file tokens fid = filter (λ token. same_fid token.fid fid) tokens

-- whether one of the needs is of a file
abbrev pub names_file : List Need → Fid → Bool
names_file needs fid = list_any (λ need. same_fid need.fid fid) needs

-- the tokens of the files that needs name, file by file, but for those that earlier needs name
abbrev pub near : List Token → List Need → List Need → List Token
near tokens earlier [] = []
near tokens earlier (need ∷ needs) =
    (if names_file earlier need.fid then [] else of_file tokens need.fid) ++ near tokens (earlier ++ need ∷ []) needs

-- the tokens that are in the way of a host's needs, file by file in the order in which these name the files
abbrev pub in_the_way : List Token → HostId → List Need → List Token
in_the_way tokens host needs = filter (blocks host needs) (near tokens [] needs)

-- these are just those of the tokens that pass a test: they have one that passes a further test where there is one
abbrev pub AreThose : (Token → Bool) → List Token → List Token → Type 0
AreThose test tokens found = (further : Token → Bool) → list_any further found ≡ list_any (λ t. test t && further t)
    tokens

-- the tokens of one host, and those of all others
abbrev pub of_host : List Token → HostId → List Token
of_host tokens host = filter (λ token. token.host.0 == host.0) tokens

abbrev pub not_of_host : List Token → HostId → List Token
not_of_host tokens host = filter (λ token. not (token.host.0 == host.0)) tokens
