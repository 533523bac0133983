-- The tokens of one file by hosts.
use Rattle.std.specs.Prelude.{◌≡◌, ℕ, Bool, ◌==◌, ◌&&◌, not, if◌then◌else◌, List, [], ◌∷◌, insert, length, All}
use Rattle.std.specs.List.{filter}
use Rattle.base_types.specs.declared.ids.HostId.{HostId}
use Rattle.token_types.specs.Conflicts.{same_id}
use Rattle.token_types.specs.declared.token.Need.{Need}
use Rattle.token_types.specs.declared.token.Token.{Token}
use Rattle.token_types.specs.declared.token.TokenId.{TokenId}
use Rattle.token_table.specs.Masks.{may_bar_any, HasKind, nothing, with_kind, barred_by}
use Rattle.token_table.specs.Tables.{of_host, without_id}
use Rattle.token_table.specs.declared.parts.Part.{Part}

-- whether a part is a host's
abbrev pub has_host : HostId → Part → Bool
has_host host part = part.host.0 == host.0

-- the tokens of a host: those of its first part
abbrev pub own_of : List Part → HostId → List Token
own_of [] host = []
own_of (part ∷ parts) host = if has_host host part then part.tokens else own_of parts host

-- a host's tokens with one more, where it is this host's
abbrev pub and_own : ℕ → Token → HostId → List Token → List Token
and_own own token host tokens = if token.host.0 == host.0 then insert tokens own token else tokens

-- whether a token has another number
abbrev pub is_other : TokenId → Token → Bool
is_other id token = not (same_id token.id id)

-- a host's tokens without the one of a number, where it is this host's
abbrev pub and_less : TokenId → HostId → HostId → List Token → List Token
and_less id host other tokens = if host.0 == other.0 then without_id tokens id else tokens

-- what its tokens bar is noted of each part
abbrev pub IsBarred : Part → Type 0
IsBarred part = All (λ token. HasKind part.barred token.kind) part.tokens

abbrev pub AreBarred : List Part → Type 0
AreBarred parts = All IsBarred parts

-- a part with one token more
abbrev pub and_token : ℕ → Token → Part → Part
and_token own token part =
    record part { barred = with_kind part.barred token.kind; tokens = insert part.tokens own token }

-- the part of a host's first token
abbrev pub first_part : Token → Part
first_part token =
    record { host = token.host; barred = with_kind nothing token.kind; tokens = token ∷ [] }

-- a part with those of its tokens that pass a test; what they bar is noted anew where some went
abbrev pub passing : (Token → Bool) → Part → Part
passing test part =
    record part {
      barred = if length (filter test part.tokens) == length part.tokens then part.barred
          else barred_by (filter test part.tokens);
      tokens = filter test part.tokens;
    }

-- whether a part of another host may have a token in the way of a host's needs
abbrev pub is_in_way : HostId → List Need → Part → Bool
is_in_way host needs part = not (part.host.0 == host.0) && may_bar_any needs part.barred

-- whether a part of a third host may have one too
abbrev pub is_another_in_way : HostId → HostId → List Need → Part → Bool
is_another_in_way first host needs part = not (part.host.0 == first.0) && is_in_way host needs part

-- the parts have each host's tokens, in their order
pub record IsParted (tokens : List Token) (parts : List Part) : Type 0 where
  pub own : (host : HostId) → own_of parts host ≡ of_host tokens host
  pub barred : AreBarred parts
