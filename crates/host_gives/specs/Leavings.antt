-- The tokens that give-backs name which aren't known as applied.
use Rattle.std.specs.Prelude.{ℕ, ◌==◌, ◌&&◌, Bool, List, [], ◌∷◌, ◌++◌, map}
use Rattle.base_types.specs.declared.ids.FilesetId.{FilesetId}
use Rattle.token_types.specs.Conflicts.{same_id}
use Rattle.token_types.specs.declared.token.Token.{Token}
use Rattle.token_types.specs.declared.token.TokenId.{TokenId}
use Rattle.host_gives.specs.declared.leavings.Leaving.{Leaving}

abbrev pub leaving_by : FilesetId → ℕ → Token → Leaving
leaving_by fileset number token = record { fileset = fileset; number = number; token = token }

-- whether a give-back names this token, and whether it is this give-back that names one
abbrev pub is_leaving : TokenId → Leaving → Bool
is_leaving id left = same_id left.token.id id

abbrev pub is_by : FilesetId → ℕ → Leaving → Bool
is_by fileset number left = (left.fileset.0 == fileset.0) && (left.number == number)

abbrev pub GiveKey : Type 0
GiveKey = ℕ × ℕ

abbrev pub leaving_at : GiveKey → Token → Leaving
leaving_at key token = leaving_by (record { 0 = key.0 }) key.1 token

-- the tokens that each give-back names, of which the last that was made comes first
abbrev pub leaving_in : List (GiveKey × List Token) → List Leaving
leaving_in [] = []
leaving_in (e ∷ es) = leaving_in es ++ map (leaving_at e.0) e.1
