-- Tokens that are held, in the order of their use.
use Rattle.std.specs.Prelude.{◌≡◌, ◌≤◌, ℕ, Bool, true, false, ◌&&◌}
use Rattle.std.specs.Prelude.{not, if◌then◌else◌, List, [], ◌∷◌, ◌++◌, map, filter}
use Rattle.std.specs.Prelude.{Option, None, Some, length, All}
use Rattle.std.specs.List.{list_any, find}
use Rattle.std.specs.Option.{option_map_or}
use Rattle.base_types.specs.Ids.{same_fid}
use Rattle.base_types.specs.Spans.{has_byte, overlap}
use Rattle.base_types.specs.declared.ids.Fid.{Fid}
use Rattle.token_types.specs.Conflicts.{same_id}
use Rattle.token_types.specs.Covers.{does_for, kind_covers}
use Rattle.token_types.specs.declared.token.Kind.{Kind}
use Rattle.token_types.specs.declared.token.Kind.TheVariants.{Bytes, Status}
use Rattle.token_types.specs.declared.token.Need.{Need}
use Rattle.token_types.specs.declared.token.Token.{Token}
use Rattle.token_types.specs.declared.token.TokenId.{TokenId}
use Rattle.host_cache.specs.declared.held.Held.{Held}

abbrev pub is_id : TokenId → Held → Bool
is_id id held = same_id held.token.id id

abbrev pub has_id : List Held → TokenId → Bool
has_id held id = list_any (is_id id) held

abbrev pub without_id : TokenId → List Held → List Held
without_id id held = filter (λ h. not (is_id id h)) held

-- each token is held once
abbrev pub IsOnce : List Held → Type 0
IsOnce held = (id : TokenId) → length (filter (is_id id) held) ≤ 1

-- with the token of a number first, where it is held
abbrev pub brought : TokenId → List Held → List Held
brought id held = option_map_or (λ h. h ∷ without_id id held) (find (is_id id) held) held

abbrev pub tokens_of : List Held → List Token
tokens_of held = map (λ h. h.token) held

abbrev pub with_use : TokenId → Bool → Held → Held
with_use id in_use held = if is_id id held then record held { in_use = in_use } else held

abbrev pub is_idle : Held → Bool
is_idle held = not held.in_use

abbrev pub last_of : {A : Type 0} → List A → Option A
last_of [] = None
last_of (x ∷ []) = Some x
last_of (x ∷ y ∷ xs) = last_of (y ∷ xs)

-- whether the token of a number is held and came with a status
abbrev pub tells_at : List Held → TokenId → Bool
tells_at held id = option_map_or (λ h. h.tells) (find (is_id id) held) false

-- whether a token of a kind shows a byte, or the status
abbrev pub kind_has_byte : ℕ → Kind → Bool
kind_has_byte at (Bytes update span) = has_byte span at
kind_has_byte at _ = false

abbrev pub is_status : Kind → Bool
is_status (Status update) = true
is_status _ = false

-- whether a held token shows a byte of a file, or came with its status
abbrev pub shows_byte : Fid → ℕ → Held → Bool
shows_byte fid at held = same_fid held.token.fid fid && kind_has_byte at held.token.kind

abbrev pub tells_of : Fid → Held → Bool
tells_of fid held = same_fid held.token.fid fid && held.tells

-- whether a token of one kind covers a need of another kind, or helps to cover it
abbrev pub helps : Kind → Kind → Bool
helps (Bytes update span) (Bytes needed other) = does_for update needed && overlap span other
helps kind needed = kind_covers kind needed

abbrev pub helps_cover : Need → Token → Bool
helps_cover need token = same_fid token.fid need.fid && helps token.kind need.kind

-- with those first that pass a test; the order among these stays, and that among the others
abbrev pub first_by : {A : Type 0} → (A → Bool) → List A → List A
first_by test xs = filter test xs ++ filter (λ x. not (test x)) xs

-- with the tokens first that help to cover a need
abbrev pub helpers_first : Need → List Token → List Token
helpers_first need tokens = first_by (helps_cover need) tokens

abbrev pub used : Need → List Held → List Held
used need held = first_by (λ h. helps_cover need h.token) held

-- with needs used one after the other
abbrev pub used_each : List Need → List Held → List Held
used_each [] held = held
used_each (need ∷ needs) held = used_each needs (used need held)

-- with each of these tokens brought to the front, the first of them last
abbrev pub brought_all : List Token → List Held → List Held
brought_all [] held = held
brought_all (token ∷ tokens) held = brought token.id (brought_all tokens held)

-- the same of the held tokens help to cover two needs
abbrev pub AreAlike : Need → Need → List Held → Type 0
AreAlike one other held = All (λ h. helps_cover one h.token ≡ helps_cover other h.token) held

-- the same of these tokens are of a kind that helps to cover a need of one kind and of another
abbrev pub AreAlikeFor : Kind → Kind → List Token → Type 0
AreAlikeFor one other tokens = All (λ token. helps token.kind one ≡ helps token.kind other) tokens
