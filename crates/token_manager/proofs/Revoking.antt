-- What is asked back for a want, and when a want waits.
use Rattle.std.proofs.Common.{◌≡◌, ℕ, Bool, true, false, ◌&&◌, ◌||◌, not, if◌then◌else◌, List, [], ◌∷◌, Option, is_some}
use Rattle.std.proofs.Common.{refl, inl, inr, ap, sym, subst, ◌∙◌, arith}
use Rattle.std.specs.Prelude.{All, AllPairs}
use Rattle.std.specs.List.{list_any, find, filter}
use Rattle.std.specs.Option.{option_map}
use Rattle.std.proofs.lemmas.Bool.{cases_Bool, false≢true, or_parts}
use Rattle.std.proofs.lemmas.List.Elements.{All-weaker}
use Rattle.base_types.specs.declared.ids.HostId.{HostId}
use Rattle.base_types.specs.declared.ids.ServerId.{ServerId}
use Rattle.token_types.specs.Conflicts.{blocks, conflict}
use Rattle.token_types.specs.declared.token.Need.{Need}
use Rattle.token_types.specs.declared.token.Token.{Token}
use Rattle.token_table.specs.Tables.{near, tokens_from, next_tokens}
use Rattle.token_table.proofs.Nearby.{near_all}
use Rattle.token_manager.specs.declared.want.Want.{Want}
use Rattle.token_manager.specs.declared.want.Asked.{Asked}
use Rattle.token_manager.specs.declared.want.Asked.TheVariants.{Granted, Waits}
use Rattle.token_table.specs.Marks.{is_pinned}
use Rattle.token_manager.specs.Grants.{is_blocked, to_revoke}
use Rattle.token_manager.specs.Wants.{is_ahead, first_ahead}
use Rattle.token_manager.specs.Managers.{Manager, has_to_wait, ask_answer}
use Rattle.token_manager.specs.RevokeLaws.{RevokesJustThose, is_waiting, WaitsJustWhere, GrantsInPeace}
use Rattle.token_manager.proofs.Granting.{none_pass, peaceful_grant}
use Rattle.token_manager.proofs.Pairs.{pairs_head}

-- what passes both tests
pub any_kept : {X : Type 0} (p test : X → Bool) (xs : List X) →
    list_any test (filter p xs) ≡ list_any (λ x. p x && test x) xs
any_kept p test [] = refl
any_kept p test (x ∷ xs) = elim (cases_Bool (p x)) [
  | inl passes ↦ rw (passes, any_kept p test xs) refl
  | inr fails ↦ rw (fails, any_kept p test xs) refl
]

-- a search finds something where something passes
pub any_found : {X : Type 0} (p : X → Bool) (xs : List X) → is_some (find p xs) ≡ list_any p xs
any_found p [] = refl
any_found p (x ∷ xs) = elim (cases_Bool (p x)) [
  | inl passes ↦ rw passes refl
  | inr fails ↦ rw fails (any_found p xs)
]

pub revokes_just_those : RevokesJustThose
revokes_just_those grants want test =
    any_kept (λ token. not (is_pinned grants.notes token.id)) test
    (filter (blocks want.host want.needs) (near grants.table.tokens [] want.needs))
    ∙ near_all want.host want.needs grants.table.tokens
    (λ token. not (is_pinned grants.notes token.id) && test token)

waiting_if : (waits : Bool) (revoke tokens : List Token) (behind : Option ℕ) →
    is_waiting (if waits then Waits revoke behind else Granted tokens) ≡ waits
waiting_if true revoke tokens behind = refl
waiting_if false revoke tokens behind = refl

pub waits_just_where : WaitsJustWhere
unfolding ask_answer
waits_just_where manager want =
    waiting_if (has_to_wait manager want) (to_revoke manager.grants want)
    (next_tokens manager.grants.table want.host want.needs)
    (option_map (λ other. other.number) (first_ahead manager.queue want))
    ∙ ap (λ b. is_blocked manager.grants want || b) (any_found (is_ahead want) manager.queue)

abbrev tokens_of : Asked → List Token
tokens_of (Granted tokens) = tokens
tokens_of (Waits revoke behind) = []

-- what is granted where nothing makes it wait
granted_if : (P : List Token → Type 0) (waits : Bool) (revoke tokens granted : List Token) (behind : Option ℕ) →
    (waits ≡ false → P tokens) → (if waits then Waits revoke behind else Granted tokens) ≡ Granted granted → P granted
granted_if P true revoke tokens granted behind h e = absurd (false≢true (sym (ap is_waiting e)))
granted_if P false revoke tokens granted behind h e = subst P (ap tokens_of e) (h refl)

-- a token that isn't in the way of needs conflicts with none of the tokens for them
apart : (server : ServerId) (epoch last : ℕ) (host : HostId) (needs : List Need) (before : Token) →
    blocks host needs before ≡ false →
    All (λ token. conflict before token ≡ false) (tokens_from server epoch last host needs)
apart server epoch last host needs before free =
    pairs_head (λ a b. conflict a b ≡ false) before (tokens_from server epoch last host needs)
    (peaceful_grant (before ∷ []) server epoch last host needs (ap (λ b. b || false) free)
    (λ i j d first within. absurd (omega arith)))

pub grants_in_peace : GrantsInPeace
unfolding ask_answer
grants_in_peace manager want tokens e =
    let table = manager.grants.table in
    granted_if (λ granted. All (λ before. All (λ token. conflict before token ≡ false) granted) table.tokens)
    (has_to_wait manager want) (to_revoke manager.grants want) (next_tokens table want.host want.needs) tokens
    (option_map (λ other. other.number) (first_ahead manager.queue want))
    (λ free. All-weaker (λ before. blocks want.host want.needs before ≡ false)
    (λ before. All (λ token. conflict before token ≡ false) (next_tokens table want.host want.needs))
    (λ before h. apart table.server table.epoch table.last want.host want.needs before h) table.tokens
    (none_pass (blocks want.host want.needs) table.tokens
    (or_parts (is_blocked manager.grants want) (is_some (first_ahead manager.queue want)) free).0))
    e
