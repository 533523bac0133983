-- Tokens that are granted to a want.
use Rattle.std.proofs.Common.{◌≡◌, ℕ, ◌+◌, Bool, true, false, ◌==◌, ◌&&◌, not, nat_lt, List, [], ◌∷◌, ◌++◌, get_or}
use Rattle.std.proofs.Common.{Option, Some, is_none, refl, inl, inr, eq-eqb, arith}
use Rattle.std.specs.Prelude.{All, AllPairs}
use Rattle.std.specs.List.{list_any, find}
use Rattle.std.proofs.lemmas.Bool.{cases_Bool, false≢true, and_left, and_right, and_cases, or_parts, not_from_true}
use Rattle.std.proofs.lemmas.List.Elements.{All-nil, All-cons, All-weaker, All-head, All-tail}
use Rattle.std.proofs.lemmas.List.Kept.{AllPairs-cons}
use Rattle.base_types.specs.declared.ids.HostId.{HostId}
use Rattle.base_types.specs.declared.ids.ServerId.{ServerId}
use Rattle.token_types.specs.declared.token.Need.{Need}
use Rattle.token_types.specs.declared.token.Token.{Token}
use Rattle.token_types.specs.Conflicts.{wants_conflict, conflict, blocks, any_conflict, needs_conflict, need_of}
use Rattle.token_table.specs.Tables.{token_for, tokens_from}
use Rattle.token_manager.specs.declared.want.Want.{Want}
use Rattle.token_manager.specs.Wants.{is_ahead, first_ahead}
use Rattle.token_manager.specs.Grants.{note_of}
use Rattle.token_manager.specs.Laws.{was_asked, IsNoted}
use Rattle.token_manager.proofs.Pairs.{pairs_append}

-- each token of these needs has what each of these needs gives
pub each_token : (P : Token → Type 0) (Q : Need → Type 0) (server : ServerId) (epoch last : ℕ) (host : HostId)
    (needs : List Need) → ((last : ℕ) (need : Need) → Q need → P (token_for server epoch last host need)) →
    All Q needs → All P (tokens_from server epoch last host needs)
each_token P Q server epoch last host [] f h = All-nil P
each_token P Q server epoch last host (need ∷ needs) f h =
    All-cons P (token_for server epoch last host need) (tokens_from server epoch (last + 1) host needs)
    (f last need (All-head Q need needs h))
    (each_token P Q server epoch (last + 1) host needs f (All-tail Q need needs h))

-- no element passes a test that the list doesn't
pub none_pass : {X : Type 0} (p : X → Bool) (xs : List X) → list_any p xs ≡ false → All (λ x. p x ≡ false) xs
none_pass p [] none = All-nil (λ x. p x ≡ false)
none_pass p (x ∷ xs) none =
    let parts = or_parts (p x) (list_any p xs) none in
    All-cons (λ y. p y ≡ false) x xs parts.0 (none_pass p xs parts.1)

pub none_found : {X : Type 0} (p : X → Bool) (xs : List X) → is_none (find p xs) ≡ true → All (λ x. p x ≡ false) xs
none_found p [] none = All-nil (λ x. p x ≡ false)
none_found p (x ∷ xs) none =
    elim (cases_Bool (p x)) [
      | inl passes ↦ absurd (false≢true (rw passes at none))
      | inr fails ↦ All-cons (λ y. p y ≡ false) x xs fails (none_found p xs (rw fails at none))
    ]

-- of tokens of one host none is in the way of another
same_host : (a b : Token) → a.host.0 ≡ b.host.0 → conflict a b ≡ false
same_host a b e = and_left (not (a.host.0 == b.host.0)) (needs_conflict (need_of a) (need_of b))
    (not_from_true (a.host.0 == b.host.0) (eq-eqb a.host.0 b.host.0 e))

pub one_host : (server : ServerId) (epoch last : ℕ) (host : HostId) (needs : List Need) →
    AllPairs (λ a b. conflict a b ≡ false) (tokens_from server epoch last host needs)
one_host server epoch last host [] = λ i j d before within. absurd (omega arith)
one_host server epoch last host (need ∷ needs) =
    AllPairs-cons (λ a b. conflict a b ≡ false) (token_for server epoch last host need)
    (tokens_from server epoch (last + 1) host needs)
    (each_token (λ b. conflict (token_for server epoch last host need) b ≡ false) (λ other. Unit {0}) server epoch
    (last + 1) host needs
    (λ later other h. same_host (token_for server epoch last host need) (token_for server epoch later host other) refl)
    (λ k d within. tt))
    (one_host server epoch (last + 1) host needs)

-- a token that isn't in the way conflicts with no token for these needs
not_in_the_way : (token : Token) (host : HostId) (needs : List Need) → blocks host needs token ≡ false →
    All (λ need. (not (token.host.0 == host.0) && needs_conflict (need_of token) need) ≡ false) needs
not_in_the_way token host needs free =
    elim (and_cases (not (token.host.0 == host.0)) (any_conflict (need_of token) needs) free) [
      | inl same ↦ λ k d within. and_left (not (token.host.0 == host.0))
          (needs_conflict (need_of token) (get_or needs k d)) same
      | inr none ↦ All-weaker (λ need. needs_conflict (need_of token) need ≡ false)
          (λ need. (not (token.host.0 == host.0) && needs_conflict (need_of token) need) ≡ false)
          (λ need e. and_right (not (token.host.0 == host.0)) (needs_conflict (need_of token) need) e) needs
          (none_pass (needs_conflict (need_of token)) needs none)
    ]

-- tokens for needs that nothing is in the way of
pub peaceful_grant : (tokens : List Token) (server : ServerId) (epoch last : ℕ) (host : HostId) (needs : List Need) →
    list_any (blocks host needs) tokens ≡ false → AllPairs (λ a b. conflict a b ≡ false) tokens →
    AllPairs (λ a b. conflict a b ≡ false) (tokens ++ tokens_from server epoch last host needs)
peaceful_grant tokens server epoch last host needs free h =
    let each = none_pass (blocks host needs) tokens free in
    pairs_append (λ a b. conflict a b ≡ false) tokens (tokens_from server epoch last host needs) h
    (one_host server epoch last host needs)
    (each_token (λ b. All (λ a. conflict a b ≡ false) tokens) (λ need.
    All (λ a. (not (a.host.0 == host.0) && needs_conflict (need_of a) need) ≡ false) tokens) server epoch last host
    needs
    (λ later need all. all)
    (λ k d within. All-weaker (λ a. blocks host needs a ≡ false) (λ a. (not (a.host.0 == host.0) && needs_conflict
    (need_of a) (get_or needs k d)) ≡ false)
    (λ a e. not_in_the_way a host needs e k d within) tokens each))

-- a want that doesn't stand before another is in the way of none of its tokens
pub not_passed : (want other : Want) → is_ahead want other ≡ false →
    All (λ need. (nat_lt other.number want.number && (not (want.host.0 == other.host.0) && any_conflict need
    other.needs)) ≡ false) want.needs
not_passed want other behind =
    elim (and_cases (nat_lt other.number want.number) (wants_conflict want.host want.needs other.host other.needs)
    behind) [
      | inl later ↦ λ k d within. and_left (nat_lt other.number want.number)
          (not (want.host.0 == other.host.0) && any_conflict (get_or want.needs k d) other.needs) later
      | inr apart ↦ elim (and_cases (not (want.host.0 == other.host.0))
          (list_any (λ need. any_conflict need other.needs) want.needs) apart) [
            | inl same ↦ λ k d within. and_right (nat_lt other.number want.number)
                (not (want.host.0 == other.host.0) && any_conflict (get_or want.needs k d) other.needs)
                (and_left (not (want.host.0 == other.host.0)) (any_conflict (get_or want.needs k d) other.needs) same)
            | inr none ↦ All-weaker (λ need. any_conflict need other.needs ≡ false)
                (λ need. (nat_lt other.number want.number && (not (want.host.0 == other.host.0) && any_conflict need
                other.needs)) ≡ false)
                (λ need e. and_right (nat_lt other.number want.number) (not (want.host.0 == other.host.0) &&
                any_conflict
                need other.needs)
                (and_right (not (want.host.0 == other.host.0)) (any_conflict need other.needs) e))
                want.needs (none_pass (λ need. any_conflict need other.needs) want.needs none)
          ]
    ]

-- what is noted of tokens that are granted to a want with which no earlier one conflicts
pub noted_grant : (latest : Option ℕ) (queue : List Want) (want : Want) (server : ServerId) (epoch last : ℕ) →
    was_asked latest want.number ≡ true → is_none (first_ahead queue want) ≡ true →
    All (λ token. IsNoted latest queue token (note_of want.host (Some want.number)))
    (tokens_from server epoch last want.host want.needs)
noted_grant latest queue want server epoch last asked first =
    let each = none_found (is_ahead want) queue first in
    each_token (λ token. IsNoted latest queue token (note_of want.host (Some want.number)))
    (λ need. All (λ other. (nat_lt other.number want.number && (not (want.host.0 == other.host.0) && any_conflict need
    other.needs)) ≡ false) queue) server epoch last want.host want.needs
    (λ later need all. record { host = refl; asked = asked; in_turn = all })
    (λ k d within. All-weaker (λ other. is_ahead want other ≡ false) (λ other.
    (nat_lt other.number want.number && (not (want.host.0 == other.host.0) && any_conflict (get_or want.needs k d)
    other.needs)) ≡ false)
    (λ other e. not_passed want other e k d within) queue each)
