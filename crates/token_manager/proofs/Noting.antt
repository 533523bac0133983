-- The numbers of tokens, and what is noted of them.
use Rattle.std.proofs.Common.{◌≡◌, ◌≤◌, ◌<◌, ◌+◌, ℕ, Bool, true, false, ◌==◌, ◌&&◌, ◌||◌, not, nat_lt, nat_le, cond}
use Rattle.std.proofs.Common.{List, [], ◌∷◌, ◌++◌, Option, Some, None, is_some, option_map, IfSome, refl, sym, ap, ◌∙◌}
use Rattle.std.proofs.Common.{subst, inl, inr, if◌then◌else◌, get_or, arith}
use Rattle.std.specs.Prelude.{All}
use Rattle.std.specs.List.{list_any, filter}
use Rattle.std.proofs.lemmas.Bool.{cases_Bool, false≢true, true≢false, or_parts, or_right, not-true}
use Rattle.std.proofs.lemmas.Bool.Decides.{nat_tests}
use Rattle.std.proofs.lemmas.List.Elements.{All-head, All-tail, All-nil, All-cons, All-weaker}
use Rattle.base_types.specs.declared.ids.HostId.{HostId}
use Rattle.base_types.specs.declared.ids.ServerId.{ServerId}
use Rattle.token_types.specs.Conflicts.{same_id}
use Rattle.token_types.specs.declared.token.Need.{Need}
use Rattle.token_types.specs.declared.token.Token.{Token}
use Rattle.token_types.specs.declared.token.TokenId.{TokenId}
use Rattle.token_table.specs.Places.{placed, comes_before}
use Rattle.token_table.specs.Tables.{Table, has_id, is_past, tokens_from, without_id, not_of_host}
use Rattle.token_table.proofs.Shelving.{one_id}
use Rattle.token_table.proofs.Sound.{ids_both, not_past}
use Rattle.token_table.specs.declared.notes.Note.{Note}

-- what holds of a value holds of it under a test, and where the test takes it away
pub if_some_weaker : {X : Type 0} (P Q : X → Type 0) → ((x : X) → P x → Q x) → (o : Option X) → IfSome o P → IfSome o Q
if_some_weaker P Q f None h = tt
if_some_weaker P Q f (Some x) h = f x h

pub if_some_taken : {X : Type 0} (P : X → Type 0) (b : Bool) (o : Option X) → IfSome o P → IfSome (cond b None o) P
if_some_taken P true o h = tt
if_some_taken P false o h = h

pub if_some_changed : {X : Type 0} (P : X → Type 0) (f : X → X) → ((x : X) → P x → P (f x)) → (b : Bool)
    (o : Option X) → IfSome o P → IfSome (cond b (option_map f o) o) P
if_some_changed P f keeps true None h = tt
if_some_changed P f keeps true (Some x) h = keeps x h
if_some_changed P f keeps false o h = h

-- a number is the same as itself
pub same_self : (a : TokenId) → same_id a a ≡ true
same_self a = grind (arith, nat_tests)

-- each of some tokens is among them
pub among_themselves : (tokens : List Token) → All (λ token. has_id tokens token.id ≡ true) tokens
among_themselves [] = All-nil (λ token. has_id [] token.id ≡ true)
among_themselves (x ∷ xs) = All-cons (λ token. has_id (x ∷ xs) token.id ≡ true) x xs
    (ap (λ b. b || has_id xs x.id) (same_self x.id))
    (All-weaker (λ token. has_id xs token.id ≡ true) (λ token. has_id (x ∷ xs) token.id ≡ true)
    (λ token e. or_right (same_id x.id token.id) (has_id xs token.id) e) xs (among_themselves xs))

-- a number that is past isn't among the next ones
pub not_next : (table : Table) (last : ℕ) (host : HostId) (needs : List Need) (id : TokenId) → table.last ≤ last →
    is_past table id ≡ true → has_id (tokens_from table.server table.epoch last host needs) id ≡ false
not_next table last host [] id more past = refl
not_next table last host (need ∷ needs) id more past =
    let next : TokenId = record { server = table.server; epoch = table.epoch; seq = last + 1 } in
    let apart : same_id next id ≡ false = ids_both next id
    ∙ not_past id.server.0 table.server.0 id.epoch table.epoch id.seq table.last (last + 1) past (omega arith) in
    rw apart (not_next table (last + 1) host needs id (omega arith) past)

-- the numbers of the tokens but for one
pub has_without : (tokens : List Token) (id other : TokenId) →
    has_id (without_id tokens id) other ≡ cond (same_id id other) false (has_id tokens other)
has_without [] id other = elim (cases_Bool (same_id id other)) [ inl same ↦ rw same refl | inr apart ↦ rw apart refl ]
has_without (x ∷ xs) id other = elim (cases_Bool (same_id x.id id)) [
  | inl here ↦
      let it : same_id x.id other ≡ same_id id other = ap (λ i. same_id i other) (one_id x.id id here) in
      rw (here, it, has_without xs id other) (gone (same_id id other) (has_id xs other))
  | inr there ↦
      rw (there, has_without xs id other)
      (stays (same_id x.id other) (same_id id other) (has_id xs other) (λ same.
      ap (same_id x.id) (sym (one_id id other same)) ∙ there))
]
  where
    gone : (b c : Bool) → cond b false c ≡ cond b false (b || c)
    gone true c = refl
    gone false c = refl

    stays : (a b c : Bool) → (b ≡ true → a ≡ false) → (a || cond b false c) ≡ cond b false (a || c)
    stays true true c f = absurd (true≢false (f refl))
    stays true false c f = refl
    stays false true c f = refl
    stays false false c f = refl

-- the numbers of the tokens with one in its place
pub has_placed : (server : ServerId) (epoch : ℕ) (token : Token) (tokens : List Token) (id : TokenId) →
    has_id (placed server epoch token tokens) id ≡ (same_id token.id id || has_id tokens id)
has_placed server epoch token [] id = refl
has_placed server epoch token (x ∷ xs) id = elim (cases_Bool (comes_before server epoch x token)) [
  | inl before ↦ rw (before, has_placed server epoch token xs id)
      (turned (same_id x.id id) (same_id token.id id) (has_id xs id))
  | inr behind ↦ rw behind refl
]
  where
    turned : (a b c : Bool) → (a || (b || c)) ≡ (b || (a || c))
    turned true true c = refl
    turned true false c = refl
    turned false true c = refl
    turned false false c = refl

-- the numbers of the tokens of other hosts, where the tokens of a number are of its host
pub has_not_of : (host its : HostId) (tokens : List Token) (id : TokenId) →
    All (λ token. same_id token.id id ≡ true → its ≡ token.host) tokens →
    has_id (not_of_host tokens host) id ≡ cond (its.0 == host.0) false (has_id tokens id)
has_not_of host its [] id all = elim (cases_Bool (its.0 == host.0)) [
  | inl mine ↦ rw mine refl
  | inr other ↦ rw other refl
]
has_not_of host its (x ∷ xs) id all =
    let first = All-head (λ token. same_id token.id id ≡ true → its ≡ token.host) x xs all in
    let rest = has_not_of host its xs id
    (All-tail (λ token. same_id token.id id ≡ true → its ≡ token.host) x xs all) in
    elim (cases_Bool (x.host.0 == host.0)) [
      | inl mine ↦ rw (mine, rest) (dropped (same_id x.id id) (its.0 == host.0) (has_id xs id)
          (λ same. ap (λ h. h.0 == host.0) (first same) ∙ mine))
      | inr other ↦ rw (other, rest) (stays (same_id x.id id) (its.0 == host.0) (has_id xs id)
          (λ same. ap (λ h. h.0 == host.0) (first same) ∙ other))
    ]
  where
    dropped : (a b c : Bool) → (a ≡ true → b ≡ true) → cond b false c ≡ cond b false (a || c)
    dropped a true c f = refl
    dropped true false c f = absurd (false≢true (f refl))
    dropped false false c f = refl

    stays : (a b c : Bool) → (a ≡ true → b ≡ false) → (a || cond b false c) ≡ cond b false (a || c)
    stays true true c f = absurd (true≢false (f refl))
    stays false true c f = refl
    stays true false c f = refl
    stays false false c f = refl

-- a number that no token has
untouched : (tokens : List Token) (id : TokenId) → has_id tokens id ≡ false → without_id tokens id ≡ tokens
untouched [] id absent = refl
untouched (x ∷ xs) id absent =
    let parts = or_parts (same_id x.id id) (has_id xs id) absent in
    rw parts.0 (ap (λ l. x ∷ l) (untouched xs id parts.1))

-- a token that is taken out again
pub without_placed : (server : ServerId) (epoch : ℕ) (token : Token) (tokens : List Token) →
    has_id tokens token.id ≡ false → without_id (placed server epoch token tokens) token.id ≡ tokens
without_placed server epoch token [] absent = rw (same_self token.id) refl
without_placed server epoch token (x ∷ xs) absent =
    let parts = or_parts (same_id x.id token.id) (has_id xs token.id) absent in
    elim (cases_Bool (comes_before server epoch x token)) [
      | inl before ↦ rw (before, parts.0) (ap (λ l. x ∷ l) (without_placed server epoch token xs parts.1))
      | inr behind ↦ rw (behind, same_self token.id, parts.0) (ap (λ l. x ∷ l) (untouched xs token.id parts.1))
    ]
