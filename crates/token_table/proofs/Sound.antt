-- What keeps a table sound.
use Rattle.std.proofs.Common.{◌≡◌, ◌≤◌, ◌<◌, ◌+◌, ℕ, suc, Bool, true, false, ◌==◌, ◌&&◌, ◌||◌, not, nat_lt, nat_le}
use Rattle.std.proofs.Common.{List, [], ◌∷◌, ◌++◌, length, get_or, append_assoc, append-nil, is_some, sym, ◌∙◌, subst}
use Rattle.std.proofs.Common.{refl, inl, inr, arith}
use Rattle.std.specs.Prelude.{All}
use Rattle.std.specs.List.{list_any, find, filter}
use Rattle.std.proofs.lemmas.Bool.{and_parts, and_from, le-leb, leb-true, cases_Bool, false≢true}
use Rattle.std.proofs.Common.{if◌then◌else◌}
use Rattle.std.specs.List.{AllPairs}
use Rattle.std.proofs.lemmas.List.Elements.{All-head, All-tail}
use Rattle.std.proofs.lemmas.List.Kept.{AllPairs-cons}
use Rattle.token_types.proofs.Symmetric.{same_number}
use Rattle.token_table.specs.Places.{placed, comes_before}
use Rattle.token_table.specs.Shelves.{with_token}
use Rattle.std.proofs.lemmas.Bool.Decides.{nat_tests}
use Rattle.std.proofs.lemmas.List.Elements.{All-weaker, All-push, All-filter, All-nil, All-cons}
use Rattle.std.proofs.lemmas.List.Quantifiers.{all_pairs_push}
use Rattle.std.proofs.lemmas.List.Kept.{AllPairs-filter}
use Rattle.std.proofs.lemmas.List.Folds.{list_any_none, list_any_at}
use Rattle.base_types.specs.declared.ids.HostId.{HostId}
use Rattle.base_types.specs.declared.ids.ServerId.{ServerId}
use Rattle.token_types.specs.Conflicts.{same_id}
use Rattle.token_types.specs.declared.token.Need.{Need}
use Rattle.token_types.specs.declared.token.Token.{Token}
use Rattle.token_types.specs.declared.token.TokenId.{TokenId}
use Rattle.token_table.specs.Tables.{Table, IsSound, has_id, is_past, token_for, tokens_from, next_token, next_tokens}
use Rattle.token_table.specs.Tables.{granted, with_tokens}

-- nothing passes a test that no element passes
pub none_at : {X : Type 0} (p : X → Bool) (xs : List X) (k : ℕ) (d : X) → list_any p xs ≡ false → k < length xs →
    p (get_or xs k d) ≡ false
none_at p xs k d none within =
    elim (cases_Bool (p (get_or xs k d))) [
      | inl passes ↦
          absurd (false≢true (sym none ∙ list_any_at p xs k d within passes))
      | inr fails ↦ fails
    ]

or_weaker : (x y z : Bool) → (y ≡ true → z ≡ true) → (x || y) ≡ true → (x || z) ≡ true
or_weaker true y z f e = refl
or_weaker false y z f e = f e

-- a number that is past stays so
past_later : (table : Table) (last : ℕ) (id : TokenId) → table.last ≤ last → is_past table id ≡ true →
    is_past (record table { last = last }) id ≡ true
past_later table last id more e =
    or_weaker (not (id.server.0 == table.server.0) || nat_lt id.epoch table.epoch)
    ((id.epoch == table.epoch) && nat_le id.seq table.last) ((id.epoch == table.epoch) && nat_le id.seq last)
    (λ h. let parts = and_parts (id.epoch == table.epoch) (nat_le id.seq table.last) h in
    and_from (id.epoch == table.epoch) (nat_le id.seq last) parts.0
    (le-leb id.seq last (omega (arith, leb-true id.seq table.last parts.1)))) e

-- a number behind the last one isn't past
pub not_past : (a b e f s last seq : ℕ) → ((not (a == b) || nat_lt e f) || ((e == f) && nat_le s last)) ≡ true →
    last < seq → (((a == b) && (e == f)) && (s == seq)) ≡ false
not_past a b e f s last seq past more = grind (arith, nat_tests)

-- so no token has it
pub absent : (table : Table) (seq : ℕ) → table.last < seq → IsSound table → has_id table.tokens
    (record { server = table.server; epoch = table.epoch; seq = seq }) ≡ false
absent table seq more h =
    list_any_none (λ token. same_id token.id (record { server = table.server; epoch = table.epoch; seq = seq }))
    table.tokens
    (All-weaker (λ token. is_past table token.id ≡ true) (λ token. same_id token.id (record {
      server = table.server;
      epoch = table.epoch;
      seq = seq;
    }) ≡ false)
    (λ token past. not_past token.id.server.0 table.server.0 token.id.epoch table.epoch token.id.seq table.last seq past
    more) table.tokens h.past)

-- one more token
pub sound_push : (table : Table) (last : ℕ) (token : Token) → table.last ≤ last → is_past (record table { last = last })
    token.id ≡ true → has_id table.tokens token.id ≡ false → IsSound table →
    IsSound (record table { last = last; tokens = table.tokens ++ token ∷ [] })
sound_push table last token more past none h =
    record {
      past = All-push (λ other. is_past (record table { last = last }) other.id ≡ true) table.tokens token
          (All-weaker (λ other. is_past table other.id ≡ true) (λ other. is_past (record table { last = last })
          other.id ≡ true) (λ other e. past_later table last other.id more e) table.tokens h.past) past;
      distinct = all_pairs_push (λ a b. same_id a.id b.id ≡ false) table.tokens token h.distinct
          (λ k d within. none_at (λ other. same_id other.id token.id) table.tokens k d none within);
    }

-- fewer tokens
pub sound_filter : (table : Table) (p : Token → Bool) → IsSound table →
    IsSound (with_tokens table (filter p table.tokens))
sound_filter table p h =
    record {
      past = All-filter p (λ token. is_past table token.id ≡ true) table.tokens h.past;
      distinct = AllPairs-filter (λ a b. same_id a.id b.id ≡ false) p table.tokens h.distinct;
    }

next_past : (a e s : ℕ) → ((not (a == a) || nat_lt e e) || ((e == e) && nat_le s s)) ≡ true
next_past a e s = grind (arith, nat_tests)

-- the next token
pub sound_next : (table : Table) (host : HostId) (need : Need) → IsSound table →
    IsSound (record table { last = table.last + 1; tokens = table.tokens ++ next_token table host need ∷ [] })
sound_next table host need h =
    sound_push table (table.last + 1) (next_token table host need) (omega arith)
    (next_past table.server.0 table.epoch (table.last + 1)) (absent table (table.last + 1) (omega arith) h) h

-- the same by other words
same_sound : (table : Table) (last last' : ℕ) (tokens tokens' : List Token) → last ≡ last' → tokens ≡ tokens' →
    IsSound (record table { last = last; tokens = tokens }) → IsSound (record table { last = last'; tokens = tokens' })
same_sound table last last' tokens tokens' e f h =
    subst (λ n. IsSound (record table { last = n; tokens = tokens' })) e
    (subst (λ ts. IsSound (record table { last = last; tokens = ts })) f h)

-- the next tokens
pub sound_granted : (table : Table) (host : HostId) (needs : List Need) → IsSound table →
    IsSound (granted table host needs)
sound_granted table host [] h = same_sound table table.last (table.last + 0) table.tokens (table.tokens ++ [])
    (omega arith) (sym (append-nil table.tokens)) h
sound_granted table host (need ∷ needs) h =
    same_sound table (table.last + 1 + length needs) (table.last + suc (length needs))
    ((table.tokens ++ next_token table host need ∷ []) ++ tokens_from table.server table.epoch (table.last + 1) host
    needs)
    (table.tokens ++ next_token table host need ∷ tokens_from table.server table.epoch (table.last + 1) host needs)
    (omega arith) (append_assoc table.tokens (next_token table host need ∷ []) (tokens_from table.server table.epoch
    (table.last + 1) host needs))
    (sound_granted (record table { last = table.last + 1; tokens = table.tokens ++ next_token table host need ∷ [] })
    host needs (sound_next table host need h))

-- the table has none of their numbers
absent_from : (table : Table) (last : ℕ) (host : HostId) (needs : List Need) → table.last ≤ last → IsSound table →
    All (λ token. has_id table.tokens token.id ≡ false) (tokens_from table.server table.epoch last host needs)
absent_from table last host [] more h = All-nil (λ token. has_id table.tokens token.id ≡ false)
absent_from table last host (need ∷ needs) more h =
    All-cons (λ token. has_id table.tokens token.id ≡ false) (token_for table.server table.epoch last host need)
    (tokens_from table.server table.epoch (last + 1) host needs)
    (absent table (last + 1) (omega arith) h) (absent_from table (last + 1) host needs (omega arith) h)

pub absent_each : (table : Table) (host : HostId) (needs : List Need) → IsSound table →
    All (λ token. has_id table.tokens token.id ≡ false) (next_tokens table host needs)
absent_each table host needs h = absent_from table table.last host needs (omega arith) h

-- a search finds something where something passes
pub found_any : {X : Type 0} (p : X → Bool) (xs : List X) → is_some (find p xs) ≡ list_any p xs
found_any p [] = refl
found_any p (x ∷ xs) =
    elim (cases_Bool (p x)) [ inl passes ↦ rw passes refl | inr fails ↦ rw fails (found_any p xs) ]

module _ {X : Type 0} where
  all_if : (P : X → Type 0) (b : Bool) (xs ys : List X) → All P xs → All P ys → All P (if b then xs else ys)
  all_if P true xs ys a b = a
  all_if P false xs ys a b = b

  pairs_if : (R : X → X → Type 0) (b : Bool) (xs ys : List X) → AllPairs R xs → AllPairs R ys →
      AllPairs R (if b then xs else ys)
  pairs_if R true xs ys a b = a
  pairs_if R false xs ys a b = b

  pub pairs_head : (R : X → X → Type 0) (x : X) (xs : List X) → AllPairs R (x ∷ xs) → All (R x) xs
  pairs_head R x xs h = λ k d within. h 0 (suc k) d (omega arith) (omega arith)

  pub pairs_tail : (R : X → X → Type 0) (x : X) (xs : List X) → AllPairs R (x ∷ xs) → AllPairs R xs
  pairs_tail R x xs h = λ i j d less within. h (suc i) (suc j) d (omega arith) (omega arith)

module _ (server : ServerId) (epoch : ℕ) (token : Token) where
  pub all_placed : (P : Token → Type 0) (tokens : List Token) → P token → All P tokens →
      All P (placed server epoch token tokens)
  all_placed P [] one all = All-cons P token [] one all
  all_placed P (x ∷ xs) one all = all_if P (comes_before server epoch x token)
      (x ∷ placed server epoch token xs) (token ∷ x ∷ xs)
      (All-cons P x (placed server epoch token xs) (All-head P x xs all)
      (all_placed P xs one (All-tail P x xs all)))
      (All-cons P token (x ∷ xs) one all)

  pub pairs_placed : (R : Token → Token → Type 0) (tokens : List Token) → All (λ t. R t token) tokens →
      All (R token) tokens →
      AllPairs R tokens → AllPairs R (placed server epoch token tokens)
  pairs_placed R [] to from pairs = AllPairs-cons R token [] from pairs
  pairs_placed R (x ∷ xs) to from pairs = pairs_if R (comes_before server epoch x token)
      (x ∷ placed server epoch token xs) (token ∷ x ∷ xs)
      (AllPairs-cons R x (placed server epoch token xs)
      (all_placed (R x) xs (All-head (λ t. R t token) x xs to) (pairs_head R x xs pairs))
      (pairs_placed R xs (All-tail (λ t. R t token) x xs to) (All-tail (R token) x xs from)
      (pairs_tail R x xs pairs)))
      (AllPairs-cons R token (x ∷ xs) from pairs)

pub ids_both : (a b : TokenId) → same_id a b ≡ same_id b a
ids_both a b =
    (λ i. ((same_number a.server.0 b.server.0 i && same_number a.epoch b.epoch i) && same_number a.seq b.seq i))

-- one more token, in its place
pub sound_placed : (table : Table) (token : Token) → is_past table token.id ≡ true → has_id table.tokens
    token.id ≡ false →
    IsSound table → IsSound (with_token table token)
sound_placed table token past none h =
    let R : Token → Token → Type 0 = λ a b. same_id a.id b.id ≡ false in
    record {
      past = all_placed table.server table.epoch token (λ t. is_past table t.id ≡ true) table.tokens past h.past;
      distinct = pairs_placed table.server table.epoch token R table.tokens
          (λ k d within. none_at (λ other. same_id other.id token.id) table.tokens k d none within)
          (λ k d within. ids_both token.id (get_or table.tokens k d).id
          ∙ none_at (λ other. same_id other.id token.id) table.tokens k d none within)
          h.distinct;
    }
