-- How the tokens of one file by hosts change.
use Rattle.std.proofs.Common.{◌≡◌, ℕ, ◌+◌, ◌<◌, ◌≤◌, suc, zero, Bool, true, false, ◌==◌, ◌&&◌, ◌||◌, not, List, []}
use Rattle.std.proofs.Common.{◌∷◌, ◌++◌, length, take, drop, get_or, map, refl, sym, ap, ◌∙◌, arith, inl, inr, cond}
use Rattle.std.proofs.Common.{Option, Some, None, Result, Ok, Err, OnOk, is_some, subst, ◌⊎◌}
use Rattle.std.specs.Prelude.{All, insert, remove, if◌then◌else◌, position}
use Rattle.std.specs.List.{list_any, find, filter, position_or_len}
use Rattle.std.specs.Option.{option_map}
use Rattle.std.proofs.lemmas.Bool.{cases_Bool, false≢true, true≢false}
use Rattle.std.proofs.lemmas.Bool.Decides.{nat_tests}
use Rattle.std.proofs.lemmas.List.{take-append-drop}
use Rattle.std.proofs.lemmas.List.Quantifiers.{position-Some}
use Rattle.std.proofs.lemmas.Grind.{common_steps}
use Rattle.std.proofs.lemmas.List.Elements.{All-nil, All-cons, All-head, All-tail, All-append}
use Rattle.base_types.specs.Lists.{changed_at}
use Rattle.base_types.specs.declared.ids.HostId.{HostId}
use Rattle.token_types.specs.Conflicts.{blocks, any_conflict, need_of}
use Rattle.token_types.specs.declared.token.Need.{Need}
use Rattle.token_types.specs.declared.token.Token.{Token}
use Rattle.token_types.specs.declared.token.TokenId.{TokenId}
use Rattle.token_table.specs.Masks.{may_bar_any, HasKind, with_kind, nothing}
use Rattle.token_table.specs.Parts.{has_host, own_of, and_own, IsBarred, AreBarred, is_in_way, is_another_in_way}
use Rattle.token_table.specs.Parts.{IsParted, and_less, and_token, first_part, is_other, passing}
use Rattle.token_table.specs.Tables.{of_host, without_id}
use Rattle.token_table.specs.declared.parts.Part.{Part}
use Rattle.token_table.proofs.Barred.{none_conflicts, kind_now, kind_still, each_noted}

module _ {X : Type 0} where
  filter_append : (p : X → Bool) (xs ys : List X) → filter p (xs ++ ys) ≡ filter p xs ++ filter p ys
  filter_append p [] ys = refl
  filter_append p (x ∷ xs) ys = elim (cases_Bool (p x)) [
    | inl passes ↦ rw passes (ap (λ zs. x ∷ zs) (filter_append p xs ys))
    | inr fails ↦ rw fails (filter_append p xs ys)
  ]

  filter_both : (p q : X → Bool) (xs : List X) → filter p (filter q xs) ≡ filter q (filter p xs)
  filter_both p q [] = refl
  filter_both p q (x ∷ xs) = elim (cases_Bool (p x)) [
    | inl passes ↦ elim (cases_Bool (q x)) [
      | inl also ↦ rw (passes, also, passes) (ap (λ zs. x ∷ zs) (filter_both p q xs))
      | inr not_q ↦ rw (passes, not_q) (filter_both p q xs)
    ]
    | inr fails ↦ elim (cases_Bool (q x)) [
      | inl also ↦ rw (fails, also, fails) (filter_both p q xs)
      | inr not_q ↦ rw (fails, not_q) (filter_both p q xs)
    ]
  ]

  filter_none : (p : X → Bool) (xs : List X) → All (λ x. p x ≡ false) xs → filter p xs ≡ []
  filter_none p [] all = refl
  filter_none p (x ∷ xs) all =
      let here : p x ≡ false = All-head (λ y. p y ≡ false) x xs all in
      rw here (filter_none p xs (All-tail (λ y. p y ≡ false) x xs all))

  -- what passes one test passes another
  filter_within : (p q : X → Bool) (xs : List X) → All (λ x. p x ≡ true → q x ≡ true) xs →
      filter p (filter q xs) ≡ filter p xs
  filter_within p q [] all = refl
  filter_within p q (x ∷ xs) all = elim (cases_Bool (p x)) [
    | inl passes ↦
        (let also : q x ≡ true = All-head (λ y. p y ≡ true → q y ≡ true) x xs all passes in
        rw (passes, also, passes)
        (ap (λ zs. x ∷ zs) (filter_within p q xs (All-tail (λ y. p y ≡ true → q y ≡ true) x xs all))))
    | inr fails ↦ elim (cases_Bool (q x)) [
      | inl also ↦ rw (fails, also, fails) (filter_within p q xs (All-tail (λ y. p y ≡ true → q y ≡ true) x xs all))
      | inr not_q ↦ rw (fails, not_q) (filter_within p q xs (All-tail (λ y. p y ≡ true → q y ≡ true) x xs all))
    ]
  ]

  all_filtered : (P : X → Type 0) (q : X → Bool) (xs : List X) → All P xs → All P (filter q xs)
  all_filtered P q [] all = all
  all_filtered P q (x ∷ xs) all = elim (cases_Bool (q x)) [
    | inl passes ↦ rw passes (All-cons P x (filter q xs) (All-head P x xs all)
        (all_filtered P q xs (All-tail P x xs all)))
    | inr fails ↦ rw fails (all_filtered P q xs (All-tail P x xs all))
  ]

  all_taken : (P : X → Type 0) (i : ℕ) (xs : List X) → All P xs → All P (take i xs)
  all_taken P zero xs all = All-nil P
  all_taken P (suc i) [] all = All-nil P
  all_taken P (suc i) (x ∷ xs) all =
      All-cons P x (take i xs) (All-head P x xs all) (all_taken P i xs (All-tail P x xs all))

  all_dropped : (P : X → Type 0) (i : ℕ) (xs : List X) → All P xs → All P (drop i xs)
  all_dropped P zero xs all = all
  all_dropped P (suc i) [] all = All-nil P
  all_dropped P (suc i) (x ∷ xs) all = all_dropped P i xs (All-tail P x xs all)

  all_inserted : (P : X → Type 0) (i : ℕ) (xs : List X) (y : X) → All P xs → P y → All P (insert xs i y)
  all_inserted P i xs y all here =
      All-append P (take i xs) (y ∷ drop i xs) (all_taken P i xs all)
      (All-cons P y (drop i xs) here (all_dropped P i xs all))

  all_mapped : (P Q : X → Type 0) → ((x : X) → P x → Q x) → (xs : List X) → All P xs → All Q xs
  all_mapped P Q each xs all k d within = each _ (all k d within)

  take_length : (xs ys : List X) → take (length xs) (xs ++ ys) ≡ xs
  take_length [] ys = refl
  take_length (x ∷ xs) ys = ap (λ zs. x ∷ zs) (take_length xs ys)

  drop_length : (xs ys : List X) → drop (length xs) (xs ++ ys) ≡ ys
  drop_length [] ys = refl
  drop_length (x ∷ xs) ys = drop_length xs ys

  -- what passes of a list with one more
  pub filter_insert_in : (p : X → Bool) (xs : List X) (i : ℕ) (y : X) → p y ≡ true →
      filter p (insert xs i y) ≡ insert (filter p xs) (length (filter p (take i xs))) y
  filter_insert_in p xs i y passes =
      let front = filter p (take i xs) in
      let rest = filter p (drop i xs) in
      let whole : filter p xs ≡ front ++ rest =
      ap (filter p) (sym (take-append-drop i xs)) ∙ filter_append p (take i xs) (drop i xs) in
      filter_append p (take i xs) (y ∷ drop i xs) ∙ ap (λ b. front ++ cond b (y ∷ rest) rest) passes
      ∙ sym ((λ j. insert (whole j) (length front) y)
      ∙ (λ j. take_length front rest j ++ y ∷ drop_length front rest j))

  pub filter_insert_out : (p : X → Bool) (xs : List X) (i : ℕ) (y : X) → p y ≡ false →
      filter p (insert xs i y) ≡ filter p xs
  filter_insert_out p xs i y fails =
      let rest = filter p (drop i xs) in
      filter_append p (take i xs) (y ∷ drop i xs) ∙ ap (λ b. filter p (take i xs) ++ cond b (y ∷ rest) rest) fails
      ∙ sym (filter_append p (take i xs) (drop i xs)) ∙ ap (filter p) (take-append-drop i xs)

  pub fewer_taken : (p : X → Bool) (xs : List X) (i : ℕ) → length (filter p (take i xs)) ≤ length (filter p xs)
  fewer_taken p xs zero = omega arith
  fewer_taken p [] (suc i) = omega arith
  fewer_taken p (x ∷ xs) (suc i) = elim (cases_Bool (p x)) [
    | inl passes ↦ (let less = fewer_taken p xs i in rw passes (omega (arith, less)))
    | inr fails ↦ rw fails (fewer_taken p xs i)
  ]

-- a file that gets a token
pub own_put : (tokens : List Token) (parts parts' : List Part) (index : ℕ) (own : ℕ) (token : Token) →
    IsParted tokens parts → own ≡ length (of_host (take index tokens) token.host) →
    ((host : HostId) → own_of parts' host ≡ and_own own token host (own_of parts host)) → AreBarred parts' →
    IsParted (insert tokens index token) parts'
own_put tokens parts parts' index own token is count noted barred = record {
  own = λ host. noted host ∙ ap (and_own own token host) (is.own host) ∙ go host;
  barred = barred;
}
  where
    go : (host : HostId) → and_own own token host (of_host tokens host) ≡ of_host (insert tokens index token) host
    go host = elim (cases_Bool (token.host.0 == host.0)) [
      | inl mine ↦
          (let one : token.host.0 ≡ host.0 = grind (arith, nat_tests) in
          let there : own ≡ length (of_host (take index tokens) host) =
          count ∙ ap (λ n. length (filter (λ t. t.host.0 == n) (take index tokens))) one in
          rw mine (ap (λ n. insert (of_host tokens host) n token) there
          ∙ sym (filter_insert_in (λ t. t.host.0 == host.0) tokens index token mine)))
      | inr other ↦ rw other (sym (filter_insert_out (λ t. t.host.0 == host.0) tokens index token other))
    ]

module _ (host : HostId) where
  -- the tokens of a host, at the index of its part
  pub own_at : (parts : List Part) (i : ℕ) (d : Part) → position (has_host host) parts ≡ Some i →
      (get_or parts i d).tokens ≡ own_of parts host
  own_at parts i d e =
      let first = position-Some (has_host host) parts i d e in
      go parts i first.0 first.1 first.2
    where
      go : (xs : List Part) (j : ℕ) → j < length xs → has_host host (get_or xs j d) ≡ true →
          ((k : ℕ) → k < j → has_host host (get_or xs k d) ≡ false) → (get_or xs j d).tokens ≡ own_of xs host
      go [] j within here before = absurd (omega (arith, within))
      go (x ∷ xs) zero within here before = rw here refl
      go (x ∷ xs) (suc j) within here before =
          let not_first : has_host host x ≡ false = before 0 (omega arith) in
          rw not_first (go xs j (omega (arith, within)) here (λ k below. before (suc k) (omega (arith, below))))

  -- a host that has no part
  pub none_own : (parts : List Part) → position (has_host host) parts ≡ None → own_of parts host ≡ []
  none_own parts e = go parts (grind (arith, common_steps))
    where
      go : (xs : List Part) → length xs ≤ position_or_len (has_host host) xs → own_of xs host ≡ []
      go [] past = refl
      go (x ∷ xs) past = elim (cases_Bool (has_host host x)) [
        | inl here ↦ (let h = past in let less = rw here at h in absurd (omega (arith, less)))
        | inr apart ↦ (let h = past in let less = rw apart at h in rw apart (go xs (omega (arith, less))))
      ]

same_self : (n : ℕ) → (n == n) ≡ true
same_self n = grind (arith, nat_tests)

same_host : (a b c : ℕ) → (a == b) ≡ true → (a == c) ≡ (b == c)
same_host a b c e = ap (λ n. n == c) (let one : a ≡ b = grind (arith, nat_tests) in one)

-- a part that changes, and stays its host's
own_change : (parts : List Part) (own : HostId) (i : ℕ) (d : Part) (host : HostId) (change : Part → Part)
    (f : List Token → List Token) → ((part : Part) → (change part).host ≡ part.host) →
    ((part : Part) → (change part).tokens ≡ f part.tokens) → position (has_host own) parts ≡ Some i →
    own_of (changed_at parts i change) host
    ≡ (if own.0 == host.0 then f (own_of parts host) else own_of parts host)
own_change parts own i d host change f stays changes e =
    let first = position-Some (has_host own) parts i d e in
    go parts i first.0 first.1 first.2
  where
    go : (xs : List Part) (j : ℕ) → j < length xs → has_host own (get_or xs j d) ≡ true →
        ((k : ℕ) → k < j → has_host own (get_or xs k d) ≡ false) →
        own_of (changed_at xs j change) host ≡ (if own.0 == host.0 then f (own_of xs host) else own_of xs host)
    go [] j within here before = absurd (omega (arith, within))
    go (x ∷ xs) zero within here before =
        let one : (x.host.0 == host.0) ≡ (own.0 == host.0) = same_host x.host.0 own.0 host.0 here in
        let also : ((change x).host.0 == host.0) ≡ (own.0 == host.0) =
        ap (λ (h : HostId). h.0 == host.0) (stays x) ∙ one in
        elim (cases_Bool (own.0 == host.0)) [
          | inl mine ↦ rw (also, one, mine) (changes x)
          | inr other ↦ rw (also, one, other) refl
        ]
    go (x ∷ xs) (suc j) within here before =
        let apart : (x.host.0 == own.0) ≡ false = before 0 (omega arith) in
        let rest = go xs j (omega (arith, within)) here (λ k below. before (suc k) (omega (arith, below))) in
        elim (cases_Bool (x.host.0 == host.0)) [
          | inl its ↦
              (let other : (own.0 == host.0) ≡ false = grind (arith, nat_tests) in
              rw (its, other) refl)
          | inr not_its ↦ rw not_its rest
        ]

-- a part that gets a token
pub own_more : (parts : List Part) (token : Token) (own : ℕ) (i : ℕ) (d : Part) (host : HostId) →
    position (has_host token.host) parts ≡ Some i →
    own_of (changed_at parts i (and_token own token)) host ≡ and_own own token host (own_of parts host)
own_more parts token own i d host e =
    own_change parts token.host i d host (and_token own token) (λ ts. insert ts own token) (λ p. refl) (λ p. refl) e

-- a part that loses one
pub own_less : (parts : List Part) (own : HostId) (id : TokenId) (i : ℕ) (d : Part) (host : HostId) →
    position (has_host own) parts ≡ Some i →
    own_of (changed_at parts i (passing (is_other id))) host ≡ and_less id own host (own_of parts host)
own_less parts own id i d host e =
    own_change parts own i d host (passing (is_other id)) (λ ts. without_id ts id) (λ p. refl) (λ p. refl) e

-- a first part
pub own_first : (parts : List Part) (token : Token) (own : ℕ) (host : HostId) →
    position (has_host token.host) parts ≡ None → own ≤ length (own_of parts token.host) →
    own_of (parts ++ first_part token ∷ []) host ≡ and_own own token host (own_of parts host)
own_first parts token own host none within = go (cases_Bool (token.host.0 == host.0))
  where
    past : length parts ≤ position_or_len (has_host token.host) parts
    past = grind (arith, common_steps)

    zero_own : own ≡ 0
    zero_own = let less = ap length (none_own token.host parts none) in omega (arith, within, less)

    empty : (token.host.0 == host.0) ≡ true → (ys : List Part) → length ys ≤ position_or_len (has_host token.host) ys →
        (own_of ys host ≡ []) × (own_of (ys ++ first_part token ∷ []) host ≡ token ∷ [])
    empty mine [] h = (refl, (rw mine refl))
    empty mine (y ∷ ys) h = elim (cases_Bool (y.host.0 == token.host.0)) [
      | inl here ↦ (let k = h in let less = rw here at k in absurd (omega (arith, less)))
      | inr apart ↦
          (let k = h in
          let less = rw apart at k in
          let other : (y.host.0 == host.0) ≡ false = grind (arith, nat_tests) in
          let rest = empty mine ys (omega (arith, less)) in
          (rw other rest.0, rw other rest.1))
    ]

    before : (token.host.0 == host.0) ≡ false → (xs : List Part) →
        own_of (xs ++ first_part token ∷ []) host ≡ own_of xs host
    before other [] = rw other refl
    before other (x ∷ xs) = elim (cases_Bool (has_host host x)) [
      | inl its ↦ rw its refl
      | inr apart ↦ rw apart (before other xs)
    ]

    go : ((token.host.0 == host.0) ≡ true) ⊎ ((token.host.0 == host.0) ≡ false) →
        own_of (parts ++ first_part token ∷ []) host ≡ and_own own token host (own_of parts host)
    go (inl mine) =
        let two = empty mine parts past in
        rw mine (two.1 ∙ (λ i. insert (sym two.0 i) (sym zero_own i) token))
    go (inr other) = rw other (before other parts)

-- a host that has no part has no token to lose
pub own_none : (parts : List Part) (own : HostId) (id : TokenId) (host : HostId) →
    position (has_host own) parts ≡ None →
    own_of parts host ≡ and_less id own host (own_of parts host)
own_none parts own id host none = elim (cases_Bool (own.0 == host.0)) [
  | inl mine ↦ (let empty = go mine parts (grind (arith, common_steps)) in rw (mine, empty) refl)
  | inr other ↦ rw other refl
]
  where
    go : (own.0 == host.0) ≡ true → (ys : List Part) → length ys ≤ position_or_len (has_host own) ys →
        own_of ys host ≡ []
    go mine [] h = refl
    go mine (y ∷ ys) h = elim (cases_Bool (y.host.0 == own.0)) [
      | inl here ↦ (let k = h in let less = rw here at k in absurd (omega (arith, less)))
      | inr apart ↦
          (let k = h in
          let less = rw apart at k in
          let other : (y.host.0 == host.0) ≡ false = grind (arith, nat_tests) in
          rw other (go mine ys (omega (arith, less))))
    ]

-- a part that gets a token has it noted
pub noted_more : (own : ℕ) (token : Token) (part : Part) → IsBarred part → IsBarred (and_token own token part)
noted_more own token part all =
    let after = with_kind part.barred token.kind in
    all_inserted (λ t. HasKind after t.kind) own part.tokens token
    (all_mapped (λ t. HasKind part.barred t.kind) (λ t. HasKind after t.kind)
    (λ t has. kind_still part.barred t.kind token.kind has) part.tokens all)
    (kind_now part.barred token.kind)

-- what is noted of each part stays where one changes
pub noted_at : (parts : List Part) (i : ℕ) (change : Part → Part) → ((part : Part) → IsBarred part →
    IsBarred (change part)) → AreBarred parts → AreBarred (changed_at parts i change)
noted_at [] i change each all = all
noted_at (x ∷ xs) zero change each all =
    All-cons IsBarred (change x) xs (each x (All-head IsBarred x xs all)) (All-tail IsBarred x xs all)
noted_at (x ∷ xs) (suc i) change each all =
    All-cons IsBarred x (changed_at xs i change) (All-head IsBarred x xs all)
    (noted_at xs i change each (All-tail IsBarred x xs all))

pub noted_first : (token : Token) → IsBarred (first_part token)
noted_first token =
    All-cons (λ t. HasKind (with_kind nothing token.kind) t.kind) token [] (kind_now nothing token.kind)
    (All-nil (λ t. HasKind (with_kind nothing token.kind) t.kind))

pub noted_passing : (test : Token → Bool) (part : Part) → IsBarred part → IsBarred (passing test part)
noted_passing test part all =
    elim (cases_Bool (length (filter test part.tokens) == length part.tokens)) [
      | inl same ↦ rw same (all_filtered (λ t. HasKind part.barred t.kind) test part.tokens all)
      | inr less ↦ rw less (each_noted (filter test part.tokens))
    ]

-- a loop that changes one after the other
pub mapped_more : {X : Type 0} (f : X → X) (xs : List X) (i : ℕ) → i < length xs →
    changed_at (map f (take i xs) ++ drop i xs) i f ≡ map f (take (i + 1) xs) ++ drop (i + 1) xs
mapped_more f [] i within = absurd (omega (arith, within))
mapped_more f (x ∷ xs) zero within = refl
mapped_more f (x ∷ xs) (suc i) within =
    let next : suc i + 1 ≡ suc (i + 1) = omega arith in
    rw next (ap (λ zs. f x ∷ zs) (mapped_more f xs i (omega (arith, within))))

-- a file whose tokens pass a test
pub parted_passing : (tokens : List Token) (parts : List Part) (test : Token → Bool) → IsParted tokens parts →
    IsParted (filter test tokens) (map (passing test) parts)
parted_passing tokens parts test is = record {
  own = λ host. each parts host ∙ ap (filter test) (is.own host)
      ∙ filter_both test (λ t. t.host.0 == host.0) tokens;
  barred = noted parts is.barred;
}
  where
    each : (xs : List Part) (host : HostId) → own_of (map (passing test) xs) host ≡ filter test (own_of xs host)
    each [] host = refl
    each (x ∷ xs) host = elim (cases_Bool (has_host host x)) [
      | inl its ↦ rw its refl
      | inr apart ↦ rw apart (each xs host)
    ]

    noted : (xs : List Part) → AreBarred xs → AreBarred (map (passing test) xs)
    noted [] all = All-nil IsBarred
    noted (x ∷ xs) all = All-cons IsBarred (passing test x) (map (passing test) xs)
        (noted_passing test x (All-head IsBarred x xs all)) (noted xs (All-tail IsBarred x xs all))

neither : (a b : Bool) → (a || b) ≡ false → (a ≡ false) × (b ≡ false)
neither true b e = absurd (true≢false e)
neither false b e = (refl, e)

and_false : (b : Bool) → (b && false) ≡ false
and_false true = refl
and_false false = refl

-- a file that loses a token
pub parted_less : (tokens : List Token) (parts parts' : List Part) (host : HostId) (id : TokenId) →
    IsParted tokens parts →
    ((other : HostId) → (host.0 == other.0) ≡ false → of_host (without_id tokens id) other ≡ of_host tokens other) →
    ((other : HostId) → own_of parts' other ≡ and_less id host other (own_of parts other)) → AreBarred parts' →
    IsParted (without_id tokens id) parts'
parted_less tokens parts parts' host id is alone less barred = record {
  own = λ other. less other ∙ ap (and_less id host other) (is.own other) ∙ go other;
  barred = barred;
}
  where
    go : (other : HostId) → and_less id host other (of_host tokens other) ≡ of_host (without_id tokens id) other
    go other = elim (cases_Bool (host.0 == other.0)) [
      | inl its ↦ rw its (filter_both (is_other id) (λ t. t.host.0 == other.0) tokens)
      | inr apart ↦ rw apart (sym (alone other apart))
    ]

-- no token of a host is in the way where its part bars none of the needs
own_free : (parts : List Part) (host : HostId) (needs : List Need) (test : Part → Bool) → AreBarred parts →
    list_any test parts ≡ false →
    ((part : Part) → has_host host part ≡ true → test part ≡ false → may_bar_any needs part.barred ≡ false) →
    All (λ t. any_conflict (need_of t) needs ≡ false) (own_of parts host)
own_free [] host needs test all none free = All-nil (λ t. any_conflict (need_of t) needs ≡ false)
own_free (x ∷ xs) host needs test all none free =
    let two = neither (test x) (list_any test xs) none in
    elim (cases_Bool (has_host host x)) [
      | inl its ↦ rw its (all_mapped (λ t. HasKind x.barred t.kind) (λ t. any_conflict (need_of t) needs ≡ false)
          (λ t has. none_conflicts x.barred t needs has (free x its two.0)) x.tokens (All-head IsBarred x xs all))
      | inr apart ↦ rw apart (own_free xs host needs test (All-tail IsBarred x xs all) two.1 free)
    ]

module _ {X : Type 0} where
  from_filtered : (P : X → Type 0) (q : X → Bool) (xs : List X) → All P (filter q xs) →
      All (λ x. q x ≡ true → P x) xs
  from_filtered P q [] all = All-nil (λ x. q x ≡ true → P x)
  from_filtered P q (x ∷ xs) all = elim (cases_Bool (q x)) [
    | inl passes ↦
        (let h = all in
        let these : All P (x ∷ filter q xs) = rw passes at h in
        All-cons (λ y. q y ≡ true → P y) x xs (λ e. All-head P x (filter q xs) these)
        (from_filtered P q xs (All-tail P x (filter q xs) these)))
    | inr fails ↦
        (let h = all in
        let these : All P (filter q xs) = rw fails at h in
        All-cons (λ y. q y ≡ true → P y) x xs (λ e. absurd (false≢true (sym fails ∙ e))) (from_filtered P q xs these))
  ]

  pub find_none : (p : X → Bool) (xs : List X) → find p xs ≡ None → list_any p xs ≡ false
  find_none p [] none = refl
  find_none p (x ∷ xs) none = elim (cases_Bool (p x)) [
    | inl passes ↦ (let h = none in let some = rw passes at h in absurd (true≢false (ap is_some some)))
    | inr fails ↦ (let h = none in let rest = rw fails at h in rw fails (find_none p xs rest))
  ]

  pub any_filtered : (p : X → Bool) (xs ys : List X) → filter p xs ≡ filter p ys → list_any p xs ≡ list_any p ys
  any_filtered p xs ys same = whole xs ∙ ap (list_any p) same ∙ sym (whole ys)
    where
      whole : (zs : List X) → list_any p zs ≡ list_any p (filter p zs)
      whole [] = refl
      whole (z ∷ zs) = elim (cases_Bool (p z)) [
        | inl passes ↦ rw (passes, passes) refl
        | inr fails ↦ rw fails (whole zs)
      ]

module _ (tokens : List Token) (parts : List Part) (host : HostId) (needs : List Need)
    (is : IsParted tokens parts) where
  -- a token of a host whose part isn't in the way
  free_at : (test : Part → Bool) → list_any test parts ≡ false → (k : ℕ) (d : Token) → k < length tokens →
      ((part : Part) → has_host (get_or tokens k d).host part ≡ true → test part ≡ false →
      may_bar_any needs part.barred ≡ false) → any_conflict (need_of (get_or tokens k d)) needs ≡ false
  free_at test none k d within free =
      let own : HostId = (get_or tokens k d).host in
      from_filtered (λ t. any_conflict (need_of t) needs ≡ false) (λ t. t.host.0 == own.0) tokens
      (subst (All (λ t. any_conflict (need_of t) needs ≡ false)) (is.own own)
      (own_free parts own needs test is.barred none free)) k d within (same_self own.0)

  -- where no part of another host is in the way, no token is
  pub near_none : list_any (is_in_way host needs) parts ≡ false → filter (blocks host needs) tokens ≡ []
  near_none none = filter_none (blocks host needs) tokens (λ k d within.
      elim (cases_Bool ((get_or tokens k d).host.0 == host.0)) [
        | inl mine ↦ rw mine refl
        | inr other ↦ ap (λ b. not ((get_or tokens k d).host.0 == host.0) && b)
            (free_at (is_in_way host needs) none k d within (λ part its free.
            in_part part (get_or tokens k d).host.0 its other free))
            ∙ and_false (not ((get_or tokens k d).host.0 == host.0))
      ])
    where
      in_part : (part : Part) (own : ℕ) → (part.host.0 == own) ≡ true → (own == host.0) ≡ false →
          is_in_way host needs part ≡ false → may_bar_any needs part.barred ≡ false
      in_part part own its other free =
          let apart : (part.host.0 == host.0) ≡ false = same_host part.host.0 own host.0 its ∙ other in
          let h = free in rw apart at h

  -- where those of one host alone are in the way, they are among that host's tokens
  pub near_one : (first : HostId) → list_any (is_another_in_way first host needs) parts ≡ false →
      filter (blocks host needs) (own_of parts first) ≡ filter (blocks host needs) tokens
  near_one first none =
      ap (filter (blocks host needs)) (is.own first)
      ∙ filter_within (blocks host needs) (λ t. t.host.0 == first.0) tokens (λ k d within blocking.
      elim (cases_Bool ((get_or tokens k d).host.0 == first.0)) [
        | inl its ↦ its
        | inr third ↦ elim (cases_Bool ((get_or tokens k d).host.0 == host.0)) [
          | inl mine ↦ (let h = blocking in let not_mine = rw mine at h in absurd (false≢true not_mine))
          | inr other ↦
              (let free = free_at (is_another_in_way first host needs) none k d within (λ part its out.
              in_part part (get_or tokens k d).host.0 its other third out) in
              let h = blocking in
              let none_of = rw (other, free) at h in
              absurd (false≢true none_of))
        ]
      ])
    where
      in_part : (part : Part) (own : ℕ) → (part.host.0 == own) ≡ true → (own == host.0) ≡ false →
          (own == first.0) ≡ false → is_another_in_way first host needs part ≡ false →
          may_bar_any needs part.barred ≡ false
      in_part part own its other third free =
          let apart : (part.host.0 == host.0) ≡ false = same_host part.host.0 own host.0 its ∙ other in
          let away : (part.host.0 == first.0) ≡ false = same_host part.host.0 own first.0 its ∙ third in
          let h = free in rw (away, apart) at h

-- # As the functions say it

-- what follows where a call gave a value
pub on_ok : {T E P Q : Type 0} (r : Result T E) → (P → Q) → OnOk r P → OnOk r Q
on_ok (Ok value) more p = more p
on_ok (Err error) more p = tt

-- what is noted of each part, with a first one
pub noted_behind : (parts : List Part) (token : Token) → AreBarred parts → AreBarred (parts ++ first_part token ∷ [])
noted_behind parts token all =
    All-append IsBarred parts (first_part token ∷ []) all
    (All-cons IsBarred (first_part token) [] (noted_first token) (All-nil IsBarred))

-- no tokens
pub parted_none : IsParted [] []
parted_none = record { own = λ host. refl; barred = All-nil IsBarred }

-- no part of another host is in the way
pub near_free : (tokens : List Token) (parts : List Part) (host : HostId) (needs : List Need) →
    IsParted tokens parts → None ≡ option_map (λ (p : Part). p.host) (find (is_in_way host needs) parts) →
    [] ≡ filter (blocks host needs) tokens
near_free tokens parts host needs is none =
    sym (near_none tokens parts host needs is (find_none (is_in_way host needs) parts (absent _ none)))
  where
    absent : (o : Option Part) → None ≡ option_map (λ (p : Part). p.host) o → o ≡ None
    absent None e = refl
    absent (Some p) e = absurd (false≢true (ap is_some e))

-- how many of a host's tokens stand before the end
pub count_all : (tokens : List Token) (parts : List Part) (host : HostId) (index : ℕ) → IsParted tokens parts →
    index ≡ length tokens → length (own_of parts host) ≡ length (of_host (take index tokens) host)
count_all tokens parts host index is all =
    ap length (is.own host)
    ∙ ap (λ (ts : List Token). length (of_host ts host)) (sym (ap (λ n. take n tokens) all ∙ taken tokens))
  where
    taken : (ts : List Token) → take (length ts) ts ≡ ts
    taken [] = refl
    taken (t ∷ ts) = ap (λ us. t ∷ us) (taken ts)

-- there is room for one more among a host's tokens
pub count_within : (tokens : List Token) (parts : List Part) (host : HostId) (index own : ℕ) → IsParted tokens parts →
    own ≡ length (of_host (take index tokens) host) → own ≤ length (own_of parts host)
count_within tokens parts host index own is count =
    let fewer = fewer_taken (λ (t : Token). t.host.0 == host.0) tokens index in
    let same = ap length (is.own host) in
    omega (arith, fewer, same, count)

-- what was put in goes again
pub put_undone : {X : Type 0} (xs : List X) (i : ℕ) (y : X) → i ≤ length xs → remove (insert xs i y) i ≡ xs
put_undone xs zero y within = refl
put_undone [] (suc i) y within = absurd (omega (arith, within))
put_undone (x ∷ xs) (suc i) y within = ap (λ zs. x ∷ zs) (put_undone xs i y (omega (arith, within)))
