-- The tokens of the files that needs name.
use Rattle.std.proofs.Common.{◌≡◌, ◌<◌, ◌≤◌, ◌+◌, ℕ, suc, Bool, true, false, ◌==◌, ◌&&◌, ◌||◌, not, if◌then◌else◌, List}
use Rattle.std.proofs.Common.{[]}
use Rattle.std.proofs.Common.{◌∷◌, ◌++◌, length, take, drop, get_or, refl, sym, ap, ◌∙◌, arith, inl, inr, append_assoc}
use Rattle.std.proofs.Common.{append-nil}
use Rattle.std.proofs.Math.Seq.{drop-cons, take-suc}
use Rattle.std.proofs.lemmas.Bool.{cases_Bool, true≢false}
use Rattle.std.proofs.lemmas.List.{drop_all}
use Rattle.std.specs.List.{list_any, find, filter}
use Rattle.std.proofs.Common.{Option, Some, None, is_some, Bor}
use Rattle.std.specs.Option.{option_copied}
use Rattle.base_types.specs.declared.ids.Fid.{Fid}
use Rattle.base_types.specs.declared.ids.HostId.{HostId}
use Rattle.base_types.specs.Ids.{same_fid}
use Rattle.token_types.specs.Conflicts.{any_conflict, need_of, blocks}
use Rattle.token_types.specs.declared.token.Need.{Need}
use Rattle.token_types.specs.declared.token.Token.{Token}
use Rattle.token_types.proofs.Symmetric.{fids_both}
use Rattle.token_table.specs.Tables.{of_file, names_file, near, AreThose}
use Rattle.token_table.proofs.Placing.{same_fid_means}

module _ {X : Type 0} where
  any_append : (f : X → Bool) (xs ys : List X) → list_any f (xs ++ ys) ≡ (list_any f xs || list_any f ys)
  any_append f [] ys = refl
  any_append f (x ∷ xs) ys = elim (cases_Bool (f x)) [
    | inl passes ↦ rw passes refl
    | inr fails ↦ rw fails (any_append f xs ys)
  ]

  any_filter : (p f : X → Bool) (xs : List X) → list_any f (filter p xs) ≡ list_any (λ x. p x && f x) xs
  any_filter p f [] = refl
  any_filter p f (x ∷ xs) = elim (cases_Bool (p x)) [
    | inl passes ↦ rw (passes, any_filter p f xs) refl
    | inr fails ↦ rw (fails, any_filter p f xs) refl
  ]

  any_same : (f g : X → Bool) → ((x : X) → f x ≡ g x) → (xs : List X) → list_any f xs ≡ list_any g xs
  any_same f g same [] = refl
  any_same f g same (x ∷ xs) = (λ i. same x i || any_same f g same xs i)

  any_either : (f g : X → Bool) (xs : List X) → (list_any f xs || list_any g xs) ≡ list_any (λ x. f x || g x) xs
  any_either f g [] = refl
  any_either f g (x ∷ xs) = regrouped (f x) (g x) (list_any f xs) (list_any g xs)
      ∙ ap (λ b. (f x || g x) || b) (any_either f g xs)
    where
      regrouped : (a b c d : Bool) → ((a || c) || (b || d)) ≡ ((a || b) || (c || d))
      regrouped true b c d = refl
      regrouped false true true d = refl
      regrouped false true false d = refl
      regrouped false false c d = refl

or_false : (b : Bool) → (b || false) ≡ b
or_false true = refl
or_false false = refl

or_regrouped : (a b c : Bool) → ((a || b) || c) ≡ (b || (a || c))
or_regrouped true true c = refl
or_regrouped true false c = refl
or_regrouped false b c = refl

names_more : (needs : List Need) (need : Need) (fid : Fid) →
    names_file (needs ++ need ∷ []) fid ≡ (names_file needs fid || same_fid need.fid fid)
names_more needs need fid = any_append (λ n. same_fid n.fid fid) needs (need ∷ [])
    ∙ ap (λ b. names_file needs fid || b) (or_false (same_fid need.fid fid))

both_or : (a b c : Bool) → ((c && a) || (a && b)) ≡ (a && (b || c))
both_or true true true = refl
both_or true true false = refl
both_or true false true = refl
both_or true false false = refl
both_or false b true = refl
both_or false b false = refl

-- one more need
near_more : (f : Token → Bool) (tokens : List Token) (earlier : List Need) (need : Need) →
    (list_any f (if names_file earlier need.fid then [] else of_file tokens need.fid)
    || list_any (λ t. f t && names_file earlier t.fid) tokens)
    ≡ list_any (λ t. f t && names_file (earlier ++ need ∷ []) t.fid) tokens
near_more f tokens earlier need = go (names_file earlier need.fid) refl
  where
    covered : (t : Token) → names_file earlier need.fid ≡ true →
        names_file earlier t.fid ≡ (names_file earlier t.fid || same_fid need.fid t.fid)
    covered t named = elim (cases_Bool (same_fid need.fid t.fid)) [
      | inl same ↦
          (let one : names_file earlier t.fid ≡ true =
          ap (names_file earlier) (sym (same_fid_means need.fid t.fid same)) ∙ named in
          rw one refl)
      | inr other ↦ rw other (sym (or_false (names_file earlier t.fid)))
    ]

    go : (named : Bool) → names_file earlier need.fid ≡ named →
        (list_any f (if named then [] else of_file tokens need.fid)
        || list_any (λ t. f t && names_file earlier t.fid) tokens)
        ≡ list_any (λ t. f t && names_file (earlier ++ need ∷ []) t.fid) tokens
    go true named = any_same (λ t. f t && names_file earlier t.fid)
        (λ t. f t && names_file (earlier ++ need ∷ []) t.fid)
        (λ t. ap (λ b. f t && b) (covered t named ∙ sym (names_more earlier need t.fid))) tokens
    go false fresh = ap (λ b. b || list_any (λ t. f t && names_file earlier t.fid) tokens)
        (any_filter (λ t. same_fid t.fid need.fid) f tokens)
        ∙ any_either (λ t. same_fid t.fid need.fid && f t) (λ t. f t && names_file earlier t.fid) tokens
        ∙ any_same (λ t. (same_fid t.fid need.fid && f t) || (f t && names_file earlier t.fid))
        (λ t. f t && names_file (earlier ++ need ∷ []) t.fid)
        (λ t. both_or (f t) (names_file earlier t.fid) (same_fid t.fid need.fid)
        ∙ ap (λ b. f t && (names_file earlier t.fid || b)) (fids_both t.fid need.fid)
        ∙ ap (λ b. f t && b) (sym (names_more earlier need t.fid))) tokens

nearby : (f : Token → Bool) (tokens : List Token) (earlier needs : List Need) →
    (list_any f (near tokens earlier needs) || list_any (λ t. f t && names_file earlier t.fid) tokens)
    ≡ list_any (λ t. f t && names_file (earlier ++ needs) t.fid) tokens
nearby f tokens earlier [] =
    ap (λ ns. list_any (λ t. f t && names_file ns t.fid) tokens) (sym (append-nil earlier))
nearby f tokens earlier (need ∷ needs) =
    let here : List Token = if names_file earlier need.fid then [] else of_file tokens need.fid in
    let rest : List Token = near tokens (earlier ++ need ∷ []) needs in
    ap (λ b. b || list_any (λ t. f t && names_file earlier t.fid) tokens) (any_append f here rest)
    ∙ or_regrouped (list_any f here) (list_any f rest) (list_any (λ t. f t && names_file earlier t.fid) tokens)
    ∙ ap (λ b. list_any f rest || b) (near_more f tokens earlier need)
    ∙ nearby f tokens (earlier ++ need ∷ []) needs
    ∙ ap (λ ns. list_any (λ t. f t && names_file ns t.fid) tokens) (append_assoc earlier (need ∷ []) needs)

any_and_false : (f : Token → Bool) (tokens : List Token) → list_any (λ t. f t && false) tokens ≡ false
any_and_false f [] = refl
any_and_false f (x ∷ xs) = elim (cases_Bool (f x)) [
  | inl passes ↦ rw passes (any_and_false f xs)
  | inr fails ↦ rw fails (any_and_false f xs)
]

-- what is in the way is of a file that the needs name
named : (token : Token) (needs : List Need) → any_conflict (need_of token) needs ≡ true →
    names_file needs token.fid ≡ true
named token [] e = e
named token (need ∷ needs) e = elim (cases_Bool (same_fid need.fid token.fid)) [
  | inl same ↦ rw same refl
  | inr other ↦
      (let also : same_fid token.fid need.fid ≡ false = fids_both token.fid need.fid ∙ other in
      let rest : any_conflict (need_of token) needs ≡ true = (let h = e in rw also at h) in
      rw other (named token needs rest))
]

and_named : (host : HostId) (needs : List Need) (test : Token → Bool) (token : Token) →
    ((blocks host needs token && test token) && names_file needs token.fid) ≡ (blocks host needs token && test token)
and_named host needs test token = elim (cases_Bool (any_conflict (need_of token) needs)) [
  | inl passes ↦ rw (named token needs passes) (and_true (blocks host needs token && test token))
  | inr fails ↦ none (not (token.host.0 == host.0)) (any_conflict (need_of token) needs) (test token)
      (names_file needs token.fid) fails
]
  where
    and_true : (b : Bool) → (b && true) ≡ b
    and_true true = refl
    and_true false = refl

    none : (a b c d : Bool) → b ≡ false → (((a && b) && c) && d) ≡ ((a && b) && c)
    none true b c d e = rw e refl
    none false b c d e = refl

-- what is in the way is near
pub near_blocks : (host : HostId) (needs : List Need) (test : Token → Bool) (tokens : List Token) →
    list_any (λ t. blocks host needs t && test t) (near tokens [] needs)
    ≡ list_any (λ t. blocks host needs t && test t) tokens
near_blocks host needs test tokens =
    let f : Token → Bool = λ t. blocks host needs t && test t in
    sym (or_false (list_any f (near tokens [] needs)))
    ∙ ap (λ b. list_any f (near tokens [] needs) || b) (sym (any_and_false f tokens))
    ∙ nearby f tokens [] needs
    ∙ any_same (λ t. f t && names_file needs t.fid) f (and_named host needs test) tokens

pub near_all : (host : HostId) (needs : List Need) (tokens : List Token) →
    AreThose (blocks host needs) tokens (filter (blocks host needs) (near tokens [] needs))
near_all host needs tokens further =
    any_filter (blocks host needs) further (near tokens [] needs) ∙ near_blocks host needs further tokens

pub near_any : (host : HostId) (needs : List Need) (tokens : List Token) →
    list_any (blocks host needs) (near tokens [] needs) ≡ list_any (blocks host needs) tokens
near_any host needs tokens =
    any_same (blocks host needs) (λ t. blocks host needs t && true) (λ t. sym (and_true (blocks host needs t)))
    (near tokens [] needs)
    ∙ near_blocks host needs (λ t. true) tokens
    ∙ any_same (λ t. blocks host needs t && true) (blocks host needs) (λ t. and_true (blocks host needs t)) tokens
  where
    and_true : (b : Bool) → (b && true) ≡ b
    and_true true = refl
    and_true false = refl

-- the next need
pub near_step : (tokens : List Token) (needs : List Need) (i : ℕ) (d : Need) → i < length needs →
    near tokens (take i needs) (drop i needs)
    ≡ (if names_file (take i needs) (get_or needs i d).fid then [] else of_file tokens (get_or needs i d).fid)
    ++ near tokens (take (i + 1) needs) (drop (i + 1) needs)
near_step tokens needs i d within =
    ap (near tokens (take i needs)) (drop-cons needs i d within)
    ∙ (λ j. (if names_file (take i needs) (get_or needs i d).fid then [] else of_file tokens (get_or needs i d).fid)
    ++ near tokens (taken j) (drop (let e : suc i ≡ i + 1 = omega arith in e j) needs))
  where
    taken : take i needs ++ get_or needs i d ∷ [] ≡ take (i + 1) needs
    taken = sym (take-suc needs i d within) ∙ ap (λ n. take n needs) (let e : suc i ≡ i + 1 = omega arith in e)

-- the end of the needs
pub near_end : (tokens : List Token) (needs : List Need) (i : ℕ) → length needs ≤ i →
    near tokens (take i needs) (drop i needs) ≡ []
near_end tokens needs i past = ap (near tokens (take i needs)) (drop_all i needs past)

-- a need of a file that no earlier one names, and which has a token that passes
pub found_near : (f : Token → Bool) (tokens : List Token) (needs : List Need) (i : ℕ) (need : Need) → i < length needs →
    get_or needs i need ≡ need → names_file (take i needs) need.fid ≡ false →
    list_any f (of_file tokens need.fid) ≡ true → list_any f (near tokens (take i needs) (drop i needs)) ≡ true
found_near f tokens needs i need within is fresh here =
    let rest : List Token = near tokens (take (i + 1) needs) (drop (i + 1) needs) in
    ap (list_any f) (near_step tokens needs i need within)
    ∙ ap (λ n. list_any f ((if names_file (take i needs) n.fid then [] else of_file tokens n.fid) ++ rest)) is
    ∙ ap (λ b. list_any f ((if b then [] else of_file tokens need.fid) ++ rest)) fresh
    ∙ any_append f (of_file tokens need.fid) rest
    ∙ ap (λ b. b || list_any f rest) here

module _ {X : Type 0} where
  pub find_first : (p : X → Bool) (xs ys : List X) → is_some (find p xs) ≡ true → find p (xs ++ ys) ≡ find p xs
  find_first p [] ys found = absurd (true≢false (sym found))
  find_first p (y ∷ xs) ys found = elim (cases_Bool (p y)) [
    | inl passes ↦ rw passes refl
    | inr fails ↦ (let h = found in let later = rw fails at h in rw fails (find_first p xs ys later))
  ]

  pub find_second : (p : X → Bool) (xs ys : List X) → is_some (find p xs) ≡ false → find p (xs ++ ys) ≡ find p ys
  find_second p [] ys none = refl
  find_second p (y ∷ xs) ys none = elim (cases_Bool (p y)) [
    | inl passes ↦ (let h = none in let here = rw passes at h in absurd (true≢false here))
    | inr fails ↦ (let h = none in let later = rw fails at h in rw fails (find_second p xs ys later))
  ]

  pub copied_some : (r : Option (Bor X)) → is_some (option_copied r) ≡ is_some r
  copied_some None = refl
  copied_some (Some x) = refl

-- the next need, where no earlier one names its file
pub near_fresh : (tokens : List Token) (needs : List Need) (i : ℕ) (need : Need) → i < length needs →
    get_or needs i need ≡ need → names_file (take i needs) need.fid ≡ false →
    near tokens (take i needs) (drop i needs)
    ≡ of_file tokens need.fid ++ near tokens (take (i + 1) needs) (drop (i + 1) needs)
near_fresh tokens needs i need within is fresh =
    let rest : List Token = near tokens (take (i + 1) needs) (drop (i + 1) needs) in
    near_step tokens needs i need within
    ∙ ap (λ n. (if names_file (take i needs) n.fid then [] else of_file tokens n.fid) ++ rest) is
    ∙ ap (λ b. (if b then [] else of_file tokens need.fid) ++ rest) fresh
