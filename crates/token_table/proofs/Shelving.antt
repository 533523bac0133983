-- What the calls of a shelf leave of its list and its maps.
use Rattle.std.proofs.Common.{◌≡◌, ◌<◌, ℕ, Bool, true, false, ◌==◌, ◌&&◌, not, List, [], ◌∷◌, ◌++◌, map, refl, sym, ap}
use Rattle.std.proofs.Common.{◌∙◌, arith, cond, inl, inr, unwrap_or, append-nil, Some, None, subst}
use Rattle.std.proofs.lemmas.Bool.{cases_Bool, true≢false}
use Rattle.std.proofs.Common.{◌+◌, suc, length, take, drop, get_or, if◌then◌else◌, append_assoc}
use Rattle.std.proofs.Math.Seq.{drop-cons, take-suc}
use Rattle.std.specs.Cmp.{IsTotalOrder}
use Rattle.std.proofs.lemmas.Cmp.{then_total, on_total, nat_cmp_total, upto}
use Rattle.std.proofs.lemmas.Bool.Decides.{nat_tests}
use Rattle.std.proofs.lemmas.List.Elements.{All-head, All-tail, filter-append}
use Rattle.std.proofs.lemmas.Map.Keys.{IsDistinct-head, IsDistinct-tail, IsDistinct-from_sorted, sorted_head}
use Rattle.std.proofs.lemmas.Map.Keys.{sorted_tail}
use Rattle.std.specs.List.{All, AllByRecursion, IsDistinct, find, filter}
use Rattle.std.specs.List.Sorted.{IsStrictlySortedBy}
use Rattle.std.specs.Map.{keys_of, values_of, remove_entry, lookup}
use Rattle.std.specs.Map.Calls.{RetainsPairs}
use Rattle.std.specs.BTreeMap.{BTreeMap, is_at, insert_entry, values}
use Rattle.std.specs.Ordering.{eq_by_cmp, is_eq, is_gt}
use Rattle.base_types.specs.declared.ids.HostId.{HostId}
use Rattle.base_types.specs.declared.ids.ServerId.{ServerId}
use Rattle.token_types.specs.Conflicts.{same_id}
use Rattle.token_types.specs.declared.token.Token.{Token}
use Rattle.token_types.specs.declared.token.TokenId.{TokenId}
use Rattle.token_table.specs.Places.{rank, Place, place_of, place_cmp, FileKey, file_key, same_key}
use Rattle.token_table.specs.Shelves.{IsBefore}
use Rattle.token_table.specs.Places.{file_cmp, tokens_at, and_token, and_placed, placed, comes_before, IsShelf}
use Rattle.token_table.specs.Tables.{without_id, has_id, of_host}
use Rattle.std.specs.declared.cmp.Ordering.{Ordering}
use Rattle.std.specs.declared.cmp.Ordering.TheVariants.{Less, Equal, Greater}
use Rattle.token_table.proofs.Placing.{keyed, same_place, stands_behind, keys_both, same_keys}

same_means : (a b c x y z : ℕ) → (((a == b) && (c == x)) && (y == z)) ≡ true → (a ≡ b) × (c ≡ x) × (y ≡ z)
same_means a b c x y z e = ((grind (arith, nat_tests)), (grind (arith, nat_tests)), (grind (arith, nat_tests)))

pub one_id : (a b : TokenId) → same_id a b ≡ true → a ≡ b
one_id a b e =
    let p = same_means a.server.0 b.server.0 a.epoch b.epoch a.seq b.seq e in
    λ i. record { server = record { 0 = p.0 i }; epoch = p.1 i; seq = p.2 i }

module _ (server : ServerId) (epoch : ℕ) where
  pub values_keyed : (tokens : List Token) → values_of (map (keyed server epoch) tokens) ≡ tokens
  values_keyed [] = refl
  values_keyed (token ∷ tokens) = ap (λ l. token ∷ l) (values_keyed tokens)

  pub filter_keyed : (p : Token → Bool) (tokens : List Token) →
      filter (λ e. p e.1) (map (keyed server epoch) tokens) ≡ map (keyed server epoch) (filter p tokens)
  filter_keyed p [] = refl
  filter_keyed p (token ∷ tokens) = elim (cases_Bool (p token)) [
    | inl passes ↦ rw (passes, filter_keyed p tokens) refl
    | inr fails ↦ rw (fails, filter_keyed p tokens) refl
  ]

  -- a token behind all others
  pub insert_last : (token : Token) (tokens : List Token) → All (IsBefore server epoch token) tokens →
      insert_entry place_cmp (map (keyed server epoch) tokens) (place_of server epoch token.id) token
      ≡ map (keyed server epoch) (tokens ++ token ∷ [])
  insert_last token [] before = refl
  insert_last token (x ∷ xs) before =
      let first = All-head (IsBefore server epoch token) x xs before in
      let rest = insert_last token xs (All-tail (IsBefore server epoch token) x xs before) in
      rw (stands_behind server epoch token.id x.id first, rest) refl

  -- one before another doesn't have its number
  not_same_before : (token other : Token) → IsBefore server epoch token other → same_id other.id token.id ≡ false
  not_same_before token other before = elim (cases_Bool (same_id other.id token.id)) [
    | inl same ↦ (let e = ap (rank server epoch) (one_id other.id token.id same) in absurd (omega arith))
    | inr apart ↦ apart
  ]

  all_kept : (token : Token) (tokens : List Token) → All (IsBefore server epoch token) tokens →
      without_id tokens token.id ≡ tokens
  all_kept token [] before = refl
  all_kept token (x ∷ xs) before =
      let apart = not_same_before token x (All-head (IsBefore server epoch token) x xs before) in
      rw apart (ap (λ l. x ∷ l) (all_kept token xs (All-tail (IsBefore server epoch token) x xs before)))

  pub same_self : (a : TokenId) → same_id a a ≡ true
  same_self a = grind (arith, nat_tests)

  pub taken_back : (token : Token) (tokens : List Token) → All (IsBefore server epoch token) tokens →
      without_id (tokens ++ token ∷ []) token.id ≡ tokens
  taken_back token [] before = rw (same_self token.id) refl
  taken_back token (x ∷ xs) before =
      let apart = not_same_before token x (All-head (IsBefore server epoch token) x xs before) in
      rw apart (ap (λ l. x ∷ l) (taken_back token xs (All-tail (IsBefore server epoch token) x xs before)))

  -- the entries have different places
  abbrev pub Apart : List Token → Type 0
  Apart tokens = IsDistinct (eq_by_cmp place_cmp) (keys_of (map (keyed server epoch) tokens))

  pub apart_from : (tokens : List Token) → IsStrictlySortedBy place_cmp (keys_of (map (keyed server epoch) tokens)) →
      Apart tokens
  apart_from tokens sorted = IsDistinct-from_sorted place_cmp (keys_of (map (keyed server epoch) tokens)) sorted

  -- no further token has the first one's number
  others_kept : (x : Token) (id : TokenId) → same_id x.id id ≡ true → (tokens : List Token) →
      AllByRecursion (λ k. eq_by_cmp place_cmp (place_of server epoch x.id) k ≡ false)
      (keys_of (map (keyed server epoch) tokens)) → without_id tokens id ≡ tokens
  others_kept x id same [] apart = refl
  others_kept x id same (y ∷ ys) apart =
      let there : same_id y.id x.id ≡ false = sym (same_place server epoch x.id y.id) ∙ apart.0 in
      let here : same_id y.id id ≡ false = ap (same_id y.id) (sym (one_id x.id id same)) ∙ there in
      rw here (ap (λ l. y ∷ l) (others_kept x id same ys apart.1))

  pub remove_keyed : (id : TokenId) (tokens : List Token) → Apart tokens →
      remove_entry (is_at (place_cmp (place_of server epoch id))) (map (keyed server epoch) tokens)
      ≡ map (keyed server epoch) (without_id tokens id)
  remove_keyed id [] apart = refl
  remove_keyed id (x ∷ xs) apart =
      let e = eq_by_cmp place_cmp in
      let k = place_of server epoch x.id in
      let ks = keys_of (map (keyed server epoch) xs) in
      let test = same_place server epoch id x.id in
      elim (cases_Bool (same_id x.id id)) [
        | inl same ↦ rw (test, same, others_kept x id same xs (IsDistinct-head e k ks apart)) refl
        | inr other ↦ rw (test, other, remove_keyed id xs (IsDistinct-tail e k ks apart)) refl
      ]

  -- without a token a test that it fails tells the same
  pub filter_without : (id : TokenId) (token : Token) (p : Token → Bool) → p token ≡ false → (tokens : List Token) →
      Apart tokens → find (λ t. same_id t.id id) tokens ≡ Some token →
      filter p (without_id tokens id) ≡ filter p tokens
  filter_without id token p fails [] apart found = refl
  filter_without id token p fails (x ∷ xs) apart found =
      let e = eq_by_cmp place_cmp in
      let k = place_of server epoch x.id in
      let ks = keys_of (map (keyed server epoch) xs) in
      elim (cases_Bool (same_id x.id id)) [
        | inl same ↦
            let here : Some x ≡ Some token = (let f = found in rw same at f) in
            let it : x ≡ token = cc in
            rw (same, others_kept x id same xs (IsDistinct-head e k ks apart), ap p it ∙ fails) refl
        | inr other ↦
            let there : find (λ t. same_id t.id id) xs ≡ Some token = (let f = found in rw other at f) in
            let rest = filter_without id token p fails xs (IsDistinct-tail e k ks apart) there in
            elim (cases_Bool (p x)) [
              | inl passes ↦ rw (other, passes, rest) refl
              | inr drops ↦ rw (other, drops, rest) refl
            ]
      ]

-- nothing goes where nothing is found
pub none_taken : (id : TokenId) (tokens : List Token) → find (λ t. same_id t.id id) tokens ≡ None →
    without_id tokens id ≡ tokens
none_taken id [] none = refl
none_taken id (x ∷ xs) none = elim (cases_Bool (same_id x.id id)) [
  | inl same ↦ (let here : Some x ≡ None = (let f = none in rw same at f) in absurd (cc))
  | inr other ↦ (let there : find (λ t. same_id t.id id) xs ≡ None = (let f = none in rw other at f) in
      rw other (ap (λ l. x ∷ l) (none_taken id xs there)))
]

-- two filters in either order
pub filter_filter : {X : Type 0} (p q : X → Bool) (xs : List X) → filter p (filter q xs) ≡ filter q (filter p xs)
filter_filter p q [] = refl
filter_filter p q (x ∷ xs) =
    let rest = filter_filter p q xs in
    elim (cases_Bool (p x)) [
      | inl a ↦ elim (cases_Bool (q x)) [ inl b ↦ simp (a, b, rest) | inr b ↦ simp (a, b, rest) ]
      | inr a ↦ elim (cases_Bool (q x)) [ inl b ↦ simp (a, b, rest) | inr b ↦ simp (a, b, rest) ]
    ]

-- the tokens of one file, by its key
abbrev pub in_file : FileKey → Token → Bool
in_file key token = same_key (file_key token.fid) key

-- one more token behind those of its file
pub and_filtered : (token : Token) (key : FileKey) (tokens : List Token) →
    and_token token key (filter (in_file key) tokens) ≡ filter (in_file key) (tokens ++ token ∷ [])
and_filtered token key tokens =
    let parts = filter-append (in_file key) tokens (token ∷ []) in
    elim (cases_Bool (in_file key token)) [
      | inl same ↦ rw (parts, same) refl
      | inr other ↦ rw (parts, other) (sym (append-nil (filter (in_file key) tokens)))
    ]

module _ (server : ServerId) (epoch : ℕ) (tokens tokens' : BTreeMap Place Token)
    (files files' : BTreeMap FileKey (List Token)) where
  -- the values of a map whose entries are these tokens
  pub values_are : (list : List Token) → tokens'.entries ≡ map (keyed server epoch) list → values tokens' ≡ list
  values_are list is = ap values_of is ∙ values_keyed server epoch list

  pub is_shelf : (list : List Token) → tokens'.entries ≡ map (keyed server epoch) list →
      ((key : FileKey) → tokens_at files' key ≡ filter (in_file key) list) → IsShelf server epoch tokens' files'
  is_shelf list is each =
      let here = values_are list is in
      record {
        placed = is ∙ ap (map (keyed server epoch)) (sym here);
        by_file = λ key. each key ∙ ap (filter (in_file key)) (sym here);
      }

  module _ (was : IsShelf server epoch tokens files) (token : Token)
      (before : All (IsBefore server epoch token) (values tokens))
      (inserted : tokens'.entries ≡ insert_entry place_cmp tokens.entries (place_of server epoch token.id) token) where
    pub pushed_entries : tokens'.entries ≡ map (keyed server epoch) (values tokens ++ token ∷ [])
    pushed_entries = inserted
        ∙ ap (λ es. insert_entry place_cmp es (place_of server epoch token.id) token) was.placed
        ∙ insert_last server epoch token (values tokens) before

    pub pushed : ((key : FileKey) → tokens_at files' key ≡ and_token token key (tokens_at files key)) →
        IsShelf server epoch tokens' files'
    pushed each = is_shelf (values tokens ++ token ∷ []) pushed_entries
        (λ key. each key ∙ ap (and_token token key) (was.by_file key) ∙ and_filtered token key (values tokens))

    -- the same map after the token is taken out again
    pub unpushed_entries : (left : BTreeMap Place Token) → IsStrictlySortedBy place_cmp (keys_of tokens'.entries) →
        left.entries ≡ remove_entry (is_at (place_cmp (place_of server epoch token.id))) tokens'.entries →
        left.entries ≡ map (keyed server epoch) (values tokens)
    unpushed_entries left sorted removed =
        let list = values tokens ++ token ∷ [] in
        let apart = apart_from server epoch list
        (subst (λ es. IsStrictlySortedBy place_cmp (keys_of es)) pushed_entries sorted) in
        removed ∙ ap (remove_entry (is_at (place_cmp (place_of server epoch token.id)))) pushed_entries
        ∙ remove_keyed server epoch token.id list apart
        ∙ ap (map (keyed server epoch)) (taken_back server epoch token (values tokens) before)

  module _ (was : IsShelf server epoch tokens files) (id : TokenId)
      (sorted : IsStrictlySortedBy place_cmp (keys_of tokens.entries)) where
    apart : Apart server epoch (values tokens)
    apart = apart_from server epoch (values tokens)
        (subst (λ es. IsStrictlySortedBy place_cmp (keys_of es)) was.placed sorted)

    pub taken_entries : tokens'.entries ≡ remove_entry (is_at (place_cmp (place_of server epoch id))) tokens.entries →
        tokens'.entries ≡ map (keyed server epoch) (without_id (values tokens) id)
    taken_entries removed =
        removed ∙ ap (remove_entry (is_at (place_cmp (place_of server epoch id)))) was.placed
        ∙ remove_keyed server epoch id (values tokens) apart

    -- the tokens that other hosts have of a file stay
    pub others_stay : (token : Token) → find (λ t. same_id t.id id) (values tokens) ≡ Some token → (key : FileKey) →
        (other : HostId) → (token.host.0 == other.0) ≡ false →
        of_host (without_id (tokens_at files key) id) other ≡ of_host (tokens_at files key) other
    others_stay token found key other apart_host =
        let its : Token → Bool = λ t. t.host.0 == other.0 in
        ap (λ ts. of_host (without_id ts id) other) (was.by_file key)
        ∙ ap (filter its) (filter_filter (λ t. not (same_id t.id id)) (in_file key) (values tokens))
        ∙ filter_filter its (in_file key) (without_id (values tokens) id)
        ∙ ap (filter (in_file key)) (filter_without server epoch id token its apart_host (values tokens) apart found)
        ∙ filter_filter (in_file key) its (values tokens)
        ∙ ap (λ ts. of_host ts other) (sym (was.by_file key))

    pub taken : tokens'.entries ≡ remove_entry (is_at (place_cmp (place_of server epoch id))) tokens.entries →
        (token : Token) → find (λ t. same_id t.id id) (values tokens) ≡ Some token →
        tokens_at files' (file_key token.fid) ≡ without_id (tokens_at files (file_key token.fid)) id →
        ((other : FileKey) → same_key other (file_key token.fid) ≡ false → tokens_at files' other ≡ tokens_at files
        other) →
        IsShelf server epoch tokens' files'
    taken removed token found own others = is_shelf (without_id (values tokens) id) (taken_entries removed)
        (λ key. elim (cases_Bool (same_key key (file_key token.fid))) [
          | inl same ↦
              let one = same_keys key (file_key token.fid) same in
              ap (tokens_at files') one ∙ own
              ∙ ap (λ k. without_id (tokens_at files k) id) (sym one)
              ∙ ap (λ ts. without_id ts id) (was.by_file key)
              ∙ filter_filter (λ t. not (same_id t.id id)) (in_file key) (values tokens)
          | inr other ↦
              let fails : in_file key token ≡ false = keys_both (file_key token.fid) key ∙ other in
              others key other ∙ was.by_file key
              ∙ sym (filter_without server epoch id token (in_file key) fails (values tokens) apart found)
        ])

-- what `retain` leaves of entries, where no call changes the closure
module _ {F K X : Type 0} (T : F → K → X → Bool → X → F → Type 0) (f : F) where
  pub pairs_filtered : (p : K × X → Bool) →
      ((k : K) (v : X) (b : Bool) (w : X) (f' : F) → T f k v b w f' → (b ≡ p (k, v)) × (w ≡ v) × (f' ≡ f)) →
      (es kept : List (K × X)) → RetainsPairs T f es kept → kept ≡ filter p es
  pairs_filtered p says [] kept r = r
  pairs_filtered p says (e ∷ es) kept r =
      let s = says e.0 e.1 r.0 r.1 r.2 r.4 in
      let rest : r.3 ≡ filter p es = pairs_filtered p says es r.3 (subst (λ g. RetainsPairs T g es r.3) s.2 r.5) in
      r.6 ∙ (λ i. cond (s.0 i) ((e.0, s.1 i) ∷ rest i) (rest i))

  pub pairs_changed : (change : X → X) →
      ((k : K) (v : X) (b : Bool) (w : X) (f' : F) → T f k v b w f' → (b ≡ true) × (w ≡ change v) × (f' ≡ f)) →
      (es kept : List (K × X)) → RetainsPairs T f es kept → kept ≡ map (λ e. (e.0, change e.1)) es
  pairs_changed change says [] kept r = r
  pairs_changed change says (e ∷ es) kept r =
      let s = says e.0 e.1 r.0 r.1 r.2 r.4 in
      let rest : r.3 ≡ map (λ e. (e.0, change e.1)) es =
      pairs_changed change says es r.3 (subst (λ g. RetainsPairs T g es r.3) s.2 r.5) in
      r.6 ∙ (λ i. cond (s.0 i) ((e.0, s.1 i) ∷ rest i) (rest i))

lookup_changed : {K : Type 0} (p : Token → Bool) (test : K → Bool) (es : List (K × List Token)) →
    unwrap_or (lookup test (map (λ e. (e.0, filter p e.1)) es)) [] ≡ filter p (unwrap_or (lookup test es) [])
lookup_changed p test [] = refl
lookup_changed p test (e ∷ es) = elim (cases_Bool (test e.0)) [
  | inl here ↦ rw here refl
  | inr there ↦ rw there (lookup_changed p test es)
]

-- the tokens that pass a test
module _ (server : ServerId) (epoch : ℕ) (tokens tokens' : BTreeMap Place Token)
    (files files' : BTreeMap FileKey (List Token)) (was : IsShelf server epoch tokens files) (p : Token → Bool)
    (left : tokens'.entries ≡ filter (λ e. p e.1) tokens.entries) where
  pub kept_entries : tokens'.entries ≡ map (keyed server epoch) (filter p (values tokens))
  kept_entries = left ∙ ap (filter (λ e. p e.1)) was.placed ∙ filter_keyed server epoch p (values tokens)

  pub kept : files'.entries ≡ map (λ e. (e.0, filter p e.1)) files.entries → IsShelf server epoch tokens' files'
  kept changed = is_shelf server epoch tokens tokens' files files' (filter p (values tokens)) kept_entries
      (λ key. ap (λ es. unwrap_or (lookup (is_at (file_cmp key)) es) []) changed
      ∙ lookup_changed p (is_at (file_cmp key)) files.entries
      ∙ ap (filter p) (was.by_file key)
      ∙ filter_filter p (in_file key) (values tokens))

module _ (server : ServerId) (epoch : ℕ) where
  -- what isn't there goes to its place
  pub insert_placed : (token : Token) (tokens : List Token) → has_id tokens token.id ≡ false →
      insert_entry place_cmp (map (keyed server epoch) tokens) (place_of server epoch token.id) token
      ≡ map (keyed server epoch) (placed server epoch token tokens)
  insert_placed token [] absent = refl
  insert_placed token (x ∷ xs) absent =
      go (place_cmp (place_of server epoch token.id) (place_of server epoch x.id)) refl (insert_placed token xs rest)
    where
      apart : same_id x.id token.id ≡ false
      apart = elim (cases_Bool (same_id x.id token.id)) [
        | inl same ↦ (let here = (let h = absent in rw same at h) in absurd (true≢false here))
        | inr other ↦ other
      ]

      rest : has_id xs token.id ≡ false
      rest = (let h = absent in rw apart at h)

      go : (o : Ordering) → place_cmp (place_of server epoch token.id) (place_of server epoch x.id) ≡ o →
          insert_entry place_cmp (map (keyed server epoch) xs) (place_of server epoch token.id) token
          ≡ map (keyed server epoch) (placed server epoch token xs) →
          insert_entry place_cmp (map (keyed server epoch) (x ∷ xs)) (place_of server epoch token.id) token
          ≡ map (keyed server epoch) (placed server epoch token (x ∷ xs))
      go Less e later = rw e refl
      go Equal e later = absurd (true≢false (ap is_eq (sym e) ∙ same_place server epoch token.id x.id ∙ apart))
      go Greater e later = rw e (ap (λ l. keyed server epoch x ∷ l) later)

  -- a step of the search for a place
  pub place_here : (token other : Token) (tokens : List Token) (i : ℕ) → i < length tokens → other ≡ get_or tokens i
      other →
      comes_before server epoch other token ≡ false →
      placed server epoch token (drop i tokens) ≡ token ∷ drop i tokens
  place_here token other tokens i within is behind =
      let cut : drop i tokens ≡ other ∷ drop (suc i) tokens =
      drop-cons tokens i other within ∙ ap (λ t. t ∷ drop (suc i) tokens) (sym is) in
      let stop : placed server epoch token (other ∷ drop (suc i) tokens) ≡ token ∷ other ∷ drop (suc i) tokens =
      ap (λ b. if b then other ∷ placed server epoch token (drop (suc i) tokens)
      else token ∷ other ∷ drop (suc i) tokens) behind in
      ap (placed server epoch token) cut ∙ stop ∙ ap (λ l. token ∷ l) (sym cut)

  pub place_later : (token other : Token) (tokens : List Token) (i : ℕ) → i < length tokens → other ≡ get_or tokens i
      other →
      comes_before server epoch other token ≡ true →
      take (i + 1) tokens ++ placed server epoch token (drop (i + 1) tokens)
      ≡ take i tokens ++ placed server epoch token (drop i tokens)
  place_later token other tokens i within is before =
      let one : suc i ≡ i + 1 = omega arith in
      let cut : drop i tokens ≡ other ∷ drop (i + 1) tokens =
      drop-cons tokens i other within ∙ (λ j. sym is j ∷ drop (one j) tokens) in
      let taken : take (i + 1) tokens ≡ take i tokens ++ other ∷ [] =
      ap (λ n. take n tokens) (sym one) ∙ take-suc tokens i other within ∙ ap (λ t. take i tokens ++ t ∷ []) (sym is) in
      let goes : placed server epoch token (other ∷ drop (i + 1) tokens)
      ≡ other ∷ placed server epoch token (drop (i + 1) tokens) =
      ap (λ b. if b then other ∷ placed server epoch token (drop (i + 1) tokens)
      else token ∷ other ∷ drop (i + 1) tokens) before in
      ap (λ l. l ++ placed server epoch token (drop (i + 1) tokens)) taken
      ∙ append_assoc (take i tokens) (other ∷ []) (placed server epoch token (drop (i + 1) tokens))
      ∙ ap (λ l. take i tokens ++ l) (sym (ap (placed server epoch token) cut ∙ goes))

place_total : IsTotalOrder place_cmp
place_total = then_total (on_total (λ (k : Place). k.0) nat_cmp_total)
    (then_total (on_total (λ (k : Place). k.1.0) nat_cmp_total)
    (then_total (on_total (λ (k : Place). k.1.1.0) nat_cmp_total) (on_total (λ (k : Place). k.1.1.1) nat_cmp_total)))

module _ (server : ServerId) (epoch : ℕ) where
  -- no key stands before a token
  abbrev NoneBefore : Token → List Token → Type 0
  NoneBefore token tokens =
      AllByRecursion (λ k. is_gt (place_cmp (place_of server epoch token.id) k) ≡ false)
      (keys_of (map (keyed server epoch) tokens))

  front_filtered : (p : Token → Bool) (token : Token) (xs : List Token) → NoneBefore token xs →
      placed server epoch token (filter p xs) ≡ token ∷ filter p xs
  front_filtered p token [] none = refl
  front_filtered p token (x ∷ xs) none = elim (cases_Bool (p x)) [
    | inl passes ↦ rw (passes, none.0) refl
    | inr fails ↦ rw fails (front_filtered p token xs none.1)
  ]

  all_behind : (token x : Token) → comes_before server epoch x token ≡ false → (xs : List Token) →
      AllByRecursion (λ k. place_cmp (place_of server epoch x.id) k ≡ Less) (keys_of (map (keyed server epoch) xs)) →
      NoneBefore token xs
  all_behind token x first [] sorted = tt
  all_behind token x first (y ∷ ys) sorted = (
    upto place_total (place_of server epoch token.id) (place_of server epoch x.id) (place_of server epoch y.id) first
        (ap is_gt sorted.0),
    all_behind token x first ys sorted.1,
  )

  pub filter_placed : (p : Token → Bool) (token : Token) (tokens : List Token) →
      IsStrictlySortedBy place_cmp (keys_of (map (keyed server epoch) tokens)) →
      filter p (placed server epoch token tokens)
      ≡ (if p token then placed server epoch token (filter p tokens) else filter p tokens)
  filter_placed p token [] sorted = refl
  filter_placed p token (x ∷ xs) sorted =
      let k = place_of server epoch x.id in
      let ks = keys_of (map (keyed server epoch) xs) in
      let rest = filter_placed p token xs (sorted_tail place_cmp k ks sorted) in
      elim (cases_Bool (comes_before server epoch x token)) [
        | inl before ↦ elim (cases_Bool (p token)) [
          | inl stays ↦
              let more = (let h = rest in rw stays at h) in
              elim (cases_Bool (p x)) [ inl a ↦ simp (before, stays, a, more) | inr a ↦ simp (before, stays, a, more) ]
          | inr goes ↦
              let more = (let h = rest in rw goes at h) in
              elim (cases_Bool (p x)) [ inl a ↦ simp (before, goes, a, more) | inr a ↦ simp (before, goes, a, more) ]
        ]
        | inr behind ↦
            let none : NoneBefore token (x ∷ xs) =
            (behind, all_behind token x behind xs (sorted_head place_cmp k ks sorted)) in
            let front = front_filtered p token (x ∷ xs) none in
            elim (cases_Bool (p token)) [
              | inl stays ↦ rw (behind, stays) (sym front)
              | inr goes ↦ rw (behind, goes) refl
            ]
      ]

  pub unplaced : (token : Token) (tokens : List Token) → has_id tokens token.id ≡ false →
      without_id (placed server epoch token tokens) token.id ≡ tokens
  unplaced token [] absent = rw (same_self server epoch token.id) refl
  unplaced token (x ∷ xs) absent =
      let apart : same_id x.id token.id ≡ false = elim (cases_Bool (same_id x.id token.id)) [
        | inl same ↦ (let here = (let h = absent in rw same at h) in absurd (true≢false here))
        | inr other ↦ other
      ] in
      let left : has_id xs token.id ≡ false = (let h = absent in rw apart at h) in
      let rest = unplaced token xs left in
      elim (cases_Bool (comes_before server epoch x token)) [
        | inl before ↦ rw (before, apart) (ap (λ l. x ∷ l) rest)
        | inr behind ↦ rw (behind, same_self server epoch token.id, apart)
            (ap (λ l. x ∷ l) (not_there token.id xs left))
      ]
    where
      not_there : (id : TokenId) (ts : List Token) → has_id ts id ≡ false → without_id ts id ≡ ts
      not_there id [] none = refl
      not_there id (t ∷ ts) none = elim (cases_Bool (same_id t.id id)) [
        | inl same ↦ (let here = (let h = none in rw same at h) in absurd (true≢false here))
        | inr other ↦ (let left = (let h = none in rw other at h) in rw other (ap (λ l. t ∷ l) (not_there id ts left)))
      ]

module _ (server : ServerId) (epoch : ℕ) (tokens tokens' : BTreeMap Place Token)
    (files files' : BTreeMap FileKey (List Token)) (was : IsShelf server epoch tokens files) (token : Token)
    (absent : has_id (values tokens) token.id ≡ false)
    (inserted : tokens'.entries ≡ insert_entry place_cmp tokens.entries (place_of server epoch token.id) token) where
  pub placed_entries : tokens'.entries ≡ map (keyed server epoch) (placed server epoch token (values tokens))
  placed_entries = inserted
      ∙ ap (λ es. insert_entry place_cmp es (place_of server epoch token.id) token) was.placed
      ∙ insert_placed server epoch token (values tokens) absent

  pub placed_shelf : IsStrictlySortedBy place_cmp (keys_of tokens.entries) →
      ((key : FileKey) → tokens_at files' key ≡ and_placed server epoch token key (tokens_at files key)) →
      IsShelf server epoch tokens' files'
  placed_shelf sorted each =
      is_shelf server epoch tokens tokens' files files' (placed server epoch token (values tokens)) placed_entries
      (λ key. each key ∙ ap (and_placed server epoch token key) (was.by_file key)
      ∙ sym (filter_placed server epoch (in_file key) token (values tokens)
      (subst (λ es. IsStrictlySortedBy place_cmp (keys_of es)) was.placed sorted)))

  -- the same map after the token is taken out again
  pub unplaced_entries : (left : BTreeMap Place Token) → IsStrictlySortedBy place_cmp (keys_of tokens'.entries) →
      left.entries ≡ remove_entry (is_at (place_cmp (place_of server epoch token.id))) tokens'.entries →
      left.entries ≡ map (keyed server epoch) (values tokens)
  unplaced_entries left sorted removed =
      let list = placed server epoch token (values tokens) in
      let apart = apart_from server epoch list
      (subst (λ es. IsStrictlySortedBy place_cmp (keys_of es)) placed_entries sorted) in
      removed ∙ ap (remove_entry (is_at (place_cmp (place_of server epoch token.id)))) placed_entries
      ∙ remove_keyed server epoch token.id list apart
      ∙ ap (map (keyed server epoch)) (unplaced server epoch token (values tokens) absent)
