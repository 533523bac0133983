-- How the places of tokens and the keys of files compare.
use Rattle.std.proofs.Common.{◌≡◌, ◌<◌, ℕ, Bool, true, false, ◌==◌, ◌&&◌, if◌then◌else◌, List, [], ◌∷◌, map, refl, sym}
use Rattle.std.proofs.Common.{ap}
use Rattle.std.proofs.Common.{◌∙◌, arith, Some, None, Result, Ok, Err, unwrap_or, cond, inl, inr}
use Rattle.std.proofs.lemmas.Bool.Decides.{nat_tests}
use Rattle.std.specs.List.{find}
use Rattle.std.specs.Map.{lookup}
use Rattle.std.specs.Result.{OnErr}
use Rattle.std.proofs.lemmas.Map.Lookups.{CmpEqualImpliesEq, exact_unsigned, exact_pairs}
use Rattle.std.proofs.lemmas.Bool.{cases_Bool, false≢true}
use Rattle.token_types.proofs.Symmetric.{same_number}
use Rattle.std.specs.BTreeMap.{BTreeMap, is_at, get}
use Rattle.std.specs.declared.cmp.Ordering.{Ordering}
use Rattle.std.specs.declared.cmp.Ordering.TheVariants.{Less, Equal, Greater}
use Rattle.std.specs.Ordering.{is_eq, ordering_then, nat_cmp}
use Rattle.base_types.specs.Ids.{same_fid}
use Rattle.base_types.specs.declared.ids.Fid.{Fid}
use Rattle.base_types.specs.declared.ids.ServerId.{ServerId}
use Rattle.token_types.specs.Conflicts.{same_id}
use Rattle.token_types.specs.declared.token.Token.{Token}
use Rattle.token_types.specs.declared.token.TokenId.{TokenId}
use Rattle.token_table.specs.Places.{rank, Place, place_of, place_cmp, FileKey, file_key, file_cmp, same_key, tokens_at}
use Rattle.token_table.specs.Places.{at_file}

eq_then : (x y : Ordering) → is_eq (ordering_then x y) ≡ (is_eq x && is_eq y)
eq_then Less y = refl
eq_then Equal y = refl
eq_then Greater y = refl

eq_nat : (a b : ℕ) → is_eq (nat_cmp a b) ≡ (b == a)
eq_nat a b = grind (arith, nat_tests)

and_regrouped : (x y z : Bool) → (x && (y && z)) ≡ ((x && y) && z)
and_regrouped true y z = refl
and_regrouped false y z = refl

pub same_file_key : (a b : FileKey) → is_at (file_cmp a) b ≡ same_key b a
same_file_key a b =
    eq_then (nat_cmp a.0 b.0) (ordering_then (nat_cmp a.1.0 b.1.0) (nat_cmp a.1.1 b.1.1))
    ∙ (λ i. eq_nat a.0 b.0 i && eq_then (nat_cmp a.1.0 b.1.0) (nat_cmp a.1.1 b.1.1) i)
    ∙ (λ i. (b.0 == a.0) && (eq_nat a.1.0 b.1.0 i && eq_nat a.1.1 b.1.1 i))
    ∙ and_regrouped (b.0 == a.0) (b.1.0 == a.1.0) (b.1.1 == a.1.1)

numbers_same : (s e a0 a1 a2 b0 b1 b2 : ℕ) →
    (((if (b0 == s) && (b1 == e) then b2 else 0) == (if (a0 == s) && (a1 == e) then a2 else 0))
    && ((b0 == a0) && ((b1 == a1) && (b2 == a2)))) ≡ (((b0 == a0) && (b1 == a1)) && (b2 == a2))
numbers_same s e a0 a1 a2 b0 b1 b2 = grind (arith, nat_tests)

pub same_place : (server : ServerId) (epoch : ℕ) (a b : TokenId) →
    is_at (place_cmp (place_of server epoch a)) (place_of server epoch b) ≡ same_id b a
same_place server epoch a b =
    let x = place_of server epoch a in
    let y = place_of server epoch b in
    eq_then (nat_cmp x.0 y.0) _
    ∙ (λ i. eq_nat x.0 y.0 i && eq_then (nat_cmp x.1.0 y.1.0) (ordering_then (nat_cmp x.1.1.0 y.1.1.0)
    (nat_cmp x.1.1.1 y.1.1.1)) i)
    ∙ (λ i. (y.0 == x.0) && (eq_nat x.1.0 y.1.0 i && eq_then (nat_cmp x.1.1.0 y.1.1.0) (nat_cmp x.1.1.1 y.1.1.1) i))
    ∙ (λ i. (y.0 == x.0) && ((y.1.0 == x.1.0) && (eq_nat x.1.1.0 y.1.1.0 i && eq_nat x.1.1.1 y.1.1.1 i)))
    ∙ numbers_same server.0 epoch a.server.0 a.epoch a.seq b.server.0 b.epoch b.seq

-- a greater rank stands behind
pub stands_behind : (server : ServerId) (epoch : ℕ) (a b : TokenId) → rank server epoch b < rank server epoch a →
    place_cmp (place_of server epoch a) (place_of server epoch b) ≡ Greater
stands_behind server epoch a b less =
    let x = place_of server epoch a in
    let y = place_of server epoch b in
    let front : nat_cmp x.0 y.0 ≡ Greater = grind (arith, nat_tests) in
    ap (λ o. ordering_then o (ordering_then (nat_cmp x.1.0 y.1.0)
    (ordering_then (nat_cmp x.1.1.0 y.1.1.0) (nat_cmp x.1.1.1 y.1.1.1)))) front

module _ (server : ServerId) (epoch : ℕ) where
  -- an entry of the map
  abbrev pub keyed : Token → Place × Token
  keyed token = (place_of server epoch token.id, token)

  pub lookup_placed : (id : TokenId) (tokens : List Token) →
      lookup (is_at (place_cmp (place_of server epoch id))) (map keyed tokens) ≡ find (λ token. same_id token.id id)
      tokens
  lookup_placed id [] = refl
  lookup_placed id (token ∷ tokens) = rw (same_place server epoch id token.id, lookup_placed id tokens) refl

pub always_on_err : {A E P : Type 0} (r : Result A E) → P → OnErr r P
always_on_err (Ok a) p = tt
always_on_err (Err e) p = p

is_equal : (o : Ordering) → is_eq o ≡ true → o ≡ Equal
is_equal Less e = absurd (false≢true e)
is_equal Equal e = refl
is_equal Greater e = absurd (false≢true e)

exact_file : CmpEqualImpliesEq file_cmp
exact_file = exact_pairs nat_cmp (λ a b. ordering_then (nat_cmp a.0 b.0) (nat_cmp a.1 b.1)) exact_unsigned
    (exact_pairs nat_cmp nat_cmp exact_unsigned exact_unsigned)

pub same_keys : (a b : FileKey) → same_key a b ≡ true → a ≡ b
same_keys a b e = sym (exact_file b a (is_equal _ (same_file_key b a ∙ e)))

pub keys_both : (a b : FileKey) → same_key a b ≡ same_key b a
keys_both a b = (λ i. ((same_number a.0 b.0 i && same_number a.1.0 b.1.0 i) && same_number a.1.1 b.1.1 i))

-- a file that had no tokens has its first
pub put_first : (old new : BTreeMap FileKey (List Token)) (token : Token) (change : List Token → List Token) →
    change [] ≡ token ∷ [] → get file_cmp old (file_key token.fid) ≡ None →
    ((key : FileKey) → get file_cmp new key
    ≡ cond (is_at (file_cmp (file_key token.fid)) key) (Some (token ∷ [])) (get file_cmp old key)) →
    (key : FileKey) → tokens_at new key ≡ at_file (file_key token.fid) change key (tokens_at old key)
put_first old new token change first none updates key =
    let mine = file_key token.fid in
    let test = same_file_key mine key ∙ keys_both key mine in
    ap (λ o. unwrap_or o []) (updates key) ∙
    elim (cases_Bool (is_at (file_cmp mine) key)) [
      | inl same ↦
          let one : mine ≡ key = exact_file mine key (is_equal _ same) in
          let had : tokens_at old key ≡ [] = ap (λ k. unwrap_or (get file_cmp old k) []) (sym one) ∙
          ap (λ o. unwrap_or o []) none in
          let also : same_key mine key ≡ true = sym test ∙ same in
          rw (same, also, had, first) refl
      | inr apart ↦
          let also : same_key mine key ≡ false = sym test ∙ apart in
          rw (apart, also) refl
    ]

fid_means : (a b c x y z : ℕ) → (((a == b) && (c == x)) && (y == z)) ≡ true → (a ≡ b) × (c ≡ x) × (y ≡ z)
fid_means a b c x y z e = ((grind (arith, nat_tests)), (grind (arith, nat_tests)), (grind (arith, nat_tests)))

pub same_fid_means : (a b : Fid) → same_fid a b ≡ true → a ≡ b
same_fid_means a b e =
    let p = fid_means a.fileset.0 b.fileset.0 a.anode b.anode a.unique b.unique e in
    λ i. record { fileset = record { 0 = p.0 i }; anode = p.1 i; unique = p.2 i }
