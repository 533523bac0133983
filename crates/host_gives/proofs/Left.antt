-- Tokens that give-backs name, as entries under the give-backs.
use Rattle.std.proofs.Common.{◌≡◌, ◌<◌, ◌+◌, ◌-◌, ◌^◌, ℕ, Bool, true, false, not, cond, ◌&&◌, ◌||◌, ◌==◌}
use Rattle.std.proofs.Common.{List, [], ◌∷◌, ◌++◌, map, length, take, take_all, Some, None, refl, sym, ap, ◌∙◌, subst}
use Rattle.std.proofs.Common.{arith, is_some}
use Rattle.std.proofs.Common.{append-nil, append_assoc, get_or}
use Rattle.std.proofs.lemmas.List.{map_more}
use Rattle.std.specs.List.{AllByRecursion, IsDistinct, filter, list_any}
use Rattle.std.specs.Map.{keys_of, lookup, lookup_entry, remove_entry}
use Rattle.std.specs.Option.{option_map_or}
use Rattle.std.proofs.lemmas.Bool.{and_parts, eqb-true}
use Rattle.std.proofs.lemmas.Bool.Decides.{nat_tests}
use Rattle.std.proofs.lemmas.List.Elements.{filter-append}
use Rattle.std.proofs.lemmas.List.Folds.{list_any-append}
use Rattle.std.proofs.lemmas.Map.Keys.{IsDistinct-head, IsDistinct-tail}
use Rattle.lru.specs.LruCache.{LruCache, put_entries}
use Rattle.base_types.specs.declared.ids.FilesetId.{FilesetId}
use Rattle.token_types.specs.Conflicts.{same_id}
use Rattle.token_types.specs.declared.token.Token.{Token}
use Rattle.token_types.specs.declared.token.TokenId.{TokenId}
use Rattle.host_gives.specs.Leavings.{GiveKey, is_by, is_leaving, leaving_at, leaving_in}
use Rattle.host_gives.specs.declared.leavings.Leaving.{Leaving}

-- how a cache of the least recently used entries compares keys
abbrev pub give_eq : GiveKey → GiveKey → Bool
give_eq a b = (a.0 == b.0) && (a.1 == b.1)

give_is : (a b : GiveKey) → give_eq a b ≡ true → a ≡ b
give_is a b h =
    let both = and_parts (a.0 == b.0) (a.1 == b.1) h in
    let x : a.0 ≡ b.0 = eqb-true a.0 b.0 both.0 in
    let y : a.1 ≡ b.1 = eqb-true a.1 b.1 both.1 in λ i. (x i, y i)

-- a give-back more
pub put_more : (s : LruCache GiveKey (List Token)) (key : GiveKey) (tokens : List Token) → s.cap ≡ 2 ^ 64 - 1 →
    length s.entries < 2 ^ 63 → is_some (lookup (give_eq key) s.entries) ≡ false →
    put_entries give_eq s key tokens ≡ (key, tokens) ∷ s.entries
put_more s key tokens cap few new =
    ap (λ o. option_map_or (λ e. (e.0, tokens) ∷ remove_entry (give_eq key) s.entries) o
    ((key, tokens) ∷ take (s.cap - 1) s.entries)) (none_of s.entries new)
    ∙ ap (λ es. (key, tokens) ∷ es) (take_all (s.cap - 1) s.entries (omega (arith, few, cap)))
  where
    none_of : (es : List (GiveKey × List Token)) → is_some (lookup (give_eq key) es) ≡ false →
        lookup_entry (give_eq key) es ≡ None
    none_of [] e = refl
    none_of (x ∷ es) e = by_test (give_eq key x.0) (none_of es) e
      where
        by_test : (b : Bool) → (is_some (lookup (give_eq key) es) ≡ false → lookup_entry (give_eq key) es ≡ None) →
            is_some (cond b (Some x.1) (lookup (give_eq key) es)) ≡ false →
            cond b (Some x) (lookup_entry (give_eq key) es) ≡ None
        by_test true rest k = absurd (cc)
        by_test false rest k = rest k

-- ---- those of one give-back go
module _ (fileset : FilesetId) (number : ℕ) where
  abbrev key : GiveKey
  key = (fileset.0, number)

  abbrev stays : Leaving → Bool
  stays left = not (is_by fileset number left)

  numbers_turned : (a b x y : ℕ) → ((a == x) && (b == y)) ≡ ((x == a) && (y == b))
  numbers_turned a b x y = grind (arith, nat_tests)

  by_is : (k : GiveKey) (t : Token) → is_by fileset number (leaving_at k t) ≡ give_eq key k
  by_is k t = numbers_turned k.0 k.1 fileset.0 number

  all_gone : (k : GiveKey) (ts : List Token) → give_eq key k ≡ true → filter stays (map (leaving_at k) ts) ≡ []
  all_gone k [] e = refl
  all_gone k (t ∷ ts) e =
      ap (λ b. cond (not b) (leaving_at k t ∷ filter stays (map (leaving_at k) ts))
      (filter stays (map (leaving_at k) ts))) (by_is k t ∙ e) ∙ all_gone k ts e

  all_stay : (k : GiveKey) (ts : List Token) → give_eq key k ≡ false →
      filter stays (map (leaving_at k) ts) ≡ map (leaving_at k) ts
  all_stay k [] e = refl
  all_stay k (t ∷ ts) e =
      ap (λ b. cond (not b) (leaving_at k t ∷ filter stays (map (leaving_at k) ts))
      (filter stays (map (leaving_at k) ts))) (by_is k t ∙ e) ∙ ap (λ ls. leaving_at k t ∷ ls) (all_stay k ts e)

  none_gone : (es : List (GiveKey × List Token)) → AllByRecursion (λ k. give_eq key k ≡ false) (keys_of es) →
      filter stays (leaving_in es) ≡ leaving_in es
  none_gone [] apart = refl
  none_gone (e ∷ es) apart =
      filter-append stays (leaving_in es) (map (leaving_at e.0) e.1)
      ∙ ap (λ ls. ls ++ filter stays (map (leaving_at e.0) e.1)) (none_gone es apart.1)
      ∙ ap (λ ls. leaving_in es ++ ls) (all_stay e.0 e.1 apart.0)

  pub gone_by : (es : List (GiveKey × List Token)) → IsDistinct give_eq (keys_of es) →
      leaving_in (remove_entry (give_eq key) es) ≡ filter stays (leaving_in es)
  gone_by [] distinct = refl
  gone_by (e ∷ es) distinct =
      by_test (give_eq key e.0) refl (gone_by es (IsDistinct-tail give_eq e.0 (keys_of es) distinct))
      ∙ sym (filter-append stays (leaving_in es) (map (leaving_at e.0) e.1))
    where
      by_test : (b : Bool) → give_eq key e.0 ≡ b →
          leaving_in (remove_entry (give_eq key) es) ≡ filter stays (leaving_in es) →
          leaving_in (cond b es (e ∷ remove_entry (give_eq key) es))
          ≡ filter stays (leaving_in es) ++ filter stays (map (leaving_at e.0) e.1)
      by_test true k rest =
          let apart = subst (λ q. AllByRecursion (λ x. give_eq q x ≡ false) (keys_of es)) (sym (give_is key e.0 k))
          (IsDistinct-head give_eq e.0 (keys_of es) distinct) in
          sym (append-nil (leaving_in es))
          ∙ (λ i. sym (none_gone es apart) i ++ sym (all_gone e.0 e.1 k) i)
      by_test false k rest = λ i. rest i ++ sym (all_stay e.0 e.1 k) i

-- ---- whether one is a token
pub any_of : (id : TokenId) (k : GiveKey) (ts : List Token) →
    list_any (is_leaving id) (map (leaving_at k) ts) ≡ list_any (λ token. same_id token.id id) ts
any_of id k [] = refl
any_of id k (t ∷ ts) = ap (λ b. same_id t.id id || b) (any_of id k ts)

or_true : (a b : Bool) → b ≡ true → (a || b) ≡ true
or_true true b e = refl
or_true false b e = e

or_none : (a b : Bool) → b ≡ false → (a || b) ≡ a
or_none true b e = refl
or_none false b e = e

module _ (id : TokenId) (es rest : List (GiveKey × List Token)) (k : GiveKey) (ts : List Token)
    (is : es ≡ (k, ts) ∷ rest) where
  both : list_any (is_leaving id) (leaving_in es)
      ≡ (list_any (is_leaving id) (leaving_in rest) || list_any (λ token. same_id token.id id) ts)
  both =
      ap (λ xs. list_any (is_leaving id) (leaving_in xs)) is
      ∙ list_any-append (is_leaving id) (leaving_in rest) (map (leaving_at k) ts)
      ∙ ap (λ b. list_any (is_leaving id) (leaving_in rest) || b) (any_of id k ts)

  pub found_here : list_any (λ token. same_id token.id id) ts ≡ true → list_any (is_leaving id) (leaving_in es) ≡ true
  found_here e =
      both ∙ or_true (list_any (is_leaving id) (leaving_in rest)) (list_any (λ token. same_id token.id id) ts) e

  pub not_here : list_any (λ token. same_id token.id id) ts ≡ false →
      list_any (is_leaving id) (leaving_in es) ≡ list_any (is_leaving id) (leaving_in rest)
  not_here e =
      both ∙ or_none (list_any (is_leaving id) (leaving_in rest)) (list_any (λ token. same_id token.id id) ts) e

-- ---- from the end on
pub in_push : (es : List (GiveKey × List Token)) (k : GiveKey) (ts : List Token) →
    leaving_in (es ++ (k, ts) ∷ []) ≡ map (leaving_at k) ts ++ leaving_in es
in_push [] k ts = sym (append-nil (map (leaving_at k) ts))
in_push (e ∷ es) k ts =
    ap (λ ls. ls ++ map (leaving_at e.0) e.1) (in_push es k ts)
    ∙ append_assoc (map (leaving_at k) ts) (leaving_in es) (map (leaving_at e.0) e.1)

-- one more of some, behind what was there
pub behind_next : {A B : Type 0} (xs : List A) (i : ℕ) (x : A) (base out : List B) (f : A → B) → i < length xs →
    x ≡ get_or xs i x → out ≡ base ++ map f (take i xs) → out ++ f x ∷ [] ≡ base ++ map f (take (i + 1) xs)
behind_next xs i x base out f low item inv =
    ap (λ ys. ys ++ f x ∷ []) inv ∙ append_assoc base (map f (take i xs)) (f x ∷ [])
    ∙ ap (λ ys. base ++ ys) (sym (map_more f xs i x low ∙ ap (λ y. map f (take i xs) ++ f y ∷ []) (sym item)))
