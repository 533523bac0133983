-- The tokens that a Revoke names, sorted.
use Rattle.std.proofs.Common.{Bool, List, None, Option, Some, [], ap, cond, false, filter, fold, inl, inr, not, refl}
use Rattle.std.proofs.Common.{get_or, length, subst, sym, take, true, ℕ, ◌&&◌, ◌++◌, ◌+◌, ◌<◌, ◌||◌, ◌∙◌, ◌∷◌, ◌≡◌, ◌⊎◌}
use Rattle.std.specs.List.{find, list_any}
use Rattle.std.proofs.lemmas.List.Sums.{fold_push}
use Rattle.host_cache.specs.Holding.{is_id}
use Rattle.host_cache.specs.declared.held.Held.{Held}
use Rattle.host_labels.specs.Labels.{InUse, after_pin, has_id as is_in_use}
use Rattle.run_rules.specs.Past.{In}
use Rattle.token_types.specs.declared.token.Token.{Token}
use Rattle.token_types.specs.declared.token.TokenId.{TokenId}
use Rattle.host_tables.specs.Tables.{held_of}
use Rattle.host_tables.specs.declared.tables.Tables.{Tables}
use Rattle.host_tables.proofs.Lists.{in_either, map_in, same_id_is}
use Rattle.host_leaves.specs.Revoking.{AreHeld, AreUsed, given_by, has_id, none_sorted, once_each, sorted_by, sorting}
use Rattle.host_leaves.specs.Revoking.{fids_of, has_file, is_leaving, keeping_file, pinned, sorting_held}
use Rattle.host_tables.specs.declared.draft.Draft.{Draft}
use Rattle.host_leaves.specs.declared.revoking.Sorted.{Sorted}
use Rattle.host_leaves.proofs.Once.{fid_new, fid_old, id_new, id_old}

-- one more number
module _ (m : Tables) (ids : List TokenId) (i : ℕ) (id : TokenId) (low : i < length ids)
    (item : id ≡ get_or ids i id) where
  pub sorted_old : not (has_id id (take i ids)) ≡ false → sorted_by m (take i ids) ≡ sorted_by m (take (i + 1) ids)
  sorted_old h =
      sym (ap (fold (sorting m) none_sorted) (id_old ids i id low item (not_false (has_id id (take i ids)) h)))
    where
      not_false : (b : Bool) → not b ≡ false → b ≡ true
      not_false true e = refl
      not_false false e = sym e

  pub sorted_new : not (has_id id (take i ids)) ≡ true →
      sorting m (sorted_by m (take i ids)) id ≡ sorted_by m (take (i + 1) ids)
  sorted_new h =
      sym (ap (fold (sorting m) none_sorted) (id_new ids i id low item (not_true (has_id id (take i ids)) h))
      ∙ fold_push (sorting m) none_sorted (once_each (take i ids)) id)
    where
      not_true : (b : Bool) → not b ≡ true → b ≡ false
      not_true true e = sym e
      not_true false e = refl

-- pins leave the labels
pub pinned_labels : (tokens : List Token) (uses : InUse) → (pinned uses tokens).labels ≡ uses.labels
pinned_labels [] uses = refl
pinned_labels (token ∷ tokens) uses = pinned_labels tokens (after_pin uses token.id)

-- it is said once for each file that its tokens are kept
module _ (m : Tables) (tokens : List Token) (i : ℕ) (token : Token) (low : i < length tokens)
    (item : token ≡ get_or tokens i token) (draft : Draft) where
  pub kept_old : not (has_file token.fid (take i tokens)) ≡ false →
      fold (keeping_file m tokens) draft (fids_of (take i tokens))
      ≡ fold (keeping_file m tokens) draft (fids_of (take (i + 1) tokens))
  kept_old h =
      sym (ap (fold (keeping_file m tokens) draft)
      (fid_old tokens i token low item (not_false (has_file token.fid (take i tokens)) h)))
    where
      not_false : (b : Bool) → not b ≡ false → b ≡ true
      not_false true e = refl
      not_false false e = sym e

  pub kept_new : not (has_file token.fid (take i tokens)) ≡ true →
      keeping_file m tokens (fold (keeping_file m tokens) draft (fids_of (take i tokens))) token.fid
      ≡ fold (keeping_file m tokens) draft (fids_of (take (i + 1) tokens))
  kept_new h =
      sym (ap (fold (keeping_file m tokens) draft)
      (fid_new tokens i token low item (not_true (has_file token.fid (take i tokens)) h))
      ∙ fold_push (keeping_file m tokens) draft (fids_of (take i tokens)) token.fid)
    where
      not_true : (b : Bool) → not b ≡ true → b ≡ false
      not_true true e = sym e
      not_true false e = refl

-- those that are kept are in use, and the others held
pub record IsSorted (m : Tables) (sorted : Sorted) : Type 0 where
  pub kept : AreUsed m.uses.labels sorted.kept
  pub left : AreHeld m sorted.left

found_in : {A : Type 0} (p : A → Bool) (xs : List A) (x : A) → find p xs ≡ Some x → In x xs × (p x ≡ true)
found_in p [] x e = absurd (cc)
found_in p (y ∷ ys) x e = by_test (found_in p ys x) (p y) refl e
  where
    by_test : (find p ys ≡ Some x → In x ys × (p x ≡ true)) → (b : Bool) → p y ≡ b →
        cond b (Some y) (find p ys) ≡ Some x → In x (y ∷ ys) × (p x ≡ true)
    by_test rest true k h = let same : y ≡ x = cc in (inl (sym same), ap p (sym same) ∙ k)
    by_test rest false k h = let r = rest h in (inr r.0, r.1)

module _ (m : Tables) where
  sorted_given : (id : TokenId) (sorted : Sorted) → IsSorted m sorted → IsSorted m (given_by m id sorted)
  sorted_given id sorted h = record { kept = h.kept; left = h.left }

  sorted_held : (id : TokenId) (found : Option Held) → find (is_id id) m.cache.held ≡ found → (sorted : Sorted) →
      IsSorted m sorted → IsSorted m (sorting_held m id found sorted)
  sorted_held id None e sorted h = by_test (list_any (is_leaving id) m.leaving)
    where
      by_test : (b : Bool) → IsSorted m (cond b sorted (record sorted { back = sorted.back ++ id ∷ [] }))
      by_test true = h
      by_test false = record { kept = h.kept; left = h.left }
  sorted_held id (Some held) e sorted h = by_test (is_in_use m.uses.labels id) refl
    where
      there : In held m.cache.held × (is_id id held ≡ true)
      there = found_in (is_id id) m.cache.held held e

      used : (token : Token) → is_in_use m.uses.labels id ≡ true →
          In token sorted.kept ⊎ In token (held.token ∷ []) → is_in_use m.uses.labels token.id ≡ true
      used token k (inl a) = h.kept token a
      used token k (inr (inl s)) =
          subst (λ t. is_in_use m.uses.labels t ≡ true) (sym (ap (λ (t : Token). t.id) s
          ∙ same_id_is held.token.id id there.1))
          k
      used token k (inr (inr s)) = absurd s

      here : (token : Token) → In token sorted.left ⊎ In token (held.token ∷ []) → In token (held_of m)
      here token (inl a) = h.left token a
      here token (inr (inl s)) =
          subst (λ t. In t (held_of m)) (sym s) (map_in (λ (h : Held). h.token) m.cache.held held there.0)
      here token (inr (inr s)) = absurd s

      by_test : (b : Bool) → is_in_use m.uses.labels id ≡ b → IsSorted m
          (cond b (record sorted { kept = sorted.kept ++ held.token ∷ [] })
          (record sorted { left = sorted.left ++ held.token ∷ [] }))
      by_test true k = record {
        kept = λ token i. used token k (in_either sorted.kept (held.token ∷ []) token i);
        left = h.left;
      }
      by_test false k = record {
        kept = h.kept;
        left = λ token i. here token (in_either sorted.left (held.token ∷ []) token i);
      }

  sorted_more : (sorted : Sorted) (id : TokenId) → IsSorted m sorted → IsSorted m (sorting m sorted id)
  sorted_more sorted id h =
      sorted_held id (find (is_id id) m.cache.held) refl (given_by m id sorted) (sorted_given id sorted h)

  sorted_all : (ids : List TokenId) (sorted : Sorted) → IsSorted m sorted → IsSorted m (fold (sorting m) sorted ids)
  sorted_all [] sorted h = h
  sorted_all (id ∷ ids) sorted h = sorted_all ids (sorting m sorted id) (sorted_more sorted id h)

  pub is_sorted : (ids : List TokenId) → IsSorted m (sorted_by m ids)
  is_sorted ids =
      sorted_all (once_each ids) none_sorted (record { kept = λ token i. absurd i; left = λ token i. absurd i })
