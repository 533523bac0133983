-- Numbers and files, each once.
use Rattle.std.proofs.Common.{Bool, List, [], ap, cond, false, filter, fold, inl, inr, not, refl, subst, sym, true}
use Rattle.std.proofs.Common.{ℕ, ◌&&◌, ◌++◌, ◌+◌, ◌<◌, ◌||◌, ◌∙◌, ◌∷◌, ◌≡◌, get_or, length, take}
use Rattle.std.specs.List.{list_any}
use Rattle.std.proofs.lemmas.List.Elements.{filter-append}
use Rattle.std.proofs.lemmas.List.Folds.{list_any-append}
use Rattle.std.proofs.lemmas.List.Sums.{fold_more, fold_push}
use Rattle.base_types.specs.Ids.{same_fid}
use Rattle.base_types.specs.declared.ids.Fid.{Fid}
use Rattle.token_types.specs.Conflicts.{same_id}
use Rattle.token_types.specs.declared.token.Token.{Token}
use Rattle.token_types.specs.declared.token.TokenId.{TokenId}
use Rattle.host_tables.proofs.Lists.{fid_same, id_same, same_fid_is, same_id_is}
use Rattle.host_leaves.specs.Revoking.{fids_of, has_file, has_id, once_each, with_fid, with_id}
use Rattle.host_leaves.proofs.Spans.{same_test}

-- a list with an element at the end, where none there is the same
module _ {A X : Type 0} (f : X → A) (same : A → A → Bool) (is : (a b : A) → same a b ≡ true → a ≡ b)
    (same_to : (a b : A) → a ≡ b → same a b ≡ true) where
  abbrev has : A → List A → Bool
  has a bs = list_any (λ b. same b a) bs

  abbrev with : List A → X → List A
  with bs x = cond (has (f x) bs) bs (bs ++ f x ∷ [])

  or_none : (a : Bool) → (a || false) ≡ a
  or_none true = refl
  or_none false = refl

  or_assoc : (a b c : Bool) → ((a || b) || c) ≡ (a || (b || c))
  or_assoc true b c = refl
  or_assoc false b c = refl

  or_left : (a b : Bool) → (b ≡ true → a ≡ true) → a ≡ (a || b)
  or_left true b h = refl
  or_left false true h = h refl
  or_left false false h = refl

  -- what stands there
  has_with : (a : A) (bs : List A) (x : X) → has a (with bs x) ≡ (has a bs || same (f x) a)
  has_with a bs x = by_test (has (f x) bs) refl
    where
      by_test : (b : Bool) → has (f x) bs ≡ b → has a (cond b bs (bs ++ f x ∷ [])) ≡ (has a bs || same (f x) a)
      by_test true e =
          or_left (has a bs) (same (f x) a) (λ t. subst (λ y. has y bs ≡ true) (is (f x) a t) e)
      by_test false e =
          list_any-append (λ b. same b a) bs (f x ∷ []) ∙ ap (λ t. has a bs || t) (or_none (same (f x) a))

  pub has_fold : (a : A) (xs : List X) (bs : List A) →
      has a (fold with bs xs) ≡ (has a bs || list_any (λ x. same (f x) a) xs)
  has_fold a [] bs = sym (or_none (has a bs))
  has_fold a (x ∷ xs) bs =
      has_fold a xs (with bs x)
      ∙ ap (λ t. t || list_any (λ x. same (f x) a) xs) (has_with a bs x)
      ∙ or_assoc (has a bs) (same (f x) a) (list_any (λ x. same (f x) a) xs)

  pub has_each : (a : A) (xs : List X) → has a (fold with [] xs) ≡ list_any (λ x. same (f x) a) xs
  has_each a xs = has_fold a xs []

  -- one more
  module _ (xs : List X) (i : ℕ) (x : X) (low : i < length xs) (item : x ≡ get_or xs i x) where
    abbrev so_far : List A
    so_far = fold with [] (take i xs)

    more : fold with [] (take (i + 1) xs) ≡ with so_far x
    more = fold_more with [] xs i x low ∙ ap (with so_far) (sym item)

    pub more_old : list_any (λ y. same (f y) (f x)) (take i xs) ≡ true → fold with [] (take (i + 1) xs) ≡ so_far
    more_old h = more ∙ ap (λ t. cond t so_far (so_far ++ f x ∷ [])) (has_each (f x) (take i xs) ∙ h)

    pub more_new : list_any (λ y. same (f y) (f x)) (take i xs) ≡ false →
        fold with [] (take (i + 1) xs) ≡ so_far ++ f x ∷ []
    more_new h = more ∙ ap (λ t. cond t so_far (so_far ++ f x ∷ [])) (has_each (f x) (take i xs) ∙ h)

-- numbers
module _ (ids : List TokenId) (i : ℕ) (id : TokenId) (low : i < length ids) (item : id ≡ get_or ids i id) where
  pub id_old : has_id id (take i ids) ≡ true → once_each (take (i + 1) ids) ≡ once_each (take i ids)
  id_old h = more_old (λ (x : TokenId). x) same_id same_id_is id_same ids i id low item h

  pub id_new : has_id id (take i ids) ≡ false → once_each (take (i + 1) ids) ≡ once_each (take i ids) ++ id ∷ []
  id_new h = more_new (λ (x : TokenId). x) same_id same_id_is id_same ids i id low item h

-- files
fids_same : (a b : Fid) → same_fid a b ≡ same_fid b a
fids_same a b =
    same_test (same_fid a b) (same_fid b a) (λ e. fid_same b a (sym (same_fid_is a b e)))
    (λ e. fid_same a b (sym (same_fid_is b a e)))

any_agree : {A : Type 0} (p q : A → Bool) → ((x : A) → p x ≡ q x) → (xs : List A) → list_any p xs ≡ list_any q xs
any_agree p q h [] = refl
any_agree p q h (x ∷ xs) = ap (λ t. t || list_any p xs) (h x) ∙ ap (λ t. q x || t) (any_agree p q h xs)

module _ (tokens : List Token) (i : ℕ) (token : Token) (low : i < length tokens)
    (item : token ≡ get_or tokens i token) where
  abbrev of : Token → Fid
  of t = t.fid

  abbrev turned : Fid → Fid → Bool
  turned a b = same_fid b a

  turned_any : has_file token.fid (take i tokens) ≡ list_any (λ t. turned t.fid token.fid) (take i tokens)
  turned_any = any_agree (λ (t : Token). same_fid t.fid token.fid) (λ t. same_fid token.fid t.fid)
      (λ t. fids_same t.fid token.fid) (take i tokens)

  pub fid_old : has_file token.fid (take i tokens) ≡ true → fids_of (take (i + 1) tokens) ≡ fids_of (take i tokens)
  fid_old h =
      more_old of turned (λ a b e. sym (same_fid_is b a e)) (λ a b e. fid_same b a (sym e)) tokens i token low item
      (sym turned_any ∙ h)

  pub fid_new : has_file token.fid (take i tokens) ≡ false →
      fids_of (take (i + 1) tokens) ≡ fids_of (take i tokens) ++ token.fid ∷ []
  fid_new h =
      more_new of turned (λ a b e. sym (same_fid_is b a e)) (λ a b e. fid_same b a (sym e)) tokens i token low item
      (sym turned_any ∙ h)
