-- Lists in which what is sought by a number is found once.
use Rattle.std.proofs.Common.{
  ◌≡◌,
  ℕ,
  ◌==◌,
  Bool,
  true,
  false,
  cond,
  List,
  [],
  ◌∷◌,
  ◌++◌,
  Option,
  Some,
  None,
  inl,
  inr,
  refl,
  sym,
  ap,
  ◌∙◌,
  subst,
}
use Rattle.std.specs.List.{find, filter_map, cons_option}
use Rattle.std.specs.List.Sorted.{IsPermutation}
use Rattle.std.specs.Option.{option_and_then}
use Rattle.std.proofs.lemmas.Bool.Decides.{eqb_tells}
use Rattle.std.proofs.lemmas.List.Sorted.{
  IsPermutation-refl,
  IsPermutation-sym,
  IsPermutation-cons,
  IsPermutation-middle,
  IsPermutation-trans,
}

-- whether an element has a number
abbrev pub has_key : {X : Type 0} → (X → ℕ) → ℕ → X → Bool
has_key key k x = key x == k

-- no two elements have one number
abbrev pub Differ : {X : Type 0} → (X → ℕ) → List X → Type 0
Differ key [] = Unit {0}
Differ key (x ∷ xs) = (find (has_key key (key x)) xs ≡ None) × Differ key xs

pub same_key : (n : ℕ) → (n == n) ≡ true
same_key n = elim (eqb_tells n n) as (λ _. (n == n) ≡ true) [ inl (e, k) ↦ e | inr (e, k) ↦ absurd (k refl) ]

pub equal_keys : (a b : ℕ) → (a == b) ≡ true → a ≡ b
equal_keys a b h =
    elim (eqb_tells a b) as (λ _. a ≡ b) [ inl (e, k) ↦ k | inr (e, k) ↦ (let wrong : false ≡ true = sym e ∙ h in absurd (cc)) ]

pub keys_sym : (a b : ℕ) → (a == b) ≡ false → (b == a) ≡ false
keys_sym a b h = by (b == a) refl
  where
    by : (t : Bool) → (b == a) ≡ t → t ≡ false
    by true e = let same = equal_keys b a e in let wrong = ap (λ n. n == b) (sym same) ∙ same_key b in absurd (cc)
    by false e = refl

-- what is found stands somewhere
pub record SplitAt {X : Type 0} (p : X → Bool) (ys : List X) (x : X) : Type 0 where
  pub front : List X
  pub back : List X
  pub is : ys ≡ front ++ x ∷ back

pub split_at : {X : Type 0} (p : X → Bool) (ys : List X) (x : X) → find p ys ≡ Some x → SplitAt p ys x
split_at p [] x h = absurd (cc)
split_at p (y ∷ ys) x h = by (p y) h (λ k. split_at p ys x k)
  where
    by : (t : Bool) → cond t (Some y) (find p ys) ≡ Some x → (find p ys ≡ Some x → SplitAt p ys x) →
        SplitAt p (y ∷ ys) x
    by true h rest = let same : y ≡ x = cc in record { front = []; back = ys; is = ap (λ z. z ∷ ys) same }
    by false h rest =
        let s = rest h in record { front = y ∷ s.front; back = s.back; is = ap (λ zs. y ∷ zs) s.is }

-- without one that isn't sought the same is found
find_without : {X : Type 0} (p : X → Bool) (us : List X) (x : X) (vs : List X) → p x ≡ false →
    find p (us ++ x ∷ vs) ≡ find p (us ++ vs)
find_without p [] x vs h = ap (λ t. cond t (Some x) (find p vs)) h
find_without p (u ∷ us) x vs h = ap (λ o. cond (p u) (Some u) o) (find_without p us x vs h)

-- where none is found, there is none
none_without : {X : Type 0} (p : X → Bool) (us : List X) (x : X) (vs : List X) → find p (us ++ x ∷ vs) ≡ None →
    (p x ≡ false) × (find p (us ++ vs) ≡ None)
none_without p [] x vs h = by (p x) h
  where
    by : (t : Bool) → cond t (Some x) (find p vs) ≡ None → (t ≡ false) × (find p vs ≡ None)
    by true h = absurd (cc)
    by false h = (refl, h)
none_without p (u ∷ us) x vs h = by (p u) h (λ k. none_without p us x vs k)
  where
    by : (t : Bool) → cond t (Some u) (find p (us ++ x ∷ vs)) ≡ None →
        (find p (us ++ x ∷ vs) ≡ None → (p x ≡ false) × (find p (us ++ vs) ≡ None)) →
        (p x ≡ false) × (cond t (Some u) (find p (us ++ vs)) ≡ None)
    by true h rest = absurd (cc)
    by false h rest = rest h

-- those that are left still differ, also from it
differ_without : {X : Type 0} (key : X → ℕ) (us : List X) (x : X) (vs : List X) → Differ key (us ++ x ∷ vs) →
    (find (has_key key (key x)) (us ++ vs) ≡ None) × Differ key (us ++ vs)
differ_without key [] x vs h = h
differ_without key (u ∷ us) x vs h =
    let (apart, none) = none_without (has_key key (key u)) us x vs h.0 in
    let rest = differ_without key us x vs h.1 in
    let other : (key u == key x) ≡ false = keys_sym (key x) (key u) apart in
    (ap (λ t. cond t (Some u) (find (has_key key (key x)) (us ++ vs))) other ∙ rest.0, (none, rest.1))

-- Where elements differ, lists in which the same is found under each number have the same elements.
pub same_elements : {X : Type 0} (key : X → ℕ) (xs ys : List X) → Differ key xs → Differ key ys →
    ((k : ℕ) → find (has_key key k) xs ≡ find (has_key key k) ys) → IsPermutation xs ys
same_elements key [] [] d e h = IsPermutation-refl []
same_elements key [] (y ∷ ys) d e h =
    let there : find (has_key key (key y)) (y ∷ ys) ≡ Some y =
    ap (λ t. cond t (Some y) (find (has_key key (key y)) ys)) (same_key (key y)) in
    let wrong = h (key y) in
    absurd (cc)
same_elements key (x ∷ xs) ys d e h =
    let there : find (has_key key (key x)) (x ∷ xs) ≡ Some x =
    ap (λ t. cond t (Some x) (find (has_key key (key x)) xs)) (same_key (key x)) in
    let s = split_at (has_key key (key x)) ys x (sym (h (key x)) ∙ there) in
    let left = differ_without key s.front x s.back (subst (λ zs. Differ key zs) s.is e) in
    let rest = same_elements key xs (s.front ++ s.back) d.1 left.1 (λ k. by s left.0 k (key x == k) refl) in
    let more = IsPermutation-cons x xs (s.front ++ s.back) rest in
    let back = IsPermutation-sym (s.front ++ x ∷ s.back) (x ∷ (s.front ++ s.back))
    (IsPermutation-middle s.front x s.back) in
    subst (λ zs. IsPermutation (x ∷ xs) zs) (sym s.is)
    (IsPermutation-trans (x ∷ xs) (x ∷ (s.front ++ s.back)) (s.front ++ x ∷ s.back) more back)
  where
    by : (s : SplitAt (has_key key (key x)) ys x) → find (has_key key (key x)) (s.front ++ s.back) ≡ None →
        (k : ℕ) (t : Bool) → (key x == k) ≡ t → find (has_key key k) xs ≡ find (has_key key k) (s.front ++ s.back)
    by s none k true same =
        let is = equal_keys (key x) k same in
        subst (λ n. find (has_key key n) xs ≡ find (has_key key n) (s.front ++ s.back)) is (d.0 ∙ sym none)
    by s none k false other =
        let before : find (has_key key k) (x ∷ xs) ≡ find (has_key key k) xs =
        ap (λ t. cond t (Some x) (find (has_key key k) xs)) other in
        sym before ∙ h k ∙ ap (find (has_key key k)) s.is ∙ find_without (has_key key k) s.front x s.back other

-- what is sought by a number is found once
abbrev pub AreOnce : {X : Type 0} → (ℕ → X → Bool) → List X → Type 0
AreOnce test [] = Unit {0}
AreOnce test (x ∷ xs) = ((k : ℕ) → test k x ≡ true → find (test k) xs ≡ None) × AreOnce test xs

-- what is taken of an element is sought by the same number
abbrev pub TakesOver : {X Y : Type 0} → (ℕ → X → Bool) → (X → Option Y) → (Y → ℕ) → Type 0
TakesOver {X} {Y} test take key = (x : X) (y : Y) (k : ℕ) → take x ≡ Some y → test k x ≡ (key y == k)

-- what is found among more, where one was taken
abbrev found_more : {Y : Type 0} → (Y → ℕ) → ℕ → List Y → Option Y → Option Y
found_more key k ys None = find (has_key key k) ys
found_more key k ys (Some y) = cond (key y == k) (Some y) (find (has_key key k) ys)

found_so : {X Y : Type 0} (take : X → Option Y) (key : Y → ℕ) (x : X) (xs : List X) (k : ℕ) →
    find (has_key key k) (filter_map take (x ∷ xs)) ≡ found_more key k (filter_map take xs) (take x)
found_so {X} {Y} take key x xs k = by (take x)
  where
    by : (o : Option Y) → find (has_key key k) (cons_option o (filter_map take xs))
        ≡ found_more key k (filter_map take xs) o
    by None = refl
    by (Some y) = refl

-- what is found of what is taken is taken of what is found
pub find_taken : {X Y : Type 0} (test : ℕ → X → Bool) (take : X → Option Y) (key : Y → ℕ) → TakesOver test take key →
    (xs : List X) → AreOnce test xs → (k : ℕ) →
    find (has_key key k) (filter_map take xs) ≡ option_and_then take (find (test k) xs)
find_taken test take key over [] d k = refl
find_taken {X} {Y} test take key over (x ∷ xs) d k =
    found_so take key x xs k ∙ by (take x) (test k x) refl refl (find_taken test take key over xs d.1 k)
  where
    by : (o : Option Y) (t : Bool) → take x ≡ o → test k x ≡ t →
        find (has_key key k) (filter_map take xs) ≡ option_and_then take (find (test k) xs) →
        found_more key k (filter_map take xs) o ≡ option_and_then take (cond t (Some x) (find (test k) xs))
    by (Some y) true e f rest =
        let same : (key y == k) ≡ true = sym (over x y k e) ∙ f in
        ap (λ t. cond t (Some y) (find (has_key key k) (filter_map take xs))) same ∙ sym e
    by (Some y) false e f rest =
        let other : (key y == k) ≡ false = sym (over x y k e) ∙ f in
        ap (λ t. cond t (Some y) (find (has_key key k) (filter_map take xs))) other ∙ rest
    by None true e f rest = rest ∙ ap (option_and_then take) (d.0 k f) ∙ sym e
    by None false e f rest = rest

-- and they differ
pub differ_taken : {X Y : Type 0} (test : ℕ → X → Bool) (take : X → Option Y) (key : Y → ℕ) → TakesOver test take key →
    (xs : List X) → AreOnce test xs → Differ key (filter_map take xs)
differ_taken test take key over [] d = tt
differ_taken {X} {Y} test take key over (x ∷ xs) d = by (take x) refl (differ_taken test take key over xs d.1)
  where
    by : (o : Option Y) → take x ≡ o → Differ key (filter_map take xs) →
        Differ key (cons_option o (filter_map take xs))
    by None e rest = rest
    by (Some y) e rest =
        let here : test (key y) x ≡ true = over x y (key y) e ∙ same_key (key y) in
        (find_taken test take key over xs d.1 (key y) ∙ ap (option_and_then take) (d.0 (key y) here), rest)

-- what is found passes the test
pub found_passes : {X : Type 0} (p : X → Bool) (xs : List X) (x : X) → find p xs ≡ Some x → p x ≡ true
found_passes p [] x h = absurd (cc)
found_passes p (y ∷ ys) x h = by (p y) refl h (λ k. found_passes p ys x k)
  where
    by : (t : Bool) → p y ≡ t → cond t (Some y) (find p ys) ≡ Some x → (find p ys ≡ Some x → p x ≡ true) → p x ≡ true
    by true e h rest = let same : x ≡ y = cc in ap p same ∙ e
    by false e h rest = rest h
