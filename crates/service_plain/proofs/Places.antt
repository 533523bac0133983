-- What passes a test in lists and ranges of places.
use Rattle.std.proofs.Common.{◌≡◌, ◌≢◌, ℕ, zero, suc, ◌+◌, ◌<◌, ◌≤◌, ◌==◌, nat_lt, Bool, true, false, List, [], ◌∷◌, length, drop, Some, refl, ap, subst, ◌∙◌, arith, ◌⊎◌, inl, inr}
use Rattle.std.specs.Prelude.{filter, slice_get, IsPermutation, if◌then◌else◌}
use Rattle.std.specs.List.{range_with_len}
use Rattle.std.proofs.lemmas.Grind.{common_steps}
use Rattle.std.proofs.lemmas.List.Sorted.{IsPermutation-refl, IsPermutation-cons, IsPermutation-trans, IsPermutation-middle}
use Rattle.std.proofs.lemmas.Bool.Decides.{eqb_tells}

pub lt_true : (a b : ℕ) → a < b → nat_lt a b ≡ true
lt_true a b h = grind (arith, common_steps)

pub lt_false : (a b : ℕ) → b ≤ a → nat_lt a b ≡ false
lt_false a b h = grind (arith, common_steps)

pub lt_tells : (a b : ℕ) → (a < b) ⊎ (b ≤ a)
lt_tells zero zero = inr (omega arith)
lt_tells zero (suc b) = inl (omega arith)
lt_tells (suc a) zero = inr (omega arith)
lt_tells (suc a) (suc b) = elim (lt_tells a b) as (λ _. (suc a < suc b) ⊎ (suc b ≤ suc a)) [ inl h ↦ inl (omega arith) | inr h ↦ inr (omega arith) ]

-- the end of a list has no more that passes a test
pub fewer : {X : Type 0} (test : X → Bool) (xs : List X) (j : ℕ) → length (filter test (drop j xs)) ≤ length (filter test xs)
fewer test [] zero = omega arith
fewer test [] (suc j) = omega arith
fewer test (x ∷ xs) zero = omega arith
fewer test (x ∷ xs) (suc j) = by (test x) (fewer test xs j)
  where
    by : (v : Bool) → length (filter test (drop j xs)) ≤ length (filter test xs) → length (filter test (drop j xs)) ≤ length (if v then x ∷ filter test xs else filter test xs)
    by true h = omega arith
    by false h = h

-- where two ends of a list have the same that passes a test, none between them passes it
pub none_between : {X : Type 0} (test : X → Bool) (xs : List X) (from to k : ℕ) (x : X) → filter test (drop to xs) ≡ filter test (drop from xs) → from ≤ k → k < to → slice_get xs k ≡ Some x → test x ≡ false
none_between test [] from to k x e f t h = cc
none_between test (y ∷ ys) from zero k x e f t h = absurd (omega arith)
none_between test (y ∷ ys) (suc from) (suc to) zero x e f t h = absurd (omega arith)
none_between test (y ∷ ys) (suc from) (suc to) (suc k) x e f t h = none_between test ys from to k x e (omega arith) (omega arith) h
none_between test (y ∷ ys) zero (suc to) k x e f t h = by (test y) refl k e t h (λ k g t h. none_between test ys zero to k x g (omega arith) t h)
  where
    by : (v : Bool) → test y ≡ v → (k : ℕ) → filter test (drop to ys) ≡ (if v then y ∷ filter test ys else filter test ys) → k < suc to → slice_get (y ∷ ys) k ≡ Some x →
        ((k : ℕ) → filter test (drop to ys) ≡ filter test ys → k < to → slice_get ys k ≡ Some x → test x ≡ false) → test x ≡ false
    by true q k g t h more = let n = fewer test ys to in let l = ap length g in absurd (omega arith)
    by false q zero g t h more = let s : y ≡ x = cc in subst (λ z. test z ≡ false) s q
    by false q (suc k) g t h more = more k g (omega arith) h

-- what passes in a range where all do
pub filter_range : (test : ℕ → Bool) (from n : ℕ) → ((k : ℕ) → from ≤ k → k < from + n → test k ≡ true) → filter test (range_with_len from n) ≡ range_with_len from n
filter_range test from zero h = refl
filter_range test from (suc n) h = rw (h from (omega arith) (omega arith)) (ap (λ l. from ∷ l) (filter_range test (from + 1) n (λ k a b. h k (omega arith) (omega arith))))

-- where none does
pub none_in_range : (test : ℕ → Bool) (from n : ℕ) → ((k : ℕ) → from ≤ k → k < from + n → test k ≡ false) → filter test (range_with_len from n) ≡ []
none_in_range test from zero h = refl
none_in_range test from (suc n) h = rw (h from (omega arith) (omega arith)) (none_in_range test (from + 1) n (λ k a b. h k (omega arith) (omega arith)))

-- what passes two tests that agree
pub same_in_range : (one two : ℕ → Bool) (from n : ℕ) → ((k : ℕ) → from ≤ k → k < from + n → one k ≡ two k) → filter one (range_with_len from n) ≡ filter two (range_with_len from n)
same_in_range one two from zero h = refl
same_in_range one two from (suc n) h = rw (h from (omega arith) (omega arith)) (ap (λ l. if two from then from ∷ l else l) (same_in_range one two (from + 1) n (λ k a b. h k (omega arith) (omega arith))))

-- one of a range no longer passes
pub one_less : (before after : ℕ → Bool) (place from n : ℕ) → from ≤ place → place < from + n → before place ≡ true → after place ≡ false → ((k : ℕ) → k ≢ place → before k ≡ after k) →
    IsPermutation (filter before (range_with_len from n)) (place ∷ filter after (range_with_len from n))
one_less before after place from zero f t b a h = absurd (omega arith)
one_less before after place from (suc n) f t b a h = by (eqb_tells from place) (λ k d. one_less before after place (from + 1) n k d b a h)
  where
    kept : (v : Bool) → IsPermutation (filter before (range_with_len (from + 1) n)) (place ∷ filter after (range_with_len (from + 1) n)) →
        IsPermutation (if v then from ∷ filter before (range_with_len (from + 1) n) else filter before (range_with_len (from + 1) n)) (place ∷ (if v then from ∷ filter after (range_with_len (from + 1) n) else filter after (range_with_len (from + 1) n)))
    kept true m = IsPermutation-trans _ _ _ (IsPermutation-cons from _ _ m) (IsPermutation-middle (from ∷ []) place (filter after (range_with_len (from + 1) n)))
    kept false m = m

    by : ((◌==◌ from place ≡ true) × (from ≡ place)) ⊎ ((◌==◌ from place ≡ false) × (from ≢ place)) → (from + 1 ≤ place → place < from + 1 + n → IsPermutation (filter before (range_with_len (from + 1) n)) (place ∷ filter after (range_with_len (from + 1) n))) →
        IsPermutation (filter before (range_with_len from (suc n))) (place ∷ filter after (range_with_len from (suc n)))
    by (inl (_, e)) next =
        let rest : filter before (range_with_len (from + 1) n) ≡ filter after (range_with_len (from + 1) n) = same_in_range before after (from + 1) n (λ k p q. h k (λ d. absurd (omega arith))) in
        let one : before from ≡ true = ap before e ∙ b in
        let two : after from ≡ false = ap after e ∙ a in
        rw (one, two, rest, e) (IsPermutation-refl _)
    by (inr (_, e)) next =
        let more : IsPermutation (filter before (range_with_len (from + 1) n)) (place ∷ filter after (range_with_len (from + 1) n)) = next (omega arith) (omega arith) in
        let same : before from ≡ after from = h from e in
        rw same (kept (after from) more)
