-- Bytes that are read, and the unsaved ones that are put over them.
use Rattle.std.proofs.Common.{◌≡◌, ℕ, zero, suc, ◌+◌, ◌-◌, ◌<◌, ◌==◌, true, false, List, [], ◌∷◌, ◌++◌, length, take}
use Rattle.std.proofs.Common.{drop, get_or, set, replicate, min, refl, sym, ap, ◌∙◌, arith, inl, inr}
use Rattle.std.proofs.lemmas.Grind.{common_steps}
use Rattle.std.proofs.lemmas.List.{take-replicate}
use Rattle.std.proofs.lemmas.Bool.Decides.{leb_tells}
use Rattle.tree_objects.specs.declared.content.Unsaved.{Unsaved}
use Rattle.tree_objects.specs.Files.{byte_over, bytes_over, resized, bytes_with}

-- none of the bytes
pub resized_zero : (xs : List ℕ) → resized xs zero ≡ []
resized_zero xs = grind (arith, common_steps)

-- one byte more, where there is one
pub resized_more : (x : ℕ) (xs : List ℕ) (n : ℕ) → resized (x ∷ xs) (suc n) ≡ x ∷ resized xs n
resized_more x xs n = let e : suc n - suc (length xs) ≡ n - length xs = omega arith in ap
    (λ k. x ∷ (take n xs ++ replicate k 0)) e

-- one zero more
resized_zeros : (n : ℕ) → resized [] (suc n) ≡ 0 ∷ resized [] n
resized_zeros zero = refl
resized_zeros (suc n) = let e : suc n - zero ≡ suc n = omega arith in let f : suc (suc n) - zero ≡ suc (suc n) =
    omega arith in rw (e, f) refl

-- where nothing is kept
over_none : (at n : ℕ) → resized [] n ≡ bytes_over [] [] at n
over_none at zero = resized_zero []
over_none at (suc n) = resized_zeros n ∙ ap (λ bytes. 0 ∷ bytes) (over_none (suc at) n)

-- behind the first byte
over_shifted : (x : ℕ) (xs : List ℕ) (at n : ℕ) → bytes_over (x ∷ xs) [] (suc at) n ≡ bytes_over xs [] at n
over_shifted x xs at zero = refl
over_shifted x xs at (suc n) = ap (λ bytes. get_or xs at 0 ∷ bytes) (over_shifted x xs (suc at) n)

-- the kept bytes from a position on
pub over_nothing : (kept : List ℕ) (from n : ℕ) → resized (drop from kept) n ≡ bytes_over kept [] from n
over_nothing [] zero n = over_none zero n
over_nothing [] (suc from) n = over_none (suc from) n
over_nothing (x ∷ xs) zero zero = resized_zero (x ∷ xs)
over_nothing (x ∷ xs) zero (suc n) = resized_more x xs n ∙ ap (λ bytes. x ∷ bytes)
    (over_nothing xs zero n ∙ sym (over_shifted x xs zero n))
over_nothing (x ∷ xs) (suc from) n = over_nothing xs from n ∙ sym (over_shifted x xs from n)

-- the first bytes, of these and zeros behind them
cut_back : (xs : List ℕ) (n : ℕ) → take n (xs ++ replicate (n - length xs) 0) ≡ resized xs n
cut_back [] n =
    let e : n - zero ≡ n = omega arith in
    ap (λ k. take n (replicate k 0)) e ∙ take-replicate n n 0 (omega arith) ∙ sym (none_of n)
  where
    none_of : (n : ℕ) → resized [] n ≡ replicate n 0
    none_of zero = resized_zero []
    none_of (suc n) = resized_zeros n ∙ ap (λ bytes. 0 ∷ bytes) (none_of n)
cut_back (x ∷ xs) zero = sym (resized_zero (x ∷ xs))
cut_back (x ∷ xs) (suc n) =
    let e : suc n - suc (length xs) ≡ n - length xs = omega arith in
    ap (λ k. x ∷ take n (xs ++ replicate k 0)) e ∙ ap (λ bytes. x ∷ bytes) (cut_back xs n) ∙ sym (resized_more x xs n)

pub lengthened : (kept : List ℕ) (n : ℕ) → take n (kept ++ replicate (n - length kept) 0) ≡ bytes_over kept [] 0 n
lengthened kept n = cut_back kept n ∙ over_nothing kept zero n

-- nothing stands behind the last byte
pub drop_past : (kept : List ℕ) (from : ℕ) → drop (min from (length kept)) kept ≡ drop from kept
drop_past [] zero = refl
drop_past [] (suc from) = grind (arith, common_steps)
drop_past (x ∷ xs) zero = let e : min zero (suc (length xs)) ≡ zero = omega arith in rw e refl
drop_past (x ∷ xs) (suc from) =
    let e : min (suc from) (suc (length xs)) ≡ suc (min from (length xs)) = omega arith in rw e (drop_past xs from)

-- the bytes behind some
over_dropped : (kept : List ℕ) (unsaved : List Unsaved) (at n i : ℕ) → drop i (bytes_over kept unsaved at n)
    ≡ bytes_over kept unsaved (at + i) (n - i)
over_dropped kept unsaved at n zero = let e : at + zero ≡ at = omega arith in let f : n - zero ≡ n = omega arith in
    rw (e, f) refl
over_dropped kept unsaved at zero (suc i) = let f : zero - suc i ≡ zero = omega arith in rw f refl
over_dropped kept unsaved at (suc n) (suc i) =
    let e : at + suc i ≡ suc at + i = omega arith in let f : suc n - suc i ≡ n - i = omega arith in
    rw (e, f) (over_dropped kept unsaved (suc at) n i)

-- the first of the bytes
over_taken : (kept : List ℕ) (unsaved : List Unsaved) (at n i : ℕ) → take i (bytes_over kept unsaved at n)
    ≡ bytes_over kept unsaved at (min i n)
over_taken kept unsaved at n zero = let e : min zero n ≡ zero = omega arith in rw e refl
over_taken kept unsaved at zero (suc i) = let e : min (suc i) zero ≡ zero = omega arith in rw e refl
over_taken kept unsaved at (suc n) (suc i) =
    let e : min (suc i) (suc n) ≡ suc (min i n) = omega arith in
    rw e (ap (λ bytes. byte_over kept unsaved at ∷ bytes) (over_taken kept unsaved (suc at) n i))

-- a part of the bytes
pub over_part : (kept : List ℕ) (unsaved : List Unsaved) (end from len m : ℕ) → m ≡ min end (from + len) → bytes_over
    kept unsaved from (m - from) ≡ take len (drop from (bytes_over kept unsaved 0 end))
over_part kept unsaved end from len m e =
    let z : 0 + from ≡ from = omega arith in
    let n : m - from ≡ min len (end - from) = omega (arith, e) in
    ap (λ k. bytes_over kept unsaved from k) n
    ∙ sym (over_taken kept unsaved from (end - from) len)
    ∙ ap (λ k. take len (bytes_over kept unsaved k (end - from))) (sym z)
    ∙ ap (λ bytes. take len bytes) (sym (over_dropped kept unsaved 0 end from))

-- an unsaved byte below the position changes nothing
over_below : (kept : List ℕ) (unsaved : List Unsaved) (byte : Unsaved) (at n : ℕ) → byte.at < at → bytes_over kept
    (byte ∷ unsaved) at n ≡ bytes_over kept unsaved at n
over_below kept unsaved byte at zero h = refl
over_below kept unsaved byte at (suc n) h =
    let e : (byte.at == at) ≡ false = grind (arith, common_steps) in
    let rest = over_below kept unsaved byte (suc at) n (omega (arith, h)) in
    rw e (ap (λ bytes. byte_over kept unsaved at ∷ bytes) rest)

-- an unsaved byte so many positions behind the first
over_set : (kept : List ℕ) (unsaved : List Unsaved) (byte : Unsaved) (at n i : ℕ) → byte.at ≡ at + i → set
    (bytes_over kept unsaved at n) i byte.value ≡ bytes_over kept (byte ∷ unsaved) at n
over_set kept unsaved byte at zero i h = refl
over_set kept unsaved byte at (suc n) zero h =
    let e : (byte.at == at) ≡ true = grind (arith, common_steps) in
    let rest = over_below kept unsaved byte (suc at) n (omega (arith, h)) in
    rw e (ap (λ bytes. byte.value ∷ bytes) (sym rest))
over_set kept unsaved byte at (suc n) (suc i) h =
    let e : (byte.at == at) ≡ false = grind (arith, common_steps) in
    rw e (ap (λ bytes. byte_over kept unsaved at ∷ bytes) (over_set kept unsaved byte (suc at) n i (omega (arith, h))))

-- an unsaved byte over those that start at a position
pub over_put : (kept : List ℕ) (unsaved : List Unsaved) (byte : Unsaved) (at n : ℕ) → bytes_with
    (bytes_over kept unsaved at n) byte at ≡ bytes_over kept (byte ∷ unsaved) at n
over_put kept unsaved byte at n =
    elim (leb_tells at byte.at) as (λ _. bytes_with (bytes_over kept unsaved at n) byte at ≡ bytes_over kept
    (byte ∷ unsaved) at n) [
      | inl (e, h) ↦ rw e (over_set kept unsaved byte at n (byte.at - at) (omega (arith, h)))
      | inr (e, h) ↦ rw e (sym (over_below kept unsaved byte at n h))
    ]
