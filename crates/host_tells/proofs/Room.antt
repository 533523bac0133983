-- Bytes that are put into room, one behind another.
use Rattle.std.proofs.Common.{◌≡◌, ◌≤◌, ◌<◌, ◌+◌, ◌/◌, ◌%◌, ◌^◌, ◌∙◌, ◌∷◌, ◌++◌, List, None, Option, Some, []}
use Rattle.std.proofs.Common.{ap, append-nil, append_assoc, arith, drop, get_or, length}
use Rattle.std.proofs.Common.{refl, subst, suc, sym, take, zero, ℕ}
use Rattle.std.proofs.Math.Nat.{div-one}
use Rattle.std.proofs.lemmas.List.{flat_map_more, length-append, length-drop, length-take-le, take_more}
use Rattle.std.specs.List.{flat_map}
use Rattle.std.specs.Int.{bytes_high_first}
use Rattle.host_cache.proofs.Lists.{take_front}
use Rattle.host_tells.specs.Spoken.{Puts}
use Rattle.message_parts.specs.Spelled.{big_endian}

module _ (a b : List ℕ) (at : ℕ) (old : List ℕ) where
  both_length : length (a ++ b) ≡ length a + length b
  both_length = length-append a b

  pub put_fails : (mid new : List ℕ) → Puts a at old mid None → Puts (a ++ b) at old new None
  put_fails mid new low = let l = both_length in omega (arith, low, l)

  pub puts_then : (mid new : List ℕ) (next : ℕ) (result : Option ℕ) → Puts a at old mid (Some next) →
      Puts b next mid new result → Puts (a ++ b) at old new result
  puts_then mid new next None p low =
      let l = both_length in
      let e = p.0 in
      let m = p.2 in
      omega (arith, low, l, e, m)
  puts_then mid new next (Some end) p q =
      let l = both_length in
      let e = p.0 in
      let f = q.0 in
      let m = p.2 in
      let h = q.1 in (
        omega (arith, l, e, f),
        omega (arith, h, m),
        q.2 ∙ m,
        q.3 ∙ ap (λ t. t ++ b) p.3 ∙ append_assoc (take at old) a b,
      )

pub puts_none : (at : ℕ) (old : List ℕ) → at ≤ length old → Puts [] at old old (Some at)
puts_none at old low = (omega arith, low, refl, sym (append-nil (take at old)))

-- bytes in the place of as many
module _ (at : ℕ) (piece old : List ℕ) (fits : at + length piece ≤ length old) where
  abbrev rest : List ℕ
  rest = drop (length piece) (drop at old)

  abbrev written : List ℕ
  written = take at old ++ (piece ++ rest)

  front : length (take at old) ≡ at
  front = length-take-le at old (omega (arith, fits))

  same_length : length written ≡ length old
  same_length =
      let f = front in
      let a = length-append (take at old) (piece ++ rest) in
      let b = length-append piece rest in
      let c = length-drop (length piece) (drop at old) in
      let d = length-drop at old in
      omega (arith, f, a, b, c, d, fits)

  taken : take (at + length piece) written ≡ take at old ++ piece
  taken =
      let f = front in
      let a = length-append (take at old) piece in
      let n : at + length piece ≡ length (take at old ++ piece) = omega (arith, f, a) in
      ap (take (at + length piece)) (sym (append_assoc (take at old) piece rest))
      ∙ ap (λ k. take k ((take at old ++ piece) ++ rest)) n ∙ take_front (take at old ++ piece) rest

  pub put_there : (n end : ℕ) (ys : List ℕ) → n ≡ length piece → ys ≡ piece → end ≡ at + length piece →
      Puts piece at old (take at old ++ (ys ++ drop n (drop at old))) (Some end)
  put_there n end ys n_is ys_are end_is =
      subst (λ (x : ℕ × List ℕ × ℕ). Puts piece at old (take at old ++ (x.1 ++ drop x.0 (drop at old))) (Some x.2))
      (λ i. (sym n_is i, sym ys_are i, sym end_is i)) (refl, fits, same_length, taken)

-- the digits of a number
pub digits_are : (k n : ℕ) → bytes_high_first k n ≡ big_endian k n
digits_are zero n = refl
digits_are (suc zero) n = ap (λ x. (x % 256) ∷ []) (sym (div-one n))
digits_are (suc (suc k)) n = ap (λ bytes. (n / 256 ^ suc k % 256) ∷ bytes) (digits_are (suc k) n)

pub byte_is : (n : ℕ) → n < 256 → n ∷ [] ≡ big_endian 1 n
byte_is n low =
    let e : n ≡ n % 256 = omega (arith, low) in
    ap (λ x. x ∷ []) (e ∙ ap (λ x. x % 256) (sym (div-one n)))

pub last_byte : (n : ℕ) → (n % 256) ∷ [] ≡ big_endian 1 n
last_byte n = ap (λ x. (x % 256) ∷ []) (sym (div-one n))

pub last_bytes : (n : ℕ) → big_endian 2 (n % 65536) ≡ big_endian 2 n
last_bytes n =
    let high : n % 65536 / 256 % 256 ≡ n / 256 % 256 = omega arith in
    let low : n % 65536 % 256 ≡ n % 256 = omega arith in
    (λ i. high i ∷ (n % 65536 / 1 % 256) ∷ [])
    ∙ ap (λ x. (n / 256 % 256) ∷ x ∷ [])
    (ap (λ x. x % 256) (div-one (n % 65536)) ∙ low ∙ ap (λ x. x % 256) (sym (div-one n)))

-- the front of a list is put in fewer bytes than the whole
pub front_shorter : {A : Type 0} (f : A → List ℕ) (k : ℕ) (xs : List A) →
    length (flat_map f (take k xs)) ≤ length (flat_map f xs)
front_shorter f zero xs = omega arith
front_shorter f (suc k) [] = omega arith
front_shorter f (suc k) (x ∷ xs) =
    let a = length-append (f x) (flat_map f (take k xs)) in
    let b = length-append (f x) (flat_map f xs) in
    let c = front_shorter f k xs in
    omega (arith, a, b, c)

-- one more of what is put one behind another
module _ {A : Type 0} (f : A → List ℕ) (xs : List A) (i : ℕ) (x : A) (low : i < length xs) (item : x ≡ get_or xs i x)
    (at : ℕ) (old mid new : List ℕ) (end : ℕ) (p : Puts (flat_map f (take i xs)) at old mid (Some end)) where
  one_more : flat_map f (take i xs) ++ f x ≡ flat_map f (take (i + 1) xs)
  one_more =
      flat_map_more f [] (take i xs) x
      ∙ ap (flat_map f) (sym (take_more xs i x low ∙ ap (λ y. take i xs ++ y ∷ []) (sym item)))

  pub each_then : (r : Option ℕ) → Puts (f x) end mid new r → Puts (flat_map f (take (i + 1) xs)) at old new r
  each_then r q =
      subst (λ (bytes : List ℕ). Puts bytes at old new r) one_more
      (puts_then (flat_map f (take i xs)) (f x) at old mid new end r p q)

  pub each_fails : Puts (f x) end mid new None → Puts (flat_map f xs) at old new None
  each_fails q = let h = each_then None q in let s = front_shorter f (i + 1) xs in omega (arith, h, s)

pub take_all : {A : Type 0} (xs : List A) (i : ℕ) → length xs ≤ i → take i xs ≡ xs
take_all [] zero low = refl
take_all [] (suc i) low = refl
take_all (x ∷ xs) zero low = absurd (omega (arith, low))
take_all (x ∷ xs) (suc i) low = ap (λ ys. x ∷ ys) (take_all xs i (omega (arith, low)))
