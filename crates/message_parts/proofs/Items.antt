-- Reading a list is right where reading an item is.
use Rattle.std.proofs.Common.{◌≡◌, ℕ, zero, suc, ◌^◌, ◌<◌, ◌≤◌, List, [], ◌∷◌, length, Ok, refl, sym, ◌∙◌, ap, arith}
use Rattle.message_parts.specs.Spelled.{Spelled, ◌&◌, number, items, counted}
use Rattle.message_parts.specs.Reading.{Reading, ◌>>=◌, items_at, counted_at, number_at}
use Rattle.message_parts.proofs.More.{more_right}
use Rattle.message_parts.proofs.Parts.{moved, end_right, last_right}
use Rattle.message_parts.proofs.Numbers.{number_right}
use Rattle.message_parts.proofs.Right.{Right, Any, same, IsRight}

module _ {A : Type 0} (one : A → Spelled) (read : List ℕ → Reading A) (right : IsRight one read) where
  abbrev pub has_length : ℕ → List A → Type 0
  has_length count xs = length xs ≡ count

  none : (xs : List A) → length xs ≡ 0 → xs ≡ []
  none [] e = refl
  none (x ∷ xs) e = absurd (cc)

  first_of_some : (n : ℕ) (xs : List A) → length xs ≡ suc n → (x : A) × (ys : List A) × (xs ≡ x ∷ ys) × (length ys ≡ n)
  first_of_some n [] e = absurd (cc)
  first_of_some n (x ∷ xs) e = (x, xs, refl, omega (arith, e))

  pub items_right : (count : ℕ) → Right (has_length count) (items one) same (items_at read count)
  unfolding items items_at
  items_right zero = end_right (has_length 0) (items one) same [] [] refl refl
      (λ xs e f. (none xs e, ap (λ v. (items one v).bytes) (none xs e)))
  items_right (suc n) =
      let among : A × List A → Type 0 = λ p. length p.1 ≡ n in
      moved among (λ p. one p.0 & items one p.1) (λ p. p.0 ∷ p.1) (has_length (suc n)) (items one) same (items_at read (suc n))
      (λ p bytes s. (p.0 ∷ p.1, record { chosen = (let h : length p.1 ≡ n = s.chosen in omega (arith, h)); fits = s.fits; whole = s.whole }, refl))
      (λ xs bytes s.
      let (y, ys, e, l) = first_of_some n xs s.chosen in
      ((y, ys), record { chosen = l; fits = ap (λ v. (items one v).fits) (sym e) ∙ s.fits; whole = s.whole ∙ ap (λ v. (items one v).bytes) e }, sym e))
      (more_right among one (λ p. items one p.1) (λ p. p.0) (λ p. p.0 ∷ p.1) read (λ x rest. items_at read n rest >>= λ xs rest. Ok (x ∷ xs, rest))
      right
      (λ x fits. last_right (λ p. among p × (p.0 ≡ x)) (has_length n) (items one) (λ p. p.1) (λ p. p.0 ∷ p.1) (λ xs. x ∷ xs) (items_at read n)
      (λ xs l. ((x, xs), (l, refl), refl))
      (λ p c. (c.0, ap (λ v. v ∷ p.1) (sym c.1)))
      (items_right n)))

  pub counted_right : (width least most : ℕ) → least ≤ most → most < 256 ^ width → IsRight (counted width least most one) (counted_at width least most read)
  unfolding counted_at
  counted_right width least most order room =
      more_right Any (number width least most) (items one) length same (number_at width least most) (λ count rest. items_at read count rest)
      (number_right least most order width room)
      (λ count fits. moved (has_length count) (items one) same (λ xs. Any xs × (length xs ≡ count)) (items one) same (items_at read count)
      (λ xs bytes s. (xs, record { chosen = (tt, s.chosen); fits = s.fits; whole = s.whole }, refl))
      (λ xs bytes s. (xs, record { chosen = s.chosen.1; fits = s.fits; whole = s.whole }, refl))
      (items_right count))
