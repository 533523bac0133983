-- A piece written over bytes: each place, and the length.
use Rattle.std.proofs.Common.{
  ◌≡◌,
  ◌<◌,
  ◌≤◌,
  ℕ,
  zero,
  suc,
  ◌+◌,
  ◌-◌,
  max,
  List,
  [],
  ◌∷◌,
  ◌++◌,
  length,
  take,
  drop,
  replicate,
  get_or,
  refl,
  sym,
  ◌∙◌,
  ap,
  subst,
  inl,
  inr,
  arith,
}
use Rattle.std.proofs.lemmas.List.{
  length-take-le,
  length-drop,
  length-append,
  length-replicate,
  get_or_append_left,
  get_or-append_right,
  get_or-take,
  get_or-drop,
}
use Rattle.std.proofs.lemmas.Bool.{cases_lt}
use Rattle.base_types.specs.Image.{AreBytes, byte_at, Torn, Holds}
use Rattle.base_outside.proofs.Image.{bytes_from-is}
use Rattle.disk_device.specs.Replay.{overwritten}

no_byte : (n k : ℕ) → byte_at (replicate n zero) k ≡ zero
no_byte zero k = refl
no_byte (suc n) zero = refl
no_byte (suc n) (suc k) = no_byte n k

-- zeros behind the end change no byte
zeros_behind : (old : List ℕ) (n k : ℕ) → byte_at (old ++ replicate n 0) k ≡ byte_at old k
zeros_behind [] n k = no_byte n k
zeros_behind (x ∷ old) n zero = refl
zeros_behind (x ∷ old) n (suc k) = zeros_behind old n k

module _ (at : ℕ) (piece old : List ℕ) where
  abbrev n : ℕ
  n = length piece

  abbrev grown : List ℕ
  grown = old ++ replicate (at + n - length old) 0

  length-grown : length grown ≡ max (length old) (at + n)
  length-grown = omega (arith, length-append {A = ℕ}, length-replicate {A = ℕ})

  front : length (take at grown) ≡ at
  front = length-take-le at grown (omega (arith, length-grown))

  before : (k : ℕ) → k < at → byte_at (overwritten at piece old) k ≡ byte_at old k
  before k lt =
      get_or_append_left (take at grown) (piece ++ drop (at + n) grown) 0 k (omega (arith, front))
      ∙ get_or-take at grown k 0 lt ∙ zeros_behind old (at + n - length old) k

  after : (k : ℕ) → at + n ≤ k → byte_at (overwritten at piece old) k ≡ byte_at old k
  after k le =
      let e : at + n + (k - at - n) ≡ k = omega arith in
      get_or-append_right (take at grown) (piece ++ drop (at + n) grown) at k 0 front (omega arith)
      ∙ get_or-append_right piece (drop (at + n) grown) n (k - at) 0 refl (omega arith)
      ∙ get_or-drop (at + n) grown (k - at - n) 0 ∙ ap (byte_at grown) e ∙ zeros_behind old (at + n - length old) k

  inside : (j : ℕ) → j < n → byte_at (overwritten at piece old) (at + j) ≡ get_or piece j 0
  inside j lt =
      let e : at + j - at ≡ j = omega arith in
      get_or-append_right (take at grown) (piece ++ drop (at + n) grown) at (at + j) 0 front (omega arith)
      ∙ ap (byte_at (piece ++ drop (at + n) grown)) e ∙ get_or_append_left piece (drop (at + n) grown) 0 j lt

  pub are_bytes : AreBytes piece → AreBytes old → AreBytes (overwritten at piece old)
  are_bytes new kept k = elim (cases_lt k at) [
    | inl lt ↦ subst (λ b. b < 256) (sym (before k lt)) (kept k)
    | inr from ↦ elim (cases_lt k (at + n)) [
      | inl lt ↦
          let e : at + (k - at) ≡ k = omega arith in
          subst (λ b. b < 256) (sym (inside (k - at) (omega arith)) ∙ ap (byte_at (overwritten at piece old)) e)
          (new (k - at))
      | inr behind ↦ subst (λ b. b < 256) (sym (after k (omega arith))) (kept k)
    ]
  ]

  length-overwritten : length (overwritten at piece old) ≡ max (length old) (at + n)
  length-overwritten =
      omega (
        arith,
        front,
        length-grown,
        length-append (take at grown) (piece ++ drop (at + n) grown),
        length-append piece (drop (at + n) grown),
        length-drop (at + n) grown,
      )

  pub is_torn : Torn at n old (overwritten at piece old)
  is_torn = record {
    before = before;
    after = after;
    no_shorter = omega (arith, length-overwritten);
    no_longer = omega (arith, length-overwritten);
  }

  pub is_held : Holds at piece (overwritten at piece old)
  is_held = record {
    inside = bytes_from-is (overwritten at piece old) piece at inside;
    reached = λ some. omega (arith, length-overwritten);
  }
